-- The ends of document 01's ranges, and of 02's, each named once.
use Rattle.std.specs.Prelude.{ℕ}
use Rattle.model.specs.declared.Limits.{Limits}

-- "n from 1 to 16": so many records a table has, whatever its limits are
abbrev pub node_limit : ℕ
node_limit = 16

-- "At most 64 messages wait": so many places
abbrev pub queue_limit : ℕ
queue_limit = 64

-- T-08: "The tower keeps 16 and 64."
abbrev pub tower : Limits
tower = record { nodes = node_limit; messages = queue_limit }

-- T-08: "Our practice stand has four cabinets and memory for 12 waiting messages.": n from 1 to 4
abbrev pub stand : Limits
stand = record { nodes = 4; messages = 12 }

-- "counter of groups, 0 to 1,048,575"
abbrev pub counter_end : ℕ
counter_end = 1048575

-- "last call number, 0 to 16,777,215"
abbrev pub call_end : ℕ
call_end = 16777215

-- T-05: "no count is above 33,554,430", which is two times the last call number's end
abbrev pub traffic_end : ℕ
traffic_end = 33554430

-- "ticks left 1 to 15"
abbrev pub tick_end : ℕ
tick_end = 15

-- "finish task outside 100 to 65,535"
abbrev pub task_low : ℕ
task_low = 100

-- "task, 0 to 65,535"
abbrev pub task_end : ℕ
task_end = 65535

-- T-10: "Tasks 100 to 199 are full peals"
abbrev pub full_peal_low : ℕ
full_peal_low = 100

abbrev pub full_peal_end : ℕ
full_peal_end = 199
