-- 02, T-13, of T-09's driver: "Of the turns .. only those that accept an event count."; and turns, one after another, until no message waits.
use Rattle.std.specs.Prelude.{ℕ, zero, suc, ◌+◌, ◌*◌, Bool, true, ◌&&◌, List, [], ◌∷◌, eqb, length, replicate}
use Rattle.model.specs.Pick.{pick}
use Rattle.model.specs.State.{State}
use Rattle.model.specs.Traffic.{accepted_from}
use Rattle.round.specs.Order.{round_size, first_pair}
use Rattle.round.specs.Turn.{turn_at, done_in}
use Rattle.round.specs.Schedule.{Move, turn, event, Drive, drive, moved, driven, events_of}
use Rattle.round.specs.declared.Done.{Done}
use Rattle.round.specs.declared.Done.TheVariants.{Nothing, Delivered, Lost}
use Rattle.rest_bound.specs.Quiet.{quiet}
use Rattle.rest_bound.specs.Potential.{rest_bound}

-- ── schedules ──

-- a turn counts where it delivers or loses
abbrev pub count_of : Done → ℕ
count_of Nothing = 0
count_of Delivered = 1
count_of Lost = 1

-- how many turns of a schedule count
unfoldable pub turns_counted : Drive → List Move → ℕ
turns_counted d [] = 0
turns_counted d (turn ∷ ms) = count_of (done_in (turn_at d.table d.place)) + turns_counted (moved d turn) ms
turns_counted d (event e ∷ ms) = turns_counted (moved d (event e)) ms

-- turns, and between them no events but deliver, lose, expire, tick and finish
unfoldable pub quiet_moves : List Move → Bool
quiet_moves [] = true
quiet_moves (turn ∷ ms) = quiet_moves ms
quiet_moves (event e ∷ ms) = quiet e && quiet_moves ms

-- how many events of a schedule are accepted: those of its turns, and those between them
abbrev pub accepted_by : Drive → List Move → ℕ
accepted_by d ms = accepted_from d.table (events_of d ms)

-- ── turns alone, until no message waits ──

-- no message waits
abbrev pub queue_empty : State → Bool
queue_empty s = eqb (length s.queue) 0

-- how many turns are made until no message waits, and at most k
unfoldable pub turns_within : ℕ → Drive → ℕ
turns_within zero d = 0
turns_within (suc k) d = pick (queue_empty d.table) 0 (suc (turns_within k (moved d turn)))

-- bound × n × (n − 1): from a table of a run, and a pair of the round on, no message waits after so many turns (`DriverRests.turns`)
abbrev pub turn_bound : State → ℕ
turn_bound s = rest_bound s.n (length s.queue) * round_size s.n

-- From the table s and the first pair of the round on: the number of turns until no message waits (`DriverRests.first`), those that do nothing among them. The cable is at rest then; a node may
-- still wait, collect or have a call open, and a tick, a finish or an expire would be accepted.
abbrev pub turns_to_rest : State → ℕ
turns_to_rest s = turns_within (turn_bound s) (drive s first_pair)

-- and the table after them
abbrev pub table_at_rest : State → State
table_at_rest s = (driven (drive s first_pair) (replicate (turns_to_rest s) turn)).table
