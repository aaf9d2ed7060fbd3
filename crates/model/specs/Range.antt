-- "A table is in range when ..": of the limits, of one node's record, of one message and of one count. State puts them together.
use Rattle.std.specs.Prelude.{ℕ, ◌+◌, ◌*◌, Bool, true, not, ◌&&◌, ◌||◌, eqb, leb}
use Rattle.node_set.specs.NodeSet.{has, within, count}
use Rattle.model.specs.Limits.{tower, stand, counter_end, call_end, traffic_end, tick_end, task_low, task_end, full_peal_low, full_peal_end}
use Rattle.model.specs.Counts.{sender_at, receiver_at}
use Rattle.model.specs.Node.{is_down, is_idle, owner_of, counter_of}
use Rattle.model.specs.declared.Limits.{Limits}
use Rattle.model.specs.declared.Activity.{Activity}
use Rattle.model.specs.declared.Activity.TheVariants.{Idle, Asking, Waiting, Inviting, Collecting, Handing, Contacting, Forwarding, Accepting}
use Rattle.model.specs.declared.Node.{Node}
use Rattle.model.specs.declared.Message.{Message}

-- ── T-08: a table's two limits ──

-- the limits l are those of p
abbrev pub same_limits : Limits → Limits → Bool
same_limits p l = eqb l.nodes p.nodes && eqb l.messages p.messages

-- "no other pair is allowed": the rule of the two pairs
abbrev pub is_tower_or_stand : Limits → Bool
is_tower_or_stand l = same_limits tower l || same_limits stand l

-- "limits not above the tower's"
abbrev pub is_within_tower : Limits → Bool
is_within_tower l = leb l.nodes tower.nodes && leb l.messages tower.messages

-- The machine has the rule of the two pairs. Demand 3 is also shown over the steps "with the rule of the two pairs left out".
pub data PairRule : Type 0 where
  TwoPairs : PairRule
  LeftOut : PairRule

abbrev pub pair_rule : PairRule → Limits → Bool
pair_rule TwoPairs l = is_tower_or_stand l
pair_rule LeftOut l = true

-- ── nodes, messages and counts ──

-- "all cabinet numbers are 1 to n"
abbrev pub is_node : ℕ → ℕ → Bool
is_node n j = leb 1 j && leb j n

-- "no .. caller or cabinet asked or called names its holder"
abbrev pub is_other : ℕ → ℕ → ℕ → Bool
is_other n i j = is_node n j && not (eqb j i)

-- "no set .. names its holder"
abbrev pub is_set_of_others : ℕ → ℕ → ℕ → Bool
is_set_of_others n i s = within n s && not (has s i)

-- a group "has counter at least 1 and owner 1 to n"
abbrev pub is_group : ℕ → ℕ → Bool
is_group n g = leb 1 (counter_of g) && leb (counter_of g) counter_end && leb (owner_of g) n

-- "task .. 100 to 65,535"
abbrev pub is_given_task : ℕ → Bool
is_given_task t = leb task_low t && leb t task_end

-- T-10: "Tasks 100 to 199 are full peals"
abbrev pub is_full_peal : ℕ → Bool
is_full_peal t = leb full_peal_low t && leb t full_peal_end

-- T-10: "twice the members plus two is at most n", of the member set of a coordinator: with itself it has no more than half of n
abbrev pub is_at_most_half : ℕ → ℕ → Bool
is_at_most_half n members = leb (2 * count members + 2) n

-- "call numbers in messages and of callers are at least 1"
abbrev pub is_call : ℕ → Bool
is_call k = leb 1 k && leb k call_end

-- what an activity of node i holds, with group g and task t beside it
unfoldable pub activity_in_range : ℕ → ℕ → ℕ → ℕ → Activity → Bool
activity_in_range n i g t Idle = true
activity_in_range n i g t (Asking asked found) = is_other n i asked && is_set_of_others n i found
activity_in_range n i g t (Waiting ticks found) = leb 1 ticks && leb ticks tick_end && is_set_of_others n i found
activity_in_range n i g t (Inviting found former now) = is_set_of_others n i found && is_set_of_others n i former && is_other n i now
activity_in_range n i g t Collecting = true
-- "a handing cabinet's task is 100 to 65,535"
activity_in_range n i g t (Handing rest now) = is_set_of_others n i rest && is_other n i now && is_given_task t
activity_in_range n i g t Contacting = true
-- "a forwarding or accepting cabinet isn't that owner"
activity_in_range n i g t (Forwarding rest now caller call) =
    is_set_of_others n i rest && is_other n i now && is_other n i caller && is_call call.number && not (eqb (owner_of g) i)
activity_in_range n i g t (Accepting caller call) = is_other n i caller && is_call call.number && not (eqb (owner_of g) i)

-- "every group that isn't 0 .. has counter at least 1 and owner 1 to n"
abbrev pub is_group_or_none : ℕ → ℕ → Bool
is_group_or_none n g = eqb g 0 || is_group n g

-- "a cabinet that isn't Down has a group of counter at least 1 whose owner is 1 to n and is its coordinator"
abbrev pub is_led : ℕ → Bool → ℕ → ℕ → Bool
is_led n down g coordinator = down || (is_group n g && eqb (owner_of g) coordinator)

-- the record of node i
unfoldable pub node_in_range : ℕ → ℕ → Node → Bool
node_in_range n i c =
    leb c.counter counter_end
    && is_group_or_none n c.group.number
    && leb c.coordinator n
    && leb c.task.number task_end
    && is_set_of_others n i c.members
    && leb c.last.number call_end
    && is_led n (is_down c.status) c.group.number c.coordinator
    -- "a Down one is idle"
    && (not (is_down c.status) || is_idle c.activity)
    && activity_in_range n i c.group.number c.task.number c.activity

-- kinds 2 to 5 carry a group
abbrev pub carries_group : ℕ → Bool
carries_group k = leb 2 k && leb k 5

-- a message: "a sender, a receiver (another cabinet), a kind and a call number"; "message groups aren't 0"; "Ready tasks are 100 to 65,535". The group of
-- kinds 1 and 6, the task of all kinds but 5, and yes or no in all but 6 are free.
unfoldable pub message_in_range : ℕ → Message → Bool
message_in_range n m =
    is_node n m.sender
    && is_other n m.sender m.receiver
    && (leb 1 m.kind && leb m.kind 6)
    && is_call m.call.number
    && (not (carries_group m.kind) || is_group n m.group.number)
    && (not (eqb m.kind 5) || is_given_task m.task.number)

-- an ordered pair of the n nodes
abbrev pub is_pair : ℕ → ℕ → ℕ → Bool
is_pair n a b = is_node n a && is_other n a b

-- T-05, of the count at place k: "a count that stands for no pair of its n cabinets is 0, and no count is above 33,554,430"
unfoldable pub count_in_range : ℕ → ℕ → ℕ → Bool
count_in_range n k x = leb x traffic_end && (eqb x 0 || is_pair n (sender_at k) (receiver_at k))
