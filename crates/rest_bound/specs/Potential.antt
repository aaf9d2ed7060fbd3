-- 02, T-13: the potential, a number read off a table, which every accepted deliver, lose, expire, tick and finish lowers; what it needs of a table; and a bound of it.
-- The steps are those of model/specs/Step, so it "reads the invitation rule as T-03 left it" (model/specs/React: only_replies). A plain reply to an invitation takes 3 of its weight.
use Rattle.std.specs.Prelude.{ℕ, ◌+◌, ◌-◌, ◌*◌, Bool, true, ◌&&◌, List, [], ◌∷◌, eqb, leb}
use Rattle.node_set.specs.NodeSet.{count}
use Rattle.model.specs.Pick.{pick}
use Rattle.model.specs.Node.{is_election, is_normal, is_active}
use Rattle.model.specs.State.{State, every}
use Rattle.model.specs.declared.Status.{Status}
use Rattle.model.specs.declared.Activity.{Activity}
use Rattle.model.specs.declared.Activity.TheVariants.{Idle, Asking, Waiting, Inviting, Collecting, Handing, Contacting, Forwarding, Accepting}
use Rattle.model.specs.declared.Node.{Node}
use Rattle.model.specs.declared.Message.{Message}

-- ── the weights ──
-- A weight pays for all the events that can still come of what it stands for: an event takes the weight of what it ends, and what it begins weighs less. n − 1 is how many others
-- a node of n has, so no set has more.

-- A reply weighs 1, for its delivery. A call weighs 2, for its delivery and for the reply that this sends. An invitation weighs 4: for its delivery, for the call Accept that this
-- may send (2), and for the accepting (1).
unfoldable pub kind_weight : ℕ → ℕ
kind_weight kind = pick (eqb kind 3) 4 (pick (eqb kind 6) 1 2)

abbrev pub message_weight : Message → ℕ
message_weight m = kind_weight m.kind

-- the activity of a node of n
abbrev pub activity_weight : ℕ → Activity → ℕ
-- none of the five events does anything with it but by a message
activity_weight n Idle = 0
-- 3 for each number above that of the node asked, its own among them: the question to it (2), and the expiry of the question before (1); a reply pays for its delivery itself. And 1 more than
-- waiting n − 1 ticks, the most that the last reply or expiry can come to.
activity_weight n (Asking asked found) = 3 * (n - asked) + (13 * (n - 1) + 3)
-- 1 for each tick, 5 for each of n − 1 nodes found, who are then invited, and collecting. Those set aside are paid for as members.
activity_weight n (Waiting ticks found) = 12 * (n - 1) + 2 + ticks
-- 5 for each node still to be invited: the invitation (4), and the expiry of the one before (1). And 1 more than collecting.
activity_weight n (Inviting found former now) = 5 * (count found + count former) + (7 * (n - 1) + 3)
-- 1 more than handing with none handed to yet, and n − 1 members: 2 for each in handing, and 5 for each as members, which they begin to weigh with the finish
activity_weight n Collecting = 7 * (n - 1) + 2
-- 2 for each node still to be handed to: Ready weighs 2, and is sent where a reply (1) is delivered, which pays for that delivery itself. 1 for the end.
activity_weight n (Handing rest now) = 2 * count rest + 1
-- 1 for the end
activity_weight n Contacting = 1
-- 5 for each node still to be forwarded to, as in inviting; and 1 more than accepting and its call (1 + 2)
activity_weight n (Forwarding rest now caller call) = 5 * count rest + 4
-- 1 for the end: the reply that is delivered pays for the one that is sent
activity_weight n (Accepting caller call) = 1

-- in Reorganization or Normal, and its own coordinator
abbrev pub is_active_coordinator : ℕ → Status → ℕ → Bool
is_active_coordinator i status coordinator = is_active status && eqb coordinator i

-- The members of such a node weigh 5 each, as all of them may be sent an invitation: if it is invited itself, it forwards that to each; if it merges, it invites each. That is 4 for the
-- invitation and 1 for its expiry, as in inviting. Those of other nodes weigh nothing: who invites or collects is paid for them in collecting, who forwards in forwarding, and any other, before
-- it can send them an invitation, recovers, and then has none.
unfoldable pub members_weight : ℕ → Status → ℕ → ℕ → ℕ
members_weight i status coordinator members = pick (is_active_coordinator i status coordinator) (5 * count members) 0

-- node i of n
abbrev pub node_weight : ℕ → ℕ → Node → ℕ
node_weight n i c = activity_weight n c.activity + members_weight i c.status c.coordinator c.members

-- nodes, the first of which is node i
unfoldable pub nodes_weight : ℕ → ℕ → List Node → ℕ
nodes_weight n i [] = 0
nodes_weight n i (c ∷ cs) = node_weight n i c + nodes_weight n (i + 1) cs

-- the waiting messages
unfoldable pub queue_weight : List Message → ℕ
queue_weight [] = 0
queue_weight (m ∷ ms) = message_weight m + queue_weight ms

-- the potential of a table
abbrev pub potential : State → ℕ
potential s = nodes_weight s.n 1 s.nodes + queue_weight s.queue

-- ── what it needs of a table ──

-- What an activity of node i of n says of its status and its coordinator: who asks or waits is Normal and its own coordinator, and waits at most n − 1 ticks; who invites or
-- collects is in Election; who hands is in Reorganization or Normal.
abbrev pub suits : ℕ → ℕ → Status → ℕ → Activity → Bool
suits n i status coordinator Idle = true
suits n i status coordinator (Asking asked found) = is_normal status && eqb coordinator i
suits n i status coordinator (Waiting ticks found) = is_normal status && eqb coordinator i && leb ticks (n - 1)
suits n i status coordinator (Inviting found former now) = is_election status
suits n i status coordinator Collecting = is_election status
suits n i status coordinator (Handing rest now) = is_active status
suits n i status coordinator Contacting = true
suits n i status coordinator (Forwarding rest now caller call) = true
suits n i status coordinator (Accepting caller call) = true

abbrev pub node_suits : ℕ → ℕ → Node → Bool
node_suits n i c = suits n i c.status c.coordinator c.activity

-- the invariant: the activity of every node suits its record
unfoldable pub suited : State → Bool
suited s = every (node_suits s.n) 1 s.nodes

-- ── how high it can be ──

-- A table in range of n nodes with q waiting messages that is suited weighs at most this. No node weighs more than one that asks node 1: 3 (n − 1) + 13 (n − 1) + 3, and 5 for each of
-- n − 1 members. No message weighs more than 4. (Node 1 does not ask itself, so no table weighs quite as much.)
abbrev pub rest_bound : ℕ → ℕ → ℕ
rest_bound n q = n * (21 * (n - 1) + 3) + 4 * q
