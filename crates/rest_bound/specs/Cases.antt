-- The bound's values, and for each procedure and each kind of message a table of three nodes on which an event lowers the potential, with the potential before and after it. Where it falls by 1,
-- that step has nothing to spare. One node is up in these tables, node 1 but for `merges_at_once`. The last two events raise it.
use Rattle.std.specs.Prelude.{ℕ, ◌*◌, true, ◌≡◌, List, [], ◌∷◌, map}
use Rattle.model.specs.Limits.{tower}
use Rattle.model.specs.State.{State, starting_node, all_waiting}
use Rattle.model.specs.Step.{effect}
use Rattle.model.specs.Cases.{call_no, group_no, task_no, set_of, none, first, leader, node}
use Rattle.model.specs.Node.{asks, calls, readies, replies}
use Rattle.model.specs.declared.Status.TheVariants.{Election, Reorganization, Normal}
use Rattle.model.specs.declared.Activity.{Activity}
use Rattle.model.specs.declared.Activity.TheVariants.{Idle, Asking, Waiting, Inviting, Collecting, Handing, Contacting, Forwarding, Accepting}
use Rattle.model.specs.declared.Node.{Node}
use Rattle.model.specs.declared.Event.{Event}
use Rattle.model.specs.declared.Event.TheVariants.{Check, Timeout, Tick, Expire, Finish, Deliver, Lose}
use Rattle.round.specs.Order.{round_size}
use Rattle.rest_bound.specs.Potential.{kind_weight, potential, rest_bound}

-- the potential of a table, and of what the event leaves of it where it is accepted (`effect`; the grounds are not looked at here)
abbrev pub before_after : State → Event → List ℕ
before_after s e = potential s ∷ potential (effect s e) ∷ []

-- node 1 merges, or has merged: in Election, its own coordinator, without members
abbrev pub merging : Activity → Node
merging a = node Election 2 32 1 100 none 5 a

-- node 1 was invited to group 33 by node 2: in Election, with the members 2 and 3 that it had
abbrev pub invitee : Activity → Node
invitee a = node Election 1 33 2 100 (set_of (2 ∷ 3 ∷ [])) 5 a

pub record RestBoundCases : Type 0 where
  -- the tower and the stand: accepted events, and turns
  pub of_tower : rest_bound 16 64 ≡ 5344
  pub of_stand : rest_bound 4 12 ≡ 312
  pub tower_turns : rest_bound 16 64 * round_size 16 ≡ 1282560
  pub stand_turns : rest_bound 4 12 * round_size 4 ≡ 3744
  -- AreYouCoordinator, AreYouThere, Invitation, Accept, Ready, reply
  pub kinds : map kind_weight (1 ∷ 2 ∷ 3 ∷ 4 ∷ 5 ∷ 6 ∷ []) ≡ 2 ∷ 2 ∷ 4 ∷ 2 ∷ 2 ∷ 1 ∷ []
  -- asking: 2 is given up, and 3 is asked; 3 replies yes, and node 1 waits two ticks
  pub asks_next : before_after (first (leader Normal 5 (Asking 2 none)) []) (Expire 1) ≡ 42 ∷ 41 ∷ []
  pub asks_last : before_after (first (leader Normal 5 (Asking 3 none)) (replies 3 1 (call_no 5) true ∷ [])) (Deliver 3 1) ≡ 40 ∷ 38 ∷ []
  -- a tick, and the last one, at which it merges with both others found, who are its members too
  pub ticks : before_after (first (leader Normal 5 (Waiting 2 (set_of (3 ∷ [])))) []) (Tick 1) ≡ 38 ∷ 37 ∷ []
  pub merges : before_after (first (leader Normal 5 (Waiting 1 (set_of (2 ∷ 3 ∷ [])))) []) (Tick 1) ≡ 37 ∷ 36 ∷ []
  -- node 3 has asked all, found both, and as its number is higher merges at once
  pub merges_at_once : before_after (all_waiting 3 tower (starting_node ∷ starting_node ∷ node Normal 1 18 3 3 none 5 (Asking 2 (set_of (1 ∷ []))) ∷ []) (replies 2 3 (call_no 5) true ∷ [])) (Deliver 2 3) ≡ 33 ∷ 26 ∷ []
  -- inviting: on to the next, and after the last it collects
  pub invites_next : before_after (first (merging (Inviting (set_of (2 ∷ [])) none 3)) []) (Expire 1) ≡ 22 ∷ 21 ∷ []
  pub collects : before_after (first (merging (Inviting none none 2)) []) (Expire 1) ≡ 17 ∷ 16 ∷ []
  -- finish with two members; Ready to the second of them; after the last it is Normal
  pub finishes : before_after (first (leader Election 5 Collecting) []) (Finish 1 (task_no 100)) ≡ 16 ∷ 15 ∷ []
  pub hands_next : before_after (first (leader Reorganization 5 (Handing (set_of (2 ∷ [])) 3)) (replies 3 1 (call_no 5) true ∷ [])) (Deliver 3 1) ≡ 14 ∷ 13 ∷ []
  pub hands_last : before_after (first (leader Reorganization 5 (Handing none 2)) (replies 2 1 (call_no 5) true ∷ [])) (Deliver 2 1) ≡ 12 ∷ 10 ∷ []
  pub hands_none : before_after (first (leader Reorganization 5 (Handing none 2)) []) (Expire 1) ≡ 11 ∷ 0 ∷ []
  -- an invitation to a coordinator of two members, who forwards it; on to the next; after the last it accepts
  pub forwards : before_after (first (leader Normal 5 Idle) (calls 2 3 1 (call_no 7) (group_no 33) ∷ [])) (Deliver 2 1) ≡ 14 ∷ 13 ∷ []
  pub forwards_next : before_after (first (invitee (Forwarding (set_of (2 ∷ [])) 3 2 (call_no 7))) []) (Expire 1) ≡ 9 ∷ 8 ∷ []
  pub accepts : before_after (first (invitee (Forwarding none 2 2 (call_no 7))) []) (Expire 1) ≡ 4 ∷ 3 ∷ []
  -- an invitation to one without members, who accepts it at once
  pub accepts_alone : before_after (first (node Normal 1 16 1 1 none 5 Idle) (calls 2 3 1 (call_no 7) (group_no 33) ∷ [])) (Deliver 2 1) ≡ 4 ∷ 3 ∷ []
  -- T-03: an invitation to the group that it holds gets a plain reply and no more
  pub held : before_after (first (node Normal 1 33 2 100 none 5 Idle) (calls 2 3 1 (call_no 7) (group_no 33) ∷ [])) (Deliver 2 1) ≡ 4 ∷ 1 ∷ []
  -- its acceptance is answered, and it answers its caller
  pub accepted : before_after (first (invitee (Accepting 2 (call_no 7))) (replies 2 1 (call_no 5) true ∷ [])) (Deliver 2 1) ≡ 2 ∷ 1 ∷ []
  -- a call that is answered; one to its coordinator that is given up, and one that is answered with yes; a reply that is dropped, and one that is lost
  -- AreYouThere, Accept at a collecting node, which node 2 joins, and Ready
  pub there : before_after (first (leader Normal 5 Idle) (calls 2 2 1 (call_no 7) (group_no 16) ∷ [])) (Deliver 2 1) ≡ 12 ∷ 11 ∷ []
  pub joins : before_after (first (merging Collecting) (calls 2 4 1 (call_no 7) (group_no 32) ∷ [])) (Deliver 2 1) ≡ 18 ∷ 17 ∷ []
  pub ready : before_after (first (node Reorganization 1 33 2 1 none 5 Idle) (readies 2 1 (call_no 7) (group_no 33) (task_no 100) ∷ [])) (Deliver 2 1) ≡ 2 ∷ 1 ∷ []
  pub answers : before_after (first (node Normal 1 16 1 1 none 5 Idle) (asks 2 1 (call_no 7) ∷ [])) (Deliver 2 1) ≡ 2 ∷ 1 ∷ []
  pub recovers : before_after (first (node Normal 1 33 2 100 none 5 Contacting) []) (Expire 1) ≡ 1 ∷ 0 ∷ []
  pub contacted : before_after (first (node Normal 1 33 2 100 none 5 Contacting) (replies 2 1 (call_no 5) true ∷ [])) (Deliver 2 1) ≡ 2 ∷ 0 ∷ []
  pub dropped : before_after (first (node Normal 1 16 1 1 none 5 Idle) (replies 2 1 (call_no 7) true ∷ [])) (Deliver 2 1) ≡ 1 ∷ 0 ∷ []
  pub lost : before_after (first (node Normal 1 16 1 1 none 5 Idle) (replies 2 1 (call_no 7) true ∷ [])) (Lose 2 1) ≡ 1 ∷ 0 ∷ []
  -- a check and a timeout raise it, and are none of the five
  pub check : before_after (first (leader Normal 5 Idle) []) (Check 1) ≡ 10 ∷ 44 ∷ []
  pub timeout : before_after (first (node Normal 1 33 2 100 none 5 Idle) []) (Timeout 1) ≡ 0 ∷ 3 ∷ []
