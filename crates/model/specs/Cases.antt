-- "Named cases": what is claimed of K1 to K13, jointly, over the definitions. Where 01 names one side of a rule, the other side stands beside it. "Wrong
-- turnings in this protocol" follow, then further cases, those of 02's T-03 to T-06 and T-10, and the ends of what is in range; T-08's stand is beside K1 to K13. The tables are in range, and those of the tower, where nothing else is said;
-- not each of them is one that a run reaches.
use Rattle.std.specs.Prelude.{Err, ℕ, ◌+◌, ◌-◌, Bool, true, false, ◌≡◌, List, [], ◌∷◌, ◌++◌, map, length, set, replicate}
use Rattle.node_set.specs.NodeSet.{with, count}
use Rattle.model.specs.Pick.{pick}
use Rattle.model.specs.Limits.{tower, stand}
use Rattle.model.specs.Counts.{pair_place, count_at, no_counts, total}
use Rattle.model.specs.Node.{group_of, asks, calls, readies, replies}
use Rattle.model.specs.Recovery.{recovery_records, stopped}
use Rattle.model.specs.Range.{TwoPairs, LeftOut, node_in_range, message_in_range}
use Rattle.model.specs.State.{State, starting_node, start_by, start, wrong_count, node_at, all_waiting, counts_aside, counts_in_range, in_range}
use Rattle.model.specs.Step.{refused, accepted, aside, step, after, run_from, run_by, run}
use Rattle.model.specs.History.{NoTask, Task, history}
use Rattle.model.specs.Answers.{Started, status_number, start_number, answer_number}
use Rattle.model.specs.declared.Limits.{Limits}
use Rattle.model.specs.declared.Status.{Status}
use Rattle.model.specs.declared.Status.TheVariants.{Down, Election, Reorganization, Normal}
use Rattle.model.specs.declared.Activity.{Activity}
use Rattle.model.specs.declared.Activity.TheVariants.{Idle, Asking, Waiting, Inviting, Collecting, Handing, Contacting, Forwarding, Accepting}
use Rattle.model.specs.declared.Node.{Node}
use Rattle.model.specs.declared.TaskNo.{TaskNo}
use Rattle.model.specs.declared.CallNo.{CallNo}
use Rattle.model.specs.declared.GroupNo.{GroupNo}
use Rattle.model.specs.declared.Message.{Message}
use Rattle.model.specs.declared.Mark.TheVariants.{Plain, Recovers, Merges}
use Rattle.model.specs.declared.StartRefusal.TheVariants.{WrongLimits, WrongCount}
use Rattle.model.specs.declared.Refusal.TheVariants.{NotCoordinator, NoMajority, SentAtEnd}
use Rattle.model.specs.declared.Event.{Event}
use Rattle.model.specs.declared.Event.TheVariants.{Crash, Recover, Check, Timeout, Tick, Expire, Finish, Deliver, Lose}

abbrev pub task_no : ℕ → TaskNo
task_no t = record { number = t }

abbrev pub call_no : ℕ → CallNo
call_no k = record { number = k }

abbrev pub group_no : ℕ → GroupNo
group_no g = record { number = g }

-- what a node's line prints: "number, status, coordinator, group, task, counter, count of members"
abbrev pub printed_fields : State → ℕ → List ℕ
printed_fields s i =
    i
    ∷ status_number (node_at s i).status
    ∷ (node_at s i).coordinator
    ∷ (node_at s i).group.number
    ∷ (node_at s i).task.number
    ∷ (node_at s i).counter
    ∷ count (node_at s i).members
    ∷ []

-- the set of these nodes
abbrev pub set_of : List ℕ → ℕ
set_of [] = 0
set_of (i ∷ is) = with (set_of is) i

abbrev pub none : ℕ
none = set_of []

-- ── tables, in which all that was sent still waits. Tables before and after an event are given with the counts of T-05 set aside, but for those in TrafficCases ──

-- T-05: the table with d more messages from a to b that were sent and delivered, and l more that were sent and lost
abbrev pub past : ℕ → ℕ → ℕ → ℕ → State → State
past a b d l s = record {
  rule = s.rule;
  n = s.n;
  limits = s.limits;
  nodes = s.nodes;
  queue = s.queue;
  sent = set s.sent (pair_place a b) (count_at s.sent a b + d + l);
  delivered = set s.delivered (pair_place a b) (count_at s.delivered a b + d);
  lost = set s.lost (pair_place a b) (count_at s.lost a b + l);
}

-- K5: 16 nodes, of which node 16 has the counter k and the group formed with it, and the others are as at the start
abbrev pub counted : Status → Activity → ℕ → State
counted s a k =
    all_waiting 16 tower
    (set (replicate 16 starting_node) 15
    (record { status = s; counter = k; group = group_no (group_of k 16); coordinator = 16; task = task_no 16; members = none; last = call_no 16; activity = a }))
    []

-- the same of the stand's node 4, Down and idle
abbrev pub stand_counted : ℕ → State
stand_counted k =
    all_waiting 4 stand
    (starting_node
    ∷ starting_node
    ∷ starting_node
    ∷ record { status = Down; counter = k; group = group_no (group_of k 4); coordinator = 4; task = task_no 4; members = none; last = call_no 4; activity = Idle }
    ∷ [])
    []

-- two nodes in a table with the limits l: node 1 is Normal in its own group 16, and node 2 is c
abbrev pub beside_in : Limits → Node → List Message → State
beside_in l c q =
    all_waiting 2 l
    (record { status = Normal; counter = 1; group = group_no 16; coordinator = 1; task = task_no 1; members = none; last = call_no 3; activity = Idle } ∷ c ∷ [])
    q

-- node 2 as the coordinator of its group 33, with the members m and two former calls
abbrev pub pair_in : Limits → Status → ℕ → Activity → List Message → State
pair_in l s m a q =
    beside_in l (record { status = s; counter = 2; group = group_no 33; coordinator = 2; task = task_no 100; members = m; last = call_no 2; activity = a }) q

-- both in the tower
abbrev pub beside : Node → List Message → State
beside c q = beside_in tower c q

abbrev pub pair : Status → ℕ → Activity → List Message → State
pair s m a q = pair_in tower s m a q

-- node 2 in group g of node 1, with the task t, the members m and the last call number k
abbrev pub follower : Status → ℕ → ℕ → ℕ → ℕ → Activity → Node
follower s g t m k a =
    record { status = s; counter = 2; group = group_no g; coordinator = 1; task = task_no t; members = m; last = call_no k; activity = a }

-- node 2 after a merge, and after a recovery: group 49
abbrev pub merger : Activity → Node
merger a = record { status = Election; counter = 3; group = group_no 49; coordinator = 2; task = task_no 100; members = none; last = call_no 3; activity = a }

abbrev pub alone : Node
alone = record { status = Normal; counter = 3; group = group_no 49; coordinator = 2; task = task_no 2; members = none; last = call_no 2; activity = Idle }

-- three nodes: node 1 is c, and the others are as at the start
abbrev pub first : Node → List Message → State
first c q = all_waiting 3 tower (c ∷ starting_node ∷ starting_node ∷ []) q

-- node 1 as the coordinator of its group 16, with the members 2 and 3 and the last call number k
abbrev pub leader : Status → ℕ → Activity → Node
leader s k a =
    record { status = s; counter = 1; group = group_no 16; coordinator = 1; task = task_no 100; members = set_of (2 ∷ 3 ∷ []); last = call_no k; activity = a }

-- node 2 of two, with the counter k and the last call number l, waits for its last tick; it has found node 1
abbrev pub ending_in : Limits → ℕ → ℕ → List Message → State
ending_in lim k l q =
    beside_in lim (record {
      status = Normal;
      counter = k;
      group = group_no 17;
      coordinator = 2;
      task = task_no 2;
      members = none;
      last = call_no l;
      activity = Waiting 1 (set_of (1 ∷ []));
    }) q

-- ── messages: node 1's third call, to node 2, and the plain reply to it ──

abbrev pub invitation : ℕ → List Message
invitation g = calls 1 3 2 (call_no 3) (group_no g) ∷ []

abbrev pub accept : ℕ → List Message
accept g = calls 1 4 2 (call_no 3) (group_no g) ∷ []

abbrev pub ready : ℕ → ℕ → List Message
ready g t = readies 1 2 (call_no 3) (group_no g) (task_no t) ∷ []

abbrev pub plain : List Message
plain = replies 2 1 (call_no 3) true ∷ []

-- node 1's reply to call k of node 2
abbrev pub reply : ℕ → Bool → List Message
reply k y = replies 1 2 (call_no k) y ∷ []

-- K11: k messages to node 1
abbrev pub queued : ℕ → List Message
queued k = replicate k (asks 2 1 (call_no 1))

-- ── lists of events ──

-- K10's events; those up to where node 1 has accepted, and is in Reorganization (T-06); and one more, after which node 2 collects (K6)
abbrev pub accepted_invitation : List Event
accepted_invitation = Recover 1 ∷ Recover 2 ∷ Check 2 ∷ Deliver 2 1 ∷ Deliver 1 2 ∷ Deliver 2 1 ∷ Deliver 1 2 ∷ Deliver 2 1 ∷ []

abbrev pub collecting : List Event
collecting = accepted_invitation ++ (Deliver 1 2 ∷ [])

abbrev pub k10 : List Event
k10 = collecting ++ (Finish 2 (task_no 100) ∷ Deliver 2 1 ∷ Deliver 1 2 ∷ [])

-- K7: node 1 asks 2, which does not answer, and 3, which does
abbrev pub found_three : List Event
found_three = Recover 1 ∷ Recover 3 ∷ Check 1 ∷ Expire 1 ∷ Deliver 1 3 ∷ Deliver 3 1 ∷ []

-- T-08: four nodes recover; each asks the others one after another, and gives each call up
abbrev pub asks_all : ℕ → List Event
asks_all i = Check i ∷ Expire i ∷ Expire i ∷ Expire i ∷ []

abbrev pub all_ask : List Event
all_ask = Recover 1 ∷ Recover 2 ∷ Recover 3 ∷ Recover 4 ∷ (asks_all 1 ++ (asks_all 2 ++ (asks_all 3 ++ asks_all 4)))

-- ── K1 to K13 ──

-- in the tower
pub record NamedCases : Type 0 where
  -- "K1 n = 0 and 17: 6; 1 and 16 pass."
  pub k1_low : wrong_count tower.nodes 0 ≡ true
  pub k1_high : wrong_count tower.nodes 17 ≡ true
  pub k1_first : wrong_count tower.nodes 1 ≡ false
  pub k1_last : wrong_count tower.nodes 16 ≡ false
  -- "K2 n = 2, recover 1: group 16, task 1, Normal."
  pub k2 : printed_fields (run 2 tower (Recover 1 ∷ [])) 1 ≡ 1 ∷ 3 ∷ 1 ∷ 16 ∷ 1 ∷ 1 ∷ 0 ∷ []
  -- the history has it with its solo task
  pub k2_task : (history 2 tower (Recover 1 ∷ [])).entry 16 ≡ Task 1
  -- the other node stays as it was
  pub k2_other : printed_fields (run 2 tower (Recover 1 ∷ [])) 2 ≡ 2 ∷ 0 ∷ 0 ∷ 0 ∷ 0 ∷ 0 ∷ 0 ∷ []
  -- with members before: they are emptied, and the last call number is kept
  pub k2_emptied : aside (step (pair Down (set_of (1 ∷ [])) Idle []) (Recover 2)) ≡ accepted (beside alone []) Recovers
  -- "K3 recover 1 again: 9."
  pub k3 : step (run 2 tower (Recover 1 ∷ [])) (Recover 1) ≡ refused 9
  -- "K4 crash 1, recover 1: group 32."
  pub k4 : printed_fields (run 2 tower (Recover 1 ∷ Crash 1 ∷ Recover 1 ∷ [])) 1 ≡ 1 ∷ 3 ∷ 1 ∷ 32 ∷ 1 ∷ 2 ∷ 0 ∷ []
  -- a crash ends what the node does: all else is kept, and messages keep waiting
  pub k4_crash : aside (step (pair Normal (set_of (1 ∷ [])) (Asking 1 none) (invitation 16)) (Crash 2)) ≡ accepted (pair Down (set_of (1 ∷ [])) Idle (invitation 16)) Plain
  -- "K5 cabinet 16 with counter 1,048,574 recovers into group 16,777,215; with 1,048,575: 12."
  pub k5_passes : printed_fields (after (counted Down Idle 1048574) (Recover 16)) 16 ≡ 16 ∷ 3 ∷ 16 ∷ 16777215 ∷ 16 ∷ 1048575 ∷ 0 ∷ []
  pub k5_ends : step (counted Down Idle 1048575) (Recover 16) ≡ refused 12
  -- a merge needs a group too: node 1 was found, and the last one asked does not answer
  pub k5_merge_passes : printed_fields (after (counted Normal (Asking 15 (set_of (1 ∷ []))) 1048574) (Expire 16)) 16 ≡ 16 ∷ 1 ∷ 16 ∷ 16777215 ∷ 16 ∷ 1048575 ∷ 0 ∷ []
  pub k5_merge_ends : step (counted Normal (Asking 15 (set_of (1 ∷ []))) 1048575) (Expire 16) ≡ refused 12
  -- where none was found, no group is needed
  pub k5_no_group : counts_aside (after (counted Normal (Asking 15 none) 1048575) (Expire 16)) ≡ counted Normal Idle 1048575
  -- "K6 finish by a collecting cabinet: task 99 gives 8, 100 passes."; 02, T-10: "K6 now uses task 200 for the one that passes."
  pub k6_collects : (node_at (run 2 tower collecting) 2).activity ≡ Collecting
  pub k6_refused : step (run 2 tower collecting) (Finish 2 (task_no 99)) ≡ refused 8
  pub k6_passes : printed_fields (after (run 2 tower collecting) (Finish 2 (task_no 200))) 2 ≡ 2 ∷ 2 ∷ 2 ∷ 33 ∷ 200 ∷ 2 ∷ 1 ∷ []
  -- the other end of the tasks
  pub k6_last : printed_fields (after (run 2 tower collecting) (Finish 2 (task_no 65535))) 2 ≡ 2 ∷ 2 ∷ 2 ∷ 33 ∷ 65535 ∷ 2 ∷ 1 ∷ []
  pub k6_high : step (run 2 tower collecting) (Finish 2 (task_no 65536)) ≡ refused 8
  -- with no member it is Normal at once
  pub k6_no_member : aside (step (pair Election none Collecting []) (Finish 2 (task_no 200))) ≡ accepted (beside (record { status = Normal; counter = 2; group = group_no 33; coordinator = 2; task = task_no 200; members = none; last = call_no 2; activity = Idle }) []) Plain
  -- by one that is idle: 10, but 8 comes first
  pub k6_idle : step (pair Normal none Idle []) (Finish 2 (task_no 100)) ≡ refused 10
  pub k6_idle_task : step (pair Normal none Idle []) (Finish 2 (task_no 99)) ≡ refused 8
  -- "K7 n = 3, cabinet 1 found 3: it merges at the second tick."
  pub k7_waits : (node_at (run 3 tower found_three) 1).activity ≡ Waiting 2 (set_of (3 ∷ []))
  pub k7_first : (node_at (run 3 tower (found_three ++ (Tick 1 ∷ []))) 1).activity ≡ Waiting 1 (set_of (3 ∷ []))
  pub k7_still : (node_at (run 3 tower (found_three ++ (Tick 1 ∷ []))) 1).status ≡ Normal
  pub k7_second : (node_at (run 3 tower (found_three ++ (Tick 1 ∷ Tick 1 ∷ []))) 1).activity ≡ Inviting none none 3
  pub k7_merges : printed_fields (run 3 tower (found_three ++ (Tick 1 ∷ Tick 1 ∷ []))) 1 ≡ 1 ∷ 1 ∷ 1 ∷ 32 ∷ 1 ∷ 2 ∷ 0 ∷ []
  -- the question to 2 still waits; behind it, 3 is invited
  pub k7_invites : (run 3 tower (found_three ++ (Tick 1 ∷ Tick 1 ∷ []))).queue ≡ asks 1 2 (call_no 1) ∷ calls 1 3 3 (call_no 3) (group_no 32) ∷ []
  -- "K8 an invitation to a cabinet in Election changes nothing but the messages."
  pub k8 : counts_aside (after (pair Election (set_of (1 ∷ [])) Collecting (invitation 16)) (Deliver 1 2)) ≡ pair Election (set_of (1 ∷ [])) Collecting plain
  -- nor to one in Reorganization, nor to one that owns the group (nor, by T-03, to one that holds it: HeldGroupCases)
  pub k8_reorganizing : counts_aside (after (pair Reorganization (set_of (1 ∷ [])) Collecting (invitation 16)) (Deliver 1 2)) ≡ pair Reorganization (set_of (1 ∷ [])) Collecting plain
  pub k8_owner : counts_aside (after (pair Normal (set_of (1 ∷ [])) Collecting (invitation 17)) (Deliver 1 2)) ≡ pair Normal (set_of (1 ∷ [])) Collecting plain
  -- a Normal one of another group acts on it: it forwards the invitation to its member
  pub k8_normal : counts_aside (after (pair Normal (set_of (1 ∷ [])) Collecting (invitation 16)) (Deliver 1 2))
      ≡ beside (follower Election 16 100 (set_of (1 ∷ [])) 3 (Forwarding none 1 1 (call_no 3))) (calls 2 3 1 (call_no 3) (group_no 16) ∷ [])
  -- with no member, or where another leads it, it calls Accept at once
  pub k8_no_member : counts_aside (after (pair Normal none Collecting (invitation 16)) (Deliver 1 2))
      ≡ beside (follower Election 16 100 none 3 (Accepting 1 (call_no 3))) (calls 2 4 1 (call_no 3) (group_no 16) ∷ [])
  pub k8_led : counts_aside (after (beside (follower Normal 32 100 (set_of (1 ∷ [])) 2 Idle) (invitation 16)) (Deliver 1 2))
      ≡ beside (follower Election 16 100 (set_of (1 ∷ [])) 3 (Accepting 1 (call_no 3))) (calls 2 4 1 (call_no 3) (group_no 16) ∷ [])
  -- "K9 a reply with an older call number is only dropped."
  pub k9 : counts_aside (after (pair Normal (set_of (1 ∷ [])) (Asking 1 none) (reply 1 true)) (Deliver 1 2)) ≡ pair Normal (set_of (1 ∷ [])) (Asking 1 none) []
  -- with the last call number it goes on: yes, so that 1 is found, and as it was the last to be asked, node 2 merges
  pub k9_yes : aside (step (pair Normal (set_of (1 ∷ [])) (Asking 1 none) (reply 2 true)) (Deliver 1 2))
      ≡ accepted (beside (merger (Inviting none (set_of (1 ∷ [])) 1)) (calls 2 3 1 (call_no 3) (group_no 49) ∷ [])) Merges
  -- no, so that none is found
  pub k9_no : counts_aside (after (pair Normal (set_of (1 ∷ [])) (Asking 1 none) (reply 2 false)) (Deliver 1 2)) ≡ pair Normal (set_of (1 ∷ [])) Idle []
  -- without an open call, the number does not help
  pub k9_no_call : counts_aside (after (pair Election none Collecting (reply 2 true)) (Deliver 1 2)) ≡ pair Election none Collecting []
  -- "Case K10": what its lines print; 02, T-02: "K10 prints the same.", and with T-10 too, as its coordinator and its one member are two of two
  pub k10_first : printed_fields (run 2 tower k10) 1 ≡ 1 ∷ 3 ∷ 2 ∷ 33 ∷ 100 ∷ 1 ∷ 0 ∷ []
  pub k10_second : printed_fields (run 2 tower k10) 2 ≡ 2 ∷ 3 ∷ 2 ∷ 33 ∷ 100 ∷ 2 ∷ 1 ∷ []
  pub k10_messages : length (run 2 tower k10).queue ≡ 0
  -- 02, T-05: "K10 gains the lines `sent 8`, `delivered 8`, `lost 0`."
  pub k10_sent : total (run 2 tower k10).sent ≡ 8
  pub k10_delivered : total (run 2 tower k10).delivered ≡ 8
  pub k10_lost : total (run 2 tower k10).lost ≡ 0
  -- the history's task of group 33, and before the finish none
  pub k10_task : (history 2 tower k10).entry 33 ≡ Task 100
  pub k10_no_task : (history 2 tower collecting).entry 33 ≡ NoTask
  -- "K11 with 64 waiting, a check that must ask: 14; a delivery passes."
  pub k11_refused : step (pair Normal none Idle (queued 64)) (Check 1) ≡ refused 14
  pub k11_passes : counts_aside (after (pair Normal none Idle (queued 64)) (Deliver 2 1)) ≡ pair Normal none Idle (queued 63 ++ (replies 1 2 (call_no 1) true ∷ []))
  -- with 63 waiting it asks; with 64, a check in Reorganization meets 18 (T-06), and not 14
  pub k11_room : (after (pair Normal none Idle (queued 63)) (Check 1)).queue ≡ queued 63 ++ (asks 1 2 (call_no 4) ∷ [])
  pub k11_turned_away : step (pair Reorganization none Idle (queued 64)) (Check 2) ≡ refused 18
  -- "K12 Accept reaching its group's owner in Reorganization: members unchanged."
  pub k12 : counts_aside (after (pair Reorganization none Collecting (accept 33)) (Deliver 1 2)) ≡ pair Reorganization none Collecting plain
  -- in Election the sender joins
  pub k12_joins : counts_aside (after (pair Election none Collecting (accept 33)) (Deliver 1 2)) ≡ pair Election (set_of (1 ∷ [])) Collecting plain
  -- not so by the Accept of another group, nor where another leads the node
  pub k12_group : counts_aside (after (pair Election none Collecting (accept 17)) (Deliver 1 2)) ≡ pair Election none Collecting plain
  pub k12_led : counts_aside (after (beside (follower Election 16 100 none 2 Collecting) (accept 16)) (Deliver 1 2)) ≡ beside (follower Election 16 100 none 2 Collecting) plain
  -- "K13 n = 2, finish 9 with task 5: 7."
  pub k13 : step (start 2 tower) (Finish 9 (task_no 5)) ≡ refused 7
  -- with the number of a node: 8; with a task as well: 9, as it is Down
  pub k13_task : step (start 2 tower) (Finish 2 (task_no 5)) ≡ refused 8
  pub k13_down : step (start 2 tower) (Finish 2 (task_no 100)) ≡ refused 9

-- T-08: the same of the stand, which has "four cabinets and memory for 12 waiting messages"; and what its limits, and others, decide
pub record StandCases : Type 0 where
  -- K1: n = 0 and 5: 6; 1 and 4 pass
  pub k1_low : wrong_count stand.nodes 0 ≡ true
  pub k1_high : wrong_count stand.nodes 5 ≡ true
  pub k1_first : wrong_count stand.nodes 1 ≡ false
  pub k1_last : wrong_count stand.nodes 4 ≡ false
  -- K2, K3 and K4
  pub k2 : printed_fields (run 2 stand (Recover 1 ∷ [])) 1 ≡ 1 ∷ 3 ∷ 1 ∷ 16 ∷ 1 ∷ 1 ∷ 0 ∷ []
  pub k2_task : (history 2 stand (Recover 1 ∷ [])).entry 16 ≡ Task 1
  pub k3 : step (run 2 stand (Recover 1 ∷ [])) (Recover 1) ≡ refused 9
  pub k4 : printed_fields (run 2 stand (Recover 1 ∷ Crash 1 ∷ Recover 1 ∷ [])) 1 ≡ 1 ∷ 3 ∷ 1 ∷ 32 ∷ 1 ∷ 2 ∷ 0 ∷ []
  -- K5: node 4 with counter 1,048,574 recovers into group 16,777,203; with 1,048,575: 12
  pub k5_passes : printed_fields (after (stand_counted 1048574) (Recover 4)) 4 ≡ 4 ∷ 3 ∷ 4 ∷ 16777203 ∷ 4 ∷ 1048575 ∷ 0 ∷ []
  pub k5_ends : step (stand_counted 1048575) (Recover 4) ≡ refused 12
  -- K6 to K10
  pub k6_refused : step (run 2 stand collecting) (Finish 2 (task_no 99)) ≡ refused 8
  pub k6_passes : printed_fields (after (run 2 stand collecting) (Finish 2 (task_no 200))) 2 ≡ 2 ∷ 2 ∷ 2 ∷ 33 ∷ 200 ∷ 2 ∷ 1 ∷ []
  pub k7_first : (node_at (run 3 stand (found_three ++ (Tick 1 ∷ []))) 1).activity ≡ Waiting 1 (set_of (3 ∷ []))
  pub k7_second : (node_at (run 3 stand (found_three ++ (Tick 1 ∷ Tick 1 ∷ []))) 1).activity ≡ Inviting none none 3
  pub k8 : counts_aside (after (pair_in stand Election (set_of (1 ∷ [])) Collecting (invitation 16)) (Deliver 1 2)) ≡ pair_in stand Election (set_of (1 ∷ [])) Collecting plain
  pub k9 : counts_aside (after (pair_in stand Normal (set_of (1 ∷ [])) (Asking 1 none) (reply 1 true)) (Deliver 1 2)) ≡ pair_in stand Normal (set_of (1 ∷ [])) (Asking 1 none) []
  pub k10_first : printed_fields (run 2 stand k10) 1 ≡ 1 ∷ 3 ∷ 2 ∷ 33 ∷ 100 ∷ 1 ∷ 0 ∷ []
  pub k10_second : printed_fields (run 2 stand k10) 2 ≡ 2 ∷ 3 ∷ 2 ∷ 33 ∷ 100 ∷ 2 ∷ 1 ∷ []
  pub k10_task : (history 2 stand k10).entry 33 ≡ Task 100
  -- K11: with 12 waiting, a check that must ask: 14; a delivery passes
  pub k11_refused : step (pair_in stand Normal none Idle (queued 12)) (Check 1) ≡ refused 14
  pub k11_passes : counts_aside (after (pair_in stand Normal none Idle (queued 12)) (Deliver 2 1))
      ≡ pair_in stand Normal none Idle (queued 11 ++ (replies 1 2 (call_no 1) true ∷ []))
  -- with 11 waiting it asks; with 12, a check in Reorganization meets 18 (T-06), and not 14
  pub k11_room : (after (pair_in stand Normal none Idle (queued 11)) (Check 1)).queue ≡ queued 11 ++ (asks 1 2 (call_no 4) ∷ [])
  pub k11_turned_away : step (pair_in stand Reorganization none Idle (queued 12)) (Check 2) ≡ refused 18
  -- K12 and K13
  pub k12 : counts_aside (after (pair_in stand Reorganization none Collecting (accept 33)) (Deliver 1 2)) ≡ pair_in stand Reorganization none Collecting plain
  pub k13 : step (start 2 stand) (Finish 9 (task_no 5)) ≡ refused 7
  -- "Grounds 1, 6 and 14 read the table's own limits.": the same events and messages in the tower, where 12 wait and it asks, and 13 are in range
  pub in_tower : (after (pair Normal none Idle (queued 12)) (Check 1)).queue ≡ queued 12 ++ (asks 1 2 (call_no 4) ∷ [])
  pub in_tower_more : (after (pair Normal none Idle (queued 13)) (Check 1)).queue ≡ queued 13 ++ (asks 1 2 (call_no 4) ∷ [])
  -- 1: on the stand 13 messages are too many, and so are five nodes, which the tower has room for; before 7
  pub many_messages : step (pair_in stand Normal none Idle (queued 13)) (Check 9) ≡ refused 1
  pub many_nodes : step (start 5 stand) (Recover 9) ≡ refused 1
  pub tower_nodes : step (start 5 tower) (Recover 9) ≡ refused 7
  -- the order of the ends, as FurtherCases has it in the tower: 12 before 13 before 14; before 17 it is in TrafficCases
  pub ends_twelve : step (ending_in stand 1048575 16777215 (queued 12)) (Tick 2) ≡ refused 12
  pub ends_thirteen : step (ending_in stand 1048574 16777215 (queued 12)) (Tick 2) ≡ refused 13
  pub ends_fourteen : step (ending_in stand 1048574 16777214 (queued 12)) (Tick 2) ≡ refused 14
  pub ends_pass : length (after (ending_in stand 1048574 16777214 (queued 11)) (Tick 2)).queue ≡ 12
  -- a run that comes to 12: each of four nodes asks the three others, and nothing is delivered; then a check is refused with 14, in the tower it asks; a delivery passes
  pub run_fills : length (run 4 stand all_ask).queue ≡ 12
  pub run_full : step (run 4 stand all_ask) (Check 1) ≡ refused 14
  pub run_delivers : length (after (run 4 stand all_ask) (Deliver 1 2)).queue ≡ 12
  pub run_in_tower : length (after (run 4 tower all_ask) (Check 1)).queue ≡ 13
  -- "no other pair is allowed": 1
  pub swapped : step (start 2 (record { nodes = 12; messages = 4 })) (Recover 1) ≡ refused 1
  pub tower_nodes_only : step (start 2 (record { nodes = 16; messages = 12 })) (Recover 1) ≡ refused 1
  pub stand_nodes_only : step (start 2 (record { nodes = 4; messages = 64 })) (Recover 1) ≡ refused 1
  pub no_limits : step (start 2 (record { nodes = 0; messages = 0 })) (Recover 1) ≡ refused 1
  -- with that rule left out such a table takes the event
  pub left_out : printed_fields (run_by LeftOut 2 (record { nodes = 4; messages = 64 }) (Recover 1 ∷ [])) 1 ≡ 1 ∷ 3 ∷ 1 ∷ 16 ∷ 1 ∷ 1 ∷ 0 ∷ []
  -- the numbers that a starting table is answered with: with another pair it is a table that is not in range
  pub started : start_number Started ≡ 0
  pub wrong_limits : start_number (Err WrongLimits) ≡ 1
  pub wrong_count_lem : start_number (Err WrongCount) ≡ 6

-- ── "Wrong turnings in this protocol": what happens instead. The first and the last of the five are K4 and K9. ──

pub record WrongTurnings : Type 0 where
  -- "Emptying members before they are set aside: old members get no invitation." Node 1 has found 2, and its members are 2 and 3.
  pub members_aside : aside (step (first (leader Normal 1 (Waiting 1 (set_of (2 ∷ [])))) []) (Tick 1))
      ≡ accepted (first (record {
        status = Election;
        counter = 2;
        group = group_no 32;
        coordinator = 1;
        task = task_no 100;
        members = none;
        last = call_no 2;
        activity = Inviting none (set_of (2 ∷ 3 ∷ [])) 2;
      }) (calls 1 3 2 (call_no 2) (group_no 32) ∷ [])) Merges
  -- 2, which was found, is invited, then 3 and 2, which were set aside; none of them answers, and then node 1 collects
  pub members_invited : counts_aside (run_from (first (leader Normal 1 (Waiting 1 (set_of (2 ∷ [])))) []) (Tick 1 ∷ Expire 1 ∷ Expire 1 ∷ Expire 1 ∷ []))
      ≡ first (record {
        status = Election;
        counter = 2;
        group = group_no 32;
        coordinator = 1;
        task = task_no 100;
        members = none;
        last = call_no 4;
        activity = Collecting;
      }) (calls 1 3 2 (call_no 2) (group_no 32) ∷ calls 1 3 3 (call_no 3) (group_no 32) ∷ calls 1 3 2 (call_no 4) (group_no 32) ∷ [])
  -- "Taking the task with the invitation: one group, two tasks." Node 2 has finished with task 100. Node 1, which it invited, has its solo task until Ready comes.
  pub task_waits : printed_fields (run 2 tower (collecting ++ (Finish 2 (task_no 100) ∷ []))) 1 ≡ 1 ∷ 2 ∷ 2 ∷ 33 ∷ 1 ∷ 1 ∷ 0 ∷ []
  -- the task comes with the Ready of its group, in Reorganization
  pub task_comes : counts_aside (after (beside (follower Reorganization 32 100 none 2 Idle) (ready 32 200)) (Deliver 1 2)) ≡ beside (follower Normal 32 200 none 2 Idle) plain
  pub task_of_other : counts_aside (after (beside (follower Reorganization 32 100 none 2 Idle) (ready 16 200)) (Deliver 1 2)) ≡ beside (follower Reorganization 32 100 none 2 Idle) plain
  pub task_too_soon : counts_aside (after (beside (follower Election 32 100 none 2 Idle) (ready 32 200)) (Deliver 1 2)) ≡ beside (follower Election 32 100 none 2 Idle) plain
  -- "Sending Ready on after a recovery, under the new group." Node 1 hands Ready to 3, and 2 is still to come. An answer: 2 is next.
  pub ready_on : counts_aside (after (first (leader Reorganization 1 (Handing (set_of (2 ∷ [])) 3)) (replies 3 1 (call_no 1) true ∷ [])) (Deliver 3 1))
      ≡ first (leader Reorganization 2 (Handing none 2)) (readies 1 2 (call_no 2) (group_no 16) (task_no 100) ∷ [])
  -- no answer: it recovers, and sends nothing
  pub ready_no_more : aside (step (first (leader Reorganization 1 (Handing (set_of (2 ∷ [])) 3)) []) (Expire 1))
      ≡ accepted (first (record {
        status = Normal;
        counter = 2;
        group = group_no 32;
        coordinator = 1;
        task = task_no 1;
        members = none;
        last = call_no 1;
        activity = Idle;
      }) []) Recovers

-- ── tables of the cases that follow ──

-- a node with, in 01's order, the status s, counter k, group g, coordinator o, task t, members m, last call number l and activity a
abbrev pub node : Status → ℕ → ℕ → ℕ → ℕ → ℕ → ℕ → Activity → Node
node s k g o t m l a = record {
  status = s;
  counter = k;
  group = group_no g;
  coordinator = o;
  task = task_no t;
  members = m;
  last = call_no l;
  activity = a;
}

-- with the counter 1
abbrev pub filled : Status → ℕ → ℕ → ℕ → ℕ → ℕ → Activity → Node
filled s g o t m l a = node s 1 g o t m l a

-- T-10: n nodes in a table with the limits l: node 1 collects for its group 16, with the members m and the last call number k, the others are as at the start, and the messages q wait
abbrev pub gathered_in : Limits → ℕ → ℕ → ℕ → List Message → State
gathered_in l n m k q = all_waiting n l (filled Election 16 1 1 m k Collecting ∷ replicate (n - 1) starting_node) q

-- the same in the tower, with these members, four calls made and no message waiting
abbrev pub gathered : ℕ → List ℕ → State
gathered n is = gathered_in tower n (set_of is) 4 []

-- three nodes
abbrev pub three : Node → Node → Node → List Message → State
three a b c q = all_waiting 3 tower (a ∷ b ∷ c ∷ []) q

-- four nodes: node 2 is c, and the others are as at the start
abbrev pub second : Node → List Message → State
second c q = all_waiting 4 tower (starting_node ∷ c ∷ starting_node ∷ starting_node ∷ []) q

-- and node 4 is c
abbrev pub fourth : Node → List Message → State
fourth c q = all_waiting 4 tower (starting_node ∷ starting_node ∷ starting_node ∷ c ∷ []) q

-- node 2 as the coordinator of its group 17, with the task 100, the members m and the last call number k
abbrev pub middle : Status → ℕ → ℕ → Activity → Node
middle s m k a = filled s 17 2 100 m k a

-- node 2 of three asks node j in its fourth call, with the set found
abbrev pub asker : ℕ → ℕ → List Message → State
asker j found q = three starting_node (filled Normal 17 2 2 none 4 (Asking j found)) starting_node q

-- node 1 of three merged into group 32 and waits for the answer to its seventh call; nodes 2 and 3 are b and c
abbrev pub merging : Node → Node → List Message → State
merging b c q =
    three (record {
      status = Election;
      counter = 2;
      group = group_no 32;
      coordinator = 1;
      task = task_no 1;
      members = none;
      last = call_no 7;
      activity = Inviting none none 3;
    }) b c q

-- node 3 in its group 18, with node 2 as its member, and what it becomes when node 1 invites it
abbrev pub former_coordinator : Node
former_coordinator = filled Normal 18 3 100 (set_of (2 ∷ [])) 4 Idle

abbrev pub forwarder : Node
forwarder = filled Election 32 1 100 (set_of (2 ∷ [])) 5 (Forwarding none 2 1 (call_no 7))

-- `ending_in` in the tower
abbrev pub ending : ℕ → ℕ → List Message → State
ending k l q = ending_in tower k l q

-- ── messages of the further cases: node 1's third call, to node 2, and the reply no to it; two of the same pair with another between them ──

abbrev pub question : List Message
question = asks 1 2 (call_no 3) ∷ []

abbrev pub there : ℕ → List Message
there g = calls 1 2 2 (call_no 3) (group_no g) ∷ []

abbrev pub denial : List Message
denial = replies 2 1 (call_no 3) false ∷ []

abbrev pub two_of_pair : List Message
two_of_pair = asks 1 2 (call_no 2) ∷ asks 2 1 (call_no 1) ∷ asks 1 2 (call_no 3) ∷ []

-- ── further cases: rules of 01, and of 02's T-02, that the named cases leave open, and the fields of messages ──

pub record FurtherCases : Type 0 where
  -- "let p be the highest found": of 1 and 3, so that node 2 waits one tick
  pub highest_found : aside (step (asker 3 (set_of (1 ∷ [])) (replies 3 2 (call_no 4) true ∷ [])) (Deliver 3 2))
      ≡ accepted (three starting_node (filled Normal 17 2 2 none 4 (Waiting 1 (set_of (1 ∷ 3 ∷ [])))) starting_node []) Plain
  -- "in turn": node 2 leaves itself out
  pub asks_others : aside (step (asker 1 none (replies 1 2 (call_no 4) false ∷ [])) (Deliver 1 2))
      ≡ accepted (three starting_node (filled Normal 17 2 2 none 5 (Asking 3 none)) starting_node (asks 2 3 (call_no 5) ∷ [])) Plain
  -- "if a call is open with this number": a newer number is dropped too
  pub reply_newer : aside (step (pair Normal (set_of (1 ∷ [])) (Asking 1 none) (reply 3 true)) (Deliver 1 2)) ≡ accepted (pair Normal (set_of (1 ∷ [])) (Asking 1 none) []) Plain
  -- "Matching a reply by its sender instead of its call number": by the number it goes on, whoever sent it, and "asking adds the cabinet asked"
  pub reply_other : aside (step (asker 3 none (replies 1 2 (call_no 4) true ∷ [])) (Deliver 1 2))
      ≡ accepted (three starting_node (filled Normal 17 2 2 none 4 (Waiting 1 (set_of (3 ∷ [])))) starting_node []) Plain
  -- "deliver a b: that message is taken out", the oldest from a to b, and the newer one stays
  pub oldest_delivered : aside (step (pair Normal none Idle two_of_pair) (Deliver 1 2))
      ≡ accepted (pair Normal none Idle (asks 2 1 (call_no 1) ∷ asks 1 2 (call_no 3) ∷ replies 2 1 (call_no 2) true ∷ [])) Plain
  -- "lose a b: the oldest message from a to b vanishes"
  pub oldest_lost : aside (step (pair Normal none Idle two_of_pair) (Lose 1 2)) ≡ accepted (pair Normal none Idle (asks 2 1 (call_no 1) ∷ asks 1 2 (call_no 3) ∷ [])) Plain
  -- lose: also where the receiver is Down
  pub lost_down : aside (step (pair Down none Idle question) (Lose 1 2)) ≡ accepted (pair Down none Idle []) Plain
  -- deliver: also where the sender is Down
  pub delivered_from_down : aside (step (pair Down none Idle (queued 1)) (Deliver 2 1)) ≡ accepted (pair Down none Idle (replies 1 2 (call_no 1) true ∷ [])) Plain
  -- "timeout i: if its own coordinator, nothing changes. Else it calls AreYouThere on its coordinator, with its group.", whatever its status
  pub timeout_own : aside (step (pair Normal (set_of (1 ∷ [])) Idle []) (Timeout 2)) ≡ accepted (pair Normal (set_of (1 ∷ [])) Idle []) Plain
  pub timeout_own_reorganizing : aside (step (pair Reorganization (set_of (1 ∷ [])) Idle []) (Timeout 2)) ≡ accepted (pair Reorganization (set_of (1 ∷ [])) Idle []) Plain
  pub timeout_led : aside (step (beside (follower Normal 32 100 none 2 Idle) []) (Timeout 2))
      ≡ accepted (beside (follower Normal 32 100 none 3 Contacting) (calls 2 2 1 (call_no 3) (group_no 32) ∷ [])) Plain
  pub timeout_reorganizing : aside (step (beside (follower Reorganization 32 100 none 2 Idle) []) (Timeout 2))
      ≡ accepted (beside (follower Reorganization 32 100 none 3 Contacting) (calls 2 2 1 (call_no 3) (group_no 32) ∷ [])) Plain
  -- "contacting is idle on yes and recovers on no"; expire: it recovers
  pub contact_yes : aside (step (beside (follower Normal 32 100 none 2 Contacting) (reply 2 true)) (Deliver 1 2)) ≡ accepted (beside (follower Normal 32 100 none 2 Idle) []) Plain
  pub contact_no : aside (step (beside (follower Normal 32 100 none 2 Contacting) (reply 2 false)) (Deliver 1 2)) ≡ accepted (beside alone []) Recovers
  pub contact_expires : aside (step (beside (follower Normal 32 100 none 2 Contacting) []) (Expire 2)) ≡ accepted (beside alone []) Recovers
  -- "1: reply yes exactly when Normal and its own coordinator": no by one in Election, and by one that another leads
  pub coordinator_yes : aside (step (pair Normal none Idle question) (Deliver 1 2)) ≡ accepted (pair Normal none Idle plain) Plain
  pub coordinator_election : aside (step (pair Election none Collecting question) (Deliver 1 2)) ≡ accepted (pair Election none Collecting denial) Plain
  pub coordinator_led : aside (step (beside (follower Normal 32 100 none 2 Idle) question) (Deliver 1 2)) ≡ accepted (beside (follower Normal 32 100 none 2 Idle) denial) Plain
  -- "2: yes exactly when the group is equal, it is its own coordinator and the sender is a member", whatever its status
  pub there_yes : aside (step (pair Normal (set_of (1 ∷ [])) Idle (there 33)) (Deliver 1 2)) ≡ accepted (pair Normal (set_of (1 ∷ [])) Idle plain) Plain
  pub there_reorganizing : aside (step (pair Reorganization (set_of (1 ∷ [])) Idle (there 33)) (Deliver 1 2)) ≡ accepted (pair Reorganization (set_of (1 ∷ [])) Idle plain) Plain
  pub there_group : aside (step (pair Normal (set_of (1 ∷ [])) Idle (there 17)) (Deliver 1 2)) ≡ accepted (pair Normal (set_of (1 ∷ [])) Idle denial) Plain
  pub there_led : aside (step (beside (follower Normal 32 100 (set_of (1 ∷ [])) 2 Idle) (there 32)) (Deliver 1 2))
      ≡ accepted (beside (follower Normal 32 100 (set_of (1 ∷ [])) 2 Idle) denial) Plain
  pub there_no_member : aside (step (pair Normal none Idle (there 33)) (Deliver 1 2)) ≡ accepted (pair Normal none Idle denial) Plain
  -- "3: .. it forwards the invitation to each member": node 3, which leads node 2, is invited by node 1
  pub invited_forwards : aside (step (merging (filled Normal 18 3 100 none 9 Idle) former_coordinator (calls 1 3 3 (call_no 7) (group_no 32) ∷ [])) (Deliver 1 3))
      ≡ accepted (merging (filled Normal 18 3 100 none 9 Idle) forwarder (calls 3 3 2 (call_no 5) (group_no 32) ∷ [])) Plain
  -- "the new group and its owner as coordinator": node 2's caller is 3 and its coordinator is 1; "then it calls Accept on the new coordinator"
  pub invited_accepts : aside (step (merging (filled Normal 18 3 100 none 9 Idle) forwarder (calls 3 3 2 (call_no 5) (group_no 32) ∷ [])) (Deliver 3 2))
      ≡ accepted (merging (filled Election 32 1 100 none 10 (Accepting 3 (call_no 5))) forwarder (calls 2 4 1 (call_no 10) (group_no 32) ∷ [])) Plain
  -- "its activity stops": node 2 asks, or waits for its last tick, when node 1 invites it; it forwards the invitation to its member
  pub invited_asking : aside (step (beside (node Normal 2 33 2 100 (set_of (1 ∷ [])) 6 (Asking 1 none)) (invitation 16)) (Deliver 1 2))
      ≡ accepted (beside (node Election 2 16 1 100 (set_of (1 ∷ [])) 7 (Forwarding none 1 1 (call_no 3))) (calls 2 3 1 (call_no 7) (group_no 16) ∷ [])) Plain
  pub invited_waiting : aside (step (beside (node Normal 2 33 2 100 (set_of (1 ∷ [])) 6 (Waiting 1 (set_of (1 ∷ [])))) (invitation 16)) (Deliver 1 2))
      ≡ accepted (beside (node Election 2 16 1 100 (set_of (1 ∷ [])) 7 (Forwarding none 1 1 (call_no 3))) (calls 2 3 1 (call_no 7) (group_no 16) ∷ [])) Plain
  -- "accepting turns to Reorganization, replies to its caller and is idle": with the number of the caller's call
  pub accepted_replies : aside (step (merging (filled Election 32 1 100 none 10 (Accepting 3 (call_no 5))) forwarder (replies 1 2 (call_no 10) true ∷ [])) (Deliver 1 2))
      ≡ accepted (merging (filled Reorganization 32 1 100 none 10 Idle) forwarder (replies 2 3 (call_no 5) true ∷ [])) Plain
  -- the reply lets node 3 go on: it has forwarded to each member, and accepts in its turn
  pub forwarded_accepts : aside (step (merging (filled Reorganization 32 1 100 none 10 Idle) forwarder (replies 2 3 (call_no 5) true ∷ [])) (Deliver 2 3))
      ≡ accepted (merging (filled Reorganization 32 1 100 none 10 Idle) (filled Election 32 1 100 (set_of (2 ∷ [])) 6 (Accepting 1 (call_no 7)))
      (calls 3 4 1 (call_no 6) (group_no 32) ∷ [])) Plain
  -- expire, accepting: "it recovers ..; an invitation's caller then gets no reply"
  pub accepting_expires : aside (step (beside (follower Election 32 100 (set_of (1 ∷ [])) 2 (Accepting 1 (call_no 3))) []) (Expire 2)) ≡ accepted (beside alone []) Recovers
  -- 02, T-02: "Whoever picks the next cabinet from a set shall now pick the highest, in inviting": node 2 has found 1, 3 and 4 and sets 1 and 4 aside, "one in both
  -- is invited twice"; then it collects
  pub invites_highest : counts_aside (run_from (second (middle Normal (set_of (1 ∷ 4 ∷ [])) 4 (Waiting 1 (set_of (1 ∷ 3 ∷ 4 ∷ [])))) [])
      (Tick 2 ∷ Expire 2 ∷ Expire 2 ∷ Expire 2 ∷ Expire 2 ∷ Expire 2 ∷ []))
      ≡ second (record {
        status = Election;
        counter = 2;
        group = group_no 33;
        coordinator = 2;
        task = task_no 100;
        members = none;
        last = call_no 9;
        activity = Collecting;
      })
      (calls 2 3 4 (call_no 5) (group_no 33)
      ∷ calls 2 3 3 (call_no 6) (group_no 33)
      ∷ calls 2 3 1 (call_no 7) (group_no 33)
      ∷ calls 2 3 4 (call_no 8) (group_no 33)
      ∷ calls 2 3 1 (call_no 9) (group_no 33)
      ∷ [])
  -- an answer lets it go on with those found, and leaves those set aside: 3 has answered, and joined before that
  pub invites_on : aside (step (first (filled Election 16 1 1 (set_of (3 ∷ [])) 4 (Inviting (set_of (2 ∷ [])) (set_of (2 ∷ 3 ∷ [])) 3)) (replies 3 1 (call_no 4) true ∷ [])) (Deliver 3 1))
      ≡ accepted (first (filled Election 16 1 1 (set_of (3 ∷ [])) 5 (Inviting none (set_of (2 ∷ 3 ∷ [])) 2)) (calls 1 3 2 (call_no 5) (group_no 16) ∷ [])) Plain
  -- "forwarding": node 2, invited by 3 into a group of node 1, forwards to 4, 3 and 1, its members, and then accepts
  pub forwards_each : counts_aside (run_from (second (middle Normal (set_of (1 ∷ 3 ∷ 4 ∷ [])) 4 Idle) (calls 3 3 2 (call_no 8) (group_no 32) ∷ [])) (Deliver 3 2 ∷ Expire 2 ∷ Expire 2 ∷ Expire 2 ∷ []))
      ≡ second (filled Election 32 1 100 (set_of (1 ∷ 3 ∷ 4 ∷ [])) 8 (Accepting 3 (call_no 8)))
      (calls 2 3 4 (call_no 5) (group_no 32)
      ∷ calls 2 3 3 (call_no 6) (group_no 32)
      ∷ calls 2 3 1 (call_no 7) (group_no 32)
      ∷ calls 2 4 1 (call_no 8) (group_no 32)
      ∷ [])
  -- node 1 forwards to 3, then to 2
  pub forwards_highest : aside (step (first (leader Normal 1 Idle) (calls 2 3 1 (call_no 8) (group_no 33) ∷ [])) (Deliver 2 1))
      ≡ accepted (first (filled Election 33 2 100 (set_of (2 ∷ 3 ∷ [])) 2 (Forwarding (set_of (2 ∷ [])) 3 2 (call_no 8))) (calls 1 3 3 (call_no 2) (group_no 33) ∷ [])) Plain
  -- the answer, and expire, forwarding: "on to the next", and after the last it accepts
  pub forwards_on : aside (step (first (filled Election 33 2 100 (set_of (2 ∷ 3 ∷ [])) 2 (Forwarding (set_of (2 ∷ [])) 3 2 (call_no 8))) (replies 3 1 (call_no 2) true ∷ [])) (Deliver 3 1))
      ≡ accepted (first (filled Election 33 2 100 (set_of (2 ∷ 3 ∷ [])) 3 (Forwarding none 2 2 (call_no 8))) (calls 1 3 2 (call_no 3) (group_no 33) ∷ [])) Plain
  pub forwarding_expires : aside (step (first (filled Election 33 2 100 (set_of (2 ∷ 3 ∷ [])) 2 (Forwarding (set_of (2 ∷ [])) 3 2 (call_no 8))) []) (Expire 1))
      ≡ accepted (first (filled Election 33 2 100 (set_of (2 ∷ 3 ∷ [])) 3 (Forwarding none 2 2 (call_no 8))) (calls 1 3 2 (call_no 3) (group_no 33) ∷ [])) Plain
  pub forwarding_ends : aside (step (first (filled Election 33 2 100 (set_of (2 ∷ 3 ∷ [])) 3 (Forwarding none 2 2 (call_no 8))) []) (Expire 1))
      ≡ accepted (first (filled Election 33 2 100 (set_of (2 ∷ 3 ∷ [])) 4 (Accepting 2 (call_no 8))) (calls 1 4 2 (call_no 4) (group_no 33) ∷ [])) Plain
  -- "and handing": "It hands Ready to each member", of node 2 to 4, then to 3, which says no, and to 1
  pub hands_each : counts_aside (run_from (second (middle Election (set_of (1 ∷ 3 ∷ 4 ∷ [])) 4 Collecting) (replies 4 2 (call_no 5) true ∷ replies 3 2 (call_no 6) false ∷ [])) (Finish 2 (task_no 100) ∷ Deliver 4 2 ∷ Deliver 3 2 ∷ []))
      ≡ second (middle Reorganization (set_of (1 ∷ 3 ∷ 4 ∷ [])) 7 (Handing none 1))
      (readies 2 4 (call_no 5) (group_no 17) (task_no 100) ∷ readies 2 3 (call_no 6) (group_no 17) (task_no 100) ∷ readies 2 1 (call_no 7) (group_no 17) (task_no 100) ∷ [])
  -- of node 1 to 3 first (from such a table then to 2: WrongTurnings.ready_on); "after the last .. Normal and idle"
  pub hands_highest : aside (step (first (leader Election 1 Collecting) []) (Finish 1 (task_no 200)))
      ≡ accepted (first (filled Reorganization 16 1 200 (set_of (2 ∷ 3 ∷ [])) 2 (Handing (set_of (2 ∷ [])) 3)) (readies 1 3 (call_no 2) (group_no 16) (task_no 200) ∷ [])) Plain
  pub hands_last : aside (step (first (leader Reorganization 2 (Handing none 2)) (replies 2 1 (call_no 2) true ∷ [])) (Deliver 2 1)) ≡ accepted (first (leader Normal 2 Idle) []) Plain
  -- "Asking still goes from 1 up": node 4, with the member 2, asks 1, which says yes, 2, which does not answer, and 3, which says no; so it has found 1
  pub asks_up : counts_aside (run_from (fourth (filled Normal 19 4 4 (set_of (2 ∷ [])) 3 Idle) (replies 1 4 (call_no 4) true ∷ replies 3 4 (call_no 6) false ∷ []))
      (Check 4 ∷ Deliver 1 4 ∷ Expire 4 ∷ Deliver 3 4 ∷ []))
      ≡ fourth (record {
        status = Election;
        counter = 2;
        group = group_no 35;
        coordinator = 4;
        task = task_no 4;
        members = none;
        last = call_no 7;
        activity = Inviting none (set_of (2 ∷ [])) 1;
      })
      (asks 4 1 (call_no 4) ∷ asks 4 2 (call_no 5) ∷ asks 4 3 (call_no 6) ∷ calls 4 3 1 (call_no 7) (group_no 35) ∷ [])
  -- "tick i: one tick less": those found are kept
  pub ticks_keep : aside (step (first (leader Normal 1 (Waiting 2 (set_of (2 ∷ 3 ∷ [])))) []) (Tick 1)) ≡ accepted (first (leader Normal 1 (Waiting 1 (set_of (2 ∷ 3 ∷ [])))) []) Plain
  -- "it goes on": inviting, handing, forwarding and accepting do so by a no too
  pub invite_no : aside (step (first (filled Election 16 1 1 none 4 (Inviting none (set_of (2 ∷ [])) 3)) (replies 3 1 (call_no 4) false ∷ [])) (Deliver 3 1))
      ≡ accepted (first (filled Election 16 1 1 none 5 (Inviting none none 2)) (calls 1 3 2 (call_no 5) (group_no 16) ∷ [])) Plain
  pub hand_no : aside (step (first (leader Reorganization 2 (Handing none 2)) (replies 2 1 (call_no 2) false ∷ [])) (Deliver 2 1)) ≡ accepted (first (leader Normal 2 Idle) []) Plain
  pub forward_no : aside (step (first (filled Election 33 2 100 (set_of (2 ∷ 3 ∷ [])) 3 (Forwarding none 2 2 (call_no 8))) (replies 2 1 (call_no 3) false ∷ [])) (Deliver 2 1))
      ≡ accepted (first (filled Election 33 2 100 (set_of (2 ∷ 3 ∷ [])) 4 (Accepting 2 (call_no 8))) (calls 1 4 2 (call_no 4) (group_no 33) ∷ [])) Plain
  pub accept_no : aside (step (merging (filled Election 32 1 100 none 10 (Accepting 3 (call_no 5))) forwarder (replies 1 2 (call_no 10) false ∷ [])) (Deliver 1 2))
      ≡ accepted (merging (filled Reorganization 32 1 100 none 10 Idle) forwarder (replies 2 3 (call_no 5) true ∷ [])) Plain
  -- "5: if in Reorganization ..": a Normal node only replies; the activity is kept
  pub ready_normal : aside (step (beside (follower Normal 32 100 none 2 Idle) (ready 32 200)) (Deliver 1 2)) ≡ accepted (beside (follower Normal 32 100 none 2 Idle) plain) Plain
  pub ready_busy : aside (step (beside (follower Reorganization 32 100 none 2 Contacting) (ready 32 200)) (Deliver 1 2))
      ≡ accepted (beside (follower Normal 32 200 none 2 Contacting) plain) Plain
  -- the messages, field by field: "1 AreYouCoordinator; 2 AreYouThere (group); 3 Invitation (group); 4 Accept (group); 5 Ready (group, task); 6 reply (yes or no ..)"
  pub fields_asks : asks 1 2 (call_no 3)
      ≡ record { sender = 1; receiver = 2; kind = 1; call = call_no 3; group = group_no 0; task = task_no 0; yes = false }
  pub fields_calls : calls 1 4 2 (call_no 3) (group_no 33)
      ≡ record { sender = 1; receiver = 2; kind = 4; call = call_no 3; group = group_no 33; task = task_no 0; yes = false }
  pub fields_readies : readies 1 2 (call_no 3) (group_no 33) (task_no 100)
      ≡ record { sender = 1; receiver = 2; kind = 5; call = call_no 3; group = group_no 33; task = task_no 100; yes = false }
  pub fields_replies : replies 1 2 (call_no 3) true
      ≡ record { sender = 1; receiver = 2; kind = 6; call = call_no 3; group = group_no 0; task = task_no 0; yes = true }
  -- 1 "not in range", before 7: a coordinator that does not own the group; a message of group 0; 65 waiting; no node
  pub range_node : step (beside (follower Normal 33 100 none 2 Idle) []) (Crash 9) ≡ refused 1
  pub range_message : step (pair Normal none Idle (invitation 0)) (Crash 9) ≡ refused 1
  pub range_queue : step (pair Normal none Idle (queued 65)) (Crash 9) ≡ refused 1
  pub range_count : step (start 0 tower) (Crash 9) ≡ refused 1
  pub range_kept : step (pair Normal none Idle (queued 64)) (Crash 9) ≡ refused 7
  -- 7 "cabinet outside 1 to n, or sender equals receiver"
  pub number_none : step (pair Normal none Idle []) (Crash 0) ≡ refused 7
  pub number_same : step (pair Normal none Idle []) (Deliver 2 2) ≡ refused 7
  pub number_same_lost : step (pair Normal none Idle []) (Lose 2 2) ≡ refused 7
  pub number_sender : step (pair Normal none Idle []) (Deliver 3 2) ≡ refused 7
  pub number_receiver : step (pair Normal none Idle []) (Lose 2 3) ≡ refused 7
  -- 9 "all others but lose: cabinet (for deliver, the receiver) Down", before 10 and 11
  pub down_crash : step (start 2 tower) (Crash 1) ≡ refused 9
  pub down_check : step (start 2 tower) (Check 1) ≡ refused 9
  pub down_timeout : step (start 2 tower) (Timeout 1) ≡ refused 9
  pub down_tick : step (start 2 tower) (Tick 1) ≡ refused 9
  pub down_expire : step (start 2 tower) (Expire 1) ≡ refused 9
  pub down_deliver : step (pair Down none Idle question) (Deliver 1 2) ≡ refused 9
  pub down_none_waits : step (pair Down none Idle []) (Deliver 1 2) ≡ refused 9
  -- 10 "check, timeout: not idle; tick: not waiting; expire: no open call"
  pub activity_check : step (pair Normal none (Waiting 1 (set_of (1 ∷ []))) []) (Check 2) ≡ refused 10
  pub activity_timeout : step (beside (follower Normal 32 100 none 2 Contacting) []) (Timeout 2) ≡ refused 10
  pub activity_tick : step (pair Normal none (Asking 1 none) []) (Tick 2) ≡ refused 10
  pub activity_expire : step (pair Normal none (Waiting 1 (set_of (1 ∷ []))) []) (Expire 2) ≡ refused 10
  pub activity_collecting : step (pair Election none Collecting []) (Expire 2) ≡ refused 10
  pub activity_idle : step (pair Normal none Idle []) (Expire 2) ≡ refused 10
  -- 11 "deliver, lose: no message from a to b": the one that waits goes the other way
  pub none_to_deliver : step (pair Normal none Idle plain) (Deliver 1 2) ≡ refused 11
  pub none_to_lose : step (pair Normal none Idle plain) (Lose 1 2) ≡ refused 11
  -- 13 "a call is needed, last call number 16,777,215": one less passes, and a reply needs no call
  pub calls_end : step (beside (filled Normal 17 2 2 none 16777215 Idle) []) (Check 2) ≡ refused 13
  pub calls_last : aside (step (beside (filled Normal 17 2 2 none 16777214 Idle) []) (Check 2))
      ≡ accepted (beside (filled Normal 17 2 2 none 16777215 (Asking 1 none)) (asks 2 1 (call_no 16777215) ∷ [])) Plain
  pub calls_reply : aside (step (beside (filled Normal 17 2 2 none 16777215 Idle) question) (Deliver 1 2)) ≡ accepted (beside (filled Normal 17 2 2 none 16777215 Idle) plain) Plain
  -- the merge at the last tick needs a group, a call and a message: 12 before 13 before 14
  pub ends_twelve : step (ending 1048575 16777215 (queued 64)) (Tick 2) ≡ refused 12
  pub ends_thirteen : step (ending 1048574 16777215 (queued 64)) (Tick 2) ≡ refused 13
  pub ends_fourteen : step (ending 1048574 16777214 (queued 64)) (Tick 2) ≡ refused 14
  pub ends_pass : aside (step (ending 1048574 16777214 (queued 63)) (Tick 2))
      ≡ accepted (beside (record {
        status = Election;
        counter = 1048575;
        group = group_no 16777201;
        coordinator = 2;
        task = task_no 2;
        members = none;
        last = call_no 16777215;
        activity = Inviting none none 1;
      }) (queued 63 ++ (calls 2 3 1 (call_no 16777215) (group_no 16777201) ∷ []))) Merges

-- ── 02, T-03: "An invitation that arrives twice." The events of its story, with the table that each part of them leads to, T-05's counts aside ──

-- nodes 1 and 2 recover, and 2 takes 1 into its group 33, with task 250; its question to 3, which is Down, is lost
abbrev pub joins_former : List Event
joins_former =
    Recover 1
    ∷ Recover 2
    ∷ Check 2
    ∷ Deliver 2 1
    ∷ Deliver 1 2
    ∷ Expire 2
    ∷ Deliver 2 1
    ∷ Deliver 1 2
    ∷ Deliver 2 1
    ∷ Deliver 1 2
    ∷ Finish 2 (task_no 250)
    ∷ Deliver 2 1
    ∷ Deliver 1 2
    ∷ Lose 2 3
    ∷ []

abbrev pub in_former_group : State
in_former_group = three (node Normal 1 33 2 250 none 1 Idle) (node Normal 2 33 2 250 (set_of (1 ∷ [])) 4 Idle) starting_node []

-- node 1 crashes, and recovers into a group of its own; 3 recovers, asks 1 and 2, which say yes, and merges: it invites 2
abbrev pub new_merges : List Event
new_merges = Crash 1 ∷ Recover 1 ∷ Recover 3 ∷ Check 3 ∷ Deliver 3 1 ∷ Deliver 1 3 ∷ Deliver 3 2 ∷ Deliver 2 3 ∷ []

abbrev pub after_merge : State
after_merge =
    three (node Normal 2 32 1 1 none 1 Idle) (node Normal 2 33 2 250 (set_of (1 ∷ [])) 4 Idle) (node Election 2 34 3 3 none 3 (Inviting (set_of (1 ∷ [])) none 2))
    (calls 3 3 2 (call_no 3) (group_no 34) ∷ [])

-- 2 forwards the invitation to 1, which it still has as a member, and gives up waiting for the answer; it accepts, and 3 invites 1
abbrev pub both_invite : List Event
both_invite = Deliver 3 2 ∷ Expire 2 ∷ Deliver 2 3 ∷ Deliver 3 2 ∷ Deliver 2 3 ∷ []

abbrev pub invited_by_both : State
invited_by_both =
    three (node Normal 2 32 1 1 none 1 Idle) (node Reorganization 2 34 3 250 (set_of (1 ∷ [])) 6 Idle) (node Election 2 34 3 3 (set_of (2 ∷ [])) 4 (Inviting none none 1))
    (calls 2 3 1 (call_no 5) (group_no 34) ∷ calls 3 3 1 (call_no 4) (group_no 34) ∷ [])

-- 1 gets the invitation of 3 and accepts, and 3 hands task 300 to both
abbrev pub joins_new : List Event
joins_new =
    Deliver 3 1
    ∷ Deliver 1 3
    ∷ Deliver 3 1
    ∷ Deliver 1 3
    ∷ Finish 3 (task_no 300)
    ∷ Deliver 3 2
    ∷ Deliver 2 3
    ∷ Deliver 3 1
    ∷ Deliver 1 3
    ∷ []

-- with the messages q: all three are Normal in the group 34 of node 3
abbrev pub in_new_group : List Message → State
in_new_group q =
    three (node Normal 2 34 3 300 none 2 Idle) (node Normal 2 34 3 300 (set_of (1 ∷ [])) 6 Idle) (node Normal 2 34 3 300 (set_of (1 ∷ 2 ∷ [])) 6 Idle) q

-- the four parts in a row: node 1 has had the invitation once, and the one that 2 forwarded is still to come
abbrev pub invited_once : List Event
invited_once = joins_former ++ (new_merges ++ (both_invite ++ joins_new))

pub record InvitedTwice : Type 0 where
  -- "its former coordinator"
  pub former : counts_aside (run 3 tower joins_former) ≡ in_former_group
  -- "a new coordinator"
  pub merges : counts_aside (run 3 tower (joins_former ++ new_merges)) ≡ after_merge
  -- "A cabinet was invited by a new coordinator, and the same invitation was also forwarded to it by its former coordinator."
  pub both : counts_aside (run 3 tower (joins_former ++ (new_merges ++ both_invite))) ≡ invited_by_both
  -- "The forwarded one was slow. It came when the cabinet was Normal in the new group": it alone still waits
  pub normal : counts_aside (run 3 tower invited_once) ≡ in_new_group (calls 2 3 1 (call_no 5) (group_no 34) ∷ [])
  -- "an invitation to the group a cabinet already holds gets a plain reply and changes nothing else": before and after it only the messages differ
  pub only_messages : counts_aside (run 3 tower (invited_once ++ (Deliver 2 1 ∷ []))) ≡ in_new_group (replies 1 2 (call_no 5) true ∷ [])
  -- node 2 no longer waits for the reply, and drops it
  pub reply_dropped : counts_aside (run 3 tower (invited_once ++ (Deliver 2 1 ∷ Deliver 1 2 ∷ []))) ≡ in_new_group []

-- "an invitation to the group a cabinet already holds", and to another: node 2 is in group 32, which node 1 owns, and node 1 invites it
pub record HeldGroupCases : Type 0 where
  -- Normal: activity, members and all else of the record are kept
  pub normal : aside (step (beside (follower Normal 32 100 (set_of (1 ∷ [])) 2 Contacting) (invitation 32)) (Deliver 1 2))
      ≡ accepted (beside (follower Normal 32 100 (set_of (1 ∷ [])) 2 Contacting) plain) Plain
  -- in Reorganization and in Election, where 01 alone has a plain reply
  pub reorganizing : aside (step (beside (follower Reorganization 32 100 none 2 Contacting) (invitation 32)) (Deliver 1 2))
      ≡ accepted (beside (follower Reorganization 32 100 none 2 Contacting) plain) Plain
  pub election : aside (step (beside (follower Election 32 100 none 2 (Accepting 1 (call_no 2))) (invitation 32)) (Deliver 1 2))
      ≡ accepted (beside (follower Election 32 100 none 2 (Accepting 1 (call_no 2))) plain) Plain
  -- where it owns the group as well, its own group 33: the same
  pub owner : aside (step (pair Normal none Idle (invitation 33)) (Deliver 1 2)) ≡ accepted (pair Normal none Idle plain) Plain
  -- Down: 9
  pub down : step (beside (follower Down 32 100 none 2 Idle) (invitation 32)) (Deliver 1 2) ≡ refused 9
  -- a reply is no call, and the message delivered is out: neither 13 nor 14 is met
  pub no_call_needed : aside (step (beside (follower Normal 32 100 none 16777215 Idle) (invitation 32)) (Deliver 1 2))
      ≡ accepted (beside (follower Normal 32 100 none 16777215 Idle) plain) Plain
  pub queue_full : aside (step (beside (follower Normal 32 100 none 2 Idle) (invitation 32 ++ queued 63)) (Deliver 1 2))
      ≡ accepted (beside (follower Normal 32 100 none 2 Idle) (queued 63 ++ plain)) Plain
  -- to an older or a newer group of the same coordinator: the node goes into Election and calls Accept
  pub older_group : aside (step (beside (follower Normal 32 100 none 5 Contacting) (invitation 16)) (Deliver 1 2))
      ≡ accepted (beside (follower Election 16 100 none 6 (Accepting 1 (call_no 3))) (calls 2 4 1 (call_no 6) (group_no 16) ∷ [])) Plain
  pub newer_group : aside (step (beside (follower Normal 32 100 none 5 Contacting) (invitation 48)) (Deliver 1 2))
      ≡ accepted (beside (follower Election 48 100 none 6 (Accepting 1 (call_no 3))) (calls 2 4 1 (call_no 6) (group_no 48) ∷ [])) Plain
  -- for which it needs a call number
  pub call_needed : step (beside (follower Normal 32 100 none 16777215 Idle) (invitation 16)) (Deliver 1 2) ≡ refused 13

-- ── 02, T-04: the records of a recovery; fields in 01's order ──

-- node 2 as a Down follower of node 1, of three; every assignment of its recovery changes something
abbrev pub down_follower : Node
down_follower = node Down 5 48 1 300 (set_of (1 ∷ 3 ∷ [])) 9 Idle

-- a table with node 2 as c, in which node 3 is as at the start
abbrev pub with_follower : Node → State
with_follower c = all_waiting 3 tower (node Normal 3 48 1 300 (set_of (2 ∷ [])) 4 Idle ∷ c ∷ starting_node ∷ []) (invitation 48)

pub record RecoveryCases : Type 0 where
  -- K2: the first recovery of node 1
  pub k2 : recovery_records 1 (node_at (start 2 tower) 1)
      ≡ node Election 0 0 0 0 none 0 Idle
      ∷ node Election 1 0 0 0 none 0 Idle
      ∷ node Election 1 16 0 0 none 0 Idle
      ∷ node Election 1 16 1 0 none 0 Idle
      ∷ node Election 1 16 1 0 none 0 Idle
      ∷ node Reorganization 1 16 1 0 none 0 Idle
      ∷ node Reorganization 1 16 1 1 none 0 Idle
      ∷ node Normal 1 16 1 1 none 0 Idle
      ∷ []
  -- eight different records; the last call number stays
  pub each : recovery_records 2 down_follower
      ≡ node Election 5 48 1 300 (set_of (1 ∷ 3 ∷ [])) 9 Idle
      ∷ node Election 6 48 1 300 (set_of (1 ∷ 3 ∷ [])) 9 Idle
      ∷ node Election 6 97 1 300 (set_of (1 ∷ 3 ∷ [])) 9 Idle
      ∷ node Election 6 97 2 300 (set_of (1 ∷ 3 ∷ [])) 9 Idle
      ∷ node Election 6 97 2 300 none 9 Idle
      ∷ node Reorganization 6 97 2 300 none 9 Idle
      ∷ node Reorganization 6 97 2 2 none 9 Idle
      ∷ node Normal 6 97 2 2 none 9 Idle
      ∷ []
  -- and recover 2 leaves the last of them, and nothing else changes
  pub left : aside (step (with_follower down_follower) (Recover 2)) ≡ accepted (with_follower (node Normal 6 97 2 2 none 9 Idle)) Recovers
  -- K4: after a crash, the second recovery; K5: the last that the counter allows
  pub k4 : map (λ c. c.group.number) (recovery_records 1 (node_at (run 2 tower (Recover 1 ∷ Crash 1 ∷ [])) 1)) ≡ 16 ∷ 16 ∷ 32 ∷ 32 ∷ 32 ∷ 32 ∷ 32 ∷ 32 ∷ []
  pub k5 : map (λ c. c.group.number) (recovery_records 16 (node_at (counted Down Idle 1048574) 16))
      ≡ 16777199 ∷ 16777199 ∷ 16777215 ∷ 16777215 ∷ 16777215 ∷ 16777215 ∷ 16777215 ∷ 16777215 ∷ []
  -- the grounds in their order, where two apply: 1 before 7, 9 and 12; 7 before 9 and 12 (the number 0 reads the record of node 1); 9 before 12. And where one does: 7 for
  -- the number 0, and above n
  pub range_number : step (beside (follower Normal 33 100 none 2 Idle) []) (Recover 9) ≡ refused 1
  pub range_status : step (beside (follower Normal 33 100 none 2 Idle) []) (Recover 1) ≡ refused 1
  pub range_counter : step (beside (node Down 1048575 0 0 0 none 0 Idle) (invitation 0)) (Recover 2) ≡ refused 1
  pub status_counter : step (counted Normal Idle 1048575) (Recover 16) ≡ refused 9
  pub number_status : step (with_follower down_follower) (Recover 0) ≡ refused 7
  pub number_counter : step (all_waiting 1 tower (node Down 1048575 0 0 0 none 0 Idle ∷ []) []) (Recover 0) ≡ refused 7
  pub number_zero : step (start 2 tower) (Recover 0) ≡ refused 7
  pub number_above : step (start 2 tower) (Recover 3) ≡ refused 7
  -- of the records before the last some are out of range: while the group is new and the coordinator is not, and at the first recovery (K2) while there is no group
  pub between : map (node_in_range 3 2) (recovery_records 2 down_follower) ≡ true ∷ true ∷ false ∷ true ∷ true ∷ true ∷ true ∷ true ∷ []
  pub between_k2 : map (node_in_range 2 1) (recovery_records 1 (node_at (start 2 tower) 1)) ≡ false ∷ false ∷ false ∷ true ∷ true ∷ true ∷ true ∷ true ∷ []
  -- a recovery inside another procedure: contacting stops, and the record after each assignment is that of an idle node
  pub inside : recovery_records 2 (stopped (node Normal 5 48 1 300 (set_of (1 ∷ 3 ∷ [])) 9 Contacting))
      ≡ node Election 5 48 1 300 (set_of (1 ∷ 3 ∷ [])) 9 Idle
      ∷ node Election 6 48 1 300 (set_of (1 ∷ 3 ∷ [])) 9 Idle
      ∷ node Election 6 97 1 300 (set_of (1 ∷ 3 ∷ [])) 9 Idle
      ∷ node Election 6 97 2 300 (set_of (1 ∷ 3 ∷ [])) 9 Idle
      ∷ node Election 6 97 2 300 none 9 Idle
      ∷ node Reorganization 6 97 2 300 none 9 Idle
      ∷ node Reorganization 6 97 2 2 none 9 Idle
      ∷ node Normal 6 97 2 2 none 9 Idle
      ∷ []

-- ── 02, T-05: traffic totals ──

-- the numbers of the list with which f holds
abbrev pub among : (ℕ → Bool) → List ℕ → List ℕ
among f [] = []
among f (x ∷ xs) = pick (f x) (x ∷ among f xs) (among f xs)

-- d messages from 2 to 1 were delivered, and `waiting` more wait; node 2, with the counter k and the last call number l, merges at its last tick and calls 1
abbrev pub ending_after : Limits → ℕ → ℕ → ℕ → ℕ → State
ending_after lim d k l waiting = past 2 1 d 0 (ending_in lim k l (queued waiting))

-- counts of which one, from a to b, is k, and the others are 0
abbrev pub only : ℕ → ℕ → ℕ → List ℕ
only a b k = set no_counts (pair_place a b) k

-- three nodes as at the start, with the messages q and these counts
abbrev pub with_counts : List Message → List ℕ → List ℕ → List ℕ → State
with_counts q sent delivered lost = record { rule = TwoPairs; n = 3; limits = tower; nodes = replicate 3 starting_node; queue = q; sent = sent; delivered = delivered; lost = lost }

-- k messages from 1 to 2
abbrev pub some_wait : ℕ → List Message
some_wait k = replicate k (asks 1 2 (call_no 1))

pub record TrafficCases : Type 0 where
  -- K10's eight messages, by pair: four each way, all delivered
  pub k10_sent : count_at (run 2 tower k10).sent 1 2 ∷ count_at (run 2 tower k10).sent 2 1 ∷ [] ≡ 4 ∷ 4 ∷ []
  pub k10_delivered : count_at (run 2 tower k10).delivered 1 2 ∷ count_at (run 2 tower k10).delivered 2 1 ∷ [] ≡ 4 ∷ 4 ∷ []
  -- "17, a message must be sent and its pair's sent count is 33,554,430"; with one less it is sent, and counted
  pub at_end : step (past 2 1 33554430 0 (pair Normal none Idle [])) (Check 2) ≡ refused 17
  pub below_end : step (past 2 1 33554429 0 (pair Normal none Idle [])) (Check 2)
      ≡ accepted (past 2 1 33554429 0 (beside (node Normal 2 33 2 100 none 3 (Asking 1 none)) (asks 2 1 (call_no 3) ∷ []))) Plain
  -- whether they were delivered, lost or wait
  pub at_end_lost : step (past 2 1 0 33554430 (pair Normal none Idle [])) (Check 2) ≡ refused 17
  pub at_end_waiting : step (past 2 1 33554429 0 (pair Normal none Idle (queued 1))) (Check 2) ≡ refused 17
  -- a reply is a message too
  pub at_end_reply : step (past 2 1 33554430 0 (pair Normal none Idle question)) (Deliver 1 2) ≡ refused 17
  -- the counts of the other pairs do not matter, nor does this one where nothing is sent
  pub other_pair : step (past 1 2 33554430 0 (pair Normal none Idle [])) (Check 2)
      ≡ accepted (past 1 2 33554430 0 (beside (node Normal 2 33 2 100 none 3 (Asking 1 none)) (asks 2 1 (call_no 3) ∷ []))) Plain
  pub nothing_sent : step (past 2 1 33554430 0 (pair Normal none Idle [])) (Crash 2) ≡ accepted (past 2 1 33554430 0 (pair Down none Idle [])) Plain
  pub lose_at_end : step (past 2 1 33554429 0 (pair Down none Idle (queued 1))) (Lose 2 1) ≡ accepted (past 2 1 33554429 1 (pair Down none Idle [])) Plain
  -- nor the count of what is delivered, whose reply goes the other way
  pub deliver_at_end : step (past 2 1 33554429 0 (pair Normal none Idle (queued 1))) (Deliver 2 1)
      ≡ accepted (past 2 1 33554430 0 (pair Normal none Idle (replies 1 2 (call_no 1) true ∷ []))) Plain
  -- a full peal of two of four meets 19 (T-10), and not 17, which another task meets, and a full peal of two of three
  pub half_at_end : step (past 1 2 33554430 0 (gathered 4 (2 ∷ []))) (Finish 1 (task_no 100)) ≡ refused 19
  pub half_at_end_above : step (past 1 2 33554430 0 (gathered 4 (2 ∷ []))) (Finish 1 (task_no 200)) ≡ refused 17
  pub majority_at_end : step (past 1 2 33554430 0 (gathered 3 (2 ∷ []))) (Finish 1 (task_no 100)) ≡ refused 17
  -- a check of a member meets 18 (T-06), and not 17
  pub member_at_end : step (past 2 1 33554430 0 (beside (follower Normal 32 100 none 2 Idle) [])) (Check 2) ≡ refused 18
  -- "after 14": 12 before 13 before 14 before 17
  pub ends_twelve : step (ending_after tower 33554366 1048575 16777215 64) (Tick 2) ≡ refused 12
  pub ends_thirteen : step (ending_after tower 33554366 1048574 16777215 64) (Tick 2) ≡ refused 13
  pub ends_fourteen : step (ending_after tower 33554366 1048574 16777214 64) (Tick 2) ≡ refused 14
  pub ends_seventeen : step (ending_after tower 33554367 1048574 16777214 63) (Tick 2) ≡ refused 17
  -- and of the stand's 12
  pub stand_fourteen : step (ending_after stand 33554418 1048574 16777214 12) (Tick 2) ≡ refused 14
  pub stand_seventeen : step (ending_after stand 33554419 1048574 16777214 11) (Tick 2) ≡ refused 17
  -- a delivery with a reply changes two counts, a loss one, and a refused event none
  pub delivery_counts : after (pair Normal none Idle question) (Deliver 1 2) ≡ past 1 2 1 0 (pair Normal none Idle plain)
  pub loss_counts : after (pair Normal none Idle question) (Lose 1 2) ≡ past 1 2 0 1 (pair Normal none Idle [])
  pub refused_counts : after (pair Down none Idle question) (Deliver 1 2) ≡ pair Down none Idle question
  -- "Sent is delivered plus lost plus those waiting, for each pair. A table is in range only if that holds": 9 sent, 3 delivered, 4 lost and 2 waiting
  pub sum_sent : among (λ x. in_range (with_counts (some_wait 2) (only 1 2 x) (only 1 2 3) (only 1 2 4))) (8 ∷ 9 ∷ 10 ∷ []) ≡ 9 ∷ []
  pub sum_delivered : among (λ x. in_range (with_counts (some_wait 2) (only 1 2 9) (only 1 2 x) (only 1 2 4))) (2 ∷ 3 ∷ 4 ∷ []) ≡ 3 ∷ []
  pub sum_lost : among (λ x. in_range (with_counts (some_wait 2) (only 1 2 9) (only 1 2 3) (only 1 2 x))) (3 ∷ 4 ∷ 5 ∷ []) ≡ 4 ∷ []
  pub sum_waiting : among (λ x. in_range (with_counts (some_wait x) (only 1 2 9) (only 1 2 3) (only 1 2 4))) (1 ∷ 2 ∷ 3 ∷ []) ≡ 2 ∷ []
  -- of every pair: none waits from 2 to 3, nor from 3 to 2
  pub sum_two : among (λ x. in_range (with_counts [] (only 2 3 x) no_counts no_counts)) (0 ∷ 1 ∷ []) ≡ 0 ∷ []
  pub sum_three : among (λ x. in_range (with_counts [] (only 3 2 x) no_counts no_counts)) (0 ∷ 1 ∷ []) ≡ 0 ∷ []
  -- by pair: a message from 1 to 3 counted as one from a to b
  pub sum_sender : among (λ a. in_range (with_counts (asks 1 3 (call_no 1) ∷ []) (only a 3 1) no_counts no_counts)) (1 ∷ 2 ∷ []) ≡ 1 ∷ []
  pub sum_receiver : among (λ b. in_range (with_counts (asks 1 3 (call_no 1) ∷ []) (only 1 b 1) no_counts no_counts)) (2 ∷ 3 ∷ []) ≡ 3 ∷ []
  -- "a count that stands for no pair of its n cabinets is 0": from a to 2, and from 2 to b, among three
  pub pair_sender : among (λ a. in_range (with_counts [] (only a 2 1) (only a 2 1) no_counts)) (1 ∷ 2 ∷ 3 ∷ 4 ∷ 16 ∷ []) ≡ 1 ∷ 3 ∷ []
  pub pair_receiver : among (λ b. in_range (with_counts [] (only 2 b 1) no_counts (only 2 b 1))) (1 ∷ 2 ∷ 3 ∷ 4 ∷ 16 ∷ []) ≡ 1 ∷ 3 ∷ []
  -- in each of the three
  pub pair_sent : in_range (with_counts [] (only 4 5 1) no_counts no_counts) ≡ false
  pub pair_delivered : in_range (with_counts [] no_counts (only 4 5 1) no_counts) ≡ false
  pub pair_lost : in_range (with_counts [] no_counts no_counts (only 4 5 1)) ≡ false
  -- "and no count is above 33,554,430": sent alone, with delivered, with lost
  pub count_sent : among (λ x. in_range (with_counts (some_wait x) (only 1 2 (33554429 + x)) (only 1 2 33554429) no_counts)) (1 ∷ 2 ∷ []) ≡ 1 ∷ []
  pub count_delivered : among (λ x. in_range (with_counts [] (only 1 2 x) (only 1 2 x) no_counts)) (33554430 ∷ 33554431 ∷ []) ≡ 33554430 ∷ []
  pub count_lost : among (λ x. in_range (with_counts [] (only 1 2 x) no_counts (only 1 2 x))) (33554430 ∷ 33554431 ∷ []) ≡ 33554430 ∷ []
  -- "16 rows of 16 counts for each"
  pub places : among (λ x. counts_in_range 3 (replicate x 0)) (255 ∷ 256 ∷ 257 ∷ []) ≡ 256 ∷ []
  -- each of the three rules broken by itself is refused with 1, before all else: the sum, a count of no pair, a count above the end
  pub range_first : step (with_counts [] (only 1 2 1) no_counts no_counts) (Crash 9) ≡ refused 1
  pub range_pair : step (with_counts [] (only 2 2 1) (only 2 2 1) no_counts) (Crash 9) ≡ refused 1
  pub range_end : step (with_counts (some_wait 2) (only 1 2 33554431) (only 1 2 33554429) no_counts) (Crash 9) ≡ refused 1
  -- its number
  pub number : answer_number (Err SentAtEnd) ≡ 17
  -- a row for each sender: from 1 to 2, 2 to 1, 16 to 15 and 16 to 16
  pub rows : pair_place 1 2 ∷ pair_place 2 1 ∷ pair_place 16 15 ∷ pair_place 16 16 ∷ [] ≡ 1 ∷ 16 ∷ 254 ∷ 255 ∷ []

-- ── 02, T-06: checks only by a coordinator. Node 2 of two, which leads its group 33 or follows node 1 ──

-- one node alone, its own coordinator, with the last call number l
abbrev pub only_one : Status → ℕ → Activity → State
only_one s l a = all_waiting 1 tower (filled s 16 1 100 none l a ∷ []) []

pub record CheckCases : Type 0 where
  -- "A check shall be turned away unless the cabinet is Normal and its own coordinator.": it is both, and asks, with members or without
  pub normal_own : aside (step (pair Normal none Idle []) (Check 2)) ≡ accepted (beside (node Normal 2 33 2 100 none 3 (Asking 1 none)) (asks 2 1 (call_no 3) ∷ [])) Plain
  pub with_member : aside (step (pair Normal (set_of (1 ∷ [])) Idle []) (Check 2))
      ≡ accepted (beside (node Normal 2 33 2 100 (set_of (1 ∷ [])) 3 (Asking 1 none)) (asks 2 1 (call_no 3) ∷ [])) Plain
  -- "18, check at a cabinet that is not Normal": in Election, in Reorganization
  pub election_own : step (pair Election none Idle []) (Check 2) ≡ refused 18
  pub reorganization_own : step (pair Reorganization none Idle []) (Check 2) ≡ refused 18
  -- "or not its own coordinator": a member
  pub member : step (beside (follower Normal 32 100 none 2 Idle) []) (Check 2) ≡ refused 18
  -- neither
  pub election_member : step (beside (follower Election 32 100 none 2 Idle) []) (Check 2) ≡ refused 18
  pub reorganization_member : step (beside (follower Reorganization 32 100 none 2 Idle) []) (Check 2) ≡ refused 18
  -- "With n = 1 such a check still passes without effect.", also with the last call number at its end, as it needs no call
  pub one : step (run 1 tower (Recover 1 ∷ [])) (Check 1) ≡ accepted (run 1 tower (Recover 1 ∷ [])) Plain
  pub one_at_end : step (only_one Normal 16777215 Idle) (Check 1) ≡ accepted (only_one Normal 16777215 Idle) Plain
  -- a check in another status does not, nor one of a busy node
  pub one_election : step (only_one Election 0 Idle) (Check 1) ≡ refused 18
  pub one_reorganization : step (only_one Reorganization 0 Idle) (Check 1) ≡ refused 18
  pub one_down : step (only_one Down 0 Idle) (Check 1) ≡ refused 9
  pub one_busy : step (only_one Normal 0 Collecting) (Check 1) ≡ refused 10
  -- "in the state place directly after 10", so 1, 7, 9 and 10 come first: a table that is not in range, no such node
  pub range_first : step (beside (follower Normal 33 100 none 2 Idle) []) (Check 2) ≡ refused 1
  pub number_first : step (beside (follower Normal 32 100 none 2 Idle) []) (Check 3) ≡ refused 7
  -- a Down one: its own coordinator, led by another
  pub down_own : step (pair Down none Idle []) (Check 2) ≡ refused 9
  pub down_member : step (beside (follower Down 32 100 none 2 Idle) []) (Check 2) ≡ refused 9
  -- a busy one that is not Normal, by each activity that it can have in a run; a busy member; and one that is Normal and its own coordinator (waiting:
  -- FurtherCases.activity_check)
  pub busy_inviting : step (pair Election none (Inviting none none 1) []) (Check 2) ≡ refused 10
  pub busy_collecting : step (pair Election none Collecting []) (Check 2) ≡ refused 10
  pub busy_handing : step (pair Reorganization none (Handing none 1) []) (Check 2) ≡ refused 10
  pub busy_forwarding : step (beside (follower Election 16 100 none 2 (Forwarding none 1 1 (call_no 3))) []) (Check 2) ≡ refused 10
  pub busy_accepting : step (beside (follower Election 16 100 none 2 (Accepting 1 (call_no 3))) []) (Check 2) ≡ refused 10
  pub busy_reorganization : step (beside (follower Reorganization 32 100 none 2 Contacting) []) (Check 2) ≡ refused 10
  pub busy_member : step (beside (follower Normal 32 100 none 2 Contacting) []) (Check 2) ≡ refused 10
  pub busy_asking : step (pair Normal none (Asking 1 none) []) (Check 2) ≡ refused 10
  -- and 13 and 14 behind it (17: TrafficCases.member_at_end): the last call number at its end, 64 waiting
  pub calls_end : step (beside (follower Normal 32 100 none 16777215 Idle) []) (Check 2) ≡ refused 18
  pub full : step (beside (follower Normal 32 100 none 2 Idle) (queued 64)) (Check 2) ≡ refused 18
  -- of a run, K10: node 1 has accepted, after eight events; it has its task; node 2 checks again
  pub run_accepted : step (run 2 tower accepted_invitation) (Check 1) ≡ refused 18
  pub run_member : step (run 2 tower k10) (Check 1) ≡ refused 18
  pub run_coordinator : (node_at (after (run 2 tower k10) (Check 2)) 2).activity ≡ Asking 1 none
  -- "it skips the event": what follows it is done as if it were not there
  pub skipped : run 2 tower (k10 ++ (Check 1 ∷ Check 2 ∷ [])) ≡ run 2 tower (k10 ++ (Check 2 ∷ []))
  -- its number
  pub number : answer_number (Err NotCoordinator) ≡ 18

-- ── 02, T-10: full peal only by a majority ──

-- what is printed of node 1 after its finish with task t, as it hands it to the k members that it has, or, with none, is Normal
abbrev pub finished : ℕ → ℕ → ℕ → List ℕ
finished status t k = 1 ∷ status ∷ 1 ∷ 16 ∷ t ∷ 1 ∷ k ∷ []

-- node 2 of two invites node 1, gets no answer, and collects alone
abbrev pub unanswered : List Event
unanswered = Recover 1 ∷ Recover 2 ∷ Check 2 ∷ Deliver 2 1 ∷ Deliver 1 2 ∷ Expire 2 ∷ []

-- node 2 of three, which found node 1, and not node 3: node 1 accepts, and node 2 collects
abbrev pub first_two : List Event
first_two = Recover 1 ∷ Recover 2 ∷ Check 2 ∷ Deliver 2 1 ∷ Deliver 1 2 ∷ Expire 2 ∷ Deliver 2 1 ∷ Deliver 1 2 ∷ Deliver 2 1 ∷ Deliver 1 2 ∷ []

-- node 1 crashes and recovers, and accepts the invitation of node 3, which found it, and not node 2; node 3 collects
abbrev pub last_two : List Event
last_two = Crash 1 ∷ Recover 1 ∷ Recover 3 ∷ Check 3 ∷ Deliver 3 1 ∷ Deliver 1 3 ∷ Expire 3 ∷ Deliver 3 1 ∷ Deliver 1 3 ∷ Deliver 3 1 ∷ Deliver 1 3 ∷ []

-- both collect, and node 1 is counted by both: node 2 starts a full peal, though node 1 has left it, and node 3 another
abbrev pub counted_twice : List Event
counted_twice = first_two ++ (last_two ++ (Finish 2 (task_no 100) ∷ Finish 3 (task_no 199) ∷ Deliver 2 1 ∷ Deliver 1 2 ∷ Deliver 3 1 ∷ Deliver 1 3 ∷ []))

pub record MajorityCases : Type 0 where
  -- one of two: 100, 150 and 199 are refused with 19; 99 with 8; 200 passes, and so does the last task
  pub one_of_two : step (gathered 2 []) (Finish 1 (task_no 100)) ≡ refused 19
  pub one_of_two_between : step (gathered 2 []) (Finish 1 (task_no 150)) ≡ refused 19
  pub one_of_two_end : step (gathered 2 []) (Finish 1 (task_no 199)) ≡ refused 19
  pub one_of_two_below : step (gathered 2 []) (Finish 1 (task_no 99)) ≡ refused 8
  pub one_of_two_above : printed_fields (after (gathered 2 []) (Finish 1 (task_no 200))) 1 ≡ finished 3 200 0
  pub one_of_two_last : printed_fields (after (gathered 2 []) (Finish 1 (task_no 65535))) 1 ≡ finished 3 65535 0
  -- two of two, and two of three: 100 and 199 pass, and 200 as before (of two of two: NamedCases.k6_passes)
  pub two_of_two : printed_fields (after (gathered 2 (2 ∷ [])) (Finish 1 (task_no 100))) 1 ≡ finished 2 100 1
  pub two_of_two_end : printed_fields (after (gathered 2 (2 ∷ [])) (Finish 1 (task_no 199))) 1 ≡ finished 2 199 1
  pub two_of_three : printed_fields (after (gathered 3 (3 ∷ [])) (Finish 1 (task_no 100))) 1 ≡ finished 2 100 1
  pub two_of_three_end : printed_fields (after (gathered 3 (3 ∷ [])) (Finish 1 (task_no 199))) 1 ≡ finished 2 199 1
  pub two_of_three_above : printed_fields (after (gathered 3 (3 ∷ [])) (Finish 1 (task_no 200))) 1 ≡ finished 2 200 1
  -- two of four with another task: 200 passes
  pub two_of_four_above : printed_fields (after (gathered 4 (4 ∷ [])) (Finish 1 (task_no 200))) 1 ≡ finished 2 200 1
  -- on either side of the edge, for n even, where just half is too few, and odd, small and large
  pub one_of_one : printed_fields (after (gathered 1 []) (Finish 1 (task_no 100))) 1 ≡ finished 3 100 0
  pub one_of_three : step (gathered 3 []) (Finish 1 (task_no 100)) ≡ refused 19
  pub two_of_four : step (gathered 4 (4 ∷ [])) (Finish 1 (task_no 100)) ≡ refused 19
  pub three_of_four : printed_fields (after (gathered 4 (2 ∷ 4 ∷ [])) (Finish 1 (task_no 100))) 1 ≡ finished 2 100 2
  pub two_of_five : step (gathered 5 (5 ∷ [])) (Finish 1 (task_no 100)) ≡ refused 19
  pub three_of_five : printed_fields (after (gathered 5 (2 ∷ 5 ∷ [])) (Finish 1 (task_no 100))) 1 ≡ finished 2 100 2
  pub seven_of_fifteen : step (gathered 15 (2 ∷ 3 ∷ 5 ∷ 7 ∷ 11 ∷ 13 ∷ [])) (Finish 1 (task_no 100)) ≡ refused 19
  pub eight_of_fifteen : printed_fields (after (gathered 15 (2 ∷ 3 ∷ 5 ∷ 7 ∷ 11 ∷ 13 ∷ 15 ∷ [])) (Finish 1 (task_no 100))) 1 ≡ finished 2 100 7
  pub eight_of_sixteen : step (gathered 16 (2 ∷ 3 ∷ 5 ∷ 7 ∷ 11 ∷ 13 ∷ 16 ∷ [])) (Finish 1 (task_no 100)) ≡ refused 19
  pub nine_of_sixteen : printed_fields (after (gathered 16 (2 ∷ 3 ∷ 5 ∷ 7 ∷ 11 ∷ 13 ∷ 15 ∷ 16 ∷ [])) (Finish 1 (task_no 100))) 1 ≡ finished 2 100 8
  -- n decides, and not the limit of nodes: on the stand as in the tower
  pub stand_one_of_two : step (gathered_in stand 2 none 4 []) (Finish 1 (task_no 100)) ≡ refused 19
  pub stand_two_of_two : printed_fields (after (gathered_in stand 2 (set_of (2 ∷ [])) 4 []) (Finish 1 (task_no 100))) 1 ≡ finished 2 100 1
  pub stand_two_of_four : step (gathered_in stand 4 (set_of (4 ∷ [])) 4 []) (Finish 1 (task_no 100)) ≡ refused 19
  pub stand_three_of_four : printed_fields (after (gathered_in stand 4 (set_of (2 ∷ 4 ∷ [])) 4 []) (Finish 1 (task_no 100))) 1 ≡ finished 2 100 2
  -- "in the state place after 18", so 1, 7, 9 and 10 come first: a table that is not in range, no such node, a Down one, one that does not collect. (8, 18, 11 and 12 never
  -- apply together with 19.)
  pub range_first : step (gathered 4 (1 ∷ [])) (Finish 1 (task_no 100)) ≡ refused 1
  pub number_first : step (gathered 2 []) (Finish 3 (task_no 100)) ≡ refused 7
  pub number_none : step (gathered 2 []) (Finish 0 (task_no 100)) ≡ refused 7
  pub down_first : step (gathered 2 []) (Finish 2 (task_no 100)) ≡ refused 9
  pub activity_first : step (pair Election none (Inviting none none 1) []) (Finish 2 (task_no 100)) ≡ refused 10
  -- and 13 and 14 behind it (17: TrafficCases.half_at_end), which the same node meets with 200, and one with two of three
  pub calls_end : step (gathered_in tower 4 (set_of (2 ∷ [])) 16777215 []) (Finish 1 (task_no 100)) ≡ refused 19
  pub calls_end_above : step (gathered_in tower 4 (set_of (2 ∷ [])) 16777215 []) (Finish 1 (task_no 200)) ≡ refused 13
  pub calls_end_majority : step (gathered_in tower 3 (set_of (2 ∷ [])) 16777215 []) (Finish 1 (task_no 100)) ≡ refused 13
  pub full : step (gathered_in tower 4 (set_of (2 ∷ [])) 4 (queued 64)) (Finish 1 (task_no 100)) ≡ refused 19
  pub full_above : step (gathered_in tower 4 (set_of (2 ∷ [])) 4 (queued 64)) (Finish 1 (task_no 200)) ≡ refused 14
  pub full_majority : step (gathered_in tower 3 (set_of (2 ∷ [])) 4 (queued 64)) (Finish 1 (task_no 100)) ≡ refused 14
  -- of a run: what follows a finish that is turned away is done as if it were not there, and the same node may still start another task
  pub run_turned_away : step (run 2 tower unanswered) (Finish 2 (task_no 100)) ≡ refused 19
  pub skipped : run 2 tower (unanswered ++ (Finish 2 (task_no 100) ∷ Finish 2 (task_no 200) ∷ [])) ≡ run 2 tower (unanswered ++ (Finish 2 (task_no 200) ∷ []))
  pub run_above : printed_fields (run 2 tower (unanswered ++ (Finish 2 (task_no 200) ∷ []))) 2 ≡ 2 ∷ 3 ∷ 2 ∷ 33 ∷ 200 ∷ 2 ∷ 0 ∷ []
  -- the history has no task for its group after the one, and 200 after the other
  pub run_no_task : (history 2 tower (unanswered ++ (Finish 2 (task_no 100) ∷ []))).entry 33 ≡ NoTask
  pub run_task : (history 2 tower (unanswered ++ (Finish 2 (task_no 100) ∷ Finish 2 (task_no 200) ∷ []))).entry 33 ≡ Task 200
  -- "The count is of acceptances": the Accept counts when it is taken, also by a node that already collects; sent, or lost, it does not
  pub accept_waits : step (run 2 tower (unanswered ++ (Deliver 2 1 ∷ []))) (Finish 2 (task_no 100)) ≡ refused 19
  pub accept_lost : step (run 2 tower (unanswered ++ (Deliver 2 1 ∷ Lose 1 2 ∷ []))) (Finish 2 (task_no 100)) ≡ refused 19
  pub accept_taken : printed_fields (after (run 2 tower (unanswered ++ (Deliver 2 1 ∷ Deliver 1 2 ∷ []))) (Finish 2 (task_no 100))) 2 ≡ 2 ∷ 2 ∷ 2 ∷ 33 ∷ 100 ∷ 2 ∷ 1 ∷ []
  -- "a member that has left since still counts": node 1 accepts and crashes, and node 2 starts a full peal; or it is in another group by then (`counted_twice`)
  pub left_counts : printed_fields (after (run 2 tower (collecting ++ (Crash 1 ∷ []))) (Finish 2 (task_no 100))) 2 ≡ 2 ∷ 2 ∷ 2 ∷ 33 ∷ 100 ∷ 2 ∷ 1 ∷ []
  -- "so nothing is said about two coordinators that both counted it": here both pass. Node 1 is in the group of node 3 before either starts; then node 2 is Normal with one
  -- full peal, and nodes 1 and 3 with another
  pub left_before : printed_fields (run 3 tower (first_two ++ last_two)) 1 ≡ 1 ∷ 2 ∷ 3 ∷ 34 ∷ 1 ∷ 2 ∷ 0 ∷ []
  pub both_counted_first : printed_fields (run 3 tower counted_twice) 1 ≡ 1 ∷ 3 ∷ 3 ∷ 34 ∷ 199 ∷ 2 ∷ 0 ∷ []
  pub both_counted_second : printed_fields (run 3 tower counted_twice) 2 ≡ 2 ∷ 3 ∷ 2 ∷ 33 ∷ 100 ∷ 2 ∷ 1 ∷ []
  pub both_counted_third : printed_fields (run 3 tower counted_twice) 3 ≡ 3 ∷ 3 ∷ 3 ∷ 34 ∷ 199 ∷ 2 ∷ 1 ∷ []
  -- its number
  pub number : answer_number (Err NoMajority) ≡ 19

-- ── records, messages and tables at the ends of what is in range, and just outside: node 2 of three, and messages among three ──

-- 0, the three nodes and one more; those that are another node than 2
abbrev pub any_node : List ℕ
any_node = 0 ∷ 1 ∷ 2 ∷ 3 ∷ 4 ∷ []

abbrev pub other_node : List ℕ
other_node = 1 ∷ 3 ∷ []

-- sets without and with node 2, and with one more than three; those of nodes other than 2
abbrev pub any_set : List ℕ
any_set = none ∷ set_of (1 ∷ 3 ∷ []) ∷ set_of (1 ∷ 2 ∷ 3 ∷ []) ∷ set_of (1 ∷ 3 ∷ 4 ∷ []) ∷ []

abbrev pub other_set : List ℕ
other_set = none ∷ set_of (1 ∷ 3 ∷ []) ∷ []

-- group numbers: none; of counter 0; of counter 1 and the owners 1 to 4; of the last counter and the owners 3 and 4; of one counter more. Those with counter
-- at least 1 and owner 1 to 3.
abbrev pub any_group : List ℕ
any_group = 0 ∷ 1 ∷ 2 ∷ 16 ∷ 17 ∷ 18 ∷ 19 ∷ 16777202 ∷ 16777203 ∷ 16777216 ∷ []

abbrev pub good_group : List ℕ
good_group = 16 ∷ 17 ∷ 18 ∷ 16777202 ∷ []

-- call numbers, and those of messages and callers
abbrev pub any_call : List ℕ
any_call = 0 ∷ 1 ∷ 16777215 ∷ 16777216 ∷ []

abbrev pub good_call : List ℕ
good_call = 1 ∷ 16777215 ∷ []

-- tasks, and those that a finish gives
abbrev pub any_task : List ℕ
any_task = 0 ∷ 99 ∷ 100 ∷ 65535 ∷ 65536 ∷ []

abbrev pub given_task : List ℕ
given_task = 100 ∷ 65535 ∷ []

-- node 2 of three, Down and idle, with the counter c, group g, coordinator o, task t, members m and last call number k
abbrev pub resting : ℕ → ℕ → ℕ → ℕ → ℕ → ℕ → Bool
resting c g o t m k =
    node_in_range 3 2 (record { status = Down; counter = c; group = group_no g; coordinator = o; task = task_no t; members = m; last = call_no k; activity = Idle })

-- node 2 of three in its own group; in group 16 of node 1
abbrev pub owning : Status → Activity → Bool
owning s a = node_in_range 3 2 (filled s 17 2 100 none 1 a)

abbrev pub joining : Activity → Bool
joining a = node_in_range 3 2 (filled Election 16 1 1 none 1 a)

-- a message among three, from a to b, of kind k, with the call number c, group g and task t
abbrev pub sent : ℕ → ℕ → ℕ → ℕ → ℕ → ℕ → Bool
sent a b k c g t =
    message_in_range 3 (record { sender = a; receiver = b; kind = k; call = call_no c; group = group_no g; task = task_no t; yes = false })

-- the kinds, and one more at each end
abbrev pub any_kind : List ℕ
any_kind = 0 ∷ 1 ∷ 2 ∷ 3 ∷ 4 ∷ 5 ∷ 6 ∷ 7 ∷ []

-- the kinds of messages from 2 to 1 with group g and task t that are in range
abbrev pub kinds_of : ℕ → ℕ → List ℕ
kinds_of g t = among (λ k. sent 2 1 k 1 g t) any_kind

-- a table of n with the limits l, and with k records as at the start; in the tower
abbrev pub sized_in : Limits → ℕ → ℕ → Bool
sized_in l n k = in_range (all_waiting n l (replicate k starting_node) [])

abbrev pub sized : ℕ → ℕ → Bool
sized n k = sized_in tower n k

-- ── "A table is in range when ..": each rule at its ends and just outside. On the left what is tried, on the right what of it is in range. ──

pub record RangeCases : Type 0 where
  -- "n from 1 to 16", with n records
  pub count_ends : among (λ n. sized n n) (0 ∷ 1 ∷ 16 ∷ 17 ∷ []) ≡ 1 ∷ 16 ∷ []
  pub count_records : among (sized 3) (2 ∷ 3 ∷ 4 ∷ []) ≡ 3 ∷ []
  -- "At most 64 messages wait"
  pub waiting_end : among (λ k. in_range (pair Normal none Idle (queued k))) (0 ∷ 64 ∷ 65 ∷ []) ≡ 0 ∷ 64 ∷ []
  -- T-08: the stand's ends
  pub stand_ends : among (λ n. sized_in stand n n) (0 ∷ 1 ∷ 4 ∷ 5 ∷ 16 ∷ []) ≡ 1 ∷ 4 ∷ []
  pub stand_waiting : among (λ k. in_range (pair_in stand Normal none Idle (queued k))) (0 ∷ 12 ∷ 13 ∷ 64 ∷ []) ≡ 0 ∷ 12 ∷ []
  -- "no other pair is allowed": 16 goes with 64 alone, and 4 with 12
  pub limits_sixteen : among (λ k. sized_in (record { nodes = 16; messages = k }) 2 2) (0 ∷ 12 ∷ 63 ∷ 64 ∷ 65 ∷ 255 ∷ []) ≡ 64 ∷ []
  pub limits_sixty_four : among (λ k. sized_in (record { nodes = k; messages = 64 }) 2 2) (0 ∷ 2 ∷ 4 ∷ 15 ∷ 16 ∷ 17 ∷ 255 ∷ []) ≡ 16 ∷ []
  pub limits_four : among (λ k. sized_in (record { nodes = 4; messages = k }) 2 2) (0 ∷ 11 ∷ 12 ∷ 13 ∷ 64 ∷ 255 ∷ []) ≡ 12 ∷ []
  pub limits_twelve : among (λ k. sized_in (record { nodes = k; messages = 12 }) 2 2) (0 ∷ 2 ∷ 3 ∷ 4 ∷ 5 ∷ 16 ∷ 255 ∷ []) ≡ 4 ∷ []
  -- "any limits not above the tower's, with the rule of the two pairs left out": of two nodes at the start
  pub left_out_nodes : among (λ k. in_range (start_by LeftOut 2 (record { nodes = k; messages = 64 }))) (0 ∷ 1 ∷ 2 ∷ 5 ∷ 16 ∷ 17 ∷ 255 ∷ []) ≡ 2 ∷ 5 ∷ 16 ∷ []
  pub left_out_messages : among (λ k. in_range (start_by LeftOut 2 (record { nodes = 16; messages = k }))) (0 ∷ 13 ∷ 64 ∷ 65 ∷ 255 ∷ []) ≡ 0 ∷ 13 ∷ 64 ∷ []
  -- every record counts, each as that of its own number: the member is 1, 2 or 3
  pub every_first : among (λ i. in_range (three (filled Normal 16 1 1 (set_of (i ∷ [])) 0 Idle) starting_node starting_node [])) (1 ∷ 2 ∷ 3 ∷ []) ≡ 2 ∷ 3 ∷ []
  pub every_last : among (λ i. in_range (three starting_node starting_node (filled Normal 18 3 3 (set_of (i ∷ [])) 0 Idle) [])) (1 ∷ 2 ∷ 3 ∷ []) ≡ 1 ∷ 2 ∷ []
  -- and every message: the first's call number, the last's
  pub every_oldest : among (λ k. in_range (three starting_node starting_node starting_node (asks 1 2 (call_no k) ∷ asks 2 1 (call_no 1) ∷ []))) any_call ≡ good_call
  pub every_newest : among (λ k. in_range (three starting_node starting_node starting_node (asks 1 2 (call_no 1) ∷ asks 2 1 (call_no k) ∷ []))) any_call ≡ good_call
  -- "counter of groups, 0 to 1,048,575"
  pub counter_end : among (λ k. resting k 0 0 0 none 0) (0 ∷ 1048575 ∷ 1048576 ∷ []) ≡ 0 ∷ 1048575 ∷ []
  -- "every group that isn't 0, in a cabinet or a message, has counter at least 1 and owner 1 to n": of a Down node
  pub group_down : among (λ g. resting 0 g 0 0 none 0) any_group ≡ 0 ∷ good_group
  -- "coordinator, 0 for none": of a Down node, whatever its group's owner is
  pub coordinator_down : among (λ o. resting 0 16 o 0 none 0) any_node ≡ 0 ∷ 1 ∷ 2 ∷ 3 ∷ []
  -- "task, 0 to 65,535"
  pub task_end : among (λ t. resting 0 0 0 t none 0) any_task ≡ 0 ∷ 99 ∷ 100 ∷ 65535 ∷ []
  -- "members, a set of cabinets that never contains itself"
  pub members_others : among (λ m. resting 0 0 0 0 m 0) any_set ≡ other_set
  -- "last call number, 0 to 16,777,215"
  pub last_end : among (λ k. resting 0 0 0 0 none k) any_call ≡ 0 ∷ good_call
  -- "a cabinet that isn't Down has a group of counter at least 1 whose owner is 1 to n and is its coordinator": in each status, with group 18 of node 3
  pub led_election : among (λ o. node_in_range 3 2 (filled Election 18 o 1 none 0 Idle)) any_node ≡ 3 ∷ []
  pub led_reorganization : among (λ o. node_in_range 3 2 (filled Reorganization 18 o 1 none 0 Idle)) any_node ≡ 3 ∷ []
  pub led_normal : among (λ o. node_in_range 3 2 (filled Normal 18 o 1 none 0 Idle)) any_node ≡ 3 ∷ []
  -- with the coordinators 1, 3 and 4: of the groups of each, by number, those that have a counter; 0 is no group of node 1
  pub led_one : among (λ g. node_in_range 3 2 (filled Normal g 1 1 none 0 Idle)) any_group ≡ 16 ∷ []
  pub led_three : among (λ g. node_in_range 3 2 (filled Normal g 3 1 none 0 Idle)) any_group ≡ 18 ∷ 16777202 ∷ []
  pub led_four : among (λ g. node_in_range 3 2 (filled Normal g 4 1 none 0 Idle)) any_group ≡ []
  pub led_none : among (λ g. node_in_range 3 2 (filled Normal g 0 1 none 0 Idle)) any_group ≡ []
  -- "a Down one is idle", in whatever it could go on with if it weren't Down
  pub down_idle : owning Down Idle ≡ true
  pub down_asking : owning Down (Asking 1 none) ≡ false
  pub down_waiting : owning Down (Waiting 1 none) ≡ false
  pub down_inviting : owning Down (Inviting none none 1) ≡ false
  pub down_collecting : owning Down Collecting ≡ false
  pub down_handing : owning Down (Handing none 1) ≡ false
  pub down_contacting : owning Down Contacting ≡ false
  pub down_forwarding : node_in_range 3 2 (filled Down 16 1 1 none 1 (Forwarding none 1 1 (call_no 1))) ≡ false
  pub down_accepting : node_in_range 3 2 (filled Down 16 1 1 none 1 (Accepting 1 (call_no 1))) ≡ false
  -- collecting and contacting hold nothing, and are free to an owner and to another
  pub free_collecting : owning Election Collecting ≡ true
  pub free_contacting : owning Normal Contacting ≡ true
  pub free_collecting_led : joining Collecting ≡ true
  pub free_contacting_led : joining Contacting ≡ true
  -- "no set, caller or cabinet asked or called names its holder" and "all cabinet numbers are 1 to n", in each activity: "asking (cabinet asked, set found)"
  pub asking_asked : among (λ j. owning Normal (Asking j none)) any_node ≡ other_node
  pub asking_found : among (λ f. owning Normal (Asking 1 f)) any_set ≡ other_set
  -- "waiting (ticks left 1 to 15, set found)"
  pub waiting_ticks : among (λ k. owning Normal (Waiting k none)) (0 ∷ 1 ∷ 15 ∷ 16 ∷ []) ≡ 1 ∷ 15 ∷ []
  pub waiting_found : among (λ f. owning Normal (Waiting 1 f)) any_set ≡ other_set
  -- "inviting (whom still, in two sets, and whom now)"
  pub inviting_found : among (λ f. owning Election (Inviting f none 1)) any_set ≡ other_set
  pub inviting_former : among (λ f. owning Election (Inviting none f 1)) any_set ≡ other_set
  pub inviting_now : among (λ j. owning Election (Inviting none none j)) any_node ≡ other_node
  -- "handing (whom still, whom now)", and "a handing cabinet's task is 100 to 65,535"
  pub handing_rest : among (λ r. owning Reorganization (Handing r 1)) any_set ≡ other_set
  pub handing_now : among (λ j. owning Reorganization (Handing none j)) any_node ≡ other_node
  pub handing_task : among (λ t. node_in_range 3 2 (filled Reorganization 17 2 t none 1 (Handing none 1))) any_task ≡ given_task
  -- "forwarding (whom still, whom now, caller and the number of its call)"; "call numbers .. of callers are at least 1"; it "isn't that owner"
  pub forwarding_rest : among (λ r. joining (Forwarding r 1 1 (call_no 1))) any_set ≡ other_set
  pub forwarding_now : among (λ j. joining (Forwarding none j 1 (call_no 1))) any_node ≡ other_node
  pub forwarding_caller : among (λ j. joining (Forwarding none 1 j (call_no 1))) any_node ≡ other_node
  pub forwarding_call : among (λ k. joining (Forwarding none 1 1 (call_no k))) any_call ≡ good_call
  pub forwarding_owner : owning Election (Forwarding none 1 1 (call_no 1)) ≡ false
  -- "accepting (caller and the number of its call)", with the same rules
  pub accepting_caller : among (λ j. joining (Accepting j (call_no 1))) any_node ≡ other_node
  pub accepting_call : among (λ k. joining (Accepting 1 (call_no k))) any_call ≡ good_call
  pub accepting_owner : owning Election (Accepting 1 (call_no 1)) ≡ false
  -- "a sender, a receiver (another cabinet)": from each to 2, and from 2 to each
  pub message_sender : among (λ a. sent a 2 1 1 0 0) any_node ≡ other_node
  pub message_receiver : among (λ b. sent 2 b 1 1 0 0) any_node ≡ other_node
  -- the kinds, 1 to 6; "call numbers in messages .. are at least 1"
  pub message_kind : kinds_of 16 100 ≡ 1 ∷ 2 ∷ 3 ∷ 4 ∷ 5 ∷ 6 ∷ []
  pub message_call : among (λ c. sent 2 1 1 c 0 0) any_call ≡ good_call
  -- "message groups aren't 0", and have "counter at least 1 and owner 1 to n": of the kinds that carry one
  pub message_group : among (λ g. sent 2 1 3 1 g 0) any_group ≡ good_group
  -- kinds 1 and 6 carry none: 0, a group of counter 0, of owner 4, and of one counter too many
  pub message_no_group : kinds_of 0 100 ≡ 1 ∷ 6 ∷ []
  pub message_no_counter : kinds_of 1 100 ≡ 1 ∷ 6 ∷ []
  pub message_no_owner : kinds_of 19 100 ≡ 1 ∷ 6 ∷ []
  pub message_above : kinds_of 16777216 100 ≡ 1 ∷ 6 ∷ []
  -- "Ready tasks are 100 to 65,535"; the other kinds carry no task
  pub message_task : among (λ t. sent 2 1 5 1 16 t) any_task ≡ given_task
  pub message_low_task : kinds_of 16 99 ≡ 1 ∷ 2 ∷ 3 ∷ 4 ∷ 6 ∷ []
  pub message_high_task : kinds_of 16 65536 ≡ 1 ∷ 2 ∷ 3 ∷ 4 ∷ 6 ∷ []
