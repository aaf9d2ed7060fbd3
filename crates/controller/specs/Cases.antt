-- Single steps of controllers: at the ends of n, of own numbers and of records; two grounds at once; 01's named cases that one node shows; and K10 by two controllers over one queue. The proof is in
-- proofs/Cases: each is computed over the definitions.
use Rattle.std.specs.Prelude.{ℕ, true, false, ◌≡◌, [], ◌∷◌}
use Rattle.model.specs.Node.{asks, calls, replies}
use Rattle.model.specs.State.{starting_node}
use Rattle.model.specs.Cases.{call_no, group_no, task_no, set_of, none, node, k10, collecting}
use Rattle.model.specs.declared.Status.TheVariants.{Down, Election, Reorganization, Normal}
use Rattle.model.specs.declared.Activity.TheVariants.{Idle, Asking, Collecting, Contacting}
use Rattle.model.specs.declared.Node.{Node}
use Rattle.message_fields.specs.Fields.{fields}
use Rattle.controller.specs.declared.LocalEvent.TheVariants.{Recover, Check, Timeout, Finish}
use Rattle.controller.specs.Controller.{event, message, refused, accepted, controller_step}
use Rattle.controller.specs.Network.{network_run}

-- node 1 alone in its group 16, Normal, with the members m and the last call number l
abbrev pub first : ℕ → ℕ → Node
first m l = node Normal 1 16 1 1 m l Idle

-- node 1 collecting for its group 16, with the members m
abbrev pub collector : ℕ → Node
collector m = node Election 1 16 1 1 m 3 Collecting

-- node 1 as a member of group 33, which is node 2's
abbrev pub member : Node
member = node Normal 1 33 2 100 none 2 Idle

pub record ControllerCases : Type 0 where
  -- "An n or own number out of range": n is 1 to 16, and the own number 1 to n
  pub n_none : controller_step 0 1 starting_node (event (Recover 1)) ≡ refused 1
  pub n_high : controller_step 17 1 starting_node (event (Recover 1)) ≡ refused 1
  pub n_last : controller_step 16 16 starting_node (event (Recover 16)) ≡ accepted (node Normal 1 31 16 16 none 0 Idle) []
  pub own_none : controller_step 3 0 starting_node (event (Recover 0)) ≡ refused 1
  pub own_high : controller_step 3 4 starting_node (event (Recover 4)) ≡ refused 1
  -- "or a record not in range for that n": node 4 is a member of four, and none of three
  pub record_four : controller_step 4 1 (first (set_of (4 ∷ [])) 0) (event (Timeout 1)) ≡ accepted (first (set_of (4 ∷ [])) 0) []
  pub record_three : controller_step 3 1 (first (set_of (4 ∷ [])) 0) (event (Timeout 1)) ≡ refused 1
  -- and 1 is met before all others, by a message too
  pub one_first : controller_step 17 1 starting_node (event (Finish 9 (task_no 5))) ≡ refused 1
  pub one_first_message : controller_step 17 1 starting_node (message []) ≡ refused 1
  -- K2, K3 and K5
  pub k2 : controller_step 2 1 starting_node (event (Recover 1)) ≡ accepted (first none 0) []
  pub k3 : controller_step 2 1 (first none 0) (event (Recover 1)) ≡ refused 9
  pub k5_last : controller_step 16 16 (node Down 1048574 0 0 0 none 0 Idle) (event (Recover 16)) ≡ accepted (node Normal 1048575 16777215 16 16 none 0 Idle) []
  pub k5 : controller_step 16 16 (node Down 1048575 0 0 0 none 0 Idle) (event (Recover 16)) ≡ refused 12
  -- K6: task 99 gives 8, 200 passes (a full peal of one of two, 100, is refused with 19: T-10)
  pub k6_low : controller_step 2 1 (collector none) (event (Finish 1 (task_no 99))) ≡ refused 8
  pub k6 : controller_step 2 1 (collector none) (event (Finish 1 (task_no 200))) ≡ accepted (node Normal 1 16 1 200 none 3 Idle) []
  pub k6_full_peal : controller_step 2 1 (collector none) (event (Finish 1 (task_no 100))) ≡ refused 19
  -- K8: an invitation to a node in Election changes nothing but the messages
  pub k8 : controller_step 2 1 (collector none) (message (fields (calls 2 3 1 (call_no 7) (group_no 33)))) ≡ accepted (collector none) (fields (replies 1 2 (call_no 7) true))
  -- K9: a reply with an older call number is only dropped
  pub k9 : controller_step 2 1 (node Normal 1 16 1 1 none 3 (Asking 2 none)) (message (fields (replies 2 1 (call_no 2) true))) ≡ accepted (node Normal 1 16 1 1 none 3 (Asking 2 none)) []
  -- K12: Accept reaching its group's owner in Reorganization: members unchanged
  pub k12 : controller_step 2 1 (node Reorganization 1 16 1 100 none 3 Idle) (message (fields (calls 2 4 1 (call_no 7) (group_no 16)))) ≡ accepted (node Reorganization 1 16 1 100 none 3 Idle) (fields (replies 1 2 (call_no 7) true))
  -- K13, at any controller: 7 before 8
  pub k13 : controller_step 2 1 (first none 0) (event (Finish 9 (task_no 5))) ≡ refused 7
  -- 8 before 21: a task that is none, in an event for another node
  pub eight_first : controller_step 2 1 (first none 0) (event (Finish 2 (task_no 5))) ≡ refused 8
  -- 20 before 21: bytes for another node that are no message, as they have no call number
  pub twenty_first : controller_step 3 1 (first none 0) (message (fields (asks 3 2 (call_no 0)))) ≡ refused 20
  -- 21: an event and a message for another node
  pub other_event : controller_step 2 1 (first none 0) (event (Check 2)) ≡ refused 21
  pub other_message : controller_step 3 1 (first none 0) (message (fields (asks 3 2 (call_no 1)))) ≡ refused 21
  -- 21 before 9: they reach a Down node
  pub twenty_one_first : controller_step 2 1 starting_node (event (Check 2)) ≡ refused 21
  pub twenty_one_first_message : controller_step 3 1 starting_node (message (fields (asks 3 2 (call_no 1)))) ≡ refused 21
  -- 9: a message of its own reaches a Down node
  pub down : controller_step 3 1 starting_node (message (fields (asks 3 1 (call_no 1)))) ≡ refused 9
  -- 10 before 18, and 18
  pub ten_first : controller_step 2 1 (node Normal 1 33 2 100 none 2 Contacting) (event (Check 1)) ≡ refused 10
  pub eighteen : controller_step 2 1 member (event (Check 1)) ≡ refused 18
  -- 12 and 13, by an event and by a message
  pub twelve_message : controller_step 2 1 (node Normal 1048575 33 2 100 none 2 Contacting) (message (fields (replies 2 1 (call_no 2) false))) ≡ refused 12
  pub thirteen : controller_step 2 1 (first none 16777215) (event (Check 1)) ≡ refused 13
  pub thirteen_message : controller_step 2 1 (first none 16777215) (message (fields (calls 2 3 1 (call_no 7) (group_no 33)))) ≡ refused 13
  -- a check sends kind 1 to the lowest other node
  pub check : controller_step 2 2 (node Normal 1 17 2 2 none 0 Idle) (event (Check 2)) ≡ accepted (node Normal 1 17 2 2 none 1 (Asking 1 none)) (0x20 ∷ 0 ∷ 3 ∷ 2 ∷ 1 ∷ 1 ∷ 0x21 ∷ 0 ∷ 4 ∷ 0 ∷ 0 ∷ 0 ∷ 1 ∷ [])
  -- K10 by two controllers over one queue: where node 2 collects, and at its end
  pub k10_collecting : network_run 2 64 collecting ≡ record {
    n = 2;
    limit = 64;
    nodes = node Reorganization 1 33 2 1 none 1 Idle ∷ node Election 2 33 2 2 (set_of (1 ∷ [])) 2 Collecting ∷ [];
    queue = [];
  }
  pub k10_end : network_run 2 64 k10 ≡ record {
    n = 2;
    limit = 64;
    nodes = node Normal 1 33 2 100 none 1 Idle ∷ node Normal 2 33 2 100 (set_of (1 ∷ [])) 3 Idle ∷ [];
    queue = [];
  }
