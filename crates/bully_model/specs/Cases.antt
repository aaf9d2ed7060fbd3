-- Named runs and single calls, claimed over the definitions.
use Rattle.std.specs.Prelude.{ℕ, Bool, true, false, ◌≡◌, List, [], ◌∷◌, ◌++◌}
use Rattle.model.specs.declared.Status.{Status}
use Rattle.model.specs.declared.Status.TheVariants.{Down, Election, Reorganization, Normal}
use Rattle.model.specs.declared.TaskNo.{TaskNo}
use Rattle.bully_model.specs.State.{State, starting_node, start, in_range}
use Rattle.bully_model.specs.Step.{refused, accepted, step, run}
use Rattle.bully_model.specs.declared.Place.{Place}
use Rattle.bully_model.specs.declared.Place.TheVariants.{Idle, Asking, Halting, Announcing, Point, Handing, Checking, Contacting}
use Rattle.bully_model.specs.declared.Node.{Node}
use Rattle.bully_model.specs.declared.Event.{Event}
use Rattle.bully_model.specs.declared.Event.TheVariants.{Crash, Recover, Check, Timeout, GoOn, Finish}

abbrev pub task_no : ℕ → TaskNo
task_no t = record { number = t }

-- a node that runs: status, coordinator, task, last halter, Up, place
abbrev pub running : Status → ℕ → ℕ → ℕ → ℕ → Place → Node
running s c d h u p = record { runs = true; status = s; coordinator = c; task = task_no d; halter = h; up = u; place = p }

-- a node that does not run: coordinator, task, last halter, Up
abbrev pub off : ℕ → ℕ → ℕ → ℕ → Node
off c d h u = record { runs = false; status = Down; coordinator = c; task = task_no d; halter = h; up = u; place = Idle }

-- three nodes
abbrev pub three : Node → Node → Node → State
three a b c = record { n = 3; nodes = a ∷ b ∷ c ∷ [] }

-- node 1 finds nobody and is elected; 2 begins to ask; 3 begins to halt
abbrev pub begun : List Event
begun = Recover 1 ∷ GoOn 1 ∷ GoOn 1 ∷ Recover 2 ∷ Recover 3 ∷ []

-- 3 halts both, is elected, announces itself to both, and is at the point
abbrev pub elected : List Event
elected = begun ++ (GoOn 3 ∷ GoOn 3 ∷ GoOn 3 ∷ GoOn 3 ∷ [])

-- 3 finishes with task 100 and hands it to both
abbrev pub grouped : List Event
grouped = elected ++ (Finish 3 (task_no 100) ∷ GoOn 3 ∷ GoOn 3 ∷ [])

-- the table after it
abbrev pub group : State
group = three (running Normal 3 100 3 0 Idle) (running Normal 3 100 3 0 Idle) (running Normal 3 100 3 3 Idle)

-- then 3 crashes, and 2 calls it in vain
abbrev pub lost : List Event
lost = grouped ++ (Crash 3 ∷ Timeout 2 ∷ GoOn 2 ∷ [])

pub record NamedRuns : Type 0 where
  -- n = 1: recovery leads straight to the point, and a finish to Normal
  pub one_elected : run 1 (Recover 1 ∷ []) ≡ record { n = 1; nodes = running Reorganization 1 0 1 0 Point ∷ [] }
  pub one_normal : run 1 (Recover 1 ∷ Finish 1 (task_no 100) ∷ []) ≡ record { n = 1; nodes = running Normal 1 100 1 0 Idle ∷ [] }
  -- n = 3, to a Normal group with a task; a node that recovers is Down until its halting step
  pub begins : run 3 begun ≡ three (running Reorganization 1 0 1 0 Point) (running Down 0 0 0 0 (Asking 3)) (running Election 0 0 3 0 (Halting 2))
  pub gives_up : run 3 (begun ++ (GoOn 2 ∷ [])) ≡ three (running Reorganization 1 0 1 0 Point) (running Down 0 0 0 0 Idle) (running Election 0 0 3 0 (Halting 2))
  pub announces : run 3 (begun ++ (GoOn 3 ∷ GoOn 3 ∷ [])) ≡ three (running Election 1 0 3 0 Idle) (running Election 0 0 3 0 Idle) (running Reorganization 3 0 3 3 (Announcing 1 2))
  pub reorganizes : run 3 elected ≡ three (running Reorganization 3 0 3 0 Idle) (running Reorganization 3 0 3 0 Idle) (running Reorganization 3 0 3 3 Point)
  pub hands : run 3 (elected ++ (Finish 3 (task_no 100) ∷ []))
      ≡ three (running Reorganization 3 0 3 0 Idle) (running Reorganization 3 0 3 0 Idle) (running Reorganization 3 100 3 3 (Handing 1 2))
  pub is_grouped : run 3 grouped ≡ group
  -- a check that finds all Normal, and one that finds node 1 recovering
  pub checks : run 3 (grouped ++ (Check 3 ∷ [])) ≡ three (running Normal 3 100 3 0 Idle) (running Normal 3 100 3 0 Idle) (running Normal 3 100 3 3 (Checking 1))
  pub finds_all : run 3 (grouped ++ (Check 3 ∷ GoOn 3 ∷ GoOn 3 ∷ [])) ≡ group
  pub finds_one : run 3 (grouped ++ (Crash 1 ∷ Recover 1 ∷ Check 3 ∷ GoOn 3 ∷ []))
      ≡ three (running Down 3 100 0 0 (Asking 2)) (running Normal 3 100 3 0 Idle) (running Election 3 100 3 0 (Halting 2))
  -- the coordinator is lost: node 2 calls it, asks, halts 1, and leads
  pub calls : run 3 (grouped ++ (Crash 3 ∷ Timeout 2 ∷ [])) ≡ three (running Normal 3 100 3 0 Idle) (running Normal 3 100 3 0 Contacting) (off 3 100 3 3)
  pub asks : run 3 lost ≡ three (running Normal 3 100 3 0 Idle) (running Normal 3 100 3 0 (Asking 3)) (off 3 100 3 3)
  pub halts : run 3 (lost ++ (GoOn 2 ∷ [])) ≡ three (running Normal 3 100 3 0 Idle) (running Election 3 100 2 0 (Halting 1)) (off 3 100 3 3)
  pub leads : run 3 (lost ++ (GoOn 2 ∷ GoOn 2 ∷ GoOn 2 ∷ [])) ≡ three (running Reorganization 2 100 2 0 Idle) (running Reorganization 2 100 2 1 Point) (off 3 100 3 3)
  -- one that gets no answer to its Ready begins anew
  pub restarts : run 3 (elected ++ (Finish 3 (task_no 100) ∷ Crash 2 ∷ GoOn 3 ∷ []))
      ≡ three (running Reorganization 3 0 3 0 Idle) (off 3 0 3 0) (running Election 3 100 3 0 (Halting 2))
  -- "a timeout at its own coordinator changes nothing", nor does a check elsewhere than at a Normal coordinator
  pub own_timeout : step group (Timeout 3) ≡ accepted group
  pub member_check : step group (Check 1) ≡ accepted group
  -- the grounds; "a holder in its own .. call": node 1 contacts itself
  pub ground_1 : step (three (running Normal 1 100 1 0 Contacting) starting_node starting_node) (GoOn 1) ≡ refused 1
  pub ground_7 : step group (Finish 4 (task_no 5)) ≡ refused 7
  pub ground_8 : step group (Finish 3 (task_no 99)) ≡ refused 8
  pub ground_9 : step group (Recover 1) ≡ refused 9
  pub ground_9_off : step (start 3) (GoOn 1) ≡ refused 9
  pub ground_10 : step group (GoOn 1) ≡ refused 10
  pub ground_10_finish : step group (Finish 3 (task_no 100)) ≡ refused 10

-- node 3 announces itself to 1, and hands task 100 to 1, in a table of three where 2 is off; node 1 has the record d
abbrev pub announcing_to : Node → State
announcing_to d = three d (off 0 0 0 0) (running Reorganization 3 0 3 1 (Announcing 0 1))

abbrev pub handing_to : Node → State
handing_to d = three d (off 0 0 0 0) (running Reorganization 3 100 3 1 (Handing 0 1))

-- node 3 after the answer
abbrev pub announced : Node → State
announced d = three d (off 0 0 0 0) (running Reorganization 3 0 3 1 Point)

abbrev pub handed : Node → State
handed d = three d (off 0 0 0 0) (running Normal 3 100 3 1 Idle)

-- The tests of NewCoordinator and Ready, what recovery and the halting step clear, and a call to coordinator 0. The agreement of coordinators and tasks does not force all of
-- these; the cases do.
pub record CallCases : Type 0 where
  -- NewCoordinator reaches node 1, halted by 3 and in Election
  pub announced_to : step (announcing_to (running Election 0 0 3 0 Idle)) (GoOn 3) ≡ accepted (announced (running Reorganization 3 0 3 0 Idle))
  -- "IF S(i)·h = j": halted by 2 since, it answers and stays as it is
  pub other_halter : step (announcing_to (running Election 0 0 2 0 Idle)) (GoOn 3) ≡ accepted (announced (running Election 0 0 2 0 Idle))
  -- "AND S(i)·s = "Election"": in Reorganization under 2, it stays so
  pub not_in_election : step (announcing_to (running Reorganization 2 0 3 0 Idle)) (GoOn 3) ≡ accepted (announced (running Reorganization 2 0 3 0 Idle))
  -- Ready reaches node 1, in Reorganization under 3
  pub handed_to : step (handing_to (running Reorganization 3 0 3 0 Idle)) (GoOn 3) ≡ accepted (handed (running Normal 3 100 3 0 Idle))
  -- "IF S(i)·c = j"
  pub other_coordinator : step (handing_to (running Reorganization 2 0 3 0 Idle)) (GoOn 3) ≡ accepted (handed (running Reorganization 2 0 3 0 Idle))
  -- "AND S(i)·s = "Reorganization""
  pub not_reorganizing : step (handing_to (running Election 3 0 3 0 Idle)) (GoOn 3) ≡ accepted (handed (running Election 3 0 3 0 Idle))
  -- "Recovery clears the last halter"
  pub halter_cleared : step (three (off 3 100 3 0) (off 0 0 0 0) (off 0 0 0 0)) (Recover 1)
      ≡ accepted (three (running Down 3 100 0 0 (Asking 2)) (off 0 0 0 0) (off 0 0 0 0))
  -- "S(i)·Up := { }": the Up of an earlier election is emptied at the halting step
  pub up_emptied : step (three starting_node (off 0 0 0 0) (off 3 100 3 3)) (Recover 3)
      ≡ accepted (three starting_node (off 0 0 0 0) (running Election 3 100 3 0 (Halting 2)))
  -- "a call .. to coordinator 0, times out"
  pub coordinator_zero : step (three (running Normal 0 100 0 0 Contacting) (off 0 0 0 0) (off 0 0 0 0)) (GoOn 1)
      ≡ accepted (three (running Normal 0 100 0 0 (Asking 2)) (off 0 0 0 0) (off 0 0 0 0))

-- a table of three in which 2 is off, with the records a and c
abbrev pub without2 : Node → Node → State
without2 a c = three a (off 0 0 0 0) c

-- node 2 in Reorganization as its own coordinator, with task 100 and Up {1}, at the place p; node 1 has the record a, and 3 is off
abbrev pub under2 : Node → Place → State
under2 a p = three a (running Reorganization 2 100 2 1 p) (off 3 100 3 3)

-- the other ways out of each place, and the order of the grounds
pub record FurtherCases : Type 0 where
  -- Timeout, "ELSE CALL Election(i)": in Election, and Down while it runs
  pub timeout_election : step (three (running Election 0 0 3 0 Idle) starting_node starting_node) (Timeout 1) ≡ accepted (three (running Election 0 0 3 0 (Asking 2)) starting_node starting_node)
  pub timeout_down : step (three (running Down 3 100 0 0 Idle) starting_node starting_node) (Timeout 1) ≡ accepted (three (running Down 3 100 0 0 (Asking 2)) starting_node starting_node)
  -- Timeout of a member in Reorganization, and of a coordinator in it
  pub timeout_member : step (under2 (running Reorganization 2 0 2 0 Idle) Point) (Timeout 1) ≡ accepted (under2 (running Reorganization 2 0 2 0 Contacting) Point)
  pub timeout_own : step (three (running Reorganization 1 0 1 0 Idle) starting_node starting_node) (Timeout 1) ≡ accepted (three (running Reorganization 1 0 1 0 Idle) starting_node starting_node)
  -- the coordinator answers
  pub contact_answered : step (under2 (running Reorganization 2 0 2 0 Contacting) Point) (GoOn 1) ≡ accepted (under2 (running Reorganization 2 0 2 0 Idle) Point)
  -- "CALL AreYouThere(j)" is answered by one that runs, though it is Down
  pub asked_down : step (three (running Down 0 0 0 0 (Asking 2)) (running Down 0 0 0 0 (Asking 3)) starting_node) (GoOn 1)
      ≡ accepted (three (running Down 0 0 0 0 Idle) (running Down 0 0 0 0 (Asking 3)) starting_node)
  -- Halt, "ONTIMEOUT(T): NEXT ITERATION": one that is off does not join Up; after 1 comes the election point
  pub halt_timed_out : step (without2 (running Normal 3 100 3 0 Idle) (running Election 3 100 3 0 (Halting 2))) (GoOn 3)
      ≡ accepted (without2 (running Normal 3 100 3 0 Idle) (running Election 3 100 3 0 (Halting 1)))
  pub halt_last : step (without2 (running Normal 3 100 3 0 Idle) (running Election 3 100 3 0 (Halting 1))) (GoOn 3)
      ≡ accepted (without2 (running Election 3 100 3 0 Idle) (running Reorganization 3 100 3 1 (Announcing 0 1)))
  pub halt_nobody : step (without2 (off 0 0 0 0) (running Election 3 100 3 0 (Halting 1))) (GoOn 3) ≡ accepted (without2 (off 0 0 0 0) (running Reorganization 3 100 3 0 Point))
  -- NewCoordinator, "CALL Election(i); RETURN": the highest halts anew, another asks first and keeps its status meanwhile
  pub announce_timed_out : step (without2 (off 3 100 3 0) (running Reorganization 3 0 3 1 (Announcing 0 1))) (GoOn 3)
      ≡ accepted (without2 (off 3 100 3 0) (running Election 3 0 3 0 (Halting 2)))
  pub announce_restarts : step (under2 (off 2 0 2 0) (Announcing 0 1)) (GoOn 2) ≡ accepted (under2 (off 2 0 2 0) (Asking 3))
  -- Ready the same; and where a higher one answers then, it gives up, with its status and coordinator
  pub hand_restarts : step (under2 (off 2 0 2 0) (Handing 0 1)) (GoOn 2) ≡ accepted (under2 (off 2 0 2 0) (Asking 3))
  pub restart_given_up : step (three (off 2 0 2 0) (running Reorganization 2 100 2 1 (Asking 3)) (running Election 3 100 3 0 (Halting 2))) (GoOn 2)
      ≡ accepted (three (off 2 0 2 0) (running Reorganization 2 100 2 1 Idle) (running Election 3 100 3 0 (Halting 2)))
  -- Check: 1 asks 2 first, 2 goes from 1 to 3, one that is off is passed over, and after n it ends; with n = 1 there is nobody to ask
  pub check_first : step (three (running Normal 1 100 1 0 Idle) starting_node starting_node) (Check 1) ≡ accepted (three (running Normal 1 100 1 0 (Checking 2)) starting_node starting_node)
  pub check_passes : step (three (running Normal 2 100 2 0 Idle) (running Normal 2 100 2 1 (Checking 1)) starting_node) (GoOn 2)
      ≡ accepted (three (running Normal 2 100 2 0 Idle) (running Normal 2 100 2 1 (Checking 3)) starting_node)
  pub check_ends : step (three (running Normal 2 100 2 0 Idle) (running Normal 2 100 2 1 (Checking 3)) starting_node) (GoOn 2)
      ≡ accepted (three (running Normal 2 100 2 0 Idle) (running Normal 2 100 2 1 Idle) starting_node)
  pub check_one : step (record { n = 1; nodes = running Normal 1 100 1 0 Idle ∷ [] }) (Check 1) ≡ accepted (record { n = 1; nodes = running Normal 1 100 1 0 Idle ∷ [] })
  -- "IF ans = "No" THEN BEGIN CALL Election(i); RETURN; END": one that is not the highest asks
  pub check_no : step (three (running Election 2 100 3 0 Idle) (running Normal 2 100 2 1 (Checking 1)) starting_node) (GoOn 2)
      ≡ accepted (three (running Election 2 100 3 0 Idle) (running Normal 2 100 2 1 (Asking 3)) starting_node)
  -- a crash wherever it is in its procedure, all else kept
  pub crash_handing : step (under2 (running Reorganization 2 0 2 0 Idle) (Handing 0 1)) (Crash 2) ≡ accepted (three (running Reorganization 2 0 2 0 Idle) (off 2 100 2 1) (off 3 100 3 3))
  -- "9 asks whether the cabinet runs", not whether it is Down
  pub recover_running : step (three (running Down 0 0 0 0 Idle) starting_node starting_node) (Recover 1) ≡ refused 9
  pub crash_running : step (three (running Down 0 0 0 0 Idle) starting_node starting_node) (Crash 1) ≡ accepted (three starting_node starting_node starting_node)
  pub crash_off : step (start 3) (Crash 1) ≡ refused 9
  -- 10: check and timeout of a node that is not idle, also at the point
  pub check_busy : step (three (running Normal 1 100 1 0 (Checking 2)) starting_node starting_node) (Check 1) ≡ refused 10
  pub timeout_busy : step (three (running Reorganization 1 0 1 0 Point) starting_node starting_node) (Timeout 1) ≡ refused 10
  pub point_goes_on : step (three (running Reorganization 1 0 1 0 Point) starting_node starting_node) (GoOn 1) ≡ refused 10
  -- the order: 1 before 7, 7 before 8, 8 before 9, 9 before 10
  pub one_first : step (record { n = 17; nodes = [] }) (Crash 18) ≡ refused 1
  pub seven_first : step (start 3) (Finish 0 (task_no 99)) ≡ refused 7
  pub eight_first : step (start 3) (Finish 1 (task_no 99)) ≡ refused 8
  pub nine_first : step (start 3) (Finish 1 (task_no 100)) ≡ refused 9

-- node 2 of three that has this record is in range; the others are as at the start
abbrev pub in_range2 : Node → Bool
in_range2 c = in_range (three starting_node c starting_node)

-- each rule of the range, at its ends and just outside
pub record RangeCases : Type 0 where
  -- "n outside 1 to 16"
  pub none : in_range (start 0) ≡ false
  pub one : in_range (start 1) ≡ true
  pub sixteen : in_range (start 16) ≡ true
  pub seventeen : in_range (start 17) ≡ false
  -- coordinator and last halter 0 to 3, task 0 to 65,535
  pub numbers : in_range2 (running Normal 3 65535 3 0 Idle) ≡ true
  pub coordinator : in_range2 (running Normal 4 100 3 0 Idle) ≡ false
  pub halter : in_range2 (running Normal 3 100 4 0 Idle) ≡ false
  pub task : in_range2 (running Normal 3 65536 3 0 Idle) ≡ false
  -- Up: 1 and 3 at the most; "a holder in its own Up"
  pub up : in_range2 (running Normal 3 100 3 5 Idle) ≡ true
  pub up_holder : in_range2 (running Normal 3 100 3 2 Idle) ≡ false
  pub up_beyond : in_range2 (running Normal 3 100 3 8 Idle) ≡ false
  -- "one that does not run but is not Down and idle"
  pub off_down : in_range2 (off 3 100 3 5) ≡ true
  pub off_normal : in_range2 (record { runs = false; status = Normal; coordinator = 0; task = task_no 0; halter = 0; up = 0; place = Idle }) ≡ false
  pub off_asking : in_range2 (record { runs = false; status = Down; coordinator = 0; task = task_no 0; halter = 0; up = 0; place = Asking 3 }) ≡ false
  -- whom it asks: 3 alone
  pub asking : in_range2 (running Down 0 0 0 0 (Asking 3)) ≡ true
  pub asking_lower : in_range2 (running Down 0 0 0 0 (Asking 1)) ≡ false
  pub asking_itself : in_range2 (running Down 0 0 0 0 (Asking 2)) ≡ false
  pub asking_beyond : in_range2 (running Down 0 0 0 0 (Asking 4)) ≡ false
  -- whom it halts: 1 alone
  pub halting : in_range2 (running Election 0 0 2 0 (Halting 1)) ≡ true
  pub halting_higher : in_range2 (running Election 0 0 2 0 (Halting 3)) ≡ false
  pub halting_itself : in_range2 (running Election 0 0 2 0 (Halting 2)) ≡ false
  pub halting_none : in_range2 (running Election 0 0 2 0 (Halting 0)) ≡ false
  -- to whom it announces itself, and to whom still: 1 and 3
  pub announcing : in_range2 (running Reorganization 2 0 2 5 (Announcing 5 3)) ≡ true
  pub announcing_itself : in_range2 (running Reorganization 2 0 2 5 (Announcing 0 2)) ≡ false
  pub announcing_none : in_range2 (running Reorganization 2 0 2 5 (Announcing 0 0)) ≡ false
  pub announcing_beyond : in_range2 (running Reorganization 2 0 2 5 (Announcing 0 4)) ≡ false
  pub announcing_still : in_range2 (running Reorganization 2 0 2 5 (Announcing 2 1)) ≡ false
  pub announcing_still_beyond : in_range2 (running Reorganization 2 0 2 5 (Announcing 8 1)) ≡ false
  -- the same of handing
  pub handing : in_range2 (running Reorganization 2 100 2 5 (Handing 5 3)) ≡ true
  pub handing_itself : in_range2 (running Reorganization 2 100 2 5 (Handing 0 2)) ≡ false
  pub handing_none : in_range2 (running Reorganization 2 100 2 5 (Handing 0 0)) ≡ false
  pub handing_beyond : in_range2 (running Reorganization 2 100 2 5 (Handing 0 4)) ≡ false
  pub handing_still : in_range2 (running Reorganization 2 100 2 5 (Handing 2 1)) ≡ false
  pub handing_still_beyond : in_range2 (running Reorganization 2 100 2 5 (Handing 8 1)) ≡ false
  -- whom it checks: 1 and 3
  pub checking : in_range2 (running Normal 2 100 2 5 (Checking 3)) ≡ true
  pub checking_itself : in_range2 (running Normal 2 100 2 5 (Checking 2)) ≡ false
  pub checking_none : in_range2 (running Normal 2 100 2 5 (Checking 0)) ≡ false
  pub checking_beyond : in_range2 (running Normal 2 100 2 5 (Checking 4)) ≡ false
  -- its coordinator, which is not itself, and may be 0
  pub contacting : in_range2 (running Normal 3 100 3 0 Contacting) ≡ true
  pub contacting_none : in_range2 (running Normal 0 100 3 0 Contacting) ≡ true
  pub contacting_itself : in_range2 (running Normal 2 100 3 0 Contacting) ≡ false
