-- The procedures of Appendix I that make calls, each cut at its calls: what node i of n, whose record is c, does up to its next call. 02: "What needs no call is done in
-- the event that reaches it." The calls themselves are in Calls. A procedure's parts stand from its end to its beginning, because each goes on with the one above it.
-- Quoted without a document is the appendix; signs that the scan of it lost are put back.
use Rattle.std.specs.Prelude.{ℕ, ◌+◌, ◌-◌, true, false, ◌&&◌, eqb, leb}
use Rattle.node_set.specs.NodeSet.{without, highest}
use Rattle.model.specs.Pick.{pick}
use Rattle.model.specs.Node.{is_normal, is_active}
use Rattle.model.specs.declared.Status.TheVariants.{Down, Election, Reorganization, Normal}
use Rattle.model.specs.declared.TaskNo.{TaskNo}
use Rattle.bully_model.specs.Node.{with_runs, with_status, with_coordinator, with_task, with_halter, with_up, with_place}
use Rattle.bully_model.specs.declared.Place.TheVariants.{Idle, Asking, Halting, Announcing, Point, Handing, Checking, Contacting}
use Rattle.bully_model.specs.declared.Node.{Node}

-- ── PROCEDURE Election(i) ──

-- "FOR j IN S(i)·Up DO .. CALL Ready(j, i, S(i)·d)": those still to be called. 02: "Sets are walked as the appendix does where it says, else from the highest down."
-- After the last: "[[S(i)·s := "Normal";]] END Election"
unfoldable pub hand_next : Node → ℕ → Node
hand_next c still = pick (eqb still 0) (with_place (with_status c Normal) Idle) (with_place c (Handing (without still (highest still)) (highest still)))

-- the reorganization is over: "When done, node i has computed S(i)·d, the new task description", which is t
unfoldable pub finish : Node → TaskNo → Node
finish c t = hand_next (with_task c t) c.up

-- "FOR j IN S(i)·Up DO .. CALL NewCoordinator(j, i)": those still to be called, in the same order. After the last: "The reorganization of the system occurs here."
unfoldable pub announce_next : Node → ℕ → Node
announce_next c still = pick (eqb still 0) (with_place c Point) (with_place c (Announcing (without still (highest still)) (highest still)))

-- "Now node i has reached its "election point." .. [[S(i)·c := i; S(i)·s := "Reorganization";]]"
unfoldable pub election_point : ℕ → Node → Node
election_point i c = announce_next (with_status (with_coordinator c i) Reorganization) c.up

-- "FOR j := i − 1, i − 2, …, 2, 1 DO .. CALL Halt(j, i)": from j on down. After 1: the election point
unfoldable pub halt_from : ℕ → Node → ℕ → Node
halt_from i c j = pick (eqb j 0) (election_point i c) (with_place c (Halting j))

-- 02's "halting step": "Next, halt all lower priority nodes, starting with this node. [[CALL STOP; S(i)·s := "Election"; S(i)·h := i; S(i)·Up := { };]]"
unfoldable pub halting_step : ℕ → Node → Node
halting_step i c = halt_from i (with_up (with_halter (with_status (with_place c Idle) Election) i) 0) (i - 1)

-- "FOR j := i + 1, i + 2, …, n − 1, n DO .. CALL AreYouThere(j)": from j on up. After n: the halting step
unfoldable pub ask_from : ℕ → ℕ → Node → ℕ → Node
ask_from n i c j = pick (leb j n) (with_place c (Asking j)) (halting_step i c)

-- "First step is to check if any higher priority nodes are up."
unfoldable pub election : ℕ → ℕ → Node → Node
election n i c = ask_from n i c (i + 1)

-- ── PROCEDURE Recovery(i) ──

-- 02: "Recovery clears the last halter, starts the election and leaves the status Down until the halting step, though the cabinet runs."
-- The appendix: "S(i)·h := UNDEFINED; .. CALL Election(i)"
unfoldable pub recovery : ℕ → ℕ → Node → Node
recovery n i c = election n i (with_halter (with_runs c true) 0)

-- ── PROCEDURE Check(i) ──

-- node j is asked; after n the procedure ends
unfoldable pub check_at : ℕ → Node → ℕ → Node
check_at n c j = pick (leb j n) (with_place c (Checking j)) (with_place c Idle)

-- "FOR j := 1, 2, …, i − 1, i + 1, …, n DO CALL AreYouNormal(j, ans)": from j on up, i itself left out
unfoldable pub check_from : ℕ → ℕ → Node → ℕ → Node
check_from n i c j = pick (eqb j i) (check_at n c (j + 1)) (check_at n c j)

-- "IF [[S(i)·s = "Normal" AND S(i)·c = i]] THEN .. Check if everyone else is normal."; else nothing
unfoldable pub check : ℕ → ℕ → Node → Node
check n i c = pick (is_normal c.status && eqb c.coordinator i) (check_from n i c 1) c

-- ── PROCEDURE Timeout(i) ──

-- "IF [[S(i)·s = "Normal" OR S(i)·s = "Reorganization"]] THEN .. CALL AreYouThere(S(i)·c) .. ELSE CALL Election(i)"
-- 02: "In Reorganization or Normal, a timeout at its own coordinator changes nothing."
unfoldable pub timeout : ℕ → ℕ → Node → Node
timeout n i c = pick (is_active c.status) (pick (eqb c.coordinator i) c (with_place c Contacting)) (election n i c)

-- ── a crash ──

-- 02: "A crash leaves a cabinet not running, Down and idle, all else kept."
abbrev pub crashed : Node → Node
crashed c = with_place (with_status (with_runs c false) Down) Idle
