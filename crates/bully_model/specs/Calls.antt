-- The calls: the IMMEDIATE procedures of Appendix I, and, by a node's place, whom it calls, what the call does there, and how the caller goes on.
-- 02: "Going on makes one cabinet's next call. A call to a running cabinet is done and answered within that event; a call to one that does not run, or to
-- coordinator 0, times out within it."
use Rattle.std.specs.Prelude.{ℕ, ◌+◌, ◌-◌, Bool, ◌&&◌, eqb}
use Rattle.node_set.specs.NodeSet.{with}
use Rattle.model.specs.Pick.{pick}
use Rattle.model.specs.Node.{is_election, is_reorganization, is_normal}
use Rattle.model.specs.declared.Status.TheVariants.{Election, Reorganization, Normal}
use Rattle.model.specs.declared.TaskNo.{TaskNo}
use Rattle.bully_model.specs.Node.{with_status, with_coordinator, with_task, with_halter, with_up, with_place}
use Rattle.bully_model.specs.Procedures.{hand_next, announce_next, halt_from, ask_from, election, check_from}
use Rattle.bully_model.specs.declared.Place.{Place}
use Rattle.bully_model.specs.declared.Place.TheVariants.{Idle, Asking, Halting, Announcing, Point, Handing, Checking, Contacting}
use Rattle.bully_model.specs.declared.Node.{Node}

-- ── the IMMEDIATE procedures, at node i, whose record is c. AreYouThere: "Nothing is actually done at node i." ──

-- AreYouNormal(i, answer): "IF S(i)·s = "Normal" THEN answer := "Yes" ELSE answer := "No""
abbrev pub are_you_normal : Node → Bool
are_you_normal c = is_normal c.status

-- Halt(i, j): "S(i)·s := "Election"; S(i)·h := j; CALL STOP". 02: "A halt stops whatever the halted cabinet was doing."
abbrev pub halt : Node → ℕ → Node
halt c j = with_place (with_halter (with_status c Election) j) Idle

-- NewCoordinator(i, j): "IF S(i)·h = j AND S(i)·s = "Election" THEN S(i)·c := j; S(i)·s := "Reorganization""
unfoldable pub new_coordinator : Node → ℕ → Node
new_coordinator c j = pick (eqb c.halter j && is_election c.status) (with_status (with_coordinator c j) Reorganization) c

-- Ready(i, j, x): "IF S(i)·c = j AND S(i)·s = "Reorganization" THEN S(i)·d := x; S(i)·s := "Normal""
unfoldable pub ready : Node → ℕ → TaskNo → Node
ready c j x = pick (eqb c.coordinator j && is_reorganization c.status) (with_status (with_task c x) Normal) c

-- ── the call of node i, whose record is c, by its place ──

-- whom it calls: a node, or its coordinator, which may be 0; 0 too where there is no call to make
abbrev pub callee : Node → Place → ℕ
callee c Idle = 0
callee c (Asking j) = j
callee c (Halting j) = j
callee c (Announcing still j) = j
callee c Point = 0
callee c (Handing still j) = j
callee c (Checking j) = j
callee c Contacting = c.coordinator

-- what the call leaves of the one called, which runs, and whose record is d
unfoldable pub called : ℕ → Node → Place → Node → Node
called i c Idle d = d
-- AreYouThere
called i c (Asking j) d = d
called i c (Halting j) d = halt d i
called i c (Announcing still j) d = new_coordinator d i
called i c Point d = d
called i c (Handing still j) d = ready d i c.task
-- AreYouNormal
called i c (Checking j) d = d
-- AreYouThere
called i c Contacting d = d

-- how the caller goes on when the one called, whose record was d, has answered
unfoldable pub answered : ℕ → ℕ → Node → Place → Node → Node
answered n i c Idle d = c
-- "If any such node is up, quit.": "RETURN"
answered n i c (Asking j) d = with_place c Idle
-- "[[S(i)·Up := {j} UNION S(i)·Up;]]"
answered n i c (Halting j) d = halt_from i (with_up c (with c.up j)) (j - 1)
answered n i c (Announcing still j) d = announce_next c still
answered n i c Point d = c
answered n i c (Handing still j) d = hand_next c still
-- "IF ans = "No" THEN BEGIN CALL Election(i); RETURN; END"
answered n i c (Checking j) d = pick (are_you_normal d) (check_from n i c (j + 1)) (election n i c)
-- the coordinator is up
answered n i c Contacting d = with_place c Idle

-- how the caller goes on when the call has timed out: what stands behind its ONTIMEOUT(T)
unfoldable pub timed_out : ℕ → ℕ → Node → Place → Node
timed_out n i c Idle = c
-- "NEXT ITERATION"
timed_out n i c (Asking j) = ask_from n i c (j + 1)
-- "NEXT ITERATION"
timed_out n i c (Halting j) = halt_from i c (j - 1)
-- "CALL Election(i); RETURN". 02: "Where the appendix restarts an election, the earlier one runs no further."
timed_out n i c (Announcing still j) = election n i c
timed_out n i c Point = c
-- "CALL Election(i); RETURN"
timed_out n i c (Handing still j) = election n i c
-- "NEXT ITERATION"
timed_out n i c (Checking j) = check_from n i c (j + 1)
-- "CALL Election(i)"
timed_out n i c Contacting = election n i c
