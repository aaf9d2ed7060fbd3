-- The step of T-07: what an event does, the table of grounds, and runs.
use Rattle.std.specs.Prelude.{ℕ, Bool, false, not, List, [], ◌∷◌}
use Rattle.model.specs.Pick.{pick}
use Rattle.model.specs.Grounds.{Ground, ground, judged}
use Rattle.model.specs.Range.{is_node, is_given_task}
use Rattle.bully_model.specs.Node.{is_idle, is_point, has_call}
use Rattle.bully_model.specs.Procedures.{finish, recovery, check, timeout, crashed}
use Rattle.bully_model.specs.Calls.{callee, called, answered, timed_out}
use Rattle.bully_model.specs.State.{State, start, node_at, stored, in_range}
use Rattle.bully_model.specs.declared.Place.{Place}
use Rattle.bully_model.specs.declared.Node.{Node}
use Rattle.bully_model.specs.declared.Event.{Event}
use Rattle.bully_model.specs.declared.Event.TheVariants.{Crash, Recover, Check, Timeout, GoOn, Finish}

-- ── what an event does ──

-- node i, whose record is c and whose place is p, calls node j, whose record is d: the call is done and answered, or it times out
unfoldable pub call : State → ℕ → Node → Place → ℕ → Node → State
call s i c p j d =
    pick d.runs
    (stored (stored s j (called i c p d)) i (answered s.n i c p d))
    (stored s i (timed_out s.n i c p))

-- 02: "Going on makes one cabinet's next call."
unfoldable pub go_on : State → ℕ → Node → Place → State
go_on s i c p = call s i c p (callee c p) (node_at s (callee c p))

-- the state after an accepted event
unfoldable pub effect : State → Event → State
effect s (Crash i) = stored s i (crashed (node_at s i))
effect s (Recover i) = stored s i (recovery s.n i (node_at s i))
effect s (Check i) = stored s i (check s.n i (node_at s i))
effect s (Timeout i) = stored s i (timeout s.n i (node_at s i))
effect s (GoOn i) = go_on s i (node_at s i) (node_at s i).place
effect s (Finish i t) = stored s i (finish (node_at s i) t)

-- ── 02: "Checks: 1, 7, 8, 9 and 10 apply in their old places"; those of 01's table of grounds ──

-- the event's node
abbrev pub actor : Event → ℕ
actor (Crash i) = i
actor (Recover i) = i
actor (Check i) = i
actor (Timeout i) = i
actor (GoOn i) = i
actor (Finish i t) = i

-- 8, 01: "finish task outside 100 to 65,535"
abbrev pub wrong_task : Event → Bool
wrong_task (Crash i) = false
wrong_task (Recover i) = false
wrong_task (Check i) = false
wrong_task (Timeout i) = false
wrong_task (GoOn i) = false
wrong_task (Finish i t) = not (is_given_task t.number)

-- 02: "9 asks whether the cabinet runs": recover, where it does; all others, where it does not
abbrev pub wrong_running : Bool → Event → Bool
wrong_running runs (Crash i) = not runs
wrong_running runs (Recover i) = runs
wrong_running runs (Check i) = not runs
wrong_running runs (Timeout i) = not runs
wrong_running runs (GoOn i) = not runs
wrong_running runs (Finish i t) = not runs

-- 10, 01: "check, timeout: not idle"; 02: "go on needs a call to make and finish the reorganization point, else 10"
abbrev pub wrong_place : Place → Event → Bool
wrong_place p (Crash i) = false
wrong_place p (Recover i) = false
wrong_place p (Check i) = not (is_idle p)
wrong_place p (Timeout i) = not (is_idle p)
wrong_place p (GoOn i) = not (has_call p)
wrong_place p (Finish i t) = not (is_point p)

-- the table of grounds of an event
unfoldable pub grounds : State → Event → List Ground
grounds s e =
    -- 01: "table handed in": "not in range"
    ground 1 (not (in_range s))
    -- 01: "event's numbers": 7 is "cabinet outside 1 to n"
    ∷ ground 7 (not (is_node s.n (actor e)))
    ∷ ground 8 (wrong_task e)
    -- 01: "state"
    ∷ ground 9 (wrong_running (node_at s (actor e)).runs e)
    ∷ ground 10 (wrong_place (node_at s (actor e)).place e)
    ∷ []

-- ── the step ──

-- an event is refused with a ground's number, or accepted: the state after it
pub data Result : Type 0 where
  refused : ℕ → Result
  accepted : State → Result

-- by the first ground that applies (`judged` of model's specs/Grounds)
unfoldable pub step : State → Event → Result
step s e = judged refused (accepted (effect s e)) (grounds s e)

-- a refusal leaves the state as it was
abbrev pub kept : State → Result → State
kept s (refused r) = s
kept s (accepted u) = u

abbrev pub after : State → Event → State
after s e = kept s (step s e)

-- ── 02: "after any events from all Down": events of any list, refused ones included ──

unfoldable pub run_from : State → List Event → State
run_from s [] = s
run_from s (e ∷ es) = run_from (after s e) es

-- the table after a run
abbrev pub run : ℕ → List Event → State
run n es = run_from (start n) es
