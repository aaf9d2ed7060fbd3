-- What the inner functions compute and need: the grounds but 1 in two groups, and what passing them gives.
use Rattle.std.specs.Prelude.{ℕ, ◌≤◌, not, ◌≡◌, List, [], ◌∷◌}
use Rattle.model.specs.Limits.{node_limit}
use Rattle.model.specs.Grounds.{Ground, ground, first}
use Rattle.model.specs.Range.{is_node}
use Rattle.bully_model.specs.Calls.{callee}
use Rattle.bully_model.specs.State.{node_at, view}
use Rattle.bully_model.specs.Step.{actor, wrong_task, wrong_running, wrong_place, grounds}
use Rattle.bully_model.specs.declared.Place.{Place}
use Rattle.bully_model.specs.declared.Place.TheVariants.{Idle, Asking, Halting, Announcing, Point, Handing, Checking, Contacting}
use Rattle.bully_model.specs.declared.Node.{Node}
use Rattle.bully_model.specs.declared.Table.{Table}
use Rattle.bully_model.specs.declared.Event.{Event}

-- ── the grounds but 1 ──

-- by the event's numbers
abbrev pub number_grounds : ℕ → Event → List Ground
number_grounds n e = ground 7 (not (is_node n (actor e))) ∷ ground 8 (wrong_task e) ∷ []

-- by the record of the event's node
abbrev pub state_grounds : Node → Event → List Ground
state_grounds c e = ground 9 (wrong_running c.runs e) ∷ ground 10 (wrong_place c.place e) ∷ []

-- ── what the code needs so that no number overflows; what is in range has it ──

-- j can be put into a set, and j − 1 and j + 1 fit a u8, where they are needed
abbrev pub FitsPlace : Place → Type 0
FitsPlace Idle = Unit {0}
FitsPlace (Asking j) = j ≤ node_limit
FitsPlace (Halting j) = (1 ≤ j) × (j ≤ node_limit)
FitsPlace (Announcing still j) = Unit {0}
FitsPlace Point = Unit {0}
FitsPlace (Handing still j) = Unit {0}
FitsPlace (Checking j) = j ≤ node_limit
FitsPlace Contacting = Unit {0}

-- an event of node i, whose record is c, has passed 1 and 7
pub record Passed (t : Table) (i : ℕ) (c : Node) : Type 0 where
  pub small : t.n ≤ node_limit
  pub low : 1 ≤ i
  pub high : i ≤ t.n
  pub here : c ≡ node_at (view t) i
  pub place : FitsPlace c.place
  pub callee : callee c c.place ≤ t.n

-- no ground of an event is met, and c is the record of its node
pub record AllClear (t : Table) (e : Event) (c : Node) : Type 0 where
  pub none : first (grounds (view t) e) ≡ 0
  pub passed : Passed t (actor e) c
