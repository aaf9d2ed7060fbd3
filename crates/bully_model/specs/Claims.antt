-- What is claimed of the definitions. The proofs are in proofs/.
use Rattle.std.specs.Prelude.{ℕ, ◌≤◌, Bool, true, false, ◌≡◌, ◌⊎◌, List, [], ◌∷◌, map}
use Rattle.model.specs.Limits.{node_limit}
use Rattle.model.specs.Node.{is_normal, is_active}
use Rattle.model.specs.declared.Status.TheVariants.{Down}
use Rattle.bully_model.specs.Calls.{callee}
use Rattle.bully_model.specs.State.{State, start, node_at, in_range}
use Rattle.bully_model.specs.Step.{actor, grounds, refused, accepted, step, run_from, run}
use Rattle.bully_model.specs.declared.Place.{Place}
use Rattle.bully_model.specs.declared.Place.TheVariants.{Idle, Asking, Halting, Announcing, Point, Handing, Checking, Contacting}
use Rattle.bully_model.specs.declared.Event.{Event}
use Rattle.bully_model.specs.declared.Event.TheVariants.{Crash, Recover, Check, Timeout, GoOn, Finish}

-- What 02 wants proved, of every list of events from the table s (Assertion 1 of document 002). i and j are any numbers: one outside 1 to n is nobody's, whose record is Down.
pub record Agreement (s : State) : Type 0 where
  -- "two cabinets in Reorganization or Normal have the same coordinator"
  pub same_coordinator : (es : List Event) (i j : ℕ)
      → is_active (node_at (run_from s es) i).status ≡ true → is_active (node_at (run_from s es) j).status ≡ true
      → (node_at (run_from s es) i).coordinator ≡ (node_at (run_from s es) j).coordinator
  -- "and two Normal ones the same task"
  pub same_task : (es : List Event) (i j : ℕ)
      → is_normal (node_at (run_from s es) i).status ≡ true → is_normal (node_at (run_from s es) j).status ≡ true
      → (node_at (run_from s es) i).task ≡ (node_at (run_from s es) j).task

-- every node is Down and idle, running or not, whatever else its record has kept
abbrev pub AllDown : State → Type 0
AllDown s = (i : ℕ) → ((node_at s i).status ≡ Down) × ((node_at s i).place ≡ Idle)

-- "Proved after any events from all Down"
pub record AgreesFromDown : Type 0 where
  -- from the starting table of any number of nodes
  pub from_start : (n : ℕ) → Agreement (start n)
  -- and from every table whose nodes are all Down and idle, as after a power cut
  pub from_down : (s : State) → AllDown s → Agreement s

pub record StaysInRange : Type 0 where
  -- the starting table is in range
  pub starts : (n : ℕ) → 1 ≤ n → n ≤ node_limit → in_range (start n) ≡ true
  -- an accepted event leaves a table in range (one that is not in range meets ground 1)
  pub keeps : (s : State) (e : Event) (u : State) → step s e ≡ accepted u → in_range u ≡ true
  -- so every table of a run is in range, and no run meets ground 1
  pub runs : (n : ℕ) → 1 ≤ n → n ≤ node_limit → (es : List Event) → in_range (run n es) ≡ true
  pub never_one : (n : ℕ) → 1 ≤ n → n ≤ node_limit → (es : List Event) (e : Event) → step (run n es) e ≡ refused 1 → ⊥

pub record RefusesByGround : Type 0 where
  -- "1, 7, 8, 9 and 10 apply in their old places"
  pub order : (s : State) (e : Event) → map (λ g. g.number) (grounds s e) ≡ 1 ∷ 7 ∷ 8 ∷ 9 ∷ 10 ∷ []
  -- and no other ground does
  pub numbers : (s : State) (e : Event) (r : ℕ) → step s e ≡ refused r → (r ≡ 1) ⊎ ((7 ≤ r) × (r ≤ 10))

-- whom the event's node calls; only a go on makes a call, else 0
abbrev pub called_by : State → Event → ℕ
called_by s (Crash i) = 0
called_by s (Recover i) = 0
called_by s (Check i) = 0
called_by s (Timeout i) = 0
called_by s (GoOn i) = callee (node_at s i) (node_at s i).place
called_by s (Finish i t) = 0

-- whether the call of a place can change the record of the one called: Halt, NewCoordinator and Ready do, AreYouThere and AreYouNormal only ask
abbrev pub changes_called : Place → Bool
changes_called Idle = false
changes_called (Asking j) = false
changes_called (Halting j) = true
changes_called (Announcing still j) = true
changes_called Point = false
changes_called (Handing still j) = true
changes_called (Checking j) = false
changes_called Contacting = false

-- how little a step changes
pub record StepIsLocal : Type 0 where
  -- the number of nodes stays
  pub nodes : (s : State) (e : Event) (u : State) → step s e ≡ accepted u → u.n ≡ s.n
  -- only the event's node and the one that it calls
  pub others : (s : State) (e : Event) (u : State) → step s e ≡ accepted u → (j : ℕ) → (j ≡ actor e → ⊥) → (j ≡ called_by s e → ⊥) → node_at u j ≡ node_at s j
  -- only the event's node, where the one that it calls does not run, or is only asked
  pub timed_out_lem : (s : State) (e : Event) (u : State) → step s e ≡ accepted u → (node_at s (called_by s e)).runs ≡ false → (j : ℕ) → (j ≡ actor e → ⊥) → node_at u j ≡ node_at s j
  pub asked : (s : State) (e : Event) (u : State) → step s e ≡ accepted u → changes_called (node_at s (actor e)).place ≡ false → (j : ℕ) → (j ≡ actor e → ⊥) → node_at u j ≡ node_at s j
