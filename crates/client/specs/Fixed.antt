-- What the functions of this crate promise: two events from the starting table of n nodes with the limits l, and the part of demand 3 that a user cites for the table that comes out.
use Rattle.std.specs.Prelude.{ℕ, ◌≤◌, ◌≡◌, List, [], ◌∷◌}
use Rattle.model.specs.State.{State, node_at, view}
use Rattle.model.specs.Step.{step, run}
use Rattle.model.specs.History.{Task, history}
use Rattle.model.specs.Answers.{answer_number, result_number}
use Rattle.model.specs.declared.Limits.{Limits}
use Rattle.model.specs.declared.Status.TheVariants.{Normal}
use Rattle.model.specs.declared.Event.{Event}
use Rattle.model.specs.declared.Outcome.{Outcome}

-- in the table s of n nodes with the limits l, a Normal node's task is the one that the list es fixed for its group
abbrev pub Fixed : ℕ → Limits → List Event → State → Type 0
Fixed n l es s = (i : ℕ) → 1 ≤ i → i ≤ n → (node_at s i).status ≡ Normal → (history n l es).entry (node_at s i).group.number ≡ Task (node_at s i).task.number

-- the outcome r of the events a and b from the starting table of n nodes with the limits l, for any n and l (where such a table is not in range, every event is refused and no
-- node is Normal)
pub record Twice (n : ℕ) (l : Limits) (a b : Event) (r : Outcome) : Type 0 where
  -- the table is the model's after both
  pub table : view r.table ≡ run n l (a ∷ b ∷ [])
  -- the answer is the model's to b, on the table after a
  pub answer : answer_number r.answer ≡ result_number (step (run n l (a ∷ [])) b)
  pub fixed : Fixed n l (a ∷ b ∷ []) (view r.table)
