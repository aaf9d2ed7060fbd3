-- What `agreed` promises: two events of the Bully machine from the starting table of n nodes, and the claim of T-07 that a user cites for the table that comes out.
use Rattle.std.specs.Prelude.{ℕ, true, ◌≡◌, [], ◌∷◌}
use Rattle.model.specs.Node.{is_normal, is_active}
use Rattle.bully_model.specs.State.{node_at, view}
use Rattle.bully_model.specs.Step.{step, run}
use Rattle.bully_model.specs.Answers.{answer_number, result_number}
use Rattle.bully_model.specs.declared.Event.{Event}
use Rattle.bully_model.specs.declared.Outcome.{Outcome}

-- the outcome r of the events a and b from the starting table of n nodes, for any n
pub record Agreed (n : ℕ) (a b : Event) (r : Outcome) : Type 0 where
  -- the table is the model's after both
  pub table : view r.table ≡ run n (a ∷ b ∷ [])
  -- the answer is the model's to b, on the table after a
  pub answer : answer_number r.answer ≡ result_number (step (run n (a ∷ [])) b)
  -- "two cabinets in Reorganization or Normal have the same coordinator, and two Normal ones the same task"
  pub same_coordinator : (i j : ℕ) → is_active (node_at (view r.table) i).status ≡ true → is_active (node_at (view r.table) j).status ≡ true
      → (node_at (view r.table) i).coordinator ≡ (node_at (view r.table) j).coordinator
  pub same_task : (i j : ℕ) → is_normal (node_at (view r.table) i).status ≡ true → is_normal (node_at (view r.table) j).status ≡ true
      → (node_at (view r.table) i).task ≡ (node_at (view r.table) j).task
