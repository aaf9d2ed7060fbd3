-- What the public functions promise, by the definitions of `bully_model`.
use Rattle.std.specs.Prelude.{ℕ, ◌≡◌, replicate}
use Rattle.model.specs.Pick.{pick}
use Rattle.model.specs.Limits.{node_limit}
use Rattle.model.specs.State.{wrong_count}
use Rattle.model.specs.Answers.{start_number}
use Rattle.bully_model.specs.State.{starting_node, start, view}
use Rattle.bully_model.specs.Step.{step, after}
use Rattle.bully_model.specs.Answers.{Accepted, answer_number, result_number}
use Rattle.bully_model.specs.declared.Table.{Table}
use Rattle.bully_model.specs.declared.Event.{Event}
use Rattle.bully_model.specs.declared.Outcome.{Outcome}
use Rattle.bully_machine.specs.declared.Start.{Start}

-- the outcome r of event e on the table t. What the table holds past its n records is free after an accepted event, and decides nothing.
pub record Stepped (t : Table) (e : Event) (r : Outcome) : Type 0 where
  -- the answer is the model's
  pub answer : answer_number r.answer ≡ result_number (step (view t) e)
  -- and so is the table
  pub table : view r.table ≡ after (view t) e
  -- a refusal gives back the very same table, all places included
  pub same : (r.answer ≡ Accepted → ⊥) → r.table ≡ t

-- 02: "all Down", in every record of the code's table
abbrev pub starting_table : ℕ → Table
starting_table n = record { n = n; nodes = replicate node_limit starting_node }

-- What `starting` answers for n, and the table that it returns, also where it refuses n.
pub record Begun (n : ℕ) (r : Start) : Type 0 where
  -- refusal 6 of 01, "n outside 1 to 16", or none; 02 has no number of its own for it
  pub answer : start_number r.answer ≡ pick (wrong_count node_limit n) 6 0
  -- the table in all its places
  pub exact : r.table ≡ starting_table n
  -- so it is the model's
  pub table : view r.table ≡ start n
