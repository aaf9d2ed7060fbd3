-- What a turn promises, by the definitions of `round`.
use Rattle.std.specs.Prelude.{◌≡◌}
use Rattle.model.specs.State.{view}
use Rattle.model.specs.Answers.{answer_number}
use Rattle.model.specs.declared.Table.{Table}
use Rattle.round.specs.Turn.{turn_at, turn_number, table_after, place_after, done_in}
use Rattle.round.specs.declared.Place.{Place}
use Rattle.round.specs.declared.Done.TheVariants.{Nothing}
use Rattle.round.specs.declared.TurnOutcome.{TurnOutcome}

-- The outcome r of a turn on the table t at the place p, for any table and place. What the table holds past its n records and its waiting messages is free where a message was
-- delivered or lost, and decides nothing.
pub record Turned (t : Table) (p : Place) (r : TurnOutcome) : Type 0 where
  -- the answer is the model's,
  pub answer : answer_number r.answer ≡ turn_number (turn_at (view t) p)
  -- and so are the table, the place of the next turn, and what was done
  pub table : view r.table ≡ table_after (view t) (turn_at (view t) p)
  pub place : r.place ≡ place_after p (turn_at (view t) p)
  pub done : r.done ≡ done_in (turn_at (view t) p)
  -- where nothing was done, in a refused turn too, it gives back the very same table, what stands past its records and its waiting messages included
  pub same : r.done ≡ Nothing → r.table ≡ t
