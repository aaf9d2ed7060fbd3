-- What a run of turns until no message waits promises.
use Rattle.std.specs.Prelude.{◌≡◌}
use Rattle.model.specs.State.{State, view}
use Rattle.rest_bound.specs.Turns.{turns_to_rest, table_at_rest}
use Rattle.rest_list.specs.declared.Rested.{Rested}

-- from the table s on
pub record RestedFrom (s : State) (r : Rested) : Type 0 where
  pub turns : r.turns ≡ turns_to_rest s
  pub table : view r.table ≡ table_at_rest s
