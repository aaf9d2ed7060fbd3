-- Folding the code's step over a list of events: each step gets the table that the one before returned.
use Rattle.std.specs.Prelude.{List, [], ◌∷◌}
use Rattle.model.specs.declared.Table.{Table}
use Rattle.model.specs.declared.Event.{Event}
use Rattle.model.specs.declared.Outcome.{Outcome}
use Rattle.machine.specs.Stepped.{Stepped}

-- from the table t, by the events, to the table u: r is what `step` (or `advance`) returned
pub data Folded : Table → List Event → Table → Type 0 where
  none : {t : Table} → Folded t [] t
  more : {t : Table} {e : Event} {es : List Event} {r : Outcome} {u : Table} → Stepped t e r → Folded r.table es u → Folded t (e ∷ es) u
