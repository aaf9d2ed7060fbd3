-- What the code led to by a schedule: each turn gets the place that the last turn left, and each turn or event the table left before it.
use Rattle.std.specs.Prelude.{◌≡◌, List, [], ◌∷◌}
use Rattle.model.specs.State.{view}
use Rattle.model.specs.declared.Table.{Table}
use Rattle.model.specs.declared.Event.{Event}
use Rattle.model.specs.declared.Outcome.{Outcome}
use Rattle.machine.specs.Stepped.{Stepped}
use Rattle.round.specs.Schedule.{Move, turn, event, drive, events_of}
use Rattle.round.specs.declared.Place.{Place}
use Rattle.round.specs.declared.TurnOutcome.{TurnOutcome}
use Rattle.driver.specs.Turned.{Turned}

-- from the table t and the place p, by the moves, to the table u and the place q: r is what `turn` returned, or `step`
pub data Scheduled : Table → Place → List Move → Table → Place → Type 0 where
  none : {t : Table} {p : Place} → Scheduled t p [] t p
  turned : {t : Table} {p : Place} {r : TurnOutcome} {ms : List Move} {u : Table} {q : Place} → Turned t p r → Scheduled r.table r.place ms u q → Scheduled t p (turn ∷ ms) u q
  stepped : {t : Table} {p : Place} {e : Event} {r : Outcome} {ms : List Move} {u : Table} {q : Place} → Stepped t e r → Scheduled r.table p ms u q → Scheduled t p (event e ∷ ms) u q

-- Turns and steps led from the table t to the table u, by the events es: those that the turns chose, and those between.
pub record ByDriver (t : Table) (es : List Event) (u : Table) : Type 0 where
  pub place : Place
  pub moves : List Move
  pub next : Place
  pub schedule : Scheduled t place moves u next
  pub events : es ≡ events_of (drive (view t) place) moves
