-- What the inner functions compute and need.
use Rattle.std.specs.Prelude.{true, ◌≡◌}
use Rattle.model.specs.State.{view, waits}
use Rattle.model.specs.declared.Table.{Table}
use Rattle.model.specs.Answers.{Answer}
use Rattle.round.specs.Turn.{turn_accepted, turn_at}
use Rattle.round.specs.Claims.{AtPair, with_loss}
use Rattle.round.specs.declared.Place.{Place}
use Rattle.round.specs.declared.Done.{Done}
use Rattle.round.specs.declared.Done.TheVariants.{Lost}
use Rattle.round.specs.declared.TurnOutcome.{TurnOutcome}

abbrev pub outcome : Table → Place → Done → Answer → TurnOutcome
outcome t p d a = record { table = t; place = p; done = d; answer = a }

-- the turn at p loses the oldest message of the pair, and the next is at q
pub record Losing (t : Table) (p q : Place) : Type 0 where
  pub looks : AtPair (view t) p
  pub waits : waits p.sender p.receiver (view t).queue ≡ true
  pub turn : turn_at (view t) p ≡ turn_accepted (with_loss (view t) p.sender p.receiver) q Lost
