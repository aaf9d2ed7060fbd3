-- The invariant: the test of the first a senders.
use mathlib.Core.Path.{refl}
use Rattle.model.specs.State.{up_to}
use Rattle.traffic.proofs.Laws.{up_to_more}
use Rattle.traffic.proofs.adds_up.Goals as goal

pub loop-a-init : goal.loop-a-init
unfolding up_to
loop-a-init c = refl

pub loop-a-preserved : goal.loop-a-preserved
loop-a-preserved c = up_to_more c.loop-a.a _ c.loop-a.good _ c.loop-a.invariant c.row_adds_up-good.ensures
