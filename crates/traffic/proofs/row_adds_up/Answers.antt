-- The invariant: the test of the first b receivers.
use Prim.Native.Nat.{◌+◌, ◌-◌}
use mathlib.Core.Path.{◌≡◌, refl}
use native.Mathlib.Omega.{arith}
use Rattle.model.specs.State.{up_to}
use Rattle.traffic.proofs.Laws.{up_to_more}
use Rattle.traffic.proofs.row_adds_up.Goals as goal

pub loop-b-init : goal.loop-b-init
unfolding up_to
loop-b-init c = refl

pub loop-b-preserved : goal.loop-b-preserved
loop-b-preserved c =
    let e : c.loop-b.b + 1 - 1 ≡ c.loop-b.b = omega arith in
    up_to_more c.loop-b.b _ c.loop-b.good _ c.loop-b.invariant (rw e c.sum_holds-good.ensures)
