-- `remove` meets its contract: without its message at j, the row is what it is to be.
use Prim.Native.Nat.{◌+◌}
use mathlib.Core.Path.{◌≡◌, sym, ◌∙◌}
use native.Mathlib.Omega.{arith}
use Rattle.model.specs.State.{no_message}
use Rattle.machine.proofs.Laws.{without_turn, without_last_lem}
use Rattle.packed.specs.Packed.{held}
use Rattle.packed.proofs.Laws.{held_long}
use Rattle.packed.proofs.remove.Goals as goal

pub loop-j-preserved : goal.loop-j-preserved
loop-j-preserved c =
    let l = c.loop-j in
    let s = c.args in
    (c.move_down.array_long, rw c.move_down.ensures (without_turn (held l.q) (s.end + 1) (omega (arith, held_long 64 l.q l.invariant.0)) l.j (omega arith) no_message) ∙ l.invariant.1)

pub returns : goal.returns
returns c =
    let l = c.loop-j in
    let e : l.j ≡ c.args.end = omega arith in
    sym (without_last_lem (held l.q) c.args.end) ∙ (rw e at l.invariant.1)
