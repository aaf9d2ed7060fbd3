-- s and the sum of what is left are the sum of all.
use Prim.Native.Nat.{◌<◌}
use borrow.Author.Rules.{rules}
use mathlib.Core.Path.{sym, ◌∙◌}
use native.Mathlib.Omega.{arith}
use lib.ListN.{get_or}
use Rattle.listing.proofs.Totals.{total_turn, total_end}
use Rattle.listing.proofs.total.Goals as goal

pub overflow_add-s : goal.overflow_add-s
overflow_add-s c = let f : get_or c.args.l.now c.loop-x.x-index 0 < 4294967296 = search rules in omega (arith, c.loop-x.invariant.0)

pub loop-x-preserved : goal.loop-x-preserved
loop-x-preserved c =
    let t = total_turn c.args.l.now c.loop-x.x-index c.loop-x.s (omega arith) in
    let f : get_or c.args.l.now c.loop-x.x-index 0 < 4294967296 = search rules in
    (omega (arith, c.loop-x.invariant.0), sym t ∙ c.loop-x.invariant.1)

pub returns : goal.returns
returns c =
    let e = total_end c.args.l.now c.loop-x.x-index (omega arith) in
    omega (arith, c.loop-x.invariant.1)
