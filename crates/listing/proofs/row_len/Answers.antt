-- What is counted, and the length of what is left, is one more than the whole: the end of the line is counted at once.
use native.Mathlib.Omega.{arith}
use lib.ListN.{length-append}
use Rattle.listing.proofs.Row.{row_turn_long, row_end_long}
use Rattle.listing.proofs.row_len.Goals as goal

pub loop-y-init : goal.loop-y-init
loop-y-init g c = (omega (arith, c.digit_count-n.ensures.1), simp length-append (omega (arith, c.digit_count-n.ensures.0)))

pub overflow_add-n-in-loop-y-2 : goal.overflow_add-n-in-loop-y-2
overflow_add-n-in-loop-y-2 g c = omega (arith, c.loop-y.invariant.0, c.requires)

pub loop-y-preserved : goal.loop-y-preserved
loop-y-preserved g c =
    let t = row_turn_long c.args.more.now c.loop-y.y-index (omega arith) in
    (omega (arith, c.loop-y.invariant.0), omega (arith, c.loop-y.invariant.1))

pub returns : goal.returns
returns g c =
    let t = row_end_long c.args.more.now c.loop-y.y-index (omega arith) in
    (omega (arith, c.loop-y.invariant.1), omega (arith, c.loop-y.invariant.0, c.requires))
