-- `list_tree::line::put_transitions` meets its contract: a line of 45 bytes at most for each transition.
use native.Mathlib.Omega.{arith}
use Rattle.listing.specs.Printing.{joined}
use Rattle.listing.proofs.Appended.{wrote_twice}
use Rattle.aldebaran_text.specs.System.{numbered}
use Rattle.list_tree.specs.Tree.{edges_in}
use Rattle.list_tree.proofs.Texts.{none_written, line_more}
use Rattle.list_tree.proofs.line.put_transitions.Goals as goal

pub loop-k-init : goal.loop-k-init
unfolding joined numbered
loop-k-init c =
    let h = c.requires.1 in
    (omega arith, none_written c.args.out.now (omega arith))

pub loop-k-preserved : goal.loop-k-preserved
loop-k-preserved c =
    let l = c.loop-k in
    let x = c.put_transition in
    (omega (arith, l.invariant.0, x.ensures.1), rw (line_more (edges_in c.args.t.now) l.k (omega (arith, c.loop-k-test.true))) (wrote_twice l.invariant.1 x.ensures.0))
