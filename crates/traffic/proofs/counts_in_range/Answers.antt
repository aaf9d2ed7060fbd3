-- The invariant: the test so far, and those of the counts from k on.
use mathlib.Core.Path.{sym, ◌∙◌}
use native.Mathlib.Omega.{arith}
use borrow.Author.Tests.{eq-eqb}
use Rattle.model.specs.State.{counts_in_range}
use Rattle.traffic.proofs.Laws.{each_turn, each_end}
use Rattle.traffic.proofs.counts_in_range.Goals as goal

pub loop-k-preserved : goal.loop-k-preserved
loop-k-preserved c =
    rw c.most-end.ensures (c.loop-k.invariant ∙ each_turn c.args.n c.args.sent.now c.args.delivered.now c.args.lost.now c.loop-k.k c.loop-k.good (omega arith) (omega arith) (omega arith))

pub returns : goal.returns
unfolding counts_in_range
returns c =
    rw (eq-eqb _ 256 c.told-sent, eq-eqb _ 256 c.told-delivered, eq-eqb _ 256 c.told-lost)
    (sym (c.loop-k.invariant ∙ each_end c.args.n c.args.sent.now c.args.delivered.now c.args.lost.now c.loop-k.k c.loop-k.good (omega arith) (omega arith) (omega arith)))
