-- A byte more at each turn.
use Rattle.std.proofs.Common.{add-zero, arith, sym, ◌∙◌}
use Rattle.number_bytes.proofs.Records.{bytes_turn, bytes_end}
use Rattle.number_bytes.proofs.put_bytes.Goals as goal

pub loop-i-init : goal.loop-i-init
loop-i-init c = rw add-zero

pub loop-i-preserved : goal.loop-i-preserved
loop-i-preserved c =
    c.loop-i.invariant ∙ bytes_turn c.args.l.now c.loop-i.i (omega arith) _ _ (omega arith) c.loop-i.out _ c.put.ensures

pub returns : goal.returns
returns c = sym (c.loop-i.invariant ∙ bytes_end c.args.l.now c.loop-i.i (omega arith) _ _)
