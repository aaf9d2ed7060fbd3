-- `TextBuffer::put_table` meets its contract: each line is written behind the one before it, or refused.
use Prim.Native.Nat.{◌+◌}
use native.Mathlib.Omega.{arith}
use Rattle.model.specs.State.{view}
use Rattle.listing.specs.Lines.{total_lines}
use Rattle.listing.proofs.Table.{left, left_first, turn, left_end}
use Rattle.listing.proofs.Written.{lines_then, lines_refused}
use Rattle.listing.proofs.buffer.TextBuffer.put_table.Goals as goal

pub loop-i-init : goal.loop-i-init
loop-i-init c = λ r d w. rw left_first at w

pub returns-in_err-put_node : goal.returns-in_err-put_node
returns-in_err-put_node c =
    let t = c.args.t in
    let e = turn t c.loop-i.i c.loop-i-test.true _ c.node_at.ensures in
    c.loop-i.invariant _ _ (rw e (lines_refused (left (view t) (c.loop-i.i + 1)) c.put_node.ensures c.in_err-put_node.was c.from_residual.ensures.0))

pub loop-i-preserved : goal.loop-i-preserved
loop-i-preserved c =
    let e = turn c.args.t c.loop-i.i c.loop-i-test.true _ c.node_at.ensures in
    λ r d w. c.loop-i.invariant r d (rw e (lines_then c.put_node.ensures c.in_ok-put_node.was w))

pub returns-in_err-put_messages : goal.returns-in_err-put_messages
returns-in_err-put_messages c =
    let t = c.args.t in
    c.loop-i.invariant _ _
    (rw (left_end t c.loop-i.i (omega arith))
    (lines_refused (total_lines (view t)) c.put_messages.ensures c.in_err-put_messages.was c.from_residual-in_err-put_messages.ensures.0))

pub returns : goal.returns
returns c = c.loop-i.invariant _ _ (rw (left_end c.args.t c.loop-i.i (omega arith)) (lines_then c.put_messages.ensures c.in_ok-put_messages.was c.put_totals.ensures))
