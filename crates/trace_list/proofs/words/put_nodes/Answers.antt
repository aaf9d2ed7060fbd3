-- `put_nodes` meets its contract: one node more with each turn.
use native.Mathlib.Omega.{arith}
use Rattle.trace_list.proofs.Put.{nodes_none, nodes_more}
use Rattle.trace_list.proofs.words.put_nodes.Goals as goal

pub loop-i-init : goal.loop-i-init
loop-i-init c = (nodes_none c.args.out.now c.args.s (omega arith), omega arith)

pub loop-i-preserved : goal.loop-i-preserved
loop-i-preserved c =
    let l = c.loop-i in
    let m = c.put_member.ensures in
    (nodes_more l.i _ l.invariant.0 m.0, omega (arith, m.1, l.invariant.1))
