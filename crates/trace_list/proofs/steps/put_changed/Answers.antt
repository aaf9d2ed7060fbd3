-- `put_changed` meets its contract: one line, or none.
use native.Mathlib.Omega.{arith}
use mathlib.Core.Bool.{not}
use mathlib.Core.Path.{sym, ◌∙◌, ap}
use borrow.Author.Tests.{not-true, not-false}
use Rattle.trace_list.proofs.Put.{other_in, other_out}
use Rattle.trace_list.proofs.steps.put_changed.Goals as goal

pub returns-then-not-same_node : goal.returns-then-not-same_node
returns-then-not-same_node c =
    let r = c.put_record.ensures in
    other_in 240 _ _ (sym c.same_node.ensures ∙ not-true _ (ap not c.if-not-same_node.true)) r.0 r.1

pub returns-else-not-same_node : goal.returns-else-not-same_node
returns-else-not-same_node c = other_out 240 _ _ _ (sym c.same_node.ensures ∙ not-false _ (ap not c.if-not-same_node.false)) (omega arith)
