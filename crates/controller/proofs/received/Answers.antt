-- By the receiver.
use mathlib.Core.Path.{sym, ◌∙◌}
use Rattle.controller.proofs.Steps.{other_message, own_message}
use Rattle.controller.proofs.received.Goals as goal

pub returns-then-m-own : goal.returns-then-m-own
returns-then-m-own c =
    let s = c.args in
    sym (other_message s.n s.own s.node s.m c.if-m-own.true)

pub returns : goal.returns
returns c =
    let s = c.args in
    c.act.ensures ∙ sym (own_message s.n s.own s.node s.m c.if-m-own.false)
