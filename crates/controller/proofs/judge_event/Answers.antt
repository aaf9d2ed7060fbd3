-- By the tests, in the order of the grounds.
use mathlib.Core.Path.{sym, ◌∙◌}
use Rattle.std.proofs.lemmas.Result.{err_from_is_err_and}
use Rattle.controller.proofs.Steps.{out_of_range, fits, wrong_numbers, other_event, own_event, event_fits}
use Rattle.controller.proofs.judge_event.Goals as goal

pub returns-then-not-in_range : goal.returns-then-not-in_range
returns-then-not-in_range c =
    let s = c.args in
    sym (out_of_range s.n s.own s.node _ (sym c.in_range.ensures ∙ c.if-not-in_range.true))

pub returns-in_err-number_answer : goal.returns-in_err-number_answer
returns-in_err-number_answer c =
    let p = err_from_is_err_and c.from_residual.result c.from_residual.ensures.1 in
    let s = c.args in
    let h = rw c.from-whole.ensures at c.in_err-number_answer.ensures in
    rw (p.1, p.2) (sym (wrong_numbers s.n s.own s.node s.e (sym c.in_range.ensures ∙ c.if-not-in_range.false) _ h))

pub returns-then-actor-own : goal.returns-then-actor-own
returns-then-actor-own c =
    let s = c.args in
    let clear = rw c.from-whole.ensures at c.in_ok-number_answer.ensures in
    let own = rw c.from-whole.ensures at c.actor.ensures in
    sym (other_event s.n s.own s.node s.e (sym c.in_range.ensures ∙ c.if-not-in_range.false) clear (λ q. c.if-actor-own.true (own ∙ q)))

pub act-requires : goal.act-requires
act-requires c =
    let s = c.args in
    rw c.input_of.ensures (fits s.n s.own s.node (sym c.in_range.ensures ∙ c.if-not-in_range.false), event_fits s.e)

pub returns : goal.returns
returns c =
    let s = c.args in
    let clear = rw c.from-whole.ensures at c.in_ok-number_answer.ensures in
    let own = rw c.from-whole.ensures at c.actor.ensures in
    (rw (c.from-whole.ensures, c.input_of.ensures) at c.act.ensures)
    ∙ sym (own_event s.n s.own s.node s.e (sym c.in_range.ensures ∙ c.if-not-in_range.false) clear (sym own ∙ c.if-actor-own.false))
