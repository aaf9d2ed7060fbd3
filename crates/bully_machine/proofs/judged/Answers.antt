-- `judged` meets its contract: the grounds in their order.
use mathlib.Core.Path.{sym, ◌∙◌, ap}
use Rattle.std.proofs.Common.{rules}
use Rattle.bully_model.specs.State.{node_at, view}
use Rattle.bully_machine.proofs.Steps.{range_first, small, high, passed, numbers_first, past_numbers}
use Rattle.bully_machine.proofs.judged.Goals as goal

pub returns-then-not-in_range-clause-met : goal.returns-then-not-in_range-clause-met
returns-then-not-in_range-clause-met c = range_first _ _ (sym c.in_range.ensures ∙ c.if-not-in_range.true)

pub returns-in_err-number_answer-clause-met : goal.returns-in_err-number_answer-clause-met
returns-in_err-number_answer-clause-met c =
    let ok = sym c.in_range.ensures ∙ c.if-not-in_range.false in
    let f = numbers_first c.args.t c.args.e ok c.in_err-number_answer.field-0.0 c.in_err-number_answer.ensures in
    search (rules, f)

pub node_at-c-requires : goal.node_at-c-requires
node_at-c-requires c =
    let ok = sym c.in_range.ensures ∙ c.if-not-in_range.false in
    let z = rw c.in_ok-number_answer.was at c.number_answer.ensures in
    (small c.args.t c.args.e ok, rw c.actor.ensures (high c.args.t c.args.e ok (sym z)))

pub returns-in_err-state_answer-clause-met : goal.returns-in_err-state_answer-clause-met
returns-in_err-state_answer-clause-met c =
    let ok = sym c.in_range.ensures ∙ c.if-not-in_range.false in
    let z = sym (rw c.in_ok-number_answer.was at c.number_answer.ensures) in
    let here = c.node_at-c.ensures ∙ ap (node_at (view c.args.t)) c.actor.ensures in
    let f = c.in_err-state_answer.ensures ∙ sym (past_numbers c.args.t c.args.e ok _ here z) in
    search (rules, f)

pub returns-clause-clear : goal.returns-clause-clear
returns-clause-clear c =
    let ok = sym c.in_range.ensures ∙ c.if-not-in_range.false in
    let z = sym (rw c.in_ok-number_answer.was at c.number_answer.ensures) in
    let here = c.node_at-c.ensures ∙ ap (node_at (view c.args.t)) c.actor.ensures in
    record {
      none = past_numbers c.args.t c.args.e ok _ here z ∙ sym (rw c.in_ok-state_answer.was at c.state_answer.ensures);
      passed = passed c.args.t c.args.e ok z _ here;
    }
