-- By the group of grounds that refuses, or what the node does.
use mathlib.Core.Path.{sym}
use Rattle.std.proofs.lemmas.Result.{err_from_is_err_and}
use Rattle.controller.proofs.Steps.{wrong_state, at_end, all_clear}
use Rattle.controller.proofs.act.Goals as goal

pub returns-in_err-node_answer : goal.returns-in_err-node_answer
returns-in_err-node_answer c =
    let p = err_from_is_err_and c.from_residual.result c.from_residual.ensures.1 in
    rw (p.1, p.2) (sym (wrong_state _ _ _ _ _ _ c.in_err-node_answer.ensures))

pub returns-in_err-own_end_answer : goal.returns-in_err-own_end_answer
returns-in_err-own_end_answer c =
    let p = err_from_is_err_and c.from_residual-in_err-own_end_answer.result c.from_residual-in_err-own_end_answer.ensures.1 in
    let e = rw c.react-r.ensures at c.in_err-own_end_answer.ensures in
    rw (p.1, p.2) (sym (at_end _ _ _ _ _ c.in_ok-node_answer.ensures _ e))

pub returns : goal.returns
returns c =
    let s = c.args in
    let e = rw c.react-r.ensures at c.in_ok-own_end_answer.ensures in
    rw c.react-r.ensures (sym (all_clear s.n s.own s.node s.e s.input c.in_ok-node_answer.ensures e))
