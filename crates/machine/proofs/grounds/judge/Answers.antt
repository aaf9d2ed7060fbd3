-- `judge` meets its contract: by the group of grounds that refuses, or by none.
use Rattle.std.proofs.lemmas.Result.{err_from_is_err_and}
use Rattle.machine.proofs.Judged.{by_numbers, by_state, by_ends, by_none}
use Rattle.machine.proofs.grounds.judge.Goals as goal

pub returns-in_err-number_answer : goal.returns-in_err-number_answer
returns-in_err-number_answer c =
    let p = err_from_is_err_and c.from_residual.result c.from_residual.ensures.1 in
    rw (p.1, p.2) (by_numbers _ _ _ _ _ _ _ _ c.in_err-number_answer.ensures)

pub returns-in_err-state_answer : goal.returns-in_err-state_answer
returns-in_err-state_answer c =
    let p = err_from_is_err_and c.from_residual-in_err-state_answer.result c.from_residual-in_err-state_answer.ensures.1 in
    rw (p.1, p.2) (by_state _ _ _ _ _ _ _ c.in_ok-number_answer.ensures _ c.in_err-state_answer.ensures)

pub returns-in_err-end_answer : goal.returns-in_err-end_answer
returns-in_err-end_answer c =
    let p = err_from_is_err_and c.from_residual-in_err-end_answer.result c.from_residual-in_err-end_answer.ensures.1 in
    rw (p.1, p.2)
    (by_ends _ _ _ _ _ _ _ c.in_ok-number_answer.ensures c.in_ok-state_answer.ensures _ _ c.reacts_to-r.ensures c.left_of.ensures _ c.in_err-end_answer.ensures)

pub returns : goal.returns
returns c =
    by_none _ _ _ _ _ _ _ c.in_ok-number_answer.ensures c.in_ok-state_answer.ensures _ _ c.reacts_to-r.ensures c.left_of.ensures c.in_ok-end_answer.ensures
