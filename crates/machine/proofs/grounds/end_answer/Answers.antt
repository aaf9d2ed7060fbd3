-- `end_answer` meets its contract: the ends of the node's own numbers are in front of 14.
use Rattle.std.proofs.lemmas.Result.{err_from_is_err_and}
use Rattle.node_step.specs.Grounds.{own_end_grounds}
use Rattle.machine.proofs.Judged.{in_front}
use Rattle.machine.proofs.grounds.end_answer.Goals as goal

pub returns-in_err-own_end_answer : goal.returns-in_err-own_end_answer
returns-in_err-own_end_answer c =
    let p = err_from_is_err_and c.from_residual.result c.from_residual.ensures.1 in
    rw (p.1, p.2) (in_front _ (own_end_grounds c.args.c c.args.r) _ c.in_err-own_end_answer.ensures)
