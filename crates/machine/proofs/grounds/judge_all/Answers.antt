-- `judge_all` meets its contract: by the judgement, or by ground 17 behind it.
use mathlib.Core.Path.{◌∙◌, sym}
use Rattle.std.proofs.lemmas.Result.{err_from_is_err_and}
use Rattle.machine.proofs.Judged.{by_judged, by_last, by_no_ground}
use Rattle.machine.proofs.grounds.judge_all.Goals as goal

pub returns-in_err-r : goal.returns-in_err-r
returns-in_err-r c =
    let p = err_from_is_err_and c.from_residual.result c.from_residual.ensures.1 in
    rw (p.1, p.2) (by_judged _ _ _ _ _ _ _ _ _ c.in_err-r.ensures)

pub returns-then-sent_at_end : goal.returns-then-sent_at_end
returns-then-sent_at_end c =
    by_last _ _ _ _ _ _ _ _ _ c.in_ok-r.ensures
    (rw c.sent_place.ensures.0 at (sym c.sent_at_end.ensures ∙ c.if-sent_at_end.true))

pub returns : goal.returns
returns c =
    by_no_ground _ _ _ _ _ _ _ _ _ c.in_ok-r.ensures
    (rw c.sent_place.ensures.0 at (sym c.sent_at_end.ensures ∙ c.if-sent_at_end.false))
