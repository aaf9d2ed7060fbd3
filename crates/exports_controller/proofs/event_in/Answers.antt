-- By what stands at the start: the laws of proofs/Reading, one for each return.
use Rattle.std.proofs.lemmas.Result.{err_from_is_err_and}
use mathlib.Core.Path.{sym, ◌∙◌}
use Rattle.event_list.proofs.Fields.{seen, seen_short}
use Rattle.exports_controller.proofs.Reading.{field_none, field_short, field_other, field_read}
use Rattle.exports_controller.proofs.event_in.Goals as goal

pub returns-in_err-field_at : goal.returns-in_err-field_at
returns-in_err-field_at c =
    let p = err_from_is_err_and c.from_residual.result c.from_residual.ensures.1 in
    let h = seen_short _ _ c.field_at.ensures c.in_err-field_at.was in
    rw (p.1, p.2, h.2) (sym (field_short _ h.1))

pub returns-in-None : goal.returns-in-None
returns-in-None c = sym (field_none _ (seen _ _ c.field_at.ensures c.in_ok-field_at.was c.in-None.is))

pub returns-then-found-ge23 : goal.returns-then-found-ge23
returns-then-found-ge23 c =
    sym (field_other _ _ _ _ (seen _ _ c.field_at.ensures c.in_ok-field_at.was c.in-Some.is) c.if-found-ge23.true)

pub returns-else-found-ge23 : goal.returns-else-found-ge23
returns-else-found-ge23 c =
    c.read_event.ensures ∙ field_read _ _ _ _ (seen _ _ c.field_at.ensures c.in_ok-field_at.was c.in-Some.is) c.if-found-ge23.false
