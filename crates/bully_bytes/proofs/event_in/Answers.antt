-- By what stands at the start: the laws of proofs/Reading, one for each arm.
use Rattle.std.proofs.lemmas.Result.{err_from_is_err_and}
use mathlib.Core.Path.{sym, ◌∙◌}
use native.Mathlib.Omega.{arith}
use Rattle.event_list.proofs.Fields.{seen, seen_short}
use Rattle.bully_bytes.proofs.Reading.{field_none, field_short, field_whole}
use Rattle.bully_bytes.proofs.event_in.Goals as goal

pub returns-in_err-field_at : goal.returns-in_err-field_at
returns-in_err-field_at c =
    let p = err_from_is_err_and c.from_residual.result c.from_residual.ensures.1 in
    let h = seen_short _ _ c.field_at.ensures c.in_err-field_at.was in
    rw (p.1, p.2, h.2) (sym (field_short _ h.1))

pub slice_bounds-decode_field-count : goal.slice_bounds-decode_field-count
slice_bounds-decode_field-count c =
    let f = seen _ _ c.field_at.ensures c.in_ok-field_at.was c.in-Some.is in
    omega arith

pub slice_bounds-decode_field-start : goal.slice_bounds-decode_field-start
slice_bounds-decode_field-start c =
    let f = seen _ _ c.field_at.ensures c.in_ok-field_at.was c.in-Some.is in
    omega arith

pub slice_bounds-decode_field-end : goal.slice_bounds-decode_field-end
slice_bounds-decode_field-end c =
    let f = seen _ _ c.field_at.ensures c.in_ok-field_at.was c.in-Some.is in
    omega arith

pub returns-in-None : goal.returns-in-None
returns-in-None c = sym (field_none _ (seen _ _ c.field_at.ensures c.in_ok-field_at.was c.in-None.is))

pub returns-in-Some : goal.returns-in-Some
returns-in-Some c =
    c.decode_field.ensures ∙ sym (field_whole _ _ _ _ (seen _ _ c.field_at.ensures c.in_ok-field_at.was c.in-Some.is))
