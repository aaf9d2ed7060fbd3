-- By what stands at the offset: the laws of proofs/Fields, one for each arm.
use Rattle.std.proofs.lemmas.Result.{err_from_is_err_and}
use mathlib.Core.Path.{sym}
use native.Mathlib.Omega.{arith}
use Rattle.event_list.proofs.Fields.{seen, seen_short, next_end, next_short, next_whole}
use Rattle.event_list.proofs.event_at.Goals as goal

pub returns-in_err-field_at : goal.returns-in_err-field_at
returns-in_err-field_at c =
    let p = err_from_is_err_and c.from_residual.result c.from_residual.ensures.1 in
    let h = seen_short _ _ c.field_at.ensures c.in_err-field_at.was in
    rw (p.1, p.2, h.2) (sym (next_short _ _ h.0 h.1))

pub slice_bounds-decode-count : goal.slice_bounds-decode-count
slice_bounds-decode-count c =
    let f = seen _ _ c.field_at.ensures c.in_ok-field_at.was c.in-Some.is in
    omega arith

pub slice_bounds-decode-start : goal.slice_bounds-decode-start
slice_bounds-decode-start c =
    let f = seen _ _ c.field_at.ensures c.in_ok-field_at.was c.in-Some.is in
    omega arith

pub slice_bounds-decode-end : goal.slice_bounds-decode-end
slice_bounds-decode-end c =
    let f = seen _ _ c.field_at.ensures c.in_ok-field_at.was c.in-Some.is in
    omega arith

pub returns-in-None : goal.returns-in-None
returns-in-None c = sym (next_end _ _ (seen _ _ c.field_at.ensures c.in_ok-field_at.was c.in-None.is))

pub returns-in_err-event-in-Some : goal.returns-in_err-event-in-Some
returns-in_err-event-in-Some c =
    let p = err_from_is_err_and c.from_residual-in_err-event-in-Some.result c.from_residual-in_err-event-in-Some.ensures.1 in
    let f = seen _ _ c.field_at.ensures c.in_ok-field_at.was c.in-Some.is in
    rw (p.1, p.2, next_whole _ _ _ _ _ f, ← c.decode.ensures, c.in_err-event-in-Some.was)

pub returns-in_ok-event-in-Some : goal.returns-in_ok-event-in-Some
returns-in_ok-event-in-Some c =
    let f = seen _ _ c.field_at.ensures c.in_ok-field_at.was c.in-Some.is in
    rw (next_whole _ _ _ _ _ f, ← c.decode.ensures, c.in_ok-event-in-Some.was)
