-- By what stands at offset 0: the laws of proofs/Fields, one for each return.
use Rattle.std.proofs.lemmas.Result.{err_from_is_err_and}
use mathlib.Core.Path.{sym, ◌∙◌}
use native.Mathlib.Omega.{arith}
use Rattle.event_list.proofs.Fields.{seen, seen_short, first_long, first_empty, first_short, first_whole}
use Rattle.event_list.proofs.first_of.Goals as goal

pub returns-then-list-gt-MAX_BYTES : goal.returns-then-list-gt-MAX_BYTES
returns-then-list-gt-MAX_BYTES c = sym (first_long _ c.if-list-gt-MAX_BYTES.true)

pub returns-in_err-field_at : goal.returns-in_err-field_at
returns-in_err-field_at c =
    let p = err_from_is_err_and c.from_residual.result c.from_residual.ensures.1 in
    let h = seen_short _ _ c.field_at.ensures c.in_err-field_at.was in
    rw (p.1, p.2, h.2) (sym (first_short _ c.if-list-gt-MAX_BYTES.false h.1))

pub slice_bounds-first_in-count : goal.slice_bounds-first_in-count
slice_bounds-first_in-count c =
    let f = seen _ _ c.field_at.ensures c.in_ok-field_at.was c.in-Some.is in
    omega arith

pub slice_bounds-first_in-start : goal.slice_bounds-first_in-start
slice_bounds-first_in-start c =
    let f = seen _ _ c.field_at.ensures c.in_ok-field_at.was c.in-Some.is in
    omega arith

pub slice_bounds-first_in-end : goal.slice_bounds-first_in-end
slice_bounds-first_in-end c =
    let f = seen _ _ c.field_at.ensures c.in_ok-field_at.was c.in-Some.is in
    omega arith

pub returns-in-None : goal.returns-in-None
returns-in-None c =
    sym (first_empty _ c.if-list-gt-MAX_BYTES.false (seen _ _ c.field_at.ensures c.in_ok-field_at.was c.in-None.is))

pub returns-in-Some : goal.returns-in-Some
returns-in-Some c =
    let f = seen _ _ c.field_at.ensures c.in_ok-field_at.was c.in-Some.is in
    c.first_in.ensures ∙ sym (first_whole _ c.if-list-gt-MAX_BYTES.false _ _ _ f)
