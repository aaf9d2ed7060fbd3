-- `put_shown` meets its contract: six numbers.
use native.Mathlib.Omega.{arith}
use Rattle.trace_list.proofs.Put.{field_more}
use Rattle.trace_list.proofs.words.put_shown.Goals as goal

pub returns : goal.returns
returns c =
    let a = c.field.ensures in
    let b = c.field-2.ensures in
    let d = c.field-3.ensures in
    let e = c.field-4.ensures in
    let f = c.field-5.ensures in
    let g = c.field-6.ensures in
    (rw (← c.status_number.ensures, ← c.count.ensures) (field_more _ _ a.0 (field_more _ _ b.0 (field_more _ _ d.0 (field_more _ _ e.0 (field_more _ _ f.0 g.0))))), omega (arith, a.1, b.1, d.1, e.1, f.1, g.1))
