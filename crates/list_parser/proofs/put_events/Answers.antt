-- `list_parser::put_events` meets its contract. The invariant: the bytes so far with what is said from p on come to what the first field comes to with what is said from the start.
use Prim.Native.Nat.{◌-◌, ◌≤◌, ◌<◌}
use mathlib.Core.Path.{◌≡◌, sym, ◌∙◌, ap, subst}
use native.Mathlib.Omega.{arith}
use lib.ListN.{length, take}
use Rattle.std.proofs.Common.{Ok, Err, Some, None}
use Rattle.std.proofs.lemmas.Result.{err_from_is_err_and}
use Rattle.list_text.specs.Script.{event_field, part_at}
use Rattle.list_text.proofs.Parts.{says_all}
use Rattle.list_text.proofs.Places.{PartWithin, part_within}
use Rattle.list_parser.proofs.Fillings.{filled_end, filled_wrong, filled_full, filled_on}
use Rattle.list_parser.proofs.put_events.Goals as goal

pub returns-in_err-e : goal.returns-in_err-e
returns-in_err-e c =
    let t = c.args.from.text.now in
    let e : part_at t c.loop-e.p.at ≡ Err c.in_err-e.field-0.0 = sym (rw c.loop-e.invariant.text at c.part_at.ensures) ∙ c.in_err-e.was in
    let p = err_from_is_err_and c.from_residual.result c.from_residual.ensures.1 in
    rw (p.1, p.2) (record {
      is = sym (filled_wrong (take c.loop-e.out.end c.loop-e.out.bytes.now) t c.loop-e.p.at (65536 - c.loop-e.out.end) _ e) ∙ c.loop-e.invariant.is;
      long = c.loop-e.invariant.long;
      within = subst (PartWithin t) e (part_within t c.loop-e.p.at (rw c.loop-e.invariant.text at c.loop-e.p.within));
    })

pub returns : goal.returns
returns c =
    let t = c.args.from.text.now in
    let e : part_at t c.loop-e.p.at ≡ Ok None = sym (rw c.loop-e.invariant.text at c.part_at.ensures) ∙ (c.in_ok-e.was ∙ ap Ok c.in_default.is) in
    record {
      is = sym (filled_end (take c.loop-e.out.end c.loop-e.out.bytes.now) t c.loop-e.p.at (65536 - c.loop-e.out.end) e) ∙ c.loop-e.invariant.is;
      long = c.loop-e.invariant.long;
      within = omega arith;
    }

pub returns-then-out-field_size : goal.returns-then-out-field_size
returns-then-out-field_size c =
    let t = c.args.from.text.now in
    let e : part_at t c.loop-e.p.at ≡ Ok (Some (c.in-Some.e, c.in-Some.next)) = sym (rw c.loop-e.invariant.text at c.part_at.ensures) ∙ (c.in_ok-e.was ∙ ap Ok c.in-Some.is) in
    let h : 65536 - c.loop-e.out.end < length (event_field c.in-Some.e) = omega (arith, c.field_size.ensures) in
    record {
      is = sym (filled_full (take c.loop-e.out.end c.loop-e.out.bytes.now) t c.loop-e.p.at (65536 - c.loop-e.out.end) _ _ e h) ∙ c.loop-e.invariant.is;
      long = c.loop-e.invariant.long;
      within = (says_all.further t c.loop-e.p.at _ _ e).1;
    }

pub to-p-requires : goal.to-p-requires
to-p-requires c =
    let e : part_at c.args.from.text.now c.loop-e.p.at ≡ Ok (Some (c.in-Some.e, c.in-Some.next)) = sym (rw c.loop-e.invariant.text at c.part_at.ensures) ∙ (c.in_ok-e.was ∙ ap Ok c.in-Some.is) in
    rw c.loop-e.invariant.text (says_all.further c.args.from.text.now c.loop-e.p.at _ _ e).1

pub loop-e-smaller : goal.loop-e-smaller
loop-e-smaller c =
    let e : part_at c.args.from.text.now c.loop-e.p.at ≡ Ok (Some (c.in-Some.e, c.in-Some.next)) = sym (rw c.loop-e.invariant.text at c.part_at.ensures) ∙ (c.in_ok-e.was ∙ ap Ok c.in-Some.is) in
    let f = says_all.further c.args.from.text.now c.loop-e.p.at _ _ e in
    omega arith

pub loop-e-preserved : goal.loop-e-preserved
loop-e-preserved c =
    let t = c.args.from.text.now in
    let e : part_at t c.loop-e.p.at ≡ Ok (Some (c.in-Some.e, c.in-Some.next)) = sym (rw c.loop-e.invariant.text at c.part_at.ensures) ∙ (c.in_ok-e.was ∙ ap Ok c.in-Some.is) in
    let f = says_all.further t c.loop-e.p.at _ _ e in
    let o = c.put_event.ensures.appended in
    let z = length (event_field c.in-Some.e) in
    let h : z ≤ 65536 - c.loop-e.out.end = omega (arith, c.field_size.ensures) in
    let k : 65536 - c.put_event.new.out.end ≡ 65536 - c.loop-e.out.end - z = omega (arith, o.next) in record {
      text = c.to-p.ensures.0 ∙ c.loop-e.invariant.text;
      start = omega (arith, o.next);
      room = omega (arith, o.next);
      long = o.long ∙ c.loop-e.invariant.long;
      is = rw (c.to-p.ensures.1, o.text, k) (sym (filled_on (take c.loop-e.out.end c.loop-e.out.bytes.now) t c.loop-e.p.at (65536 - c.loop-e.out.end) _ _ e h) ∙ c.loop-e.invariant.is);
    }
