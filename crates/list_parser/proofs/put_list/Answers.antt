-- `list_parser::put_list` meets its contract: the first field, and what the events behind it come to.
use mathlib.Core.Path.{◌≡◌, sym, ◌∙◌, ap, subst}
use Rattle.std.proofs.Common.{Err}
use Rattle.std.proofs.lemmas.Result.{err_from_is_err_and}
use Rattle.list_text.specs.Script.{opening_at, behind_opening, said_from}
use Rattle.list_parser.specs.Made.{filled_by, filled_from, Fills}
use Rattle.list_text.proofs.Places.{OpeningWithin, opening_within}
use Rattle.list_parser.proofs.Fillings.{first_bytes, opening_filled}
use Rattle.list_parser.proofs.put_list.Goals as goal

pub to-requires : goal.to-requires
to-requires c =
    let t = c.args.t.now in
    let s = c.past_skipped-start.ensures in
    rw s.0 (subst (OpeningWithin t) (sym (rw s.0 at c.opening_at.ensures) ∙ c.in_ok-tag.was) (opening_within t _ (rw s.0 at c.past_skipped-start.result.within)))

pub returns-in_err-tag : goal.returns-in_err-tag
returns-in_err-tag c =
    let t = c.args.t.now in
    let s = c.past_skipped-start.ensures in
    let e : Err c.in_err-tag.field-0.0 ≡ opening_at t c.past_skipped-start.result.at = sym c.in_err-tag.was ∙ rw s.0 at c.opening_at.ensures in
    let p = err_from_is_err_and c.from_residual.result c.from_residual.ensures.1 in
    rw (p.1, p.2) (record {
      is = ap (λ x. filled_from (behind_opening t x)) (e ∙ ap (opening_at t) s.1);
      long = c.requires.0;
      within = subst (OpeningWithin t) (sym e) (opening_within t _ (rw s.0 at c.past_skipped-start.result.within));
    })

pub returns : goal.returns
returns c =
    let t = c.args.t.now in
    let s = c.past_skipped-start.ensures in
    let x = said_from t c.in_ok-tag.next 65532 in
    let e = sym c.in_ok-tag.was ∙ (rw s.0 at c.opening_at.ensures) ∙ ap (opening_at t) s.1 in
    subst (λ f. Fills f t c.put_events.new.out c.put_events.result)
    (ap (λ l. filled_by l x) (first_bytes (rw c.requires.1 at c.put_one.ensures.appended)) ∙ opening_filled c.in_ok-tag.tag c.in_ok-tag.n x ∙ ap (λ y. filled_from (behind_opening t y)) e)
    (rw (c.to.ensures.0, s.0, c.to.ensures.1) at c.put_events.ensures)
