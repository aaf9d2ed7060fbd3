-- `run_list::put_heading` meets its contract: by the first field, a line alone, or a line and the run behind it.
use mathlib.Core.Path.{◌≡◌, refl, sym, ◌∙◌}
use mathlib.Core.Bool.{Bool}
use mathlib.Core.List.{List, []}
use Rattle.model.specs.State.{State}
use Rattle.model.specs.Pick.{pick, pick_true, pick_false, by_test}
use Rattle.std.proofs.lemmas.Result.{err_from_is_err_and}
use Rattle.listing.proofs.Written.{lines_refused}
use Rattle.run_list.proofs.put_heading.Goals as goal

pick_same : (t : Bool) (a : List State) → pick t a a ≡ a
pick_same t a = by_test (λ (x : List State). x ≡ a) (λ _. refl) (λ _. refl)

pub returns-in_err-put_stopped-in-Err : goal.returns-in_err-put_stopped-in-Err
returns-in_err-put_stopped-in-Err c =
    let i = sym c.first_of.ensures ∙ c.in-Err.is in
    let p = err_from_is_err_and c.from_residual.result c.from_residual.ensures.1 in
    rw p.1 (record { line = rw (i, ← c.stop_number.ensures) (lines_refused [] c.put_stopped.ensures c.in_err-put_stopped-in-Err.was refl); starts = sym (pick_false _ []) })

pub returns-in_ok-put_stopped-in-Err : goal.returns-in_ok-put_stopped-in-Err
returns-in_ok-put_stopped-in-Err c =
    let i = sym c.first_of.ensures ∙ c.in-Err.is in
    record { line = rw (i, ← c.stop_number.ensures) c.in_ok-put_stopped-in-Err.ensures; starts = rw i (sym (pick_same _ [])) }

pub returns-in_err-put_cabinets-in-Ok : goal.returns-in_err-put_cabinets-in-Ok
returns-in_err-put_cabinets-in-Ok c =
    let i = sym c.first_of.ensures ∙ c.in-Ok.is in
    let p = err_from_is_err_and c.from_residual-in_err-put_cabinets-in-Ok.result c.from_residual-in_err-put_cabinets-in-Ok.ensures.1 in
    rw p.1 (record { line = rw i (lines_refused [] c.put_cabinets.ensures c.in_err-put_cabinets-in-Ok.was refl); starts = sym (pick_false _ []) })

pub returns-in_ok-put_cabinets-in-Ok : goal.returns-in_ok-put_cabinets-in-Ok
returns-in_ok-put_cabinets-in-Ok c =
    let i = sym c.first_of.ensures ∙ c.in-Ok.is in
    record { line = rw i c.in_ok-put_cabinets-in-Ok.ensures; starts = rw i (sym (pick_true _ [])) }
