-- `run_list::print_lines` meets its contract: by the heading, that alone, or the run behind it.
use mathlib.Core.Path.{refl, sym, ◌∙◌, ap, ap₂}
use Rattle.model.specs.State.{State, start}
use Rattle.event_list.proofs.Reading.{first_good}
use Rattle.listing.specs.Lines.{table_lines}
use Rattle.run_list.proofs.Laws.{start_in_range, headed_refused, headed_ended, headed_nodes}
use Rattle.run_list.proofs.print_lines.Goals as goal

pub returns-in_err-put_heading : goal.returns-in_err-put_heading
returns-in_err-put_heading c = headed_refused table_lines c.args.list.now c.in_err-put_heading.ensures c.from_residual.ensures.0

pub returns-in-None : goal.returns-in-None
returns-in-None c = headed_ended table_lines c.args.list.now (rw c.in-None.is at c.in_ok-put_heading.ensures)

pub run-requires : goal.run-requires
run-requires c =
    let l = c.args.list.now in
    let f = headed_nodes table_lines l (rw c.in-Some.is at c.in_ok-put_heading.ensures) in
    let g = first_good l refl f.first in
    let b = c.starting-begun.ensures.table in
    (g.0, g.1, rw b (start_in_range l refl f.first), b ∙ ap₂ start (sym (ap (λ (s : State). s.n) b)) (sym (ap (λ (s : State). s.limits) b)))

pub returns-in-Some : goal.returns-in-Some
returns-in-Some c =
    let f = headed_nodes table_lines c.args.list.now (rw c.in-Some.is at c.in_ok-put_heading.ensures) in
    f.behind _ _ (rw c.starting-begun.ensures.table at c.run.ensures)
