-- `session_list::run_all` meets its contract: by the heading, that alone, or the run behind it.
use mathlib.Core.Path.{refl}
use Rattle.std.proofs.lemmas.Result.{err_from_is_err_and}
use Rattle.event_list.proofs.Reading.{first_good}
use Rattle.listing.specs.Lines.{table_lines}
use Rattle.run_list.proofs.Laws.{headed_nodes}
use Rattle.session_list.proofs.Laws.{all_refused, all_ended, all_run}
use Rattle.session_list.proofs.run_all.Goals as goal

pub returns-in_err-put_heading : goal.returns-in_err-put_heading
returns-in_err-put_heading c =
    let p = err_from_is_err_and c.from_residual.result c.from_residual.ensures.1 in
    rw p.1 (all_refused c.in_err-put_heading.ensures)

pub returns-in-None : goal.returns-in-None
returns-in-None c = all_ended (rw c.in-None.is at c.in_ok-put_heading.ensures)

pub run-requires : goal.run-requires
run-requires c =
    let l = c.args.list.now in
    let g = first_good l refl (headed_nodes table_lines l (rw c.in-Some.is at c.in_ok-put_heading.ensures)).first in
    (g.0, g.1)

pub returns-in-Some : goal.returns-in-Some
returns-in-Some c = all_run (rw c.in-Some.is at c.in_ok-put_heading.ensures) c.starting-begun.ensures.table c.run.ensures
