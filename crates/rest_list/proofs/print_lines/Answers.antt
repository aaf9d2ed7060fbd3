-- `rest_list::print_lines` meets its contract: what is printed behind the run is what its last table comes to.
use Rattle.session_list.proofs.Laws.{none_behind, last_behind, refused_behind}
use Rattle.rest_list.specs.Text.{rest_lines}
use Rattle.rest_list.proofs.Turns.{run_comes}
use Rattle.rest_list.proofs.print_lines.Goals as goal

pub returns-in_err-run_all : goal.returns-in_err-run_all
returns-in_err-run_all c = refused_behind rest_lines c.in_err-run_all.ensures c.from_residual.ensures.0

pub put_rest-requires : goal.put_rest-requires
put_rest-requires c = run_comes _ _ (rw c.in-Some.is at c.in_ok-run_all.ensures).table

pub returns-in-None : goal.returns-in-None
returns-in-None c = none_behind rest_lines (rw c.in-None.is at c.in_ok-run_all.ensures)

pub returns-in-Some : goal.returns-in-Some
returns-in-Some c = last_behind rest_lines (rw c.in-Some.is at c.in_ok-run_all.ensures) c.put_rest.ensures
