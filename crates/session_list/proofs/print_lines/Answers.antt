-- `session_list::print_lines` meets its contract: the last table, if there is one, behind what running the list printed.
use Rattle.listing.specs.Lines.{table_lines}
use Rattle.session_list.proofs.Laws.{none_behind, last_behind, refused_behind}
use Rattle.session_list.proofs.print_lines.Goals as goal

pub returns-in_err-run_all : goal.returns-in_err-run_all
returns-in_err-run_all c = refused_behind table_lines c.in_err-run_all.ensures c.from_residual.ensures.0

pub returns-in-None : goal.returns-in-None
returns-in-None c = none_behind table_lines (rw c.in-None.is at c.in_ok-run_all.ensures)

pub returns-in-Some : goal.returns-in-Some
returns-in-Some c = last_behind table_lines (rw c.in-Some.is at c.in_ok-run_all.ensures) c.put_table.ensures
