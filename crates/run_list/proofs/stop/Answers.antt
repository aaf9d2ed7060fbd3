-- `run_list::stop` meets its contract: a line, and the table behind it.
use Rattle.model.specs.State.{view}
use Rattle.listing.specs.Lines.{table_lines}
use Rattle.listing.proofs.Written.{lines_then, lines_refused}
use Rattle.run_list.proofs.stop.Goals as goal

pub returns-in_err-put_stopped : goal.returns-in_err-put_stopped
returns-in_err-put_stopped c = rw (← c.stop_number.ensures) (lines_refused (table_lines (view c.args.t)) c.put_stopped.ensures c.in_err-put_stopped.was c.from_residual.ensures.0)

pub returns : goal.returns
returns c = rw (← c.stop_number.ensures) (lines_then c.put_stopped.ensures c.in_ok-put_stopped.was c.put_table.ensures)
