-- `rest_list::put_rest` meets its contract: a line, and the table behind it.
use Rattle.listing.specs.Lines.{table_lines}
use Rattle.listing.proofs.Written.{lines_then, lines_refused}
use Rattle.model.specs.State.{view}
use Rattle.rest_list.proofs.put_rest.Goals as goal

pub returns-in_err-put_turns : goal.returns-in_err-put_turns
returns-in_err-put_turns c =
    let r = c.turns_to_rest-r in
    rw (← r.ensures.turns, ← r.ensures.table) (lines_refused (table_lines (view r.result.table)) c.put_turns.ensures c.in_err-put_turns.was c.from_residual.ensures.0)

pub returns : goal.returns
returns c =
    let r = c.turns_to_rest-r.ensures in
    rw (← r.turns, ← r.table) (lines_then c.put_turns.ensures c.in_ok-put_turns.was c.put_table.ensures)
