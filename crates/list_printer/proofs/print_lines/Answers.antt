-- `list_printer::print_lines` meets its contract: by the first field, a line alone, or a line and the events behind it.
use native.Mathlib.Omega.{arith}
use Rattle.event_list.proofs.Reading.{first_good}
use Rattle.listing.proofs.Written.{lines_then, lines_refused}
use Rattle.list_printer.proofs.Laws.{lines_failed, lines_begun}
use Rattle.list_printer.proofs.print_lines.Goals as goal

pub bounds-list-0 : goal.bounds-list-0
bounds-list-0 c =
    let g = first_good c.args.list.now c.first_of.ensures c.in-Ok.is in
    omega arith

pub put_events-requires : goal.put_events-requires
put_events-requires c =
    let g = first_good c.args.list.now c.first_of.ensures c.in-Ok.is in
    (g.0, g.1)

pub returns-in-Err : goal.returns-in-Err
returns-in-Err c = rw (lines_failed c.args.list.now c.first_of.ensures c.in-Err.is, ← c.stop_number.ensures) c.put_stopped.ensures

pub returns-in_err-put_opening-in-Ok : goal.returns-in_err-put_opening-in-Ok
returns-in_err-put_opening-in-Ok c =
    rw (lines_begun c.args.list.now c.first_of.ensures c.in-Ok.is) (lines_refused _ c.put_opening.ensures c.in_err-put_opening-in-Ok.was c.from_residual.ensures.0)

pub returns-in_ok-put_opening-in-Ok : goal.returns-in_ok-put_opening-in-Ok
returns-in_ok-put_opening-in-Ok c =
    rw (lines_begun c.args.list.now c.first_of.ensures c.in-Ok.is) (lines_then c.put_opening.ensures c.in_ok-put_opening-in-Ok.was c.put_events.ensures)
