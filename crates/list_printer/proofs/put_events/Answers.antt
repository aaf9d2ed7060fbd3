-- `list_printer::put_events` meets its contract. The invariant: to write what is left is to write all of it.
use native.Mathlib.Omega.{arith}
use mathlib.Core.Path.{refl, ◌∙◌, ap}
use Rattle.std.specs.Prelude.{Ok}
use Rattle.event_list.proofs.Reading.{next_past}
use Rattle.listing.specs.Printing.{printed, end_of}
use Rattle.listing.proofs.Written.{lines_then, lines_refused}
use Rattle.run_list.proofs.Laws.{event_there}
use Rattle.list_printer.proofs.Laws.{left_done, left_stopped, left_got}
use Rattle.list_printer.proofs.put_events.Goals as goal

pub loop-event-init : goal.loop-event-init
loop-event-init c = (c.requires.0, λ r d w. w)

-- the list's end
pub returns-in-Ok-None : goal.returns-in-Ok-None
unfolding printed end_of
returns-in-Ok-None c =
    let l = c.loop-event in
    l.invariant.1 _ _ (rw (left_done c.args.list.now l.at c.event_at.ensures (c.in-Ok-None.is ∙ ap Ok c.in-Ok-None.field-0-is)) (record { same = refl; lines = refl; ends = refl }))

-- a refusal of the list
pub returns-in-Err : goal.returns-in-Err
returns-in-Err c =
    let l = c.loop-event in
    l.invariant.1 _ _ (rw (left_stopped c.args.list.now l.at c.event_at.ensures c.in-Err.is, ← c.stop_number.ensures) c.put_stopped.ensures)

-- an event whose line has no room
pub returns-in_err-put_event_line-in-Ok-Some : goal.returns-in_err-put_event_line-in-Ok-Some
returns-in_err-put_event_line-in-Ok-Some c =
    let l = c.loop-event in
    let e = left_got c.args.list.now l.at c.event_at.ensures (event_there c.in-Ok-Some.is c.in-Ok-Some.field-0-is c.in-Ok-Some.event-is c.in-Ok-Some.next-is) in
    l.invariant.1 _ _ (rw e (lines_refused _ c.put_event_line.ensures c.in_err-put_event_line-in-Ok-Some.was c.from_residual.ensures.0))

pub loop-event-smaller : goal.loop-event-smaller
loop-event-smaller c =
    let l = c.loop-event in
    let z = next_past c.args.list.now l.at c.event_at.ensures (event_there c.in-Ok-Some.is c.in-Ok-Some.field-0-is c.in-Ok-Some.event-is c.in-Ok-Some.next-is) in
    omega arith

pub loop-event-preserved : goal.loop-event-preserved
loop-event-preserved c =
    let l = c.loop-event in
    let s = c.args.list.now in
    let g = event_there c.in-Ok-Some.is c.in-Ok-Some.field-0-is c.in-Ok-Some.event-is c.in-Ok-Some.next-is in
    ((next_past s l.at c.event_at.ensures g).1, λ r d w. l.invariant.1 r d (rw (left_got s l.at c.event_at.ensures g) (lines_then c.put_event_line.ensures c.in_ok-put_event_line-in-Ok-Some.was w)))
