-- `session_list::run` meets its contract. The invariant: to print what is left is to print all of it, whatever is printed of the last table; and the table that is left is that of
-- the whole run.
use native.Mathlib.Omega.{arith}
use mathlib.Core.Path.{◌∙◌, ap}
use Rattle.std.specs.Prelude.{Ok}
use Rattle.std.proofs.lemmas.Result.{err_from_is_err_and}
use Rattle.event_list.proofs.Reading.{next_past}
use Rattle.run_list.proofs.Laws.{event_there}
use Rattle.session_list.proofs.Laws.{ends_done, ends_stopped, stop_refused, note_refused, goes_on}
use Rattle.session_list.proofs.run.Goals as goal

-- the list's end
pub returns-in-Ok-None : goal.returns-in-Ok-None
returns-in-Ok-None c = ends_done _ c.loop-event.invariant.2 c.event_at.ensures (c.in-Ok-None.is ∙ ap Ok c.in-Ok-None.field-0-is)

-- a refusal of the list: its line has no room, or stands there
pub returns-in_err-put_stopped-in-Err : goal.returns-in_err-put_stopped-in-Err
returns-in_err-put_stopped-in-Err c =
    let p = err_from_is_err_and c.from_residual-in_err-put_stopped-in-Err.result c.from_residual-in_err-put_stopped-in-Err.ensures.1 in
    rw p.1 (stop_refused _ c.loop-event.invariant.2 c.event_at.ensures c.in-Err.is c.stop_number.ensures c.put_stopped.ensures c.in_err-put_stopped-in-Err.was)

pub returns-in-Err : goal.returns-in-Err
returns-in-Err c = ends_stopped _ c.loop-event.invariant.2 c.event_at.ensures c.in-Err.is c.stop_number.ensures c.put_stopped.ensures c.in_ok-put_stopped-in-Err.was

-- an event whose line has no room
pub returns-in_err-note-in-Ok-Some : goal.returns-in_err-note-in-Ok-Some
returns-in_err-note-in-Ok-Some c =
    let a = c.stepped_in_place-o.ensures in
    let p = err_from_is_err_and c.from_residual.result c.from_residual.ensures.1 in
    let g = event_there c.in-Ok-Some.is c.in-Ok-Some.field-0-is c.in-Ok-Some.event-is c.in-Ok-Some.next-is in
    rw p.1 (note_refused _ c.loop-event.invariant.2 c.event_at.ensures g a.answer a.table c.note.ensures c.in_err-note-in-Ok-Some.was)

pub loop-event-smaller : goal.loop-event-smaller
loop-event-smaller c =
    let l = c.loop-event in
    let z = next_past c.args.list.now l.at c.event_at.ensures (event_there c.in-Ok-Some.is c.in-Ok-Some.field-0-is c.in-Ok-Some.event-is c.in-Ok-Some.next-is) in
    omega arith

pub loop-event-preserved : goal.loop-event-preserved
loop-event-preserved c =
    let l = c.loop-event in
    let a = c.stepped_in_place-o.ensures in
    let g = event_there c.in-Ok-Some.is c.in-Ok-Some.field-0-is c.in-Ok-Some.event-is c.in-Ok-Some.next-is in
    let z = next_past c.args.list.now l.at c.event_at.ensures g in
    (omega arith, z.1, goes_on _ l.invariant.2 c.event_at.ensures g a.answer a.table c.note.ensures c.in_ok-note-in-Ok-Some.was)
