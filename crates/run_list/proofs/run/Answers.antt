-- `run_list::run` meets its contract.
use native.Mathlib.Omega.{arith}
use mathlib.Core.Path.{refl, sym, ◌∙◌, ap, subst}
use mathlib.Core.List.{[], ◌∷◌}
use Rattle.std.specs.Prelude.{Ok}
use Rattle.listing.proofs.Written.{lines_then, lines_refused}
use Rattle.model.specs.State.{view}
use Rattle.model.specs.Step.{run_from}
use Rattle.model.proofs.Fields.{in_range_size}
use Rattle.model.specs.Range.{TwoPairs}
use Rattle.model.proofs.Traffic.{SentWithin, start_within, run_within}
use Rattle.machine.proofs.Laws.{sized}
use Rattle.packed.specs.Seen.{seen}
use Rattle.packed.proofs.Turns.{same_start, start_empty, few, counts_low, rulable, refused_turn, has_room, within_below, accepted_turn, ready_again}
use Rattle.event_list.proofs.Reading.{next_past}
use Rattle.listing.specs.Lines.{table_lines}
use Rattle.run_list.proofs.Laws.{event_there, same_lines, left_done, left_stopped, left_quiet, left_got}
use Rattle.run_list.proofs.run.Goals as goal

pub loop-out-init : goal.loop-out-init
loop-out-init c =
    let s = c.args in
    let b = c.requires.3 in
    let same = same_start s.start c.none-q.result (start_empty s.start s.start.n s.start.limits b) in (
      omega arith,
      c.requires.0,
      record { words = c.none-q.ensures; nodes = (sized s.start c.well_formed.1.1.0).nodes; range = rw same c.requires.2 },
      subst SentWithin (sym (same ∙ b)) (start_within TwoPairs s.start.n s.start.limits (in_range_size (view s.start) c.requires.2).1),
      λ r d w. rw same at w,
    )

-- the list's end
pub returns-in-Ok-None : goal.returns-in-Ok-None
returns-in-Ok-None c =
    let l = c.loop-out in
    let t = l.t in
    let s = c.args in
    l.invariant.4 _ _
    (rw (left_done table_lines s.list.now (seen t.n t.limits t.nodes l.q t.waiting t.sent t.delivered t.lost) l.at l.e c.event_at.ensures (c.in-Ok-None.is ∙ ap Ok c.in-Ok-None.field-0-is), ← same_lines t l.q) c.put_table.ensures)

-- a refusal of the list
pub returns-in-Err : goal.returns-in-Err
returns-in-Err c =
    let l = c.loop-out in
    let t = l.t in
    let s = c.args in
    l.invariant.4 _ _
    (rw (left_stopped table_lines s.list.now (seen t.n t.limits t.nodes l.q t.waiting t.sent t.delivered t.lost) l.at l.e c.event_at.ensures c.in-Err.is, ← same_lines t l.q) c.stop.ensures)

pub rule-ruling-requires : goal.rule-ruling-requires
rule-ruling-requires c =
    let l = c.loop-out in
    let h = l.invariant.2 in
    (few _ _ _ _ _ _ _ _ h c.in-Ok-Some.event, rulable _ _ _ _ _ _ _ _ h _ _ c.seat-i.ensures.0 _)

-- an event that is accepted
pub exchange-requires : goal.exchange-requires
exchange-requires c =
    let l = c.loop-out in
    let h = l.invariant.2 in
    (few _ _ _ _ _ _ _ _ h c.in-Ok-Some.event, c.rule-ruling.ensures.reach, has_room _ _ _ _ _ _ _ _ h _ _ c.seat-i.ensures.0 _ _ c.rule-ruling.ensures _ c.in-Ok.is)

pub overflow_add-t : goal.overflow_add-t
overflow_add-t c = omega (arith, c.sent_by.ensures.1, (counts_low _ _ _ _ _ _ _ _ c.loop-out.invariant.2 c.in-Ok-Some.event).0 c.sent_place-s.result)

pub overflow_add-t-in-Ok : goal.overflow_add-t-in-Ok
overflow_add-t-in-Ok c = omega (arith, c.delivered_by.ensures.1, (counts_low _ _ _ _ _ _ _ _ c.loop-out.invariant.2 c.in-Ok-Some.event).1 c.moved_place-m.result)

pub overflow_add-t-in-Ok-2 : goal.overflow_add-t-in-Ok-2
overflow_add-t-in-Ok-2 c = omega (arith, c.lost_by.ensures.1, (counts_low _ _ _ _ _ _ _ _ c.loop-out.invariant.2 c.in-Ok-Some.event).2 c.moved_place-m.result)

pub loop-out-smaller-in-Ok : goal.loop-out-smaller-in-Ok
loop-out-smaller-in-Ok c =
    let l = c.loop-out in
    let z = next_past c.args.list.now l.at c.event_at.ensures (event_there c.in-Ok-Some.is c.in-Ok-Some.field-0-is c.in-Ok-Some.event-is c.in-Ok-Some.next-is) in
    omega arith

pub loop-out-preserved-in-Ok : goal.loop-out-preserved-in-Ok
unfolding run_from
loop-out-preserved-in-Ok c =
    let y = c.lost_by.ensures.0 in
    let d = c.delivered_by.ensures.0 in
    let k = c.moved_place-m.ensures.0 in
    let b = c.sent_by.ensures.0 in
    let p = c.sent_place-s.ensures.0 in
    let l = c.loop-out in
    let list = c.args.list.now in
    let h = l.invariant in
    let x = c.exchange.ensures in
    let low = within_below _ _ _ _ _ _ _ _ h.2 _ _ c.seat-i.ensures.0 _ _ c.rule-ruling.ensures _ c.in-Ok.is h.3 in
    let t = accepted_turn _ _ _ _ _ _ _ _ h.2 _ _ c.seat-i.ensures.0 _ _ c.rule-ruling.ensures _ c.in-Ok.is low _ _ x.2 in
    let z = next_past list l.at c.event_at.ensures (event_there c.in-Ok-Some.is c.in-Ok-Some.field-0-is c.in-Ok-Some.event-is c.in-Ok-Some.next-is) in
    let o = h.0 in (
      omega arith,
      z.1,
      rw (p, b, k, d, y) (ready_again _ _ _ _ _ _ _ _ h.2 _ _ c.seat-i.ensures.0 _ _ c.rule-ruling.ensures _ c.in-Ok.is low _ _ x.2 x.0),
      rw (p, b) (subst SentWithin (sym t.1) (run_within _ (_ ∷ []) h.3)),
      rw (p, b, k, d, y)
          (λ r f w. h.4 r f (rw (left_quiet table_lines list _ l.at l.e c.event_at.ensures (event_there c.in-Ok-Some.is c.in-Ok-Some.field-0-is c.in-Ok-Some.event-is c.in-Ok-Some.next-is) 0 t.0 _ t.1 refl) w)),
    )

-- an event that is refused: its line has no room, or stands there
pub returns-in_err-note-in-Err-verdict : goal.returns-in_err-note-in-Err-verdict
returns-in_err-note-in-Err-verdict c =
    let l = c.loop-out in
    let t = refused_turn _ _ _ _ _ _ _ _ l.invariant.2 _ _ c.seat-i.ensures.0 _ _ c.rule-ruling.ensures _ c.in-Err-verdict.is in
    let e = left_got table_lines c.args.list.now _ l.at l.e c.event_at.ensures (event_there c.in-Ok-Some.is c.in-Ok-Some.field-0-is c.in-Ok-Some.event-is c.in-Ok-Some.next-is) _ t.0 _ t.1 in
    l.invariant.4 _ _ (rw e (lines_refused _ c.note.ensures c.in_err-note-in-Err-verdict.was c.from_residual.ensures.0))

pub loop-out-smaller : goal.loop-out-smaller
loop-out-smaller c =
    let l = c.loop-out in
    let z = next_past c.args.list.now l.at c.event_at.ensures (event_there c.in-Ok-Some.is c.in-Ok-Some.field-0-is c.in-Ok-Some.event-is c.in-Ok-Some.next-is) in
    omega arith

pub loop-out-preserved : goal.loop-out-preserved
loop-out-preserved c =
    let l = c.loop-out in
    let list = c.args.list.now in
    let h = l.invariant in
    let t = refused_turn _ _ _ _ _ _ _ _ h.2 _ _ c.seat-i.ensures.0 _ _ c.rule-ruling.ensures _ c.in-Err-verdict.is in
    let z = next_past list l.at c.event_at.ensures (event_there c.in-Ok-Some.is c.in-Ok-Some.field-0-is c.in-Ok-Some.event-is c.in-Ok-Some.next-is) in
    let low = h.0 in
    let e = left_got table_lines list _ l.at l.e c.event_at.ensures (event_there c.in-Ok-Some.is c.in-Ok-Some.field-0-is c.in-Ok-Some.event-is c.in-Ok-Some.next-is) _ t.0 _ t.1 in (
      omega arith,
      z.1,
      h.2,
      h.3,
      λ r d w. h.4 r d (rw e (lines_then c.note.ensures c.in_ok-note-in-Err-verdict.was w)),
    )
