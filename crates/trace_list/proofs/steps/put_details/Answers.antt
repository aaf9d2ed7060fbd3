-- `put_details` meets its contract: three pieces.
use native.Mathlib.Omega.{arith}
use Rattle.listing.proofs.Appended.{wrote_twice}
use Rattle.machine.proofs.Laws.{sized}
use Rattle.trace_text.specs.Words.{taken_line, sent_line}
use Rattle.trace_list.proofs.Put.{put_within}
use Rattle.trace_list.proofs.Moved.{some_waits, none_of, waiting_small, details_are}
use Rattle.trace_list.proofs.steps.put_details.Goals as goal

pub left_waiting-left-requires : goal.left_waiting-left-requires
left_waiting-left-requires c =
    let a = c.args in
    some_waits a.t a.v (none_of a.t a.v a.u c.requires.1)

pub message_for-requires : goal.message_for-requires
message_for-requires c =
    let a = c.args in
    waiting_small a.t a.v a.u c.requires.1

pub returns : goal.returns
unfolding taken_line sent_line
returns c =
    let a = c.args in
    let x = c.put_changed.ensures in
    let y = c.put_moved.ensures in
    let z = c.put_moved-2.ensures in
    let d = details_are a.t a.v a.u c.requires.1 (sized a.t c.well_formed.1.0) (sized a.u c.well_formed.1.1.1.0) _ c.actor.ensures _ _ c.node_of.ensures c.node_of-2.ensures _ c.message_for.ensures _ c.left_waiting-left.ensures _ c.message_at.ensures in
    put_within 464 d (wrote_twice x.0 (wrote_twice (rw c.takes.ensures at y.0) z.0)) (omega (arith, x.1, y.1, z.1))
