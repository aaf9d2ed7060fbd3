-- `advance` meets its contract: the judgement of the event, by proofs/Judged, with the record and the message as read from the table.
use Prim.Native.Nat.{ℕ, ◌+◌, ◌%◌}
use mathlib.Core.Path.{refl, ◌∙◌, ap}
use Rattle.machine.proofs.Laws.{sized}
use Rattle.machine.proofs.Places.{small, counts_small, left_is, place_below}
use Rattle.machine.proofs.Judged.{judging, all_refuses, judged, seated, room, all_accept}
use Rattle.machine.proofs.advance.Goals as goal

pub place_for-k-requires : goal.place_for-k-requires
place_for-k-requires c =
    (small c.args.t (sized c.args.t c.well_formed.0) c.requires c.args.e).2

pub judge_all-requires : goal.judge_all-requires
judge_all-requires c =
    let t = c.args.t in
    judging t (sized t c.well_formed.0) c.requires c.args.e _ c.place_for-k.ensures.0 c.place_for-k.ensures.1 _ (c.seat_of-at.ensures.0 ∙ ap (λ (i : ℕ). (i + 15) % 16) c.actor.ensures) _ _ refl _ _ refl

pub returns-in-Err : goal.returns-in-Err
returns-in-Err c =
    let t = c.args.t in
    all_refuses t (sized t c.well_formed.0) c.requires c.args.e _ c.place_for-k.ensures.0 c.place_for-k.ensures.1 _ (c.seat_of-at.ensures.0 ∙ ap (λ (i : ℕ). (i + 15) % 16) c.actor.ensures) _ _ refl _ _ refl _ c.in-Err.ensures

pub stored-requires-clause-waiting_bound : goal.stored-requires-clause-waiting_bound
stored-requires-clause-waiting_bound c =
    let t = c.args.t in
    let z = sized t c.well_formed.0 in
    let e = c.args.e in
    let k = c.place_for-k.ensures in
    let at = c.seat_of-at.ensures.0 ∙ ap (λ (i : ℕ). (i + 15) % 16) c.actor.ensures in
    let hl = c.left_of-left.ensures in
    let j = judged t z c.requires e _ k.0 k.1 _ at _ _ refl _ _ refl _ c.in-Ok.ensures in
    let s = small t z c.requires e in (
      s.2,
      place_below t z c.requires e _ k.0 k.1 _ hl,
      left_is t z c.requires e c.place_for-k.result k.0 k.1 c.left_of-left.result hl,
      seated t z c.requires e _ k.0 k.1 _ at _ _ refl _ _ refl _ j,
      s.1,
    )

pub stored-requires-clause-room : goal.stored-requires-clause-room
stored-requires-clause-room c =
    let t = c.args.t in
    let z = sized t c.well_formed.0 in
    let k = c.place_for-k.ensures in
    let at = c.seat_of-at.ensures.0 ∙ ap (λ (i : ℕ). (i + 15) % 16) c.actor.ensures in
    let j = judged t z c.requires c.args.e _ k.0 k.1 _ at _ _ refl _ _ refl _ c.in-Ok.ensures in
    rw c.left_of-left.ensures (room t z c.requires c.args.e _ k.0 k.1 _ at _ _ refl _ _ refl _ j)

pub stored-requires-clause-small : goal.stored-requires-clause-small
stored-requires-clause-small c = counts_small c.args.t c.requires

pub returns : goal.returns
returns c =
    let t = c.args.t in
    let k = c.place_for-k.ensures in
    let at = c.seat_of-at.ensures.0 ∙ ap (λ (i : ℕ). (i + 15) % 16) c.actor.ensures in
    all_accept t (sized t c.well_formed.0) c.requires c.args.e _ k.0 k.1 _ at _ _ refl _ _ refl _ c.in-Ok.ensures _ c.stored.ensures
