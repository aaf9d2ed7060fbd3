-- Pieces of a list, by what is read of it; and what was written where there was room.
use Prim.Native.Nat.{ℕ, suc, ◌+◌, ◌-◌, ◌≤◌}
use native.Mathlib.Omega.{arith}
use mathlib.Core.Path.{◌≡◌, refl, ◌∙◌, ap}
use mathlib.Core.Bool.{true}
use mathlib.Core.List.{List, [], ◌∷◌}
use lib.ListN.{length, take, length-append}
use Rattle.model.specs.State.{State, start, in_range, view}
use Rattle.model.specs.Step.{Result, refused, accepted, step, kept, after, run_from}
use Rattle.model.specs.declared.Event.{Event}
use Rattle.model.specs.declared.Limits.{Limits}
use Rattle.model.specs.declared.Table.{Table}
use Rattle.model.proofs.Fields.{in_range_size}
use Rattle.model.proofs.InRange.{stays_in_range}
use Rattle.event_list.specs.declared.Stop.{Stop}
use Rattle.std.specs.Prelude.{Option, Some, None, Result as Answer, Ok, Err}
use Rattle.event_list.specs.Format.{Next, First, stop_number, next_at, first_of}
use Rattle.event_list.proofs.Reading.{rest_done, rest_stopped, rest_got, next_past, reading_failed, reading_begun, first_good}
use Rattle.listing.specs.Lines.{cabinets_line, stopped_line, table_lines}
use Rattle.listing.specs.Printing.{put_next, answer_at, printed, end_of, joined, Wrote, LinesIn, WroteLines}
use Rattle.listing.specs.declared.NoRoom.{NoRoom}
use Rattle.listing.specs.declared.buffer.TextBuffer.{TextBuffer}
use Rattle.listing.proofs.Appended.{appended, wrote_twice}
use Rattle.listing.proofs.Lengths.{stopped_long, cabinets_long, table_long}
use Rattle.listing.proofs.Printing.{printed_whole}
use Rattle.run_list.proofs.Laws.{start_in_range}
use Rattle.trace_text.specs.Trace.{step_lines, step_pieces, pieces_from, trace_pieces}
use Rattle.trace_list.specs.declared.Trace.{Trace}
use Rattle.trace_list.specs.declared.TracePiece.{TracePiece}
use Rattle.trace_list.specs.Pieces.{pieces_left, pieces_after, SoundTrace, BegunTrace, GavePiece, EndPiece, MidPiece}
use Rattle.trace_list.proofs.Moved.{joined_single}

-- ── what was written where there was room ──

module _ {b o : TextBuffer} {xs : List (List ℕ)} {a : Answer (Unit {0}) NoRoom} (w : LinesIn b xs a o) where
  -- the buffer's end is behind what was written
  end_at : (k : ℕ) → (x : Answer (Unit {0}) NoRoom) → answer_at x o.end ≡ Ok k → o.end ≡ k
  end_at k (Ok u) q = ap put_next q
  end_at k (Err e) q = cc

  pub fits_put : b.end + length (joined xs) ≤ length b.bytes.now → Wrote b (joined xs) o
  fits_put h =
      let r = printed_whole b.bytes.now o.bytes.now b.end (answer_at a o.end) xs w.lines h in
      record { same = w.same; appended = appended b.bytes.now o.bytes.now (joined xs) b.end o.end h r.1 (end_at (b.end + length (joined xs)) a r.0) }

line_put : {b o : TextBuffer} {x : List ℕ} {a : Answer (Unit {0}) NoRoom} → LinesIn b (x ∷ []) a o → b.end + length x ≤ length b.bytes.now → Wrote b x o
line_put {b} {o} {x} w h =
    let j = joined_single x in
    rw j at (fits_put w (rw j (omega (arith, h))))

-- ── the inner functions' pieces, in a buffer of which nothing was written ──

module _ {b o : TextBuffer} {x : List ℕ} (z : b.end ≡ 0) (w : Wrote b x o) (h : length x ≤ 1024) where
  text_is : take o.end o.bytes.now ≡ x
  text_is = w.appended.text ∙ rw z

  within : o.end ≤ 1024
  within = let n = w.appended.next in omega (arith, n, h, z)

  end_piece : EndPiece x o.bytes.now (record { written = o.end; next = None })
  end_piece = record { text = text_is; fits = within; ends = refl }

  pub mid_piece : (t : Trace) (s : State) → view t.table ≡ s → MidPiece t.at t.event s x o.bytes.now (record { written = o.end; next = Some t })
  mid_piece t s v = record { text = text_is; fits = within; trace = t; going = refl; at = refl; event = refl; state = v }

table_fits : (t : Trace) → in_range (view t.table) ≡ true → length (joined (table_lines (view t.table))) ≤ 609
table_fits t range = let m = table_long (view t.table) range in let n = (in_range_size (view t.table) range).1 in omega (arith, m, n)

module _ {b o : TextBuffer} {a : Answer (Unit {0}) NoRoom} (z : b.end ≡ 0) (l : length b.bytes.now ≡ 1024) where
  pub stop_alone : (r : ℕ) → r ≤ 22 → LinesIn b (stopped_line 0 r ∷ []) a o → EndPiece (stopped_line 0 r) o.bytes.now (record { written = o.end; next = None })
  stop_alone r h w =
      let n = stopped_long 0 r (omega arith) h in
      end_piece z (line_put w (omega (arith, n, l, z))) (omega (arith, n))

  pub head_piece : (n : ℕ) (lim : Limits) (t : Table) → n ≤ 16 → LinesIn b (cabinets_line n ∷ []) a o → view t ≡ start n lim
      → MidPiece 4 1 (start n lim) (cabinets_line n) o.bytes.now (record { written = o.end; next = Some (record { at = 4; event = 1; table = t }) })
  head_piece n lim t h w v =
      let m = cabinets_long n h in
      mid_piece z (line_put w (omega (arith, m, l, z))) (omega (arith, m)) (record { at = 4; event = 1; table = t }) (start n lim) v

  module _ (t : Trace) (range : in_range (view t.table) ≡ true) where
    pub table_piece : LinesIn b (table_lines (view t.table)) a o → EndPiece (joined (table_lines (view t.table))) o.bytes.now (record { written = o.end; next = None })
    table_piece w = let n = table_fits t range in end_piece z (fits_put w (omega (arith, n, l, z))) (omega (arith, n))

    pub stop_piece : {u : TextBuffer} {y : Answer (Unit {0}) NoRoom} (r : ℕ) → t.at ≤ 65536 → r ≤ 22 → LinesIn b (stopped_line t.at r ∷ []) a o → LinesIn o (table_lines (view t.table)) y u
        → EndPiece (joined (stopped_line t.at r ∷ table_lines (view t.table))) u.bytes.now (record { written = u.end; next = None })
    unfolding joined
    stop_piece r h i w v =
        let n = table_fits t range in
        let m = stopped_long t.at r h i in
        let x = line_put w (omega (arith, m, l, z)) in
        let p = x.appended.next in
        let q = x.appended.long in
        let y = fits_put v (omega (arith, n, m, p, q, l, z)) in
        end_piece z (wrote_twice x y) (rw (length-append (stopped_line t.at r) (joined (table_lines (view t.table)))) (omega (arith, n, m)))

-- ── what is read of a list ──

pub few_nodes : (l : List ℕ) {x : First} (i : x ≡ first_of l) {n : ℕ} {lim : Limits} (f : x ≡ Ok (n, lim)) → n ≤ 16
few_nodes l i {n} {lim} f = (in_range_size (start n lim) (start_in_range l i f)).1

module _ (l : List ℕ) {x : First} (i : x ≡ first_of l) (o : List ℕ) (p : TracePiece) where
  pub begun_failed : {s : Stop} → x ≡ Err s → (r : ℕ) → r ≡ stop_number s → EndPiece (stopped_line 0 r) o p → BegunTrace l o p
  unfolding trace_pieces
  begun_failed {s} f r e c = record { pieces = rw (reading_failed l i f, c.text, c.ends, e); fits = c.fits; sound = rw c.ends tt }

  module _ {n : ℕ} {lim : Limits} (f : x ≡ Ok (n, lim)) where
    pub begun_nodes : MidPiece 4 1 (start n lim) (cabinets_line n) o p → BegunTrace l o p
    unfolding trace_pieces pieces_left
    begun_nodes c =
        let g = first_good l i f in
        let a = c.at in
        let e = c.event in
        let sound : SoundTrace l c.trace = record { short = g.1; within = rw a g.0; some = omega (arith, e); few = omega (arith, a, e); range = rw c.state (start_in_range l i f) } in
        record { pieces = rw (reading_begun l i f, c.text, c.going, c.state, c.at, c.event); fits = c.fits; sound = rw c.going sound }

-- an event leaves a table in range
after_range : (s : State) (v : Event) → in_range s ≡ true → in_range (after s v) ≡ true
after_range s v h = by (step s v) refl
  where
    by : (x : Result) → step s v ≡ x → in_range (kept s x) ≡ true
    by (refused r) q = h
    by (accepted u k) q = stays_in_range.keeps s v u k q

module _ (l : List ℕ) (t : Trace) (h : SoundTrace l t) {x : Next} (i : x ≡ next_at l t.at) (o : List ℕ) (p : TracePiece) where
  last_gave : (y : List ℕ) → pieces_left l t ≡ y ∷ [] → EndPiece y o p → GavePiece l t o p
  last_gave y e c = record { pieces = e ∙ rw (c.text, c.ends); fits = c.fits; sound = rw c.ends tt; further = rw c.ends tt }

  pub gave_end : x ≡ Ok None → EndPiece (joined (table_lines (view t.table))) o p → GavePiece l t o p
  unfolding pieces_left pieces_from step_pieces run_from
  gave_end f c = last_gave (joined (table_lines (view t.table))) (rw (rest_done l t.at i f)) c

  pub gave_stop : {s : Stop} → x ≡ Err s → (r : ℕ) → r ≡ stop_number s → EndPiece (joined (stopped_line t.at r ∷ table_lines (view t.table))) o p → GavePiece l t o p
  unfolding pieces_left pieces_from step_pieces run_from
  gave_stop {s} f r q c = last_gave (joined (stopped_line t.at r ∷ table_lines (view t.table))) (rw (rest_stopped l t.at i f, q)) c

  pub gave_step : {v : Event} {next : ℕ} → x ≡ Ok (Some (v, next)) → MidPiece next (t.event + 1) (after (view t.table) v) (joined (step_lines (view t.table) t.event v)) o p → GavePiece l t o p
  unfolding pieces_left pieces_from step_pieces run_from
  gave_step {v} {next} f c =
      let g = next_past l t.at i f in
      let a = c.at in
      let e = c.event in
      let w = h.few in
      let sound : SoundTrace l c.trace = record { short = h.short; within = rw a g.1; some = omega (arith, e); few = omega (arith, a, e, g.0, w); range = rw c.state (after_range (view t.table) v h.range) } in
      let further : t.at + 4 ≤ c.trace.at = omega (arith, a, g.0) in
      record { pieces = rw (rest_got l t.at i f, c.text, c.going, c.state, c.at, c.event); fits = c.fits; sound = rw c.going sound; further = rw c.going further }

-- ── pieces one after the other ──

pub after_last : (l : List ℕ) (p : TracePiece) → p.next ≡ None → pieces_after l p ≡ []
after_last l p e = rw e

pub after_other : (l : List ℕ) (p : TracePiece) (t : Trace) → p.next ≡ Some t → pieces_after l p ≡ pieces_left l t
after_other l p t e = rw e

-- no lines
pub no_lines : (b : TextBuffer) → WroteLines b [] (Ok tt) b
unfolding printed end_of
no_lines b = record { same = refl; lines = refl; ends = refl }

-- how far the list still goes, where a trace goes on
abbrev pub bytes_left : List ℕ → Option Trace → ℕ
bytes_left l None = 0
bytes_left l (Some t) = suc (length l - t.at)
