-- The lines that are left at a field, by what is read there, and those of a whole list, by its first field.
use Prim.Native.Nat.{ℕ, ◌+◌}
use native.Mathlib.Omega.{arith}
use mathlib.Core.Path.{◌≡◌, refl, sym, ◌∙◌, ap}
use mathlib.Core.Bool.{true}
use lib.ListN.{length, get_or}
use mathlib.Core.List.{List, [], ◌∷◌, ◌++◌, append_assoc}
use Rattle.model.specs.Range.{TwoPairs}
use Rattle.model.specs.Pick.{pick, pick_true}
use Rattle.model.specs.State.{State, start, no_message, in_range, view}
use Rattle.model.specs.Step.{step, after, run_from}
use Rattle.model.specs.Answers.{result_number}
use Rattle.model.specs.declared.Limits.{Limits}
use Rattle.model.specs.declared.Table.{Table}
use Rattle.model.specs.declared.Event.{Event}
use Rattle.model.proofs.InRange.{stays_in_range}
use Rattle.model.proofs.Lists.{first_length}
use Rattle.packed.specs.Packed.{held}
use Rattle.packed.specs.Seen.{seen}
use Rattle.event_list.specs.declared.Stop.{Stop}
use Rattle.std.specs.Prelude.{Option, Some, None, Result, Ok, Err, IsErr}
use Rattle.event_list.specs.Format.{Next, First, stop_number, next_at, first_of, rest}
use Rattle.event_list.proofs.Reading.{rest_done, rest_stopped, rest_got, reading_failed, reading_begun, first_good}
use Rattle.listing.specs.declared.NoRoom.{NoRoom}
use Rattle.listing.specs.Lines.{cabinets_line, stopped_line, total_lines, table_lines}
use Rattle.listing.specs.declared.buffer.TextBuffer.{TextBuffer}
use Rattle.listing.specs.Printing.{WroteLines}
use Rattle.listing.proofs.Written.{lines_then, lines_refused}
use Rattle.run_list.specs.Text.{note_lines, refused_lines, run_lines_with, lines_with, first_start, Headed}

-- the lines of a table do not depend on what its messages are
pub same_lines : (t : Table) (ws : List ℕ) → table_lines (view t) ≡ table_lines (seen t.n t.limits t.nodes ws t.waiting t.sent t.delivered t.lost)
unfolding table_lines total_lines
same_lines t ws = rw (first_length t.waiting no_message t.messages, first_length t.waiting no_message (held ws)) refl

-- the lines that are left at an offset, where the table is s and the next event is event e; f says what is printed of the last table
abbrev pub left : (State → List (List ℕ)) → List ℕ → State → ℕ → ℕ → List (List ℕ)
left f l s at e = run_lines_with f s e (rest l at)

-- An event and the place behind it, as a pattern takes them out of what stands at an offset.
pub event_there : {x : Next} {o : Option (Event × ℕ)} {v w : Event} {n m : ℕ} → x ≡ Ok o → o ≡ Some (v, n) → w ≡ v → m ≡ n → x ≡ Ok (Some (w, m))
event_there i g e f = i ∙ ap Ok g ∙ rw (e, f)

module _ (f : State → List (List ℕ)) (l : List ℕ) (s : State) (at e : ℕ) {x : Next} (i : x ≡ next_at l at) where
  pub left_done : x ≡ Ok None → left f l s at e ≡ f s
  unfolding refused_lines run_from
  left_done g = rw (rest_done l at i g)

  pub left_stopped : {r : Stop} → x ≡ Err r → left f l s at e ≡ stopped_line at (stop_number r) ∷ f s
  unfolding refused_lines run_from
  left_stopped g = rw (rest_stopped l at i g)

  -- An event that is answered with the number r and leaves the table u.
  module _ {v : Event} {next : ℕ} (g : x ≡ Ok (Some (v, next))) (r : ℕ) (j : r ≡ result_number (step s v)) (u : State) (k : u ≡ after s v) where
    pub left_got : left f l s at e ≡ note_lines e r ++ left f l u next (e + 1)
    unfolding refused_lines run_from
    left_got = rw (rest_got l at i g, j, k) (append_assoc (note_lines e (result_number (step s v))) _ _)

    -- one that is accepted prints nothing
    pub left_quiet : r ≡ 0 → left f l s at e ≡ left f l u next (e + 1)
    unfolding note_lines pick
    left_quiet z = left_got ∙ rw z

module _ (g : State → List (List ℕ)) (l : List ℕ) {x : First} (i : x ≡ first_of l) where
  pub lines_failed : {r : Stop} → x ≡ Err r → lines_with g l ≡ stopped_line 0 (stop_number r) ∷ []
  unfolding lines_with
  lines_failed f = rw (reading_failed l i f)

  module _ {n : ℕ} {lim : Limits} (f : x ≡ Ok (n, lim)) where
    pub lines_begun : lines_with g l ≡ cabinets_line n ∷ left g l (start n lim) 4 1
    unfolding lines_with
    lines_begun = rw (reading_begun l i f)

pub start_in_range : (l : List ℕ) {x : First} (i : x ≡ first_of l) {n : ℕ} {lim : Limits} (f : x ≡ Ok (n, lim)) → in_range (start n lim) ≡ true
start_in_range l i {n} {lim} f = stays_in_range.starts TwoPairs n lim (first_good l i f).2

-- ── behind the heading ──

-- Where a run follows, the first field is good, and to write the rest of all lines behind the heading, which left o, is to write them all into b.
pub record Follows (g : State → List (List ℕ)) (l : List ℕ) (b o : TextBuffer) (n : ℕ) (lim : Limits) : Type 0 where
  pub first : first_of l ≡ Ok (n, lim)
  pub behind : (r : Result (Unit {0}) NoRoom) (d : TextBuffer) → WroteLines o (left g l (start n lim) 4 1) r d → WroteLines b (lines_with g l) r d

module _ (g : State → List (List ℕ)) (l : List ℕ) {b o : TextBuffer} where
  -- where the line has no room, no other has
  pub headed_refused : {e : NoRoom} {r : Result (Unit {0}) NoRoom} → Headed l b o (Err e) → IsErr r → WroteLines b (lines_with g l) r o
  headed_refused {e} {r} hd h = by (first_of l) refl
    where
      by : (x : First) → x ≡ first_of l → WroteLines b (lines_with g l) r o
      by (Err s) i = rw (lines_failed g l i refl) (lines_refused [] (rw (← i) at hd.line) refl h)
      by (Ok (n, lim)) i = rw (lines_begun g l i refl) (lines_refused (left g l (start n lim) 4 1) (rw (← i) at hd.line) refl h)

  -- where no run follows, the line is all
  pub headed_ended : Headed l b o (Ok None) → WroteLines b (lines_with g l) (Ok tt) o
  headed_ended hd = by (first_of l) refl
    where
      by : (x : First) → x ≡ first_of l → WroteLines b (lines_with g l) (Ok tt) o
      by (Err s) i = rw (lines_failed g l i refl) (rw (← i) at hd.line)
      by (Ok (n, lim)) i = let e : [] ≡ start n lim ∷ [] = hd.starts ∙ rw (← i) (pick_true (start n lim ∷ []) []) in absurd (omega (arith, ap length e))

  pub headed_nodes : {n : ℕ} {lim : Limits} → Headed l b o (Ok (Some (n, lim))) → Follows g l b o n lim
  headed_nodes {n} {lim} hd = by (first_of l) refl
    where
      starts : start n lim ∷ [] ≡ pick true (first_start (first_of l)) []
      starts = hd.starts

      by : (x : First) → x ≡ first_of l → Follows g l b o n lim
      by (Err s) i = let e : start n lim ∷ [] ≡ [] = starts ∙ rw (← i) (pick_true [] []) in absurd (omega (arith, ap length e))
      by (Ok (k, m)) i =
          let d : start n lim ∷ [] ≡ start k m ∷ [] = starts ∙ rw (← i) (pick_true (start k m ∷ []) []) in
          let e : start n lim ≡ start k m = ap (λ (x : List State). get_or x 0 (start n lim)) d in
          let f : first_of l ≡ Ok (n, lim) = sym i ∙ ap (λ (j : ℕ). Ok (j, m)) (sym (ap (λ (s : State). s.n) e)) ∙ ap (λ (j : Limits). Ok (n, j)) (sym (ap (λ (s : State). s.limits) e)) in
          record { first = f; behind = λ r d w. rw (lines_begun g l refl f) (lines_then (rw f at hd.line) refl w) }
