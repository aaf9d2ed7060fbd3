-- The line of an event as it is made; the lines that are left at a field, by what is read there; those of a whole list, by its first field; and a slice's bytes one by one.
use Prim.Native.Nat.{ℕ, suc, ◌<◌}
use mathlib.Core.Path.{◌≡◌}
use mathlib.Core.List.{List, [], ◌∷◌, ◌++◌, map}
use lib.ListN.{take, get_or}
use Rattle.model.specs.declared.Limits.{Limits}
use Rattle.model.specs.declared.Event.{Event}
use Rattle.event_list.specs.declared.Stop.{Stop}
use Rattle.std.specs.Prelude.{Some, None, Result, Ok, Err}
use Rattle.event_list.specs.Format.{Next, First, stop_number, tag_at, next_at, first_of, rest}
use Rattle.event_list.proofs.Reading.{rest_done, rest_stopped, rest_got, reading_failed, reading_begun}
use Rattle.listing.specs.Lines.{stopped_line}
use Rattle.listing.specs.declared.NoRoom.{NoRoom}
use Rattle.listing.specs.declared.buffer.TextBuffer.{TextBuffer}
use Rattle.listing.specs.Printing.{Wrote, WroteLines}
use Rattle.short_lists_text.specs.Text.{event_text}
use Rattle.run_list.specs.Text.{ending_lines}
use Rattle.list_text.specs.Text.{opening_line, event_line, list_lines}
use Rattle.list_text.specs.Words.{AllBytes}

-- An event's line as it is made: the text of the event, written from the start of an array, and 0x0A behind it.
pub line_made : {b o c d : TextBuffer} {l : List ℕ} {a : Result (Unit {0}) NoRoom} (e : Event) → b.end ≡ 0 → Wrote b (event_text e ++ (10 ∷ [])) o → WroteLines c (take o.end l ∷ []) a d → l ≡ o.bytes.now → WroteLines c (event_line e ∷ []) a d
unfolding event_line
line_made e z w v i = rw (i, w.appended.text, z) at v

-- ── at a field ──

-- the lines that are left at an offset
abbrev pub left : List ℕ → ℕ → List (List ℕ)
left l at = map event_line (rest l at).events ++ ending_lines (rest l at).ending

module _ (l : List ℕ) (at : ℕ) {x : Next} (i : x ≡ next_at l at) where
  pub left_done : x ≡ Ok None → left l at ≡ []
  left_done g = rw (rest_done l at i g)

  pub left_stopped : {s : Stop} → x ≡ Err s → left l at ≡ stopped_line at (stop_number s) ∷ []
  left_stopped g = rw (rest_stopped l at i g)

  pub left_got : {v : Event} {next : ℕ} → x ≡ Ok (Some (v, next)) → left l at ≡ event_line v ∷ left l next
  left_got g = rw (rest_got l at i g)

-- ── all of a list ──

module _ (l : List ℕ) {x : First} (i : x ≡ first_of l) where
  pub lines_failed : {s : Stop} → x ≡ Err s → list_lines l ≡ stopped_line 0 (stop_number s) ∷ []
  unfolding list_lines
  lines_failed f = rw (reading_failed l i f)

  pub lines_begun : {n : ℕ} {lim : Limits} → x ≡ Ok (n, lim) → list_lines l ≡ opening_line (tag_at l 0) n ∷ left l 4
  unfolding list_lines
  lines_begun f = rw (reading_begun l i f)

-- ── its bytes ──

-- What is read at any index, 0 past the end, is a byte.
pub all_bytes : (l : List ℕ) → ((i : ℕ) → get_or l i 0 < 256) → AllBytes l
all_bytes [] f = tt
all_bytes (x ∷ l) f = (f 0, all_bytes l (λ i. f (suc i)))
