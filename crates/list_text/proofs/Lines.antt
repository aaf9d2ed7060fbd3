-- What is printed for an opening and events that fit into their bytes is read back to the bytes of their list: a line for each event, and all of them on one line. 32 is a space, 10 a line end, 44 a comma.
use Prim.Native.Nat.{ℕ, ◌+◌, ◌-◌, ◌*◌, ◌≤◌, ◌<◌}
use native.Mathlib.Omega.{arith}
use mathlib.Core.Path.{◌≡◌, refl, sym, ◌∙◌, ap, subst}
use mathlib.Core.Bool.{false}
use mathlib.Core.Logic.{⊎_elim}
use mathlib.Core.List.{List, [], ◌∷◌, ◌++◌, append_assoc, map}
use lib.ListN.{length, drop, length-append}
use borrow.Author.Tests.{le-ltb}
use Rattle.std.specs.Prelude.{Some, None, Ok}
use Rattle.model.specs.Pick.{pick}
use Rattle.model.specs.declared.Event.{Event}
use Rattle.event_list.specs.Format.{max_bytes}
use Rattle.listing.specs.Ascii.{bytes}
use Rattle.listing.specs.Decimal.{decimal}
use Rattle.listing.specs.Lines.{row, cabinets_line}
use Rattle.listing.specs.Printing.{joined}
use Rattle.listing.proofs.Decimal.{decimal_short}
use Rattle.short_lists_text.specs.Rows.{All, concat_map}
use Rattle.short_lists_text.specs.Text.{event_text, more_text, events_text, list_line}
use Rattle.list_text.specs.Text.{stand_line, opening_line, event_line}
use Rattle.list_text.specs.Words.{is_word_byte, is_skipped, past_skipped, same}
use Rattle.list_text.specs.Script.{event_field, opening_field, list_bytes, opening_tag, opening_at, part_at, said_from, said, onward, max_text, script_of, list, list_of}
use Rattle.list_text.specs.Claims.{FitsBytes, IsFirstTag}
use Rattle.list_text.proofs.Parts.{says_all}
use Rattle.list_text.proofs.Lengths.{event_long, lines_long, more_long, fields_some}
use Rattle.list_text.proofs.Found.{Stops, IsWord, is_word, behind, behind_one, word_is, past_is, skip_none, number_is, behind_line_end, behind_comma, last_line_end, two_line_ends}

-- ── what is said ──

-- At the end.
said_end : (t : List ℕ) (at room : ℕ) → part_at t at ≡ Ok None → said_from t at room ≡ said []
said_end t at room e = says_all.next t at room ∙ ap (λ x. onward at room x (said_from t)) e

-- An event for which there is room, and what is said behind it.
said_event : (t : List ℕ) (at p room : ℕ) (e : Event) (es : List Event) → part_at t at ≡ Ok (Some (e, p)) → length (event_field e) ≤ room → said_from t p (room - length (event_field e)) ≡ said es → said_from t at room ≡ said (e ∷ es)
unfolding pick
said_event t at p room e es f h g = says_all.next t at room ∙ rw (f, le-ltb room (length (event_field e)) h, g)

-- ── a line for each event ──

-- what stands behind the opening's number, and behind the text of each event
abbrev lines_behind : List Event → List ℕ
lines_behind es = 10 ∷ joined (map event_line es)

lines_more : (e : Event) (es : List Event) → lines_behind (e ∷ es) ≡ 10 ∷ (event_text e ++ lines_behind es)
unfolding joined event_line
lines_more e es = ap (λ (l : List ℕ). 10 ∷ l) (append_assoc (event_text e) (10 ∷ []) (joined (map event_line es)))

lines_said : (es : List Event) → All FitsBytes es → (t : List ℕ) (at room : ℕ) → drop at t ≡ lines_behind es → length (concat_map event_field es) ≤ room → said_from t at room ≡ said es
unfolding joined
lines_said [] f t at room d h = said_end t at room (last_line_end t at d)
lines_said (e ∷ es) f t at room d h =
    let l = length-append (event_field e) (concat_map event_field es) in
    let g : drop at t ≡ (10 ∷ event_text e) ++ lines_behind es = d ∙ lines_more e es in
    let z : at + length (10 ∷ event_text e) ≡ at + 1 + length (event_text e) = omega arith in
    let n : drop (at + 1 + length (event_text e)) t ≡ lines_behind es = ap (λ (k : ℕ). drop k t) (sym z) ∙ behind t at (10 ∷ event_text e) (lines_behind es) g in
    said_event t at (at + 1 + length (event_text e)) room e es (behind_line_end t at e (lines_behind es) g f.0 refl) (omega arith)
    (lines_said es f.1 t (at + 1 + length (event_text e)) (room - length (event_field e)) n (omega arith))

-- ── all events on one line ──

-- what stands behind the text of each event
abbrev more_behind : List Event → List ℕ
more_behind es = more_text es ++ (10 ∷ [])

more_more : (e : Event) (es : List Event) → more_behind (e ∷ es) ≡ 44 ∷ 32 ∷ (event_text e ++ more_behind es)
unfolding more_text
more_more e es = ap (λ (l : List ℕ). 44 ∷ 32 ∷ l) (append_assoc (event_text e) (more_text es) (10 ∷ []))

-- it starts with a comma or a line end
more_stops : (es : List Event) → Stops is_word_byte (more_behind es)
unfolding more_text
more_stops [] = refl
more_stops (e ∷ es) = refl

more_said : (es : List Event) → All FitsBytes es → (t : List ℕ) (at room : ℕ) → drop at t ≡ more_behind es → length (concat_map event_field es) ≤ room → said_from t at room ≡ said es
unfolding more_text
more_said [] f t at room d h = said_end t at room (last_line_end t at d)
more_said (e ∷ es) f t at room d h =
    let l = length-append (event_field e) (concat_map event_field es) in
    let g : drop at t ≡ (44 ∷ 32 ∷ event_text e) ++ more_behind es = d ∙ more_more e es in
    let z : at + length (44 ∷ 32 ∷ event_text e) ≡ at + 2 + length (event_text e) = omega arith in
    let n : drop (at + 2 + length (event_text e)) t ≡ more_behind es = ap (λ (k : ℕ). drop k t) (sym z) ∙ behind t at (44 ∷ 32 ∷ event_text e) (more_behind es) g in
    said_event t at (at + 2 + length (event_text e)) room e es (behind_comma t at e (more_behind es) g f.0 (more_stops es)) (omega arith)
    (more_said es f.1 t (at + 2 + length (event_text e)) (room - length (event_field e)) n (omega arith))

-- what stands behind the opening's number
abbrev line_behind : List Event → List ℕ
line_behind es = 10 ∷ list_line es

line_more : (e : Event) (es : List Event) → line_behind (e ∷ es) ≡ 10 ∷ (event_text e ++ more_behind es)
unfolding list_line events_text
line_more e es = ap (λ (l : List ℕ). 10 ∷ l) (append_assoc (event_text e) (more_text es) (10 ∷ []))

line_said : (es : List Event) → All FitsBytes es → (t : List ℕ) (at room : ℕ) → drop at t ≡ line_behind es → length (concat_map event_field es) ≤ room → said_from t at room ≡ said es
unfolding list_line events_text
line_said [] f t at room d h = said_end t at room (two_line_ends t at d)
line_said (e ∷ es) f t at room d h =
    let l = length-append (event_field e) (concat_map event_field es) in
    let g : drop at t ≡ (10 ∷ event_text e) ++ more_behind es = d ∙ line_more e es in
    let z : at + length (10 ∷ event_text e) ≡ at + 1 + length (event_text e) = omega arith in
    let n : drop (at + 1 + length (event_text e)) t ≡ more_behind es = ap (λ (k : ℕ). drop k t) (sym z) ∙ behind t at (10 ∷ event_text e) (more_behind es) g in
    said_event t at (at + 1 + length (event_text e)) room e es (behind_line_end t at e (more_behind es) g f.0 (more_stops es)) (omega arith)
    (more_said es f.1 t (at + 1 + length (event_text e)) (room - length (event_field e)) n (omega arith))

-- ── the opening ──

-- what stands behind the opening says these events, wherever it stands
abbrev Says : List ℕ → List Event → Type 0
Says r es = (t : List ℕ) (at room : ℕ) → drop at t ≡ r → length (concat_map event_field es) ≤ room → said_from t at room ≡ said es

-- The opening by the word w with the tag u, and then r.
pub opens : (w : List ℕ) (u n : ℕ) (r : List ℕ) → IsWord w → Stops (is_skipped false) (w ++ (32 ∷ (decimal n ++ r))) → opening_tag w ≡ Some u → n < 256 → Stops is_word_byte r →
    opening_at (w ++ (32 ∷ (decimal n ++ r))) (past_skipped (w ++ (32 ∷ (decimal n ++ r))) 0) ≡ Ok (u, n, 0 + length w + 1 + length (decimal n))
unfolding opening_at pick
opens w u n r a k g h p =
    let t = w ++ (32 ∷ (decimal n ++ r)) in
    let d = behind t 0 w (32 ∷ (decimal n ++ r)) refl in
    rw (
      skip_none t 0 t refl k,
      word_is t 0 w (32 ∷ (decimal n ++ r)) refl a refl,
      g,
      past_is is_word_byte t 0 w (32 ∷ (decimal n ++ r)) refl a refl,
      number_is 255 t (0 + length w) n r d (omega arith) (omega arith) p,
    )

-- The text of an opening by the word w with the tag u, and then r.
opened : (w : List ℕ) (u n : ℕ) (r : List ℕ) (es : List Event) → IsWord w → Stops (is_skipped false) (w ++ (32 ∷ (decimal n ++ r))) → opening_tag w ≡ Some u → n < 256 → Stops is_word_byte r →
    length (w ++ (32 ∷ (decimal n ++ r))) ≤ max_text → Says r es → length (list_bytes u n es) ≤ max_bytes → list_of (w ++ (32 ∷ (decimal n ++ r))) ≡ list (list_bytes u n es)
unfolding list_of script_of pick list_bytes
opened w u n r es a k g h p l f b =
    let t = w ++ (32 ∷ (decimal n ++ r)) in
    let d = behind t 0 w (32 ∷ (decimal n ++ r)) refl in
    let q = behind t (0 + length w + 1) (decimal n) r (behind_one t (0 + length w) 32 (decimal n ++ r) d) in
    rw (le-ltb max_text (length t) l, opens w u n r a k g h p, f t (0 + length w + 1 + length (decimal n)) (max_bytes - 4) q (omega arith))

-- The first line and what stands behind its number.
pub cabinets_opens : (n : ℕ) (r : List ℕ) → cabinets_line n ++ r ≡ bytes "cabinets" ++ (32 ∷ (decimal n ++ (10 ∷ r)))
unfolding cabinets_line row
cabinets_opens n r = ap (λ (l : List ℕ). bytes "cabinets" ++ (32 ∷ l)) (append_assoc (decimal n) (10 ∷ []) r)

pub stand_opens : (n : ℕ) (r : List ℕ) → stand_line n ++ r ≡ bytes "stand" ++ (32 ∷ (decimal n ++ (10 ∷ r)))
unfolding stand_line row
stand_opens n r = ap (λ (l : List ℕ). bytes "stand" ++ (32 ∷ l)) (append_assoc (decimal n) (10 ∷ []) r)

-- a text that starts with a word of at most 8 letters
short : (w : List ℕ) (n : ℕ) (r : List ℕ) → length w ≤ 8 → n < 256 → length r ≤ 300000 → length (w ++ (32 ∷ (decimal n ++ (10 ∷ r)))) ≤ max_text
short w n r h k i = let d = decimal_short 3 {x = n} (omega arith) (omega arith) in simp length-append (omega arith)

module _ (n : ℕ) (r : List ℕ) (es : List Event) (h : n < 256) (i : length r ≤ 300000) (f : Says (10 ∷ r) es) where
  cabinets_read : length (list_bytes 1 n es) ≤ max_bytes → list_of (opening_line 1 n ++ r) ≡ list (list_bytes 1 n es)
  unfolding opening_line opening_tag same pick
  cabinets_read b =
      ap (λ (t : List ℕ). list_of t) (cabinets_opens n r)
      ∙ opened (bytes "cabinets") 1 n (10 ∷ r) es (is_word (bytes "cabinets") refl) refl refl h refl (short (bytes "cabinets") n r (omega arith) h i) f b

  stand_read : length (list_bytes 2 n es) ≤ max_bytes → list_of (opening_line 2 n ++ r) ≡ list (list_bytes 2 n es)
  unfolding opening_line opening_tag same pick
  stand_read b =
      ap (λ (t : List ℕ). list_of t) (stand_opens n r)
      ∙ opened (bytes "stand") 2 n (10 ∷ r) es (is_word (bytes "stand") refl) refl refl h refl (short (bytes "stand") n r (omega arith) h i) f b

  opening_read : (u : ℕ) → IsFirstTag u → length (list_bytes u n es) ≤ max_bytes → list_of (opening_line u n ++ r) ≡ list (list_bytes u n es)
  opening_read u g =
      ⊎_elim
      (λ e. subst (λ (v : ℕ). length (list_bytes v n es) ≤ max_bytes → list_of (opening_line v n ++ r) ≡ list (list_bytes v n es)) (sym e) cabinets_read)
      (λ e. subst (λ (v : ℕ). length (list_bytes v n es) ≤ max_bytes → list_of (opening_line v n ++ r) ≡ list (list_bytes v n es)) (sym e) stand_read)
      g

-- ── the whole ──

-- A list has few events.
few : (u n : ℕ) (es : List Event) → length (list_bytes u n es) ≤ max_bytes → 4 + 4 * length es ≤ 65536
unfolding list_bytes
few u n es b = let s = fields_some es in let l = length-append (opening_field u n) (concat_map event_field es) in omega arith

pub lines_read : (u n : ℕ) (es : List Event) → IsFirstTag u → n < 256 → All FitsBytes es → length (list_bytes u n es) ≤ max_bytes → list_of (joined (opening_line u n ∷ map event_line es)) ≡ list (list_bytes u n es)
unfolding joined
lines_read u n es g h f b =
    let k = few u n es b in
    let l = lines_long es f in
    opening_read n (joined (map event_line es)) es h (omega arith) (lines_said es f) u g b

pub line_long : (es : List Event) → All FitsBytes es → length (list_line es) ≤ 18 * length es + 1
unfolding list_line events_text
line_long [] f = omega arith
line_long (e ∷ es) f = let a = event_long e f.0 in let b = more_long es f.1 in simp length-append (omega arith)

pub pasted_read : (u n : ℕ) (es : List Event) → IsFirstTag u → n < 256 → All FitsBytes es → length (list_bytes u n es) ≤ max_bytes → list_of (opening_line u n ++ list_line es) ≡ list (list_bytes u n es)
pasted_read u n es g h f b =
    let k = few u n es b in
    let l = line_long es f in
    opening_read n (list_line es) es h (omega arith) (line_said es f) u g b
