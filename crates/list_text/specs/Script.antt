-- What a text says, and the list that it stands for: one definition from the bytes of a text to those of a list, or to a line, a column and what was expected there.
-- The desk's request: "first `cabinets N` (tower) or `stand N`, then events by their names and numbers (`recover 1`, `finish 2 100`, `deliver 2 1`), parted by a comma and a space or by line ends;
-- empty lines and `#` to the end of a line are skipped." "Numbers out of 01's ranges (cabinet 17, task 5) are written as they are, as far as their bytes can hold them".
use Rattle.std.specs.Prelude.{ℕ, zero, suc, ◌+◌, ◌-◌, ◌||◌, List, [], ◌∷◌, ◌++◌, length, get_or, take, eqb, leb, ltb, Option, None, Some, Result, Ok, Err}
use Rattle.model.specs.Pick.{pick}
use Rattle.model.specs.declared.Event.{Event}
use Rattle.model.specs.declared.Event.TheVariants.{Finish}
use Rattle.event_list.specs.Format.{max_bytes, event_of}
use Rattle.listing.specs.Ascii.{bytes}
use Rattle.short_lists_text.specs.Rows.{concat_map}
use Rattle.short_lists_text.specs.Order.{tag, contents}
use Rattle.list_text.specs.Words.{is_line_end, is_hash, is_comma, is_blank, past, past_skipped, word_at, behind_word, same, Number, number_at}
use Rattle.list_text.specs.declared.Expected.{Expected}
use Rattle.list_text.specs.declared.Place.{Place}
use Rattle.list_text.specs.declared.Wrong.{Wrong}

-- ── what is found ──

-- x was expected at the offset p
abbrev pub due : ℕ → Expected → Wrong
due p x = record { at = p; expected = x }

-- what the opening of a text says: the first field's tag and n, and the offset behind them; or where it goes wrong, and what was expected there
abbrev pub Opening : Type 0
Opening = Result (ℕ × ℕ × ℕ) Wrong

-- what follows in a text: an event, and the offset behind it, or its end; or where it goes wrong, and what was expected there
abbrev pub Part : Type 0
Part = Result (Option (Event × ℕ)) Wrong

-- ── the bytes of a list ──

-- 01: "one-byte tag, two-byte length with the high byte first, contents"; of the first field, "0x01, one byte n", or T-08's 0x02
abbrev pub opening_field : ℕ → ℕ → List ℕ
opening_field u n = u ∷ 0 ∷ 1 ∷ n ∷ []

-- the field of an event
unfoldable pub event_field : Event → List ℕ
event_field e = tag e ∷ 0 ∷ length (contents e) ∷ contents e

-- "A list is a row of fields": a first field of tag u and n, and then these events
unfoldable pub list_bytes : ℕ → ℕ → List Event → List ℕ
list_bytes u n es = opening_field u n ++ concat_map event_field es

-- ── the opening ──

-- "first `cabinets N` (tower) or `stand N`": the first field's tag by the word; none where it is neither
unfoldable pub opening_tag : List ℕ → Option ℕ
opening_tag w =
    pick (same w (bytes "cabinets")) (Some 0x01)
    (pick (same w (bytes "stand")) (Some 0x02)
    None)

-- with N, from 0 to 255: as far as its byte can hold it
abbrev pub opening_with : ℕ → Number → Opening
opening_with u (Err p) = Err (due p Expected.Number)
opening_with u (Ok (n, next)) = Ok (u, n, next)

-- by the tag that the word at an offset gives
abbrev pub opening_by : Option ℕ → List ℕ → ℕ → Opening
opening_by None t at = Err (due at Expected.Opening)
opening_by (Some u) t at = opening_with u (number_at 255 t (behind_word t at))

-- what the opening says that starts at an offset
unfoldable pub opening_at : List ℕ → ℕ → Opening
opening_at t at = opening_by (opening_tag (word_at t at)) t at

-- ── an event ──

-- "events by their names": the tag of the event that a word names; none where it names none
unfoldable pub event_named : List ℕ → Option ℕ
event_named w =
    pick (same w (bytes "crash")) (Some 0x10)
    (pick (same w (bytes "recover")) (Some 0x11)
    (pick (same w (bytes "check")) (Some 0x12)
    (pick (same w (bytes "timeout")) (Some 0x13)
    (pick (same w (bytes "tick")) (Some 0x14)
    (pick (same w (bytes "expire")) (Some 0x15)
    (pick (same w (bytes "finish")) (Some 0x16)
    (pick (same w (bytes "deliver")) (Some 0x17)
    (pick (same w (bytes "lose")) (Some 0x18)
    None))))))))

-- finish has "a two-byte task" for its second number; all others are of one byte
unfoldable pub second_most : ℕ → ℕ
second_most u = pick (eqb u 0x16) 65535 255

unfoldable pub second_expected : ℕ → Expected
second_expected u = pick (eqb u 0x16) Expected.Task Expected.Number

-- the event with tag u and two numbers
unfoldable pub event_of_two : ℕ → ℕ → ℕ → Event
event_of_two u x y = pick (eqb u 0x16) (Finish x (record { number = y })) (event_of u (x ∷ y ∷ []))

-- "and numbers": crash, recover, check, timeout, tick and expire have one
abbrev pub with_one : ℕ → Number → Part
with_one u (Err p) = Err (due p Expected.Number)
with_one u (Ok (x, next)) = Ok (Some (event_of u (x ∷ []), next))

-- finish, deliver and lose have two, of which x is the first
abbrev pub with_second : ℕ → ℕ → Number → Part
with_second u x (Err p) = Err (due p (second_expected u))
with_second u x (Ok (y, next)) = Ok (Some (event_of_two u x y, next))

-- of which the first is still to be read
abbrev pub with_two : ℕ → List ℕ → Number → Part
with_two u t (Err p) = Err (due p Expected.Number)
with_two u t (Ok (x, next)) = with_second u x (number_at (second_most u) t next)

-- the numbers of an event with tag u, from at on
unfoldable pub numbers_at : ℕ → List ℕ → ℕ → Part
numbers_at u t at = pick (leb u 0x15) (with_one u (number_at 255 t at)) (with_two u t (number_at 255 t at))

-- by the tag that the word at an offset gives
abbrev pub event_by : Option ℕ → List ℕ → ℕ → Part
event_by None t at = Err (due at Expected.Name)
event_by (Some u) t at = numbers_at u t (behind_word t at)

-- the event that starts at an offset
unfoldable pub event_at : List ℕ → ℕ → Part
event_at t at = event_by (event_named (word_at t at)) t at

-- ── what follows ──

-- behind a line end or a comment: the next event, wherever it starts, or the text's end
unfoldable pub event_from : List ℕ → ℕ → Part
event_from t at = pick (leb (length t) at) (Ok None) (event_at t at)

-- "parted by a comma and a space or by line ends": what follows, where at is the offset of the first byte behind the last part that is not blank. Any blanks may stand beside a comma, or none.
-- Behind a comma an event is due on the same line.
unfoldable pub separated_at : List ℕ → ℕ → Part
separated_at t at =
    pick (leb (length t) at) (Ok None)
    (pick (is_comma (get_or t at 0)) (event_at t (past is_blank t (at + 1)))
    (pick (is_line_end (get_or t at 0) || is_hash (get_or t at 0)) (event_from t (past_skipped t at))
    (Err (due at Expected.Separator))))

-- what follows behind the part that ends at an offset
unfoldable pub part_at : List ℕ → ℕ → Part
part_at t at = separated_at t (past is_blank t at)

-- ── the whole text ──

-- the events of a text from an offset on; or where it goes wrong, and what was expected there
pub data Said : Type 0 where
  wrong : ℕ → Expected → Said
  said : List Event → Said

-- an event, and what is said behind it
abbrev pub before : Event → Said → Said
before e (wrong p x) = wrong p x
before e (said es) = said (e ∷ es)

-- what is said from an offset on, where the list has room for so many bytes more, given what is said behind the next event. An event for which there is no room is told behind it.
abbrev pub onward : ℕ → ℕ → Part → (ℕ → ℕ → Said) → Said
onward at room (Ok None) later = said []
onward at room (Err w) later = wrong w.at w.expected
onward at room (Ok (Some (e, next))) later =
    pick (ltb room (length (event_field e))) (wrong next Expected.EndOfList)
    (before e (later next (room - length (event_field e))))

-- what the next k parts from an offset on say
unfoldable pub said_in : ℕ → List ℕ → ℕ → ℕ → Said
said_in zero t at room = said []
said_in (suc k) t at room = onward at room (part_at t at) (said_in k t)

-- what all parts from an offset on say. A text has no more parts than bytes, so none is left: `SaysAll` in specs/Claims
unfoldable pub said_from : List ℕ → ℕ → ℕ → Said
said_from t at room = said_in (suc (length t)) t at room

-- what a whole text says: where it goes wrong, and what was expected there; or the first field's tag and n, and the events
pub data Script : Type 0 where
  wrong_at : ℕ → Expected → Script
  script : ℕ → ℕ → List Event → Script

abbrev pub with_events : ℕ → ℕ → Said → Script
with_events u n (wrong p x) = wrong_at p x
with_events u n (said es) = script u n es

-- the events behind the opening; the first field has taken 4 bytes
abbrev pub behind_opening : List ℕ → Opening → Script
behind_opening t (Err w) = wrong_at w.at w.expected
behind_opening t (Ok (u, n, next)) = with_events u n (said_from t next (max_bytes - 4))

-- A text may have this many bytes: room for the text of any list, and for comments. The request names the limit of the list only.
abbrev pub max_text : ℕ
max_text = 1048576

unfoldable pub script_of : List ℕ → Script
script_of t = pick (ltb max_text (length t)) (wrong_at max_text Expected.EndOfText) (behind_opening t (opening_at t (past_skipped t 0)))

-- ── line and column ──

-- "its line and column": both from 1, the column in bytes. s is what stands before the place, and starts at line i and column j. But for a text that is too long, and one that
-- ends in a comment before any opening, the bytes before the place on its line are those of words, blanks and commas, so that a column counts characters as well.
unfoldable pub place_from : ℕ → ℕ → List ℕ → Place
place_from i j [] = record { line = i; column = j }
place_from i j (b ∷ s) = place_from (pick (is_line_end b) (i + 1) i) (pick (is_line_end b) 1 (j + 1)) s

-- the line and column of an offset
abbrev pub place_of : List ℕ → ℕ → Place
place_of t at = place_from 1 1 (take at t)

-- ── the list ──

-- what a text comes to: "A bad text is answered with its line and column and what was expected"; else the bytes of a list
pub data Outcome : Type 0 where
  bad : Place → Expected → Outcome
  list : List ℕ → Outcome

abbrev pub outcome : List ℕ → Script → Outcome
outcome t (wrong_at p x) = bad (place_of t p) x
outcome t (script u n es) = list (list_bytes u n es)

unfoldable pub list_of : List ℕ → Outcome
list_of t = outcome t (script_of t)
