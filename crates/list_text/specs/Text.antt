-- What `text_of_list` prints: one definition from list bytes to printed bytes. The desk's request: "The text is what T-01 prints, so that a line of `short_lists` can be pasted: first `cabinets N` (tower)
-- or `stand N`, then events by their names and numbers (`recover 1`, `finish 2 100`, `deliver 2 1`), parted by a comma and a space or by line ends". Each event has a line of its own, so that long lists can be edited.
use Rattle.std.specs.Prelude.{ℕ, ◌+◌, ◌*◌, ◌≤◌, List, [], ◌∷◌, ◌++◌, map, length, eqb}
use Rattle.model.specs.Pick.{pick}
use Rattle.model.specs.declared.Event.{Event}
use Rattle.event_list.specs.Format.{stop_number, tag_at, Listed, failed, begun, reading}
use Rattle.listing.specs.Ascii.{bytes}
use Rattle.listing.specs.Lines.{row, cabinets_line, stopped_line}
use Rattle.listing.specs.Printing.{joined}
use Rattle.short_lists_text.specs.Text.{event_text}
use Rattle.run_list.specs.Text.{ending_lines}
use Rattle.list_text.specs.Words.{AllBytes}

-- "`stand N`"
unfoldable pub stand_line : ℕ → List ℕ
stand_line n = bytes "stand" ++ row (n ∷ [])

-- "first `cabinets N` (tower) or `stand N`": by the first field's tag, 0x01 or 0x02
unfoldable pub opening_line : ℕ → ℕ → List ℕ
opening_line u n = pick (eqb u 0x01) (cabinets_line n) (stand_line n)

-- "events by their names and numbers", as T-01 prints them, each on a line
unfoldable pub event_line : Event → List ℕ
event_line e = event_text e ++ bytes "\n"

-- by the first field's tag and what the list says
abbrev pub shown_lines : ℕ → Listed → List (List ℕ)
-- where the whole list or its first field failed, 01's `stopped 0 r` is all that is printed
shown_lines u (failed s) = stopped_line 0 (stop_number s) ∷ []
-- "A damaged list is shown up to the damage, with `stopped b r`."
shown_lines u (begun n lim r) = opening_line u n ∷ (map event_line r.events ++ ending_lines r.ending)

-- the lines that are printed for a list
unfoldable pub list_lines : List ℕ → List (List ℕ)
list_lines l = shown_lines (tag_at l 0) (reading l)

-- their bytes: the text of a list
abbrev pub list_text : List ℕ → List ℕ
list_text l = joined (list_lines l)

-- A bound: the first line, at most 12 bytes; a line of at most 17 for each of at most 16,383 events (of four bytes or more), and for a stop.
abbrev pub list_text_limit : ℕ
list_text_limit = 12 + 17 * 16384

-- No text of a list of bytes is longer.
abbrev pub ListTextFits : Type 0
ListTextFits = (l : List ℕ) → AllBytes l → length (list_text l) ≤ list_text_limit
