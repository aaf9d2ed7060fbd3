-- What is printed for a list: one definition from input bytes to printed bytes, after 01's "The list and the printed table".
use Rattle.std.specs.Prelude.{◌≡◌, Option, Some, None, Result, Ok, Err, is_ok, List, [], ◌∷◌, ◌++◌, ℕ, ◌+◌, ◌*◌, ◌≤◌, length, eqb}
use Rattle.model.specs.Pick.{pick}
use Rattle.model.specs.State.{State, start}
use Rattle.model.specs.Step.{step, after, run_from}
use Rattle.model.specs.Answers.{result_number}
use Rattle.model.specs.declared.Limits.{Limits}
use Rattle.model.specs.declared.Event.{Event}
use Rattle.event_list.specs.Format.{First, first_of, stop_number, Ending, complete, stopped, Reading, Listed, failed, begun, reading}
use Rattle.listing.specs.Lines.{cabinets_line, refused_line, stopped_line, table_lines}
use Rattle.listing.specs.Printing.{joined, WroteLines}
use Rattle.listing.specs.declared.NoRoom.{NoRoom}
use Rattle.listing.specs.declared.buffer.TextBuffer.{TextBuffer}

-- "for each event refused `refused e r`": event e with the number r, which is 0 where it is accepted
unfoldable pub note_lines : ℕ → ℕ → List (List ℕ)
note_lines e r = pick (eqb r 0) [] (refused_line e r ∷ [])

-- the same for a run from s, the first event of which is event e
unfoldable pub refused_lines : State → ℕ → List Event → List (List ℕ)
refused_lines s e [] = []
refused_lines s e (v ∷ vs) = note_lines e (result_number (step s v)) ++ refused_lines (after s v) (e + 1) vs

-- "A list refusal prints `stopped b r` at the offset b of its field's tag"
abbrev pub ending_lines : Ending → List (List ℕ)
ending_lines complete = []
ending_lines (stopped b s) = stopped_line b (stop_number s) ∷ []

-- what is printed of a run from s, the first event of which is event e; what is printed of the table behind it, f says
abbrev pub run_lines_with : (State → List (List ℕ)) → State → ℕ → Reading → List (List ℕ)
run_lines_with f s e r = refused_lines s e r.events ++ (ending_lines r.ending ++ f (run_from s r.events))

-- by what the list says
abbrev pub listed_lines : (State → List (List ℕ)) → Listed → List (List ℕ)
-- "if the whole list or the first field failed, that line is all that is printed, without `cabinets n`"; both fail at offset 0
listed_lines f (failed s) = stopped_line 0 (stop_number s) ∷ []
-- "It prints `cabinets n`; .. (e counts events from 1 ..)"
listed_lines f (begun n lim r) = cabinets_line n ∷ run_lines_with f (start n lim) 1 r

-- the lines that are printed for a list
unfoldable pub lines_with : (State → List (List ℕ)) → List ℕ → List (List ℕ)
lines_with f l = listed_lines f (reading l)

-- The bench program's: "then the table so far", and so where nothing is refused. T-13's program prints something else of the table (rest_list).
abbrev pub run_lines : State → ℕ → Reading → List (List ℕ)
run_lines s e r = run_lines_with table_lines s e r

abbrev pub lines_of : List ℕ → List (List ℕ)
lines_of l = lines_with table_lines l

-- and their bytes
abbrev pub text_of : List ℕ → List ℕ
text_of l = joined (lines_of l)

-- A bound: `cabinets n`, a line for each of at most 16,383 events (of four bytes or more) and for a stop, and the table of 16 nodes with its three totals, 53 bytes:
-- a total of a table in range, at most 240 × 33,554,430, has ten digits.
abbrev pub text_limit : ℕ
text_limit = 12 + 17 * 16384 + (34 * 16 + 12 + 53)

-- No text is longer.
abbrev pub TextFits : Type 0
TextFits = (l : List ℕ) → length (text_of l) ≤ text_limit

-- ── the first line ──

-- by what the first field says: its line
abbrev pub first_line : First → List ℕ
first_line (Err s) = stopped_line 0 (stop_number s)
first_line (Ok x) = cabinets_line x.0

-- the starting table of a run of n nodes with these limits, where one follows
abbrev pub starting_table : Option (ℕ × Limits) → List State
starting_table None = []
starting_table (Some x) = start x.0 x.1 ∷ []

-- and that of the run behind the first field
abbrev pub first_start : First → List State
first_start (Err s) = []
first_start (Ok x) = starting_table (Some x)

-- of an answer: whether the line was written, and the starting table of the run behind it, where one follows
abbrev pub heading_put : Result (Option (ℕ × Limits)) NoRoom → Result (Unit {0}) NoRoom
heading_put (Ok h) = Ok tt
heading_put (Err e) = Err e

abbrev pub heading_start : Result (Option (ℕ × Limits)) NoRoom → List State
heading_start (Ok h) = starting_table h
heading_start (Err e) = []

-- What writing the first line of the list l into the buffer b answers, h, and leaves, o. A run follows where the first field is good and its line has room.
pub record Headed (l : List ℕ) (b o : TextBuffer) (h : Result (Option (ℕ × Limits)) NoRoom) : Type 0 where
  pub line : WroteLines b (first_line (first_of l) ∷ []) (heading_put h) o
  pub starts : heading_start h ≡ pick (is_ok h) (first_start (first_of l)) []
