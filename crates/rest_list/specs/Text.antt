-- What the program of T-13 prints for a list: the bench program's text, and in place of its table how many turns of the round are made from that on until no message waits, and
-- the table behind them.
use Rattle.std.specs.Prelude.{List, ◌∷◌, ℕ, ◌+◌, ◌≤◌, length}
use Rattle.model.specs.State.{State}
use Rattle.listing.specs.Lines.{turns_line, table_lines}
use Rattle.listing.specs.Printing.{joined}
use Rattle.run_list.specs.Text.{lines_with, text_limit}
use Rattle.rest_bound.specs.Turns.{turns_to_rest, table_at_rest}

-- `turns k`, where k counts all turns from (1,2) on, those that do nothing too; and the table behind them, in which, where s is a table of a run, no message waits (`RestBehind.rests` in
-- specs/Claims)
abbrev pub rest_lines : State → List (List ℕ)
rest_lines s = turns_line (turns_to_rest s) ∷ table_lines (table_at_rest s)

-- the lines that are printed for a list: `cabinets n`, `refused e r` for each event refused, `stopped b r` where it stopped, and then these; where the whole list or the first field failed, that
-- line alone
abbrev pub rest_lines_of : List ℕ → List (List ℕ)
rest_lines_of l = lines_with rest_lines l

-- and their bytes
abbrev pub rest_text_of : List ℕ → List ℕ
rest_text_of l = joined (rest_lines_of l)

-- A bound: the bench program's, and the line of at most 5,344 × 240 turns
abbrev pub rest_limit : ℕ
rest_limit = text_limit + 14

-- No text is longer.
abbrev pub RestTextFits : Type 0
RestTextFits = (l : List ℕ) → length (rest_text_of l) ≤ rest_limit
