-- The line and column of an offset, byte by byte of what stands before it.
use Prim.Native.Nat.{ℕ, ◌+◌, ◌≤◌, ◌<◌}
use mathlib.Core.Path.{◌≡◌, refl, ◌∙◌}
use mathlib.Core.Bool.{true, false}
use mathlib.Core.List.{List}
use lib.ListN.{length, get_or, drop, drop_of_length-le}
use Rattle.model.specs.Pick.{pick}
use Rattle.list_text.specs.Words.{is_line_end}
use Rattle.list_text.specs.Script.{place_from}
use Rattle.list_parser.proofs.Scanning.{left_at}

module _ (line column : ℕ) (s : List ℕ) (i : ℕ) where
  -- what is left is the byte at i, and what is left behind it
  place_next : i < length s → place_from line column (drop i s)
      ≡ place_from (pick (is_line_end (get_or s i 0)) (line + 1) line) (pick (is_line_end (get_or s i 0)) 1 (column + 1)) (drop (i + 1) s)
  unfolding place_from
  place_next h = rw (left_at s i h) refl

  -- a line end starts a line
  pub place_line : i < length s → is_line_end (get_or s i 0) ≡ true → place_from line column (drop i s) ≡ place_from (line + 1) 1 (drop (i + 1) s)
  unfolding pick
  place_line h e = place_next h ∙ rw e refl

  -- any other byte is a column
  pub place_column : i < length s → is_line_end (get_or s i 0) ≡ false → place_from line column (drop i s) ≡ place_from line (column + 1) (drop (i + 1) s)
  unfolding pick
  place_column h e = place_next h ∙ rw e refl

  pub place_end : length s ≤ i → place_from line column (drop i s) ≡ record { line = line; column = column }
  unfolding place_from
  place_end h = rw (drop_of_length-le s {i = i} h) refl
