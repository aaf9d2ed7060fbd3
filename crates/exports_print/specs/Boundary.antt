-- What the exported function promises: for any bytes at all, the number that is answered and what the lent buffer then holds.
use Rattle.std.specs.Prelude.{List, ℕ}
use Rattle.listing.specs.Printing.{LinesExported}
use Rattle.run_list.specs.Text.{lines_of}

-- for the list l with a lent buffer that holds b; r: what is answered, o: what the buffer then holds
abbrev pub PrintExported : List ℕ → List ℕ → List ℕ → ℕ → Type 0
PrintExported l b o r = LinesExported (lines_of l) b o r
