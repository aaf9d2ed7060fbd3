-- What is counted, and the length of what is left, is one more than the whole: the end of the line is counted at once.
use Prim.Native.Nat.{◌≤◌, ◌+◌, ◌*◌}
use mathlib.Core.Path.{◌≡◌}
use mathlib.Core.List.{◌++◌}
use lib.ListN.{length, drop}
use Rattle.listing.specs.Decimal.{decimal}
use Rattle.listing.specs.Lines.{row}
use Rattle.listing.proofs.row_len.Given as goal

abbrev pub invariant-loop-y : goal.invariant-loop-y
invariant-loop-y g l = (l.n ≤ 21 + l.y-index * 21) × (l.n + length (row (drop l.y-index l.more)) ≡ length (decimal l.x ++ row l.more) + 1)
