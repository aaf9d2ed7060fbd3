-- What is written, and what is left of the line, are the line.
use mathlib.Core.List.{◌++◌}
use lib.ListN.{drop}
use Rattle.listing.specs.Decimal.{decimal}
use Rattle.listing.specs.Lines.{row}
use Rattle.listing.proofs.Row.{Begun}
use Rattle.listing.proofs.write_row.Given as goal

abbrev pub invariant-loop-y : goal.invariant-loop-y
invariant-loop-y g l = Begun l.fn.free 0 (l.w ++ (decimal l.x ++ row l.more)) l.free l.p (row (drop l.y-index l.more))
