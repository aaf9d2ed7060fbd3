-- s and the sum of what is left are the sum of all.
use Prim.Native.Nat.{◌≤◌, ◌+◌, ◌*◌}
use mathlib.Core.Path.{◌≡◌}
use lib.ListN.{drop}
use Rattle.model.specs.Counts as counts
use Rattle.listing.proofs.total.Given as goal

abbrev pub invariant-loop-x : goal.invariant-loop-x
invariant-loop-x l = (l.s ≤ l.x-index * 4294967295) × (l.s + counts.total (drop l.x-index l.l) ≡ counts.total l.l)
