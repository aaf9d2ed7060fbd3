-- The digits of y that are still to be written, and then those in place, are the last digits of x.
use mathlib.Core.Path.{◌≡◌}
use mathlib.Core.List.{◌++◌}
use lib.ListN.{length, drop}
use Rattle.listing.specs.Parts.{padded}
use Rattle.listing.proofs.buffer.digits_into.Given as goal

abbrev pub invariant-loop-p : goal.invariant-loop-p
invariant-loop-p l = padded l.p l.y ++ drop l.p l.d ≡ padded (length l.initial.d) l.x
