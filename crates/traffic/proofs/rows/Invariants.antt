-- The invariant: the first a rows are there.
use mathlib.Core.Path.{◌≡◌}
use lib.ListN.{length, take}
use Rattle.model.specs.Counts.{count_at, listed}
use Rattle.traffic.proofs.rows.Given as goal

abbrev pub invariant-loop-a : goal.invariant-loop-a
invariant-loop-a l = (length l.all ≡ 16) × (take l.a l.all ≡ listed (λ x. listed (count_at l.counts x) 1 16) 1 l.a)
