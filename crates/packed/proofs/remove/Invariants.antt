-- `remove` meets its contract: without its message at j, the row is what it is to be.
use Prim.Native.Nat.{◌+◌}
use mathlib.Core.Path.{◌≡◌}
use lib.ListN.{length, take}
use Rattle.machine.specs.Parts.{without}
use Rattle.packed.specs.Packed.{held}
use Rattle.packed.proofs.remove.Given as goal

abbrev pub invariant-loop-j : goal.invariant-loop-j
invariant-loop-j l = (length l.q ≡ 256) × (without l.j (take (l.end + 1) (held l.q)) ≡ without l.k (take (l.end + 1) (held l.initial.q)))
