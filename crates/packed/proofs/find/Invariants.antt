-- `find` meets its contract: what is found is what is found from i on.
use Prim.Native.Nat.{◌+◌}
use mathlib.Core.Path.{◌≡◌}
use lib.ListN.{drop, take}
use Rattle.machine.specs.Parts.{place}
use Rattle.packed.specs.Packed.{held}
use Rattle.packed.proofs.find.Given as goal

abbrev pub invariant-loop-i : goal.invariant-loop-i
invariant-loop-i l = place l.a l.b (take l.waiting (held l.q)) ≡ place l.a l.b (drop l.i (take l.waiting (held l.q))) + l.i
