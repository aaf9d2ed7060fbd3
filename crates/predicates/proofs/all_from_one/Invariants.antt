-- `all_from_one` meets its contract: the answer is that of the elements from k on.
use Prim.Native.Nat.{ℕ, ◌≤◌, ◌+◌}
use mathlib.Core.Path.{◌≡◌}
use mathlib.Core.Bool.{Bool}
use lib.ListN.{length, drop}
use Rattle.model.specs.State.{every}
use Rattle.predicates.proofs.all_from_one.Given as goal

abbrev pub invariant-loop-k : goal.invariant-loop-k
invariant-loop-k g l =
    (p : ℕ → _ → Bool)
    → ((i : ℕ) (x : _) (b : Bool) → 1 ≤ i → i ≤ length l.xs → goal.F-post g l.f i x b → b ≡ p i x)
    → every p 1 l.xs ≡ every p (l.k + 1) (drop l.k l.xs)
