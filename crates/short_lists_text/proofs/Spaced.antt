-- The numbers of an event as they are written, and how long they can be.
use Prim.Native.Nat.{ℕ, ◌+◌, ◌≤◌, ◌<◌}
use native.Mathlib.Omega.{arith}
use mathlib.Core.Path.{◌≡◌}
use mathlib.Core.List.{[], ◌∷◌, ◌++◌, append-nil}
use lib.ListN.{length, length-append}
use Rattle.listing.specs.Decimal.{decimal}
use Rattle.listing.proofs.Decimal.{decimal_short}
use Rattle.short_lists_text.specs.Text.{spaced}

pub spaced_one : (i : ℕ) → spaced (i ∷ []) ≡ 32 ∷ decimal i
unfolding spaced
spaced_one i = simp append-nil

pub spaced_two : (i x : ℕ) → spaced (i ∷ x ∷ []) ≡ spaced (i ∷ []) ++ (32 ∷ decimal x)
unfolding spaced
spaced_two i x = simp append-nil

pub one_long : (i : ℕ) → length (spaced (i ∷ [])) ≡ 1 + length (decimal i)
one_long i = rw (spaced_one i) (omega arith)

pub two_long : (i x : ℕ) → length (spaced (i ∷ x ∷ [])) ≡ length (spaced (i ∷ [])) + (1 + length (decimal x))
two_long i x = rw (spaced_two i x, spaced_one i) (simp length-append (omega arith))

-- How long they can be: a node's number is a byte, a task's two.
pub one_short : {i : ℕ} → i < 256 → length (spaced (i ∷ [])) ≤ 4
one_short {i} h = let a = decimal_short 3 {x = i} (omega arith) (omega arith) in let l = one_long i in omega arith

pub two_short : {i x : ℕ} → i < 256 → x < 256 → length (spaced (i ∷ x ∷ [])) ≤ 8
two_short {i} {x} h k = let a = one_short h in let b = one_short k in let l = one_long x in let m = two_long i x in omega arith

pub task_short : {i x : ℕ} → i < 256 → x < 65536 → length (spaced (i ∷ x ∷ [])) ≤ 10
task_short {i} {x} h k = let a = one_short h in let b = decimal_short 5 {x = x} (omega arith) (omega arith) in let m = two_long i x in omega arith
