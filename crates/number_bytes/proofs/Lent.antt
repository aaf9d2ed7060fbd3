-- Laws of what is answered with a lent buffer b of `size` bytes, and of what it then holds.
use Prim.Native.Nat.{ℕ, ◌≤◌, ◌<◌}
use native.Mathlib.Omega.{arith}
use mathlib.Core.Path.{◌≡◌, refl, ◌∙◌, ap}
use mathlib.Core.List.{List, [], ◌++◌, append-nil}
use lib.ListN.{length, take, drop, drop_of_length-le}
use lib.Seq.{drop_at, length-take-le}
use borrow.Author.Tests.{lt-ltb, le-ltb, ltb-true, eqb-true, eq-eqb, ne_eqb}
use Rattle.model.specs.Pick.{pick_true, pick_false, by_test}
use Rattle.number_bytes.specs.Bytes.{number_in, buffer_in}

-- r is answered where there is room
module _ (size : ℕ) (b : List ℕ) (r : ℕ) where
  pub short_in : length b < size → number_in size b r ≡ 255
  short_in h = rw (lt-ltb (length b) size h, pick_true)

  pub long_in : size ≤ length b → number_in size b r ≡ r
  long_in h = rw (le-ltb (length b) size h, pick_false)

  pub only_short_in : r < 255 → number_in size b r ≡ 255 → length b < size
  only_short_in small = by_test (λ (n : ℕ). n ≡ 255 → length b < size) (λ q _. ltb-true (length b) size q) (λ _ z. absurd (omega (arith, small)))

  pub accepts_in : number_in size b r ≡ 0 → r ≡ 0
  accepts_in = by_test (λ (n : ℕ). n ≡ 0 → r ≡ 0) (λ _ z. absurd (omega (arith, z))) (λ _ z. z)

-- r is answered, and l given out
module _ (size : ℕ) (b : List ℕ) (r : ℕ) (l : List ℕ) where
  pub keeps_in : (r ≡ 0 → ⊥) → buffer_in size b r l ≡ b
  keeps_in h = rw (ne_eqb r 0 h, pick_false)

  pub gives_in : r ≡ 0 → buffer_in size b r l ≡ l ++ drop size b
  gives_in h = rw (eq-eqb r 0 h, pick_true)

  pub behind_in : (r ≡ 0 → length l ≡ size) → drop size (buffer_in size b r l) ≡ drop size b
  behind_in h = by_test (λ (m : List ℕ). drop size m ≡ drop size b) (λ q. drop_at l (drop size b) size (h (eqb-true r 0 q))) (λ _. refl)

-- l written over the first `size` bytes of b, as a part of it
pub written_part : (size : ℕ) (b l m : List ℕ) → size ≤ length b → m ≡ l ++ drop size (take size b) → m ++ drop size b ≡ l ++ drop size b
written_part size b l m h e =
    let z : drop size (take size b) ≡ [] = drop_of_length-le (take size b) {i = size} (omega (arith, length-take-le size b h)) in
    ap (λ (k : List ℕ). k ++ drop size b) (e ∙ ap (λ (k : List ℕ). l ++ k) z ∙ append-nil l)
