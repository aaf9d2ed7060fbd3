-- Laws of `first_of`, `map` and `every`, for the loops over a table's arrays: the first k of a list, one element of it stored, and a test of each.
use Prim.Native.Nat.{ℕ, zero, suc, ◌+◌, ◌≤◌, ◌<◌}
use native.Mathlib.Nat.{not-suc-le-zero}
use native.Mathlib.Numerals.{add-one}
use native.Mathlib.Omega.{arith}
use mathlib.Core.Path.{◌≡◌, refl, ap}
use mathlib.Core.List.{List, [], ◌∷◌, ◌++◌, map}
use mathlib.Core.Bool.{Bool, true, false, ◌&&◌}
use lib.ListN.{length, get_or, take, drop, set, length-set, replicate, drop_of_length-le}
use lib.Seq.{drop-cons, take-set-lt, get_or-take, length-take-le}
use Rattle.model.specs.State.{every, first_of}

-- ── the first k of a list ──
pub first_take : {A : Type 0} (k : ℕ) (d : A) (l : List A) → k ≤ length l → first_of k d l ≡ take k l
unfolding first_of
first_take zero d l h = refl
first_take (suc k) d [] h = absurd (not-suc-le-zero h)
first_take {A} (suc k) d (x ∷ l) h = ap (λ (r : List A). x ∷ r) (first_take k d l (omega arith))

pub first_length : {A : Type 0} (k : ℕ) (d : A) (l : List A) → length (first_of k d l) ≡ k
unfolding first_of
first_length zero d l = refl
first_length (suc k) d [] = ap suc (first_length k d [])
first_length (suc k) d (x ∷ l) = ap suc (first_length k d l)

-- an element of them stored
pub first_set : {A : Type 0} (n at : ℕ) (d : A) (l : List A) (c : A) → at < n → n ≤ length l → first_of n d (set l at c) ≡ set (first_of n d l) at c
first_set n at d l c h k = rw (first_take n d (set l at c) (simp length-set k), first_take n d l k) (take-set-lt n l at c h)

pub first_replicate : {A : Type 0} (k w : ℕ) (d : A) → first_of k d (replicate w d) ≡ replicate k d
unfolding first_of
first_replicate zero w d = refl
first_replicate {A} (suc k) zero d = ap (λ (r : List A). d ∷ r) (first_replicate k zero d)
first_replicate {A} (suc k) (suc w) d = ap (λ (r : List A). d ∷ r) (first_replicate k w d)

-- ── a function of each element ──
pub map_append : {A B : Type 0} (f : A → B) (xs ys : List A) → map f (xs ++ ys) ≡ map f xs ++ map f ys
map_append f [] ys = refl
map_append {A} {B} f (x ∷ xs) ys = ap (λ (l : List B). f x ∷ l) (map_append f xs ys)

-- ── loops over the first w elements of an array: what is left at k, by the element at k ──
module _ {A : Type 0} (l : List A) (w : ℕ) (h : w ≤ length l) (k : ℕ) where
  pub left_turn : k < w → (d : A) → drop k (take w l) ≡ get_or l k d ∷ drop (k + 1) (take w l)
  left_turn p d =
      let q : k < length (take w l) = simp length-take-le (omega arith) in
      rw (add-one, drop-cons (take w l) k d, get_or-take)

  pub left_end : w ≤ k → drop k (take w l) ≡ []
  left_end p =
      let q : length (take w l) ≤ k = simp length-take-le (omega arith) in
      rw drop_of_length-le

  -- r is the test's result in the code, and d what the read takes past the end
  module _ (f : ℕ → A → Bool) (i : ℕ) where
    module _ (p : k < w) (d : A) (r : Bool) (e : r ≡ f i (get_or l k d)) where
      every_turn : every f i (drop k (take w l)) ≡ r && every f (i + 1) (drop (k + 1) (take w l))
      unfolding every
      every_turn = rw (left_turn p d, ← e)

      pub every_hit : r ≡ true → every f i (drop k (take w l)) ≡ every f (i + 1) (drop (k + 1) (take w l))
      every_hit y = rw (every_turn, y)

      pub every_miss : r ≡ false → every f i (drop k (take w l)) ≡ false
      every_miss y = rw (every_turn, y)

    pub every_end : w ≤ k → every f i (drop k (take w l)) ≡ true
    unfolding every
    every_end p = rw (left_end p)
