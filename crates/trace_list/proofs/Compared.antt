-- Records compared by their numbers: two lists from a place on, a record is the same as itself, and lists of numbers are the same where they are equal.
use Prim.Native.Nat.{ℕ, ◌+◌, ◌≤◌, ◌<◌}
use native.Mathlib.Numerals.{add-one}
use native.Mathlib.Omega.{arith}
use mathlib.Core.Path.{◌≡◌, refl}
use mathlib.Core.Bool.{true, false}
use mathlib.Core.List.{List, [], ◌∷◌}
use lib.ListN.{length, get_or, drop, drop_of_length-le}
use lib.Seq.{drop-cons}
use lib.Pointwise.{pointwise}
use borrow.Author.Tests.{eq-eqb, ne_eqb}
use Rattle.std.specs.Prelude.{nat_eq}
use Rattle.model.specs.declared.Node.{Node}
use Rattle.list_text.specs.Words.{same}
use Rattle.trace_text.specs.Words.{same_node}
use Rattle.trace_text.proofs.Records.{same_records}

-- two lists that are as long as one another, from i on
module _ (x y : List ℕ) (long : length x ≡ length y) (i : ℕ) where
  pub same_end : length x ≤ i → same (drop i x) (drop i y) ≡ true
  unfolding same
  same_end h =
      let e : drop i x ≡ [] = drop_of_length-le x {i = i} h in
      let f : drop i y ≡ [] = drop_of_length-le y {i = i} (omega arith) in
      rw (e, f)

  module _ (h : i < length x) where
    pub same_next : get_or x i 0 ≡ get_or y i 0 → same (drop i x) (drop i y) ≡ same (drop (i + 1) x) (drop (i + 1) y)
    unfolding same
    same_next e = let k : i < length y = omega arith in rw (drop-cons x i 0 h, drop-cons y i 0 k, eq-eqb (get_or x i 0) (get_or y i 0) e, add-one i)

    pub same_never : (get_or x i 0 ≡ get_or y i 0 → ⊥) → same (drop i x) (drop i y) ≡ false
    unfolding same
    same_never e = let k : i < length y = omega arith in rw (drop-cons x i 0 h, drop-cons y i 0 k, ne_eqb (get_or x i 0) (get_or y i 0) e)

pub node_itself : (c : Node) → same_node c c ≡ true
node_itself c = same_records.itself c

-- What `==` says of arrays.
pub same_is : (v w : List ℕ) → pointwise nat_eq v w ≡ same v w
unfolding same
same_is [] [] = refl
same_is [] (y ∷ w) = refl
same_is (x ∷ v) [] = refl
same_is (x ∷ v) (y ∷ w) = rw (same_is v w)
