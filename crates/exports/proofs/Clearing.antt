-- Places that are no part of a table: clearing them one by one, and that a state is read back from its table.
use Prim.Native.Nat.{ℕ, min, zero, suc, ◌+◌, ◌-◌, ◌≤◌, ◌<◌}
use native.Mathlib.Omega.{arith}
use native.Mathlib.Numerals.{add-one}
use mathlib.Core.Path.{◌≡◌, refl, sym, ◌∙◌, ap}
use mathlib.Core.List.{List, [], ◌∷◌, ◌++◌, append_assoc, append-nil}
use mathlib.Core.Bool.{Bool, true, false}
use lib.Dec.{leb}
use borrow.Author.Tests.{leb-true, leb-false}
use borrow.Rule.Slice.PartMut.{put_mid}
use lib.ListN.{length, take, drop, set, replicate, length-drop, drop_of_length-le}
use lib.Seq.{take-suc-set, take_all, length-take-le}
use Rattle.model.specs.State.{starting_node, no_message, first_of, view, table_of}
use Rattle.model.specs.declared.Table.{Table}
use Rattle.model.proofs.Lists.{first_length}
use Rattle.machine.proofs.Laws.{Sized}

module _ {A : Type 0} (d : A) where
  -- l, of length k, with d from i on
  abbrev pub filled : ℕ → ℕ → List A → List A
  filled k i l = take i l ++ replicate (k - i) d

  pub filled_turn : (k i : ℕ) (l : List A) → length l ≡ k → i < k → filled k (i + 1) (set l i d) ≡ filled k i l
  filled_turn k i l long h =
      let e : k - i ≡ suc (k - suc i) = omega arith in
      rw (add-one i, take-suc-set l i d (omega arith), append_assoc, e)

  pub filled_end : (k i : ℕ) (l : List A) → length l ≡ k → k ≤ i → filled k i l ≡ l
  filled_end k i l long h =
      let e : k - i ≡ 0 = omega arith in
      rw (e, append-nil, take_all i l (omega arith))

  first_none : (k : ℕ) → first_of k d [] ≡ replicate k d
  unfolding first_of
  first_none zero = refl
  first_none (suc k) = ap (λ (r : List A). d ∷ r) (first_none k)

  fill_first : (n : ℕ) (l : List A) → filled (length l) n l ≡ first_of (length l) d (first_of n d l)
  unfolding first_of
  fill_first zero l =
      let z : length l - 0 ≡ length l = omega arith in
      rw z (sym (first_none (length l)))
  fill_first (suc n) [] =
      let z : 0 - suc n ≡ 0 = omega arith in
      rw z
  fill_first (suc n) (x ∷ l) =
      let z : suc (length l) - suc n ≡ length l - n = omega arith in
      rw z (ap (λ (r : List A). x ∷ r) (fill_first n l))

  -- the first n of l, of length k, and d behind them
  pub first_filled : (k n : ℕ) (l : List A) → length l ≡ k → filled k n l ≡ first_of k d (first_of n d l)
  first_filled k n l e = rw (← e) (fill_first n l)

  again : (n : ℕ) (l : List A) → first_of n d (first_of (length l) d (first_of n d l)) ≡ first_of n d l
  unfolding first_of
  again zero l = refl
  again (suc n) [] = refl
  again (suc n) (x ∷ l) = ap (λ (r : List A). x ∷ r) (again n l)

  pub first_again : (k n : ℕ) (l : List A) → length l ≡ k → first_of n d (first_of k d (first_of n d l)) ≡ first_of n d l
  first_again k n l e = rw (← e) (again n l)

-- l with d in each place from n on, as it is written: from m, the lesser of n and the length
module _ {A : Type 0} (d : A) (n m : ℕ) (l ys : List A) (e : m ≡ min n (length l)) where
  same_start : (t : Bool) → leb n (length l) ≡ t → take m l ≡ take n l
  same_start true q = let h = leb-true n (length l) q in let f : m ≡ n = omega arith in rw f
  same_start false q =
      let h = leb-false n (length l) q in
      take_all m l (omega arith) ∙ sym (take_all n l (omega arith))

  pub clear_from : ys ≡ replicate (length (take (length l - m) (drop m l))) d → put_mid m (length l - m) l ys ≡ first_of (length l) d (first_of n d l)
  clear_from f =
      let k : length (take (length l - m) (drop m l)) ≡ length l - n = length-take-le (length l - m) (drop m l) (rw length-drop (omega arith)) ∙ omega arith in
      let z : drop (length l - m) (drop m l) ≡ [] = drop_of_length-le (drop m l) (rw length-drop (omega arith)) in
      rw (f, k, z, append-nil, same_start (leb n (length l)) refl) (first_filled d (length l) n l refl)

-- the table of what t means, means the same
pub view_table : (t : Table) → Sized t → view (table_of (view t)) ≡ view t
view_table t z =
    rw (first_length t.waiting no_message t.messages, first_again starting_node 16 t.n t.nodes z.nodes, first_again no_message 64 t.waiting t.messages z.messages)
