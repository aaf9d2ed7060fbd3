-- The test of two bytes, for any greatest length; and every input that T-01 does not allow is refused.
use Prim.Native.Nat.{ℕ, ◌≤◌, ◌<◌}
use native.Mathlib.Omega.{arith}
use mathlib.Core.Bool.{true, false, ◌&&◌, and-false}
use mathlib.Core.Path.{◌≡◌, refl, sym, ◌∙◌}
use mathlib.Core.List.{List, [], ◌∷◌}
use lib.Dec.{eqb, leb}
use lib.ListN.{length, take, get_or}
use lib.Seq.{get_or-take}
use borrow.Author.Tests.{eqb-true, ne_eqb, leb-true, le-leb, lt-leb}
use Rattle.model.specs.Limits.{tower}
use Rattle.model.specs.Pick.{pick, pick_false}
use Rattle.model.specs.State.{start}
use Rattle.model.proofs.Local.{both_left, both_right}
use Rattle.listing.specs.Ascii.{bytes}
use Rattle.listing.specs.Decimal.{digits, decimal}
use Rattle.listing.specs.Lines.{row, stopped_line}
use Rattle.listing.specs.Printing.{joined}
use Rattle.short_lists_text.specs.Lists.{lists_from}
use Rattle.short_lists_text.specs.Text.{lines_of, fits_to, fits, refusal_text, text_of}
use Rattle.short_lists_text.specs.Claims.{Refuses}

-- ── n from 1 to 3, and a length from 0 to most ──

module _ (most : ℕ) where
  -- where it does not hold
  pub not_two : (l : List ℕ) → (length l ≡ 2 → ⊥) → fits_to most l ≡ false
  unfolding fits_to
  not_two l d = rw (ne_eqb (length l) 2 d)

  pub no_nodes : (m : ℕ) → fits_to most (0 ∷ m ∷ []) ≡ false
  unfolding fits_to
  no_nodes m = refl

  pub too_many : (n m : ℕ) → 3 < n → fits_to most (n ∷ m ∷ []) ≡ false
  unfolding fits_to
  too_many n m h = rw (lt-leb n 3 h, le-leb 1 n (omega (arith, h)))

  pub too_long : (n m : ℕ) → most < m → fits_to most (n ∷ m ∷ []) ≡ false
  unfolding fits_to
  too_long n m h = rw (lt-leb m most h) (and-false (leb 1 n && leb n 3))

  -- where it holds
  pub allowed : (n m : ℕ) → 1 ≤ n → n ≤ 3 → m ≤ most → fits_to most (n ∷ m ∷ []) ≡ true
  unfolding fits_to
  allowed n m l h k = rw (le-leb 1 n l, le-leb n 3 h, le-leb m most k)

  pub two_bytes : (l : List ℕ) → fits_to most l ≡ true → length l ≡ 2
  unfolding fits_to
  two_bytes l q =
      eqb-true (length l) 2 (both_left (eqb (length l) 2) (leb 1 (get_or l 0 0))
      (both_left (eqb (length l) 2 && leb 1 (get_or l 0 0)) (leb (get_or l 0 0) 3)
      (both_left (eqb (length l) 2 && leb 1 (get_or l 0 0) && leb (get_or l 0 0) 3) (leb (get_or l 1 0) most) q)))

  pub fits_are : (l : List ℕ) → fits_to most l ≡ true → (1 ≤ get_or l 0 0) × (get_or l 0 0 ≤ 3) × (get_or l 1 0 ≤ most)
  unfolding fits_to
  fits_are l q =
      let a = both_left (eqb (length l) 2 && leb 1 (get_or l 0 0) && leb (get_or l 0 0) 3) (leb (get_or l 1 0) most) q in
      let b = both_left (eqb (length l) 2 && leb 1 (get_or l 0 0)) (leb (get_or l 0 0) 3) a in (
        leb-true 1 (get_or l 0 0) (both_right (eqb (length l) 2) (leb 1 (get_or l 0 0)) b),
        leb-true (get_or l 0 0) 3 (both_right (eqb (length l) 2 && leb 1 (get_or l 0 0)) (leb (get_or l 0 0) 3) a),
        leb-true (get_or l 1 0) most (both_right (eqb (length l) 2 && leb 1 (get_or l 0 0) && leb (get_or l 0 0) 3) (leb (get_or l 1 0) most) q),
      )

  -- three bytes decide it
  pub fits_three : (l : List ℕ) → fits_to most (take 3 l) ≡ fits_to most l
  fits_three [] = refl
  fits_three (a ∷ []) = refl
  fits_three (a ∷ b ∷ []) = refl
  fits_three (a ∷ b ∷ c ∷ []) = refl
  fits_three (a ∷ b ∷ c ∷ d ∷ l) = not_two (a ∷ b ∷ c ∷ []) (λ q. absurd (omega (arith, q))) ∙ sym (not_two (a ∷ b ∷ c ∷ d ∷ l) (λ q. absurd (omega (arith, q))))

  -- and so what is made of the two bytes where it holds, and is r where it does not
  pub first_three : {A : Type 0} (x : ℕ → ℕ → A) (r : A) (l : List ℕ)
      → pick (fits_to most (take 3 l)) (x (get_or (take 3 l) 0 0) (get_or (take 3 l) 1 0)) r ≡ pick (fits_to most l) (x (get_or l 0 0) (get_or l 1 0)) r
  first_three x r l = rw (fits_three l, get_or-take 3 l 0 0 (omega arith), get_or-take 3 l 1 0 (omega arith))

-- ── T-01 ──

pub stopped : refusal_text ≡ bytes "stopped 0 16\n"
unfolding stopped_line row decimal digits pick
stopped = refl

by_fits : (l : List ℕ) → fits l ≡ false → text_of l ≡ bytes "stopped 0 16\n"
unfolding text_of
by_fits l q = rw (q, pick_false) stopped

same_text : (l : List ℕ) → text_of (take 3 l) ≡ text_of l
unfolding text_of
same_text l = first_three 7 (λ n m. joined (lines_of (lists_from m (start n tower)))) refusal_text l

pub refuses : Refuses
refuses = record {
  not_two = λ l d. by_fits l (not_two 7 l d);
  no_nodes = λ m. by_fits (0 ∷ m ∷ []) (no_nodes 7 m);
  too_many = λ n m h. by_fits (n ∷ m ∷ []) (too_many 7 n m h);
  too_long = λ n m h. by_fits (n ∷ m ∷ []) (too_long 7 n m h);
  first_three = same_text;
}
