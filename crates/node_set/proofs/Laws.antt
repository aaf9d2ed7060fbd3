-- Laws of the sets of specs/NodeSet, for every number of nodes at once; those that specs/Claims states are put together at the end.
use Prim.Native.Nat.{ℕ, zero, suc, ◌+◌, ◌-◌, ◌*◌, ◌^◌, ◌%◌, ◌/◌, ◌≤◌, ◌<◌, min}
use mathlib.Core.Path.{◌≡◌, refl, sym, ap, ◌∙◌, subst}
use mathlib.Core.Bool.{Bool, true, false, true≢false}
use native.Mathlib.Nat.{mod-eq_of_lt, pow-suc, div-div-eq-div-mul, mul_comm, div-one, div_self, div-eq_of_lt, div-eq_of_lt-le, add-sub_cancel}
use native.Mathlib.Nat.{lt_of_le_of_lt, lt_of_lt_of_le, lt_of_not-le, mod-lt, min-zero, min-le_left, min-eq_left}
use native.Mathlib.Omega.{arith}
use lib.Dec.{eqb, lit<}
use lib.Pow.{pow_pos, pow-lt, pow_mono, ones_lt}
use lib.Bits.{bit_and, bit_or, and_le_l, and_zero_r, and_step, and_mask, and_high, or_disjoint, or_zero_r, or_lt, or_shr, or_mod, and_shr, and_mod}
use lib.Count.{ones, ones-le, ones_step, ones-ones, leading_of_zero, leading_top, leading_length}
use borrow.Author.Tests.{eqb-false, eqb-true, eq-eqb, ne_eqb, ltb-true, lt-ltb}
use Rattle.node_set.specs.NodeSet.{bit_of, has, with, without, highest, count, up_to, within}
use Rattle.node_set.specs.Claims.{SetLaws}

-- ---- binary digits

-- the digit of s at place k: 1 where s has node k + 1
abbrev digit : ℕ → ℕ → ℕ
digit s k = s / 2 ^ k % 2

digit_lt : (s k : ℕ) → digit s k < 2
digit_lt s k = mod-lt (s / 2 ^ k) (lit< tt)

digit_zero : (s : ℕ) → digit s 0 ≡ s % 2
digit_zero s = rw div-one

digit_suc : (s k : ℕ) → digit s (suc k) ≡ digit (s / 2) k
digit_suc s k = rw (pow-suc, mul_comm (2 ^ k) 2, ← div-div-eq-div-mul s 2 (2 ^ k))

digit_above : (s n k : ℕ) → s < 2 ^ n → n ≤ k → digit s k ≡ 0
digit_above s n k h l = rw (div-eq_of_lt {m = 2 ^ k} (lt_of_lt_of_le h (pow_mono l)))

digit_and : (a b k : ℕ) → digit (bit_and a b) k ≡ bit_and (digit a k) (digit b k)
digit_and a b k = rw and_shr (and_mod (a / 2 ^ k) (b / 2 ^ k) 1)

digit_or : (a b k : ℕ) → digit (bit_or a b) k ≡ bit_or (digit a k) (digit b k)
digit_or a b k = rw or_shr (or_mod (a / 2 ^ k) (b / 2 ^ k) 1)

-- a member's digit is 1, and back
digit_of : (s i : ℕ) → has s i ≡ true → digit s (i - 1) ≡ 1
digit_of s i e = eqb-true (digit s (i - 1)) 1 e

holds : (s i : ℕ) → digit s (i - 1) ≡ 1 → has s i ≡ true
holds s i e = eq-eqb (digit s (i - 1)) 1 e

-- the digit of a node that is no member is 0, and back
no_digit : (s i : ℕ) → has s i ≡ false → digit s (i - 1) ≡ 0
no_digit s i e = omega (arith, eqb-false (digit s (i - 1)) 1 e, digit_lt s (i - 1))

lacks : (s i : ℕ) → digit s (i - 1) ≡ 0 → has s i ≡ false
lacks s i e = ne_eqb (digit s (i - 1)) 1 (λ q. omega arith)

-- the same membership is the same digit
same_digit : (s t i : ℕ) → has s i ≡ has t i → digit s (i - 1) ≡ digit t (i - 1)
same_digit s t i e = by (has s i) refl
  where
    by : (b : Bool) → has s i ≡ b → digit s (i - 1) ≡ digit t (i - 1)
    by true q = digit_of s i q ∙ sym (digit_of t i (sym e ∙ q))
    by false q = no_digit s i q ∙ sym (no_digit t i (sym e ∙ q))

-- numbers of the same digits are the same
same_number : (n s t : ℕ) → s < 2 ^ n → t < 2 ^ n → ((k : ℕ) → k < n → digit s k ≡ digit t k) → s ≡ t
same_number zero s t p q f = omega arith
same_number (suc n) s t p q f =
    omega (
      arith,
      sym (digit_zero s) ∙ f 0 (omega arith) ∙ digit_zero t,
      same_number n (s / 2) (t / 2) (omega (arith, pow-suc 2 n)) (omega (arith, pow-suc 2 n)) (λ k h. sym (digit_suc s k) ∙ f (suc k) (omega arith) ∙ digit_suc t k),
    )

-- ---- within n

-- a set within n is below 2 ^ n
pub within_lt : (n s : ℕ) → within n s ≡ true → s < 2 ^ n
within_lt n s w = ltb-true s (2 ^ n) w

-- a set below 2 ^ n is within n
pub lt_within : (n s : ℕ) → s < 2 ^ n → within n s ≡ true
lt_within n s h = lt-ltb s (2 ^ n) h

-- a set within n ≤ 16 fits 16 bits
pub within_word : (n s : ℕ) → n ≤ 16 → within n s ≡ true → s < 2 ^ 16
within_word n s h w = lt_of_lt_of_le (within_lt n s w) (pow_mono {j = 16} h)

-- a node of a set within n is at most n
pub member_in : (n s i : ℕ) → within n s ≡ true → has s i ≡ true → i ≤ n
member_in n s i w e =
    let no : suc n ≤ i → ⊥ = λ l. omega (arith, digit_of s i e, digit_above s n (i - 1) (within_lt n s w) (omega arith)) in
    omega (arith, lt_of_not-le no)

-- a set within n has no node above n
pub none_above : (n s j : ℕ) → within n s ≡ true → n < j → has s j ≡ false
none_above n s j w h = lacks s j (digit_above s n (j - 1) (within_lt n s w) (omega arith))

no_digits_above : (n w s : ℕ) → s < 2 ^ w → ((k : ℕ) → n ≤ k → digit s k ≡ 0) → s < 2 ^ n
no_digits_above zero w s h f =
    let z : s ≡ 0 = same_number w s 0 h (pow_pos w) (λ k l. f k (omega arith) ∙ sym (digit_above 0 0 k (lit< tt) (omega arith))) in
    omega arith
no_digits_above (suc n) w s h f =
    omega (arith, pow-suc 2 n, no_digits_above n w (s / 2) (omega arith) (λ k l. sym (digit_suc s k) ∙ f (suc k) (omega arith)))

-- and a set without a node above n is within n
pub within_all : (n s : ℕ) → s < 2 ^ 16 → ((j : ℕ) → n < j → has s j ≡ false) → within n s ≡ true
within_all n s h f = lt_within n s (no_digits_above n 16 s h (λ k l. rw (add-sub_cancel k 1) at (no_digit s (k + 1) (f (k + 1) (omega arith)))))

-- sets within n that have the same nodes are the same
pub same_set : (n s t : ℕ) → within n s ≡ true → within n t ≡ true → ((j : ℕ) → 1 ≤ j → j ≤ n → has s j ≡ has t j) → s ≡ t
same_set n s t v w f =
    same_number n s t (within_lt n s v) (within_lt n t w) (λ k h. rw (add-sub_cancel k 1) at (same_digit s t (k + 1) (f (k + 1) (omega arith) (omega arith))))

-- a node of a set is not one that the set lacks
pub member_other : (s i m : ℕ) → has s m ≡ true → has s i ≡ false → m ≡ i → ⊥
member_other s i m h l e = true≢false (sym h ∙ ap (has s) e ∙ l)

-- ---- the empty set, and all nodes

-- the empty set is within any n
pub empty_within : (n : ℕ) → within n 0 ≡ true
empty_within n = lt_within n 0 (pow_pos n)

-- the empty set lacks every node
pub empty_lacks : (i : ℕ) → has 0 i ≡ false
empty_lacks i = lacks 0 i (digit_above 0 0 (i - 1) (lit< tt) (omega arith))

-- the set of the nodes 1 to n is within n
pub up_to_within : (n : ℕ) → within n (up_to n) ≡ true
up_to_within n = lt_within n (up_to n) (ones_lt n)

all_digits : (n k : ℕ) → k < n → digit (2 ^ n - 1) k ≡ 1
all_digits zero k h = omega arith
all_digits (suc n) zero h = digit_zero (2 ^ suc n - 1) ∙ omega (arith, pow-suc 2 n, pow_pos n)
all_digits (suc n) (suc k) h =
    let q : (2 ^ suc n - 1) / 2 ≡ 2 ^ n - 1 = omega (arith, pow-suc 2 n) in
    digit_suc (2 ^ suc n - 1) k ∙ rw q (all_digits n k (omega arith))

-- the set of the nodes 1 to n has each of them
pub up_to_has : (n i : ℕ) → 1 ≤ i → i ≤ n → has (up_to n) i ≡ true
up_to_has n i l u = holds (up_to n) i (all_digits n (i - 1) (omega arith))

-- ---- the highest node

-- the highest of a set that is not empty is in it
pub has_highest : (s : ℕ) → 0 < s → s < 2 ^ 16 → has s (highest s) ≡ true
has_highest s p q =
    let t = leading_top 16 s p q in
    let e : highest s - 1 ≡ t.0 = omega (arith, t.1) in
    let d : s / 2 ^ t.0 ≡ 1 = div-eq_of_lt-le (2 ^ t.0) (omega (arith, t.2)) (omega (arith, t.3, pow-suc 2 t.0)) in
    rw (e, d)

-- the highest of a set within n that is not empty is one of 1 to n
pub highest_in : (n s : ℕ) → n ≤ 16 → within n s ≡ true → 0 < s → (1 ≤ highest s) × (highest s ≤ n)
highest_in n s h w p =
    let q = within_word n s h w in (omega (arith, (leading_top 16 s p q).1), member_in n s (highest s) w (has_highest s p q))

-- the highest is not a node that the set lacks
pub highest_other : (s i : ℕ) → 0 < s → s < 2 ^ 16 → has s i ≡ false → highest s ≡ i → ⊥
highest_other s i p q l = member_other s i (highest s) (has_highest s p q) l

-- the highest is at least any node of the set
pub highest_most : (s j : ℕ) → has s j ≡ true → s < 2 ^ 16 → j ≤ highest s
highest_most s j e q =
    let t = leading_length 16 s q in omega (arith, t.1, member_in t.0 s j (lt_within t.0 s t.2) e)

-- ---- a node added

power_digit : (j k : ℕ) → (j ≡ k → ⊥) → digit (2 ^ j) k ≡ 0
power_digit zero zero h = absurd (h refl)
power_digit zero (suc k) h = digit_above 1 1 (suc k) (lit< tt) (omega arith)
power_digit (suc j) zero h = digit_zero (2 ^ suc j) ∙ omega (arith, pow-suc 2 j)
power_digit (suc j) (suc k) h =
    let q : 2 ^ suc j / 2 ≡ 2 ^ j = omega (arith, pow-suc 2 j) in
    digit_suc (2 ^ suc j) k ∙ rw q (power_digit j k (λ e. h (ap suc e)))

or_one : (d : ℕ) → d < 2 → bit_or d 1 ≡ 1
or_one zero h = refl
or_one (suc zero) h = refl
or_one (suc (suc d)) h = omega arith

-- a set within n stays so with a node of 1 to n
pub with_within : (n s i : ℕ) → within n s ≡ true → 1 ≤ i → i ≤ n → within n (with s i) ≡ true
with_within n s i w l u = lt_within n (with s i) (or_lt n s (bit_of i) (within_lt n s w) (pow-lt {j = n} (omega arith)))

-- with a node, the others are as they were
pub with_others : (s i j : ℕ) → 1 ≤ i → 1 ≤ j → (j ≡ i → ⊥) → has (with s i) j ≡ has s j
with_others s i j li lj ne = rw (digit_or s (bit_of i) (j - 1), power_digit (i - 1) (j - 1) (λ q. ne (omega arith)), or_zero_r)

-- a set lacks what it lacked, but for the node added
pub with_lacks : (s i j : ℕ) → 1 ≤ i → 1 ≤ j → (j ≡ i → ⊥) → has s i ≡ false → has (with s j) i ≡ false
with_lacks s i j li lj ne e = with_others s j i lj li (λ q. ne (sym q)) ∙ e

-- a set has the node added
pub with_has : (s i : ℕ) → has (with s i) i ≡ true
with_has s i =
    holds (with s i) i (rw (digit_or s (bit_of i) (i - 1), div_self (pow_pos (i - 1))) (or_one (digit s (i - 1)) (digit_lt s (i - 1))))

-- ---- a node removed

-- a word of digits that are 1, less one of them, halved
mask_half : (w k : ℕ) → (2 ^ suc w - 1 - 2 ^ suc k) / 2 ≡ 2 ^ w - 1 - 2 ^ k
mask_half w k = omega (arith, pow-suc 2 w, pow-suc 2 k)

mask_clear : (w k : ℕ) → digit (2 ^ w - 1 - 2 ^ k) k ≡ 0
mask_clear zero k = digit_above (0 - 2 ^ k) 0 k (omega arith) (omega arith)
mask_clear (suc w) zero = digit_zero (2 ^ suc w - 1 - 1) ∙ omega (arith, pow-suc 2 w)
mask_clear (suc w) (suc k) = digit_suc (2 ^ suc w - 1 - 2 ^ suc k) k ∙ rw mask_half (mask_clear w k)

-- a word of digits that are 1, less one of them, has the others
mask_keeps : (w j k : ℕ) → j < w → k < w → (k ≡ j → ⊥) → digit (2 ^ w - 1 - 2 ^ j) k ≡ 1
mask_keeps zero j k p q ne = omega arith
mask_keeps (suc w) zero zero p q ne = absurd (ne refl)
mask_keeps (suc w) (suc j) zero p q ne =
    digit_zero (2 ^ suc w - 1 - 2 ^ suc j) ∙ omega (arith, pow-suc 2 w, pow-suc 2 j, pow-lt {i = j} {j = w} (omega arith))
mask_keeps (suc w) zero (suc k) p q ne =
    let r : (2 ^ suc w - 1 - 1) / 2 ≡ 2 ^ w - 1 = omega (arith, pow-suc 2 w) in
    digit_suc (2 ^ suc w - 1 - 1) k ∙ rw r (all_digits w k (omega arith))
mask_keeps (suc w) (suc j) (suc k) p q ne =
    digit_suc (2 ^ suc w - 1 - 2 ^ suc j) k ∙ rw mask_half (mask_keeps w j k (omega arith) (omega arith) (λ e. ne (ap suc e)))

and_one : (d : ℕ) → d < 2 → bit_and d 1 ≡ d
and_one zero h = refl
and_one (suc zero) h = refl
and_one (suc (suc d)) h = omega arith

-- a set within n stays so without a node
pub without_within : (n s i : ℕ) → within n s ≡ true → within n (without s i) ≡ true
without_within n s i w = lt_within n (without s i) (lt_of_le_of_lt (and_le_l s (65535 - bit_of i)) (within_lt n s w))

-- a set lacks what it lacked
pub without_lacks : (s i j : ℕ) → has s i ≡ false → has (without s j) i ≡ false
without_lacks s i j e = lacks (without s j) i (rw (digit_and s (65535 - bit_of j) (i - 1), no_digit s i e))

-- a set lacks the node removed
pub without_self : (s i : ℕ) → has (without s i) i ≡ false
without_self s i = lacks (without s i) i (rw (digit_and s (65535 - bit_of i) (i - 1), mask_clear 16 (i - 1)) (and_zero_r (digit s (i - 1))))

-- without a node, the others are as they were
pub without_others : (n s i j : ℕ) → n ≤ 16 → within n s ≡ true → 1 ≤ i → i ≤ n → 1 ≤ j → (j ≡ i → ⊥) → has (without s i) j ≡ has s j
without_others n s i j h w li ui lj ne = by (has s j) refl
  where
    by : (b : Bool) → has s j ≡ b → has (without s i) j ≡ has s j
    by true q =
        let m = mask_keeps 16 (i - 1) (j - 1) (omega arith) (omega (arith, member_in n s j w q)) (λ e. ne (omega arith)) in
        rw (digit_and s (65535 - bit_of i) (j - 1), m, and_one (digit s (j - 1)) (digit_lt s (j - 1)))
    by false q = without_lacks s j i q ∙ sym q

-- ---- the mask as a number

-- one digit alone
and_digit : (s k : ℕ) → bit_and s (2 ^ k) ≡ digit s k * 2 ^ k
and_digit s k =
    let q : 1 + k ≡ suc k = omega arith in
    let p : 2 ^ (1 + k) - 2 ^ k ≡ 2 ^ k = rw q (omega (arith, pow-suc 2 k)) in
    ap (bit_and s) (sym p) ∙ and_high s 1 k

-- with a node that was not in it, a set is more by the node's bit
pub with_adds : (s i : ℕ) → has s i ≡ false → with s i ≡ s + 2 ^ (i - 1)
with_adds s i e = or_disjoint s (bit_of i) (and_digit s (i - 1) ∙ ap (λ (d : ℕ). d * 2 ^ (i - 1)) (no_digit s i e) ∙ omega arith)

-- ---- the count

-- a set within n has at most n nodes
pub count_within : (n s : ℕ) → within n s ≡ true → count s ≤ n
count_within n s w = ones-le n s (within_lt n s w)

ones_lacks : (k n s : ℕ) → k ≤ n → s < 2 ^ suc n → digit s k ≡ 0 → ones s ≤ n
ones_lacks zero n s h q e = omega (arith, rw div-one at e, ones_step s, ones-le n (s / 2) (omega (arith, pow-suc 2 n)))
ones_lacks (suc k) zero s h q e = omega arith
ones_lacks (suc k) (suc n) s h q e =
    omega (arith, ones_step s, ones_lacks k n (s / 2) (omega arith) (omega (arith, pow-suc 2 (suc n))) (sym (digit_suc s k) ∙ e))

-- a set within n that lacks one of 1 to n has fewer than n nodes
pub count_lacks : (n s i : ℕ) → 1 ≤ i → i ≤ n → within n s ≡ true → has s i ≡ false → count s ≤ n - 1
count_lacks n s i l u w e =
    let p : n ≡ suc (n - 1) = omega arith in
    ones_lacks (i - 1) (n - 1) s (omega arith) (subst (λ (m : ℕ). s < 2 ^ m) p (within_lt n s w)) (no_digit s i e)

ones_disjoint : (n s t : ℕ) → s < 2 ^ n → t < 2 ^ n → ((k : ℕ) → k < n → digit s k ≡ 1 → digit t k ≡ 1 → ⊥) → ones s + ones t ≤ n
ones_disjoint zero s t a b f = omega (arith, ones-le 0 s a, ones-le 0 t b)
ones_disjoint (suc n) s t a b f =
    let low : s % 2 + t % 2 < 2 = lt_of_not-le (λ h. f 0 (omega arith) (digit_zero s ∙ omega arith) (digit_zero t ∙ omega arith)) in
    let high = ones_disjoint n (s / 2) (t / 2) (omega (arith, pow-suc 2 n)) (omega (arith, pow-suc 2 n)) (λ k l p q. f (suc k) (omega arith) (digit_suc s k ∙ p) (digit_suc t k ∙ q)) in
    omega (arith, ones_step s, ones_step t, low, high)

-- two sets within n that have no node in common have together at most n nodes
pub count_disjoint : (n s t : ℕ) → within n s ≡ true → within n t ≡ true → ((j : ℕ) → 1 ≤ j → j ≤ n → has s j ≡ true → has t j ≡ true → ⊥) → count s + count t ≤ n
count_disjoint n s t v w f =
    ones_disjoint n s t (within_lt n s v) (within_lt n t w) (λ k l p q. f (k + 1) (omega arith) (omega arith) (has_at s k p) (has_at t k q))
  where
    has_at : (a k : ℕ) → digit a k ≡ 1 → has a (k + 1) ≡ true
    has_at a k e = rw (add-sub_cancel, e)

ones_and : (a b : ℕ) → ones (bit_and a b) ≡ min (a % 2) (b % 2) + ones (bit_and (a / 2) (b / 2))
ones_and a b =
    let x = bit_and (a / 2) (b / 2) in
    let d = min (a % 2) (b % 2) in
    let h : d ≤ a % 2 = min-le_left (a % 2) (b % 2) in
    let p : (x * 2 + d) % 2 ≡ d = omega arith in
    let q : (x * 2 + d) / 2 ≡ x = omega arith in
    ap ones (and_step a b) ∙ rw (ones_step (x * 2 + d), p, q)

ones_without : (w k s : ℕ) → k < w → s < 2 ^ w → digit s k ≡ 1 → ones (bit_and s (2 ^ w - 1 - 2 ^ k)) + 1 ≡ ones s
ones_without zero k s h q e = omega arith
ones_without (suc w) zero s h q e =
    let d : (2 ^ suc w - 1 - 1) % 2 ≡ 0 = omega (arith, pow-suc 2 w) in
    let r : (2 ^ suc w - 1 - 1) / 2 ≡ 2 ^ w - 1 = omega (arith, pow-suc 2 w) in
    let l : s / 2 < 2 ^ w = omega (arith, pow-suc 2 w) in
    rw (ones_and, d, r, and_mask (s / 2) w, mod-eq_of_lt l, min-zero) (omega (arith, ones_step s, rw div-one at e))
ones_without (suc w) (suc k) s h q e =
    let d : (2 ^ suc w - 1 - 2 ^ suc k) % 2 ≡ 1 = omega (arith, pow-suc 2 w, pow-suc 2 k, pow-lt {i = k} {j = w} (omega arith)) in
    let m : min (s % 2) 1 ≡ s % 2 = min-eq_left (omega arith) in
    rw (ones_and, d, mask_half, m)
    (omega (arith, ones_step s, ones_without w k (s / 2) (omega arith) (omega (arith, pow-suc 2 w)) (sym (digit_suc s k) ∙ e)))

-- removing a member counts one less
pub count_without : (s i : ℕ) → s < 2 ^ 16 → has s i ≡ true → count (without s i) + 1 ≡ count s
count_without s i h e =
    ones_without 16 (i - 1) s (omega (arith, member_in 16 s i (lt_within 16 s h) e)) h (digit_of s i e)

-- adding a node that was not in it counts one more
pub count_with : (n s i : ℕ) → n ≤ 16 → within n s ≡ true → 1 ≤ i → i ≤ n → has s i ≡ false → count (with s i) ≡ count s + 1
count_with n s i h w l u e =
    let v = with_within n s i w l u in
    let z : without (with s i) i ≡ s = same_set n (without (with s i) i) s (without_within n (with s i) i v) w (λ j lj uj. by j lj uj (eqb j i) refl) in
    sym (count_without (with s i) i (within_word n (with s i) h v) (with_has s i)) ∙ ap (λ (x : ℕ). count x + 1) z
  where
    by : (j : ℕ) → 1 ≤ j → j ≤ n → (b : Bool) → eqb j i ≡ b → has (without (with s i) i) j ≡ has s j
    by j lj uj true q = rw (eqb-true j i q) (without_self (with s i) i ∙ sym e)
    by j lj uj false q =
        without_others n (with s i) i j h (with_within n s i w l u) l u lj (eqb-false j i q) ∙ with_others s i j l lj (eqb-false j i q)

-- ---- the claim
pub set_laws : (n : ℕ) → n ≤ 16 → SetLaws n
set_laws n h =
    record {
      none_above = none_above n;
      within_all = within_all n;
      same = same_set n;
      empty_within = empty_within n;
      empty_lacks = empty_lacks;
      all_within = up_to_within n;
      all_has = up_to_has n;
      with_within = with_within n;
      with_has = with_has;
      with_others = with_others;
      with_adds = λ s i l u. with_adds s i;
      without_within = without_within n;
      without_lacks = without_self;
      without_others = λ s i j. without_others n s i j h;
      highest_has = λ s w p. has_highest s p (within_word n s h w);
      highest_most = λ s j w e. highest_most s j e (within_word n s h w);
      highest_none = ap (λ (k : ℕ). 16 - k) (leading_of_zero 16);
      count_none = ones-ones 0;
      count_with = λ s i. count_with n s i h;
      count_without = λ s i w. count_without s i (within_word n s h w);
      count_within = count_within n;
      count_disjoint = count_disjoint n;
    }
