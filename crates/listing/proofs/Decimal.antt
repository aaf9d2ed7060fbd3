-- The digits of a number denote it, without leading zeros, and are as few as its size allows.
use Prim.Native.Nat.{ℕ, zero, suc, max, ◌+◌, ◌-◌, ◌*◌, ◌/◌, ◌%◌, ◌^◌, ◌≤◌, ◌<◌}
use native.Mathlib.Nat.{pow-suc, one-le-pow}
use native.Mathlib.Omega.{arith}
use mathlib.Core.Path.{◌≡◌, refl, ◌∙◌, ap}
use mathlib.Core.List.{List, [], ◌∷◌, ◌++◌}
use lib.ListN.{length, get_or, length-append}
use lib.Dec.{ltb}
use borrow.Author.Tests.{ltb-true, ltb-false, lt-ltb, le-ltb}
use Rattle.model.specs.Pick.{pick, by_test}
use Rattle.listing.specs.Decimal.{digits, decimal, value_from, value_of}
use Rattle.listing.specs.Claims.{DecimalDenotes}

pub tenth : (p : ℕ) {x : ℕ} → x < 10 ^ suc p → x / 10 < 10 ^ p
tenth p h = omega (arith, pow-suc 10 p)

-- The value.
value_last : (v : ℕ) (l : List ℕ) (d : ℕ) → value_from v (l ++ (d ∷ [])) ≡ value_from v l * 10 + (d - 48)
unfolding value_from
value_last v [] d = refl
value_last v (x ∷ l) d = value_last (v * 10 + (x - 48)) l d

digits_value : (p x : ℕ) → x < 10 ^ p → value_of (digits p x) ≡ x
unfolding digits value_from
digits_value zero x h = omega arith
digits_value (suc p) x h =
    value_last 0 (pick (ltb x 10) [] (digits p (x / 10))) (48 + x % 10)
    ∙ by_test (λ (l : List ℕ). value_of l * 10 + (48 + x % 10 - 48) ≡ x) (λ t. let s = ltb-true x 10 t in omega arith) (λ t. rw (digits_value p (x / 10) (tenth p h)) (omega arith))

-- Each byte is a digit.
each_last : (l : List ℕ) (d : ℕ) → ((k : ℕ) → k < length l → (48 ≤ get_or l k 0) × (get_or l k 0 ≤ 57)) → (48 ≤ d) × (d ≤ 57) →
    (k : ℕ) → k < length (l ++ (d ∷ [])) → (48 ≤ get_or (l ++ (d ∷ [])) k 0) × (get_or (l ++ (d ∷ [])) k 0 ≤ 57)
each_last [] d f g zero h = g
each_last [] d f g (suc k) h = let v : ⊥ = omega arith in absurd v
each_last (x ∷ l) d f g zero h = f zero (omega arith)
each_last (x ∷ l) d f g (suc k) h = each_last l d (λ j w. f (suc j) (omega arith)) g k (omega arith)

digits_each : (p x k : ℕ) → k < length (digits p x) → (48 ≤ get_or (digits p x) k 0) × (get_or (digits p x) k 0 ≤ 57)
unfolding digits
digits_each zero x k h = let v : ⊥ = omega arith in absurd v
digits_each (suc p) x k h =
    each_last (pick (ltb x 10) [] (digits p (x / 10))) (48 + x % 10)
    (by_test (λ (l : List ℕ). (j : ℕ) → j < length l → (48 ≤ get_or l j 0) × (get_or l j 0 ≤ 57)) (λ t j w. let v : ⊥ = omega arith in absurd v) (λ t. digits_each p (x / 10)))
    (omega arith) k h

-- The first digit of a number other than 0.
first_kept : (l r : List ℕ) → 49 ≤ get_or l 0 0 → 49 ≤ get_or (l ++ r) 0 0
first_kept [] r h = let v : ⊥ = omega arith in absurd v
first_kept (x ∷ l) r h = h

digits_first : (p x : ℕ) → 1 ≤ x → x < 10 ^ p → 49 ≤ get_or (digits p x) 0 0
unfolding digits
digits_first zero x o h = let v : ⊥ = omega arith in absurd v
digits_first (suc p) x o h =
    by_test (λ (l : List ℕ). 49 ≤ get_or (l ++ ((48 + x % 10) ∷ [])) 0 0) (λ t. let s = ltb-true x 10 t in omega arith)
    (λ t. let s = ltb-false x 10 t in first_kept (digits p (x / 10)) _ (digits_first p (x / 10) (omega arith) (tenth p h)))

-- Below 10 ^ k at most k digits.
digits_short : (p k x : ℕ) → x < 10 ^ suc k → length (digits p x) ≤ suc k
unfolding digits
digits_short zero k x h = omega arith
digits_short (suc p) zero x h =
    simp length-append (by_test (λ (l : List ℕ). length l + 1 ≤ 1) (λ t. omega arith) (λ t. let s = ltb-false x 10 t in let v : ⊥ = omega arith in absurd v))
digits_short (suc p) (suc k) x h =
    let i = digits_short p k (x / 10) (tenth (suc k) h) in
    simp length-append (by_test (λ (l : List ℕ). length l + 1 ≤ suc (suc k)) (λ t. omega arith) (λ t. omega arith))

pub decimal_short : (k : ℕ) {x : ℕ} → 1 ≤ k → x < 10 ^ k → length (decimal x) ≤ k
unfolding decimal
decimal_short zero o h = let v : ⊥ = omega arith in absurd v
decimal_short (suc k) {x} o h = digits_short 20 k x h

-- From 10 ^ k on more than k digits.
digits_many : (p k x : ℕ) → 10 ^ k ≤ x → suc k ≤ p → suc k ≤ length (digits p x)
unfolding digits
digits_many zero k x h q = let v : ⊥ = omega arith in absurd v
digits_many (suc p) zero x h q = simp length-append (omega arith)
digits_many (suc p) (suc k) x h q =
    let o = one-le-pow k 10 (omega arith) in
    let m : 10 ^ k ≤ x / 10 = omega (arith, pow-suc 10 k) in
    let i = digits_many p k (x / 10) m (omega arith) in
    simp length-append (by_test (λ (l : List ℕ). suc (suc k) ≤ length l + 1) (λ t. let s = ltb-true x 10 t in let v : ⊥ = omega arith in absurd v) (λ t. omega arith))

digits_some : (p x : ℕ) → 1 ≤ length (digits (suc p) x)
unfolding digits
digits_some p x = simp length-append (omega arith)

-- How many digits a number has: one more than the greatest k with 10 ^ k at most x, and 1 where x is 0.
pub decimal_count : (k x m : ℕ) → m ≡ max x 1 → k < 20 → 10 ^ k ≤ m → m < 10 * 10 ^ k → (k + 1 ≡ length (decimal x)) × (k + 1 ≤ 20)
unfolding decimal
decimal_count k zero m e l h i = (let o = digits_some 19 0 in let s = digits_short 20 0 0 (omega arith) in let z = none k (rw e at h) in omega arith, omega arith)
  where
    none : (k : ℕ) → 10 ^ k ≤ 1 → k ≡ 0
    none zero h = refl
    none (suc k) h = let o = one-le-pow k 10 (omega arith) in let v : ⊥ = omega (arith, pow-suc 10 k) in absurd v
decimal_count k (suc x) m e l h i =
    let f : m ≡ suc x = omega arith in
    let a = digits_many 20 k (suc x) (omega arith) (omega arith) in
    let b = digits_short 20 k (suc x) (omega (arith, pow-suc 10 k)) in
    (omega arith, omega arith)

-- A number below ten has one.
pub decimal_one : (x : ℕ) → x < 10 → 1 ≡ length (decimal x)
unfolding decimal
decimal_one x h = let o = digits_some 19 x in let s = digits_short 20 0 x (omega arith) in omega arith

digits_long : (p x : ℕ) → length (digits p x) ≤ p
unfolding digits
digits_long zero x = omega arith
digits_long (suc p) x = simp length-append (by_test (λ (l : List ℕ). length l + 1 ≤ suc p) (λ t. omega arith) (λ t. let i = digits_long p (x / 10) in omega arith))

pub decimal_long : (x : ℕ) → length (decimal x) ≤ 20
unfolding decimal
decimal_long x = digits_long 20 x

-- A number of 32 bits has at most ten.
pub decimal_32_long : (x : ℕ) → x < 2 ^ 32 → length (decimal x) ≤ 10
decimal_32_long x h = decimal_short 10 {x = x} (omega arith) (omega arith)

-- The digits of x / 10, and then the last.
digits_last : (p x : ℕ) → 10 ≤ x → digits (suc p) x ≡ digits p (x / 10) ++ ((48 + x % 10) ∷ [])
unfolding digits pick
digits_last p x h = rw (le-ltb x 10 h)

-- A place more than x has digits changes nothing.
digits_enough : (p x : ℕ) → x < 10 ^ suc p → digits (suc (suc p)) x ≡ digits (suc p) x
unfolding digits pick
digits_enough zero x h = let b : x < 10 = omega arith in rw (lt-ltb x 10 b)
digits_enough (suc p) x h = ap (λ (l : List ℕ). pick (ltb x 10) [] l ++ ((48 + x % 10) ∷ [])) (digits_enough p (x / 10) (tenth (suc p) h))

pub decimal_more : (x : ℕ) → 10 ≤ x → x < 2 ^ 64 → length (decimal x) ≡ length (decimal (x / 10)) + 1
unfolding decimal
decimal_more x h b = rw (digits_last 19 x h, digits_enough 18 (x / 10) (omega arith)) (length-append (digits 19 (x / 10)) ((48 + x % 10) ∷ []))

pub decimal_each : (x k : ℕ) → k < length (decimal x) → (48 ≤ get_or (decimal x) k 0) × (get_or (decimal x) k 0 ≤ 57)
unfolding decimal
decimal_each x = digits_each 20 x

decimal_zero : decimal 0 ≡ 48 ∷ []
unfolding decimal digits pick
decimal_zero = refl

pub decimal_denotes : DecimalDenotes
unfolding decimal
decimal_denotes x h =
    let b : x < 10 ^ 20 = omega arith in
    record {
      value = digits_value 20 x b;
      some = digits_some 19 x;
      each = digits_each 20 x;
      first = λ e. first_zero x e (λ o. digits_first 20 x o b);
      alone = λ e. rw e decimal_zero;
    }
  where
    first_zero : (x : ℕ) {d : ℕ} → d ≡ 48 → (1 ≤ x → 49 ≤ d) → x ≡ 0
    first_zero zero e f = refl
    first_zero (suc x) e f = let w = f (omega arith) in let v : ⊥ = omega arith in absurd v
