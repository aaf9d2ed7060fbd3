-- What the functions that write a number need: one turn of the loop, the digits that it writes, and pieces of a buffer.
use Prim.Native.Nat.{ℕ, zero, suc, ◌+◌, ◌-◌, ◌/◌, ◌%◌, ◌≤◌, ◌<◌}
use native.Mathlib.Numerals.{add-one}
use native.Mathlib.Omega.{arith}
use mathlib.Core.Path.{◌≡◌, refl}
use mathlib.Core.List.{List, [], ◌∷◌, ◌++◌, append_assoc}
use lib.ListN.{length, take, drop, set, length-append, length-set, length-drop}
use lib.Seq.{drop-cons, drop-set-lt, drop-drop, get_or-set_same, set_split, length-take-le}
use Rattle.model.specs.Pick.{by_test}
use Rattle.listing.specs.Decimal.{digits, decimal}
use Rattle.listing.specs.Printing.{written}
use Rattle.listing.specs.Parts.{padded}

-- ── the loop ──

-- One turn: the next digit stands before those that are there.
pub digits_turn : (l : List ℕ) (p y d : ℕ) → 0 < p → p ≤ length l → d ≡ 48 + y % 10 → padded p y ++ drop p l ≡ padded (p - 1) (y / 10) ++ drop (p - 1) (set l (p - 1) d)
unfolding padded
digits_turn l zero y d z h e = let n : ⊥ = omega arith in absurd n
digits_turn l (suc p) y d z h e =
    let k : suc p - 1 ≡ p = omega arith in
    let a : p < length l = omega arith in
    let b : p < length (set l p d) = simp length-set a in
    let o : p < suc p = omega arith in
    rw (k, drop-cons (set l p d) p 0, get_or-set_same, drop-set-lt, ← e, append_assoc)

pub digits_end : (l : List ℕ) (p y : ℕ) → p ≤ 0 → padded p y ++ drop p l ≡ l
unfolding padded
digits_end l zero y h = refl
digits_end l (suc p) y h = let n : ⊥ = omega arith in absurd n

-- ── digits ──

pub padded_long : (k x : ℕ) → length (padded k x) ≡ k
unfolding padded
padded_long zero x = refl
padded_long (suc k) x = simp (length-append, padded_long k (x / 10)) (omega arith)

padded_digits : (p x : ℕ) → padded (length (digits p x)) x ≡ digits p x
unfolding digits padded
padded_digits zero x = refl
padded_digits (suc p) x =
    by_test (λ (l : List ℕ). padded (length (l ++ ((48 + x % 10) ∷ []))) x ≡ l ++ ((48 + x % 10) ∷ []))
    (λ t. refl)
    (λ t. rw (length-append (digits p (x / 10)) ((48 + x % 10) ∷ []), add-one (length (digits p (x / 10))), padded_digits p (x / 10)))

-- As many digits as x has are its decimal.
pub padded_decimal : (k x : ℕ) → k ≡ length (decimal x) → padded k x ≡ decimal x
unfolding decimal
padded_decimal k x e = rw e (padded_digits 20 x)

-- ── pieces written over a buffer ──

-- A part of the buffer b that comes back with the last digits of x.
pub part_piece : (b last : List ℕ) (p n k x : ℕ) → n ≡ k → p + k ≤ length b → last ≡ padded (length (take n (drop p b))) x → take p b ++ (last ++ drop n (drop p b)) ≡ written b p (padded k x)
part_piece b last p n k x e h f =
    let q : length (take k (drop p b)) ≡ k = length-take-le k (drop p b) (simp length-drop (omega arith)) in
    rw (f, e, q, padded_long k x, drop-drop)

pub byte_piece : (b : List ℕ) (p v : ℕ) → p < length b → set b p v ≡ written b p (v ∷ [])
byte_piece b p v h = rw (add-one p) (set_split b p v h)
