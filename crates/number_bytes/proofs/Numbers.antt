-- Numbers of k bytes: what the code's sums and quotients are, and that a number is read back from its bytes.
use Prim.Native.Nat.{ℕ, zero, suc, ◌+◌, ◌/◌, ◌%◌, ◌^◌, ◌≤◌, ◌<◌}
use native.Mathlib.Nat.{mod-one, mod-eq_of_lt, pow-succ'}
use lib.Arith.{mod-mul}
use native.Mathlib.Numerals.{add-one}
use native.Mathlib.Omega.{arith}
use mathlib.Core.Path.{◌≡◌, refl, sym, ◌∙◌}
use mathlib.Core.List.{List, [], ◌∷◌, ◌++◌}
use lib.ListN.{length, get_or, drop, set}
use lib.Seq.{get_or-append-add, sets, sets-eq}
use Rattle.std.specs.Int.{w16, w32, to_be_bytes, from_be_bytes}
pub use Rattle.number_bytes.specs.Sizes.{length_bytes}
use Rattle.number_bytes.specs.Bytes.{number, bytes, written}

-- ── reading ──

pub one_is : (l : List ℕ) (k : ℕ) → number 1 l k ≡ get_or l k 0
unfolding number
one_is l k = omega arith

pub two_is : (l : List ℕ) (k : ℕ) → number 2 l k ≡ from_be_bytes w16 (get_or l k 0 ∷ get_or l (k + 1) 0 ∷ [])
unfolding number
two_is l k = omega arith

pub four_is : (l : List ℕ) (k : ℕ) → number 4 l k ≡ from_be_bytes w32 (get_or l k 0 ∷ get_or l (k + 1) 0 ∷ get_or l (k + 2) 0 ∷ get_or l (k + 3) 0 ∷ [])
unfolding number
four_is l k =
    let e : k + 1 + 1 ≡ k + 2 = omega arith in
    let f : k + 2 + 1 ≡ k + 3 = omega arith in
    rw (e, f) (omega arith)

-- ── writing ──

pub one_bytes : (x : ℕ) → x < 256 → bytes 1 x ≡ x ∷ []
unfolding bytes
one_bytes x h =
    let e : x / 1 % 256 ≡ x = omega arith in
    rw e

pub two_bytes : (x : ℕ) → bytes 2 x ≡ to_be_bytes w16 x
unfolding bytes
two_bytes x = let e : x / 1 ≡ x = omega arith in rw e

pub four_bytes : (x : ℕ) → bytes 4 x ≡ to_be_bytes w32 x
unfolding bytes
four_bytes x = let e : x / 1 ≡ x = omega arith in rw e

-- bytes written one after another
pub written_append : (out : List ℕ) (at : ℕ) (a b : List ℕ) → written out at (a ++ b) ≡ written (written out at a) (at + length a) b
unfolding written
written_append out at [] b =
    let e : at + 0 ≡ at = omega arith in
    rw e
written_append out at (x ∷ a) b =
    let e : at + suc (length a) ≡ at + 1 + length a = omega arith in
    rw e (written_append (set out at x) (at + 1) a b)

-- a is written, and then b behind it
pub then : (out : List ℕ) (at : ℕ) (a b : List ℕ) (n : ℕ) {p q : List ℕ} → p ≡ written out at a → length a ≡ n → q ≡ written p (at + n) b → q ≡ written out at (a ++ b)
then out at a b n e f g = g ∙ sym (written_append out at a b ∙ rw (f, ← e))

stored : (out : List ℕ) (at : ℕ) (l : List ℕ) → written out at l ≡ sets out at l
unfolding written
stored out at [] = refl
stored out at (b ∷ l) = rw (add-one at) (stored (set out at b) (suc at) l)

-- where there is room
pub written_over : (out l : List ℕ) → length l ≤ length out → written out 0 l ≡ l ++ drop (length l) out
written_over out l h =
    let e : 0 + length l ≡ length l = omega arith in
    stored out 0 l ∙ sets-eq l out 0 (omega arith) ∙ rw e

-- ── read back ──

-- what stands behind a
number_behind : (k : ℕ) (a b : List ℕ) (at : ℕ) → number k (a ++ b) (length a + at) ≡ number k b at
unfolding number
number_behind zero a b at = refl
number_behind (suc k) a b at =
    let e : length a + at + 1 ≡ length a + (at + 1) = omega arith in
    rw (get_or-append-add, e, number_behind k a b (at + 1))

pub number_at_lem : (k : ℕ) (a b : List ℕ) (n : ℕ) → length a ≡ n → number k (a ++ b) n ≡ number k b 0
number_at_lem k a b n e =
    let f : length a + 0 ≡ n = omega arith in
    rw (← f) (number_behind k a b 0)

pow_above : (k : ℕ) → 0 < 256 ^ k
pow_above zero = omega arith
pow_above (suc k) =
    let h : 0 < 256 ^ k = pow_above k in
    rw (pow-succ' 256 k) (omega arith)

number_bytes_lem : (k x : ℕ) → number k (bytes k x) 0 ≡ x % 256 ^ k
unfolding number bytes
number_bytes_lem zero x = sym (mod-one x)
number_bytes_lem (suc k) x =
    rw (number_behind k (x / 256 ^ k % 256 ∷ []) (bytes k x) 0, number_bytes_lem k x, pow-succ' 256 k)
    (sym (mod-mul x {m = 256} {c = 256 ^ k} (omega arith) (pow_above k)))

-- a number is read back from its k bytes
pub read : (k x : ℕ) → x < 256 ^ k → number k (bytes k x) 0 ≡ x
read k x h = number_bytes_lem k x ∙ mod-eq_of_lt h

pub one_back : (x : ℕ) → x < 256 → (l : List ℕ) → number 1 (bytes 1 x ++ l) 0 ≡ x
unfolding number bytes
one_back x h l = read 1 x h
