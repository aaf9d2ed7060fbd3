-- Numbers in decimal, as bytes of ASCII digits, and what it means that bytes denote a number.
use Rattle.std.specs.Prelude.{◌≡◌, List, [], ◌∷◌, ◌++◌, ℕ, zero, suc, ◌+◌, ◌-◌, ◌*◌, ◌/◌, ◌%◌, ◌≤◌, ◌<◌, length, get_or, ltb}
use Rattle.model.specs.Pick.{pick}

-- the digits of x, at most p of them: those of x / 10 where x has more than one, then the last
unfoldable pub digits : ℕ → ℕ → List ℕ
digits zero x = []
digits (suc p) x = pick (ltb x 10) [] (digits p (x / 10)) ++ ((48 + x % 10) ∷ [])

-- x in decimal; twenty digits are enough for 64 bits
unfoldable pub decimal : ℕ → List ℕ
decimal x = digits 20 x

-- the number that digits give when they stand after those of v
unfoldable pub value_from : ℕ → List ℕ → ℕ
value_from v [] = v
value_from v (d ∷ ds) = value_from (v * 10 + (d - 48)) ds

-- the number that a list of digits denotes
abbrev pub value_of : List ℕ → ℕ
value_of l = value_from 0 l

-- "numbers have no leading zeros": l is one digit or more, they give x, and the first is 0 only in the number 0, which is that digit alone
pub record Denotes (l : List ℕ) (x : ℕ) : Type 0 where
  pub value : value_of l ≡ x
  pub some : 1 ≤ length l
  pub each : (k : ℕ) → k < length l → (48 ≤ get_or l k 0) × (get_or l k 0 ≤ 57)
  pub first : get_or l 0 0 ≡ 48 → x ≡ 0
  pub alone : x ≡ 0 → l ≡ 48 ∷ []
