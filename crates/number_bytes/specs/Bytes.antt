-- Numbers as bytes, high byte first, and what else several byte forms share: a test of equal bytes, records of one size, bytes written over others, a status and a yes
-- or no as a number.
use Rattle.std.specs.Prelude.{ℕ, zero, suc, ◌+◌, ◌*◌, ◌/◌, ◌%◌, ◌^◌, Bool, true, false, ◌&&◌, List, [], ◌∷◌, ◌++◌, eqb, ltb, length, get_or, drop, set}
use Rattle.model.specs.Pick.{pick}
use Rattle.model.specs.declared.Status.{Status}
use Rattle.model.specs.declared.Status.TheVariants.{Down, Election, Reorganization, Normal}

-- ── numbers ──

-- the number of the k bytes from at on; past the end stands 0
unfoldable pub number : ℕ → List ℕ → ℕ → ℕ
number zero l at = 0
number (suc k) l at = get_or l at 0 * 256 ^ k + number k l (at + 1)

-- the k bytes of a number
unfoldable pub bytes : ℕ → ℕ → List ℕ
bytes zero x = []
bytes (suc k) x = x / 256 ^ k % 256 ∷ bytes k x

-- the same bytes, as many and each the same
unfoldable pub same_bytes : List ℕ → List ℕ → Bool
same_bytes [] [] = true
same_bytes [] (y ∷ ys) = false
same_bytes (x ∷ xs) [] = false
same_bytes (x ∷ xs) (y ∷ ys) = eqb x y && same_bytes xs ys

-- ── records of one size, one after another ──

-- the first k records, read by f
unfoldable pub many : {A : Type 0} → (List ℕ → A) → ℕ → ℕ → List ℕ → List A
many f size zero l = []
many f size (suc k) l = f l ∷ many f size k (drop size l)

-- the bytes of all records, written by g
unfoldable pub all : {A : Type 0} → (A → List ℕ) → List A → List ℕ
all g [] = []
all g (x ∷ xs) = g x ++ all g xs

-- P holds of each element
unfoldable pub Each : {A : Type 0} → (A → Type 0) → List A → Type 0
Each P [] = Unit {0}
Each P (x ∷ xs) = P x × Each P xs

-- ── bytes in a buffer ──

-- l over out from at on; what comes past the end of out is not written
unfoldable pub written : List ℕ → ℕ → List ℕ → List ℕ
written out at [] = out
written out at (b ∷ l) = written (set out at b) (at + 1) l

-- ── what the exported functions have that answer 255 where a lent buffer is too short: they need `size` bytes, and b is what it holds before ──

-- whether there is room for them is looked at first; else r is answered
abbrev pub number_in : ℕ → List ℕ → ℕ → ℕ
number_in size b r = pick (ltb (length b) size) 255 r

-- What it then holds, where r is answered: where that is 0, the bytes l, and behind them what was there; "lent bytes stay as they stood" by any other answer
abbrev pub buffer_in : ℕ → List ℕ → ℕ → List ℕ → List ℕ
buffer_in size b r l = pick (eqb r 0) (l ++ drop size b) b

-- ── a status, and a yes or no ──

-- modulo 4; the number of a status is `status_number` of crate model
unfoldable pub status_of : ℕ → Status
status_of x =
    pick (eqb (x % 4) 0) Down
    (pick (eqb (x % 4) 1) Election
    (pick (eqb (x % 4) 2) Reorganization
    Normal))

-- modulo 2
abbrev pub yes_of : ℕ → Bool
yes_of x = eqb (x % 2) 1

abbrev pub yes_number : Bool → ℕ
yes_number false = 0
yes_number true = 1
