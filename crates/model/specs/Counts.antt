-- T-05: "for each ordered pair, how many messages were sent, delivered and lost: 16 rows of 16 counts for each". One list of 256 numbers for each of the three.
use Rattle.std.specs.Prelude.{ℕ, zero, suc, ◌+◌, ◌-◌, ◌*◌, ◌/◌, ◌%◌, Bool, true, false, List, [], ◌∷◌, get_or, set, replicate}

-- 16 rows of 16 counts
abbrev pub count_places : ℕ
count_places = 256

-- where the count from a to b stands: a row for each sender
abbrev pub pair_place : ℕ → ℕ → ℕ
pair_place a b = (a - 1) * 16 + (b - 1)

-- and the pair whose count stands at place k
abbrev pub sender_at : ℕ → ℕ
sender_at k = k / 16 + 1

abbrev pub receiver_at : ℕ → ℕ
receiver_at k = k % 16 + 1

-- the count from a to b, where both are 1 to 16
abbrev pub count_at : List ℕ → ℕ → ℕ → ℕ
count_at l a b = get_or l (pair_place a b) 0

-- one more from a to b
abbrev pub one_more : List ℕ → ℕ → ℕ → List ℕ
one_more l a b = set l (pair_place a b) (count_at l a b + 1)

-- nothing counted
abbrev pub no_counts : List ℕ
no_counts = replicate count_places 0

-- a total is the sum of the counts
unfoldable pub total : List ℕ → ℕ
total [] = 0
total (x ∷ l) = x + total l

-- 1 where a test holds, else 0
abbrev pub one : Bool → ℕ
one true = 1
one false = 0

-- ── as rows ──

-- f k, f (k + 1) and so on, m of them
unfoldable pub listed : {A : Type 0} → (ℕ → A) → ℕ → ℕ → List A
listed f k zero = []
listed f k (suc m) = f k ∷ listed f (k + 1) m

-- "16 rows of 16 counts": row a has f a 1 to f a 16
abbrev pub rows_of : (ℕ → ℕ → ℕ) → List (List ℕ)
rows_of f = listed (λ a. listed (f a) 1 16) 1 16
