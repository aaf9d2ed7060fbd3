-- Laws of a total: one turn of the loop that adds, and how large it can be.
use Prim.Native.Nat.{ℕ, ◌+◌, ◌*◌, ◌^◌, ◌≤◌, ◌<◌}
use native.Mathlib.Nat.{mul-suc}
use native.Mathlib.Numerals.{add-one}
use native.Mathlib.Omega.{arith}
use mathlib.Core.Path.{◌≡◌}
use mathlib.Core.Bool.{true}
use mathlib.Core.List.{List, [], ◌∷◌}
use lib.ListN.{length, get_or, drop, drop_of_length-le}
use lib.Seq.{drop-cons}
use Rattle.model.specs.Counts.{total}
use Rattle.model.specs.Limits.{traffic_end}
use Rattle.model.specs.Range.{count_in_range}
use Rattle.model.specs.State.{State, every, in_range}
use Rattle.model.proofs.Local.{both_left, both_right}
use Rattle.model.proofs.Fields.{count_facts, in_range_places, in_range_each}
use Rattle.listing.proofs.Parted.{Each, each_at}

-- The sum of what is left loses the count that is added.
pub total_turn : (l : List ℕ) (i s : ℕ) → i < length l → s + total (drop i l) ≡ s + get_or l i 0 + total (drop (i + 1) l)
unfolding total
total_turn l i s h = rw (drop-cons l i 0 h, add-one i) (omega arith)

pub total_end : (l : List ℕ) (i : ℕ) → length l ≤ i → total (drop i l) ≡ 0
unfolding total
total_end l i h = rw (drop_of_length-le l {i = i} h)

-- The total of counts that are at most m is at most m times as many.
total_most : (m : ℕ) (l : List ℕ) → Each (λ x. x ≤ m) l → total l ≤ m * length l
unfolding total
total_most m [] f = omega arith
total_most m (x ∷ l) f = let r = total_most m l f.1 in rw (mul-suc m (length l)) (omega (arith, f.0))

-- 256 counts of 32 bits have a total of 40 bits.
pub total_fits : (l : List ℕ) → length l ≡ 256 → ((k : ℕ) → get_or l k 0 < 2 ^ 32) → total l < 2 ^ 40
total_fits l h f = let r = total_most 4294967295 l (each_at (λ x. x ≤ 4294967295) l (λ k i. omega (arith, f k))) in omega (arith, h)

-- Counts in range have a total of ten digits at most: 256 × 33,554,430.
counts_bounded : (n k : ℕ) (l : List ℕ) → every (count_in_range n) k l ≡ true → Each (λ x. x ≤ traffic_end) l
unfolding every
counts_bounded n k [] e = tt
counts_bounded n k (x ∷ l) e = ((count_facts n k x (both_left (count_in_range n k x) _ e)).bounded, counts_bounded n (k + 1) l (both_right (count_in_range n k x) _ e))

total_10_digits : (n : ℕ) (l : List ℕ) → length l ≡ 256 → every (count_in_range n) 0 l ≡ true → total l < 10 ^ 10
total_10_digits n l h e = let r = total_most traffic_end l (counts_bounded n 0 l e) in omega (arith, h)

-- So of a table in range.
pub in_range_totals : (s : State) → in_range s ≡ true → (total s.sent < 10 ^ 10) × (total s.delivered < 10 ^ 10) × (total s.lost < 10 ^ 10)
in_range_totals s g =
    let h = in_range_places s g in
    let e = in_range_each s g in
    (total_10_digits s.n s.sent h.0 e.0, total_10_digits s.n s.delivered h.1 e.1, total_10_digits s.n s.lost h.2 e.2)
