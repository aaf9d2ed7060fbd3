-- The last line is the count of the lists.
use Prim.Native.Nat.{ℕ, ◌^◌, ◌≤◌, ◌<◌}
use native.Mathlib.Omega.{arith}
use mathlib.Core.Path.{◌≡◌, refl, sym, ◌∙◌, ap}
use mathlib.Core.List.{List, [], ◌∷◌, ◌++◌, append-nil, append_assoc, map}
use lib.ListN.{length}
use Rattle.model.specs.Limits.{tower}
use Rattle.model.specs.Pick.{pick_true}
use Rattle.model.specs.State.{start}
use Rattle.listing.specs.Decimal.{decimal}
use Rattle.listing.specs.Lines.{row}
use Rattle.listing.specs.Printing.{joined}
use Rattle.listing.proofs.Decimal.{decimal_denotes}
use Rattle.short_lists_text.specs.Lists.{lists_from}
use Rattle.short_lists_text.specs.Text.{list_line, count_line, text_of}
use Rattle.short_lists_text.specs.Claims.{IsCount, Counts}
use Rattle.short_lists_text.proofs.Few.{few_lists}
use Rattle.short_lists_text.proofs.Refuses.{allowed}

is_count : (k : ℕ) → k < 2 ^ 32 → IsCount k (count_line k)
unfolding count_line row
is_count k h = record { number = decimal k; denotes = decimal_denotes k (omega arith); whole = refl }

pub joined_last : (xs : List (List ℕ)) (x : List ℕ) → joined (xs ++ (x ∷ [])) ≡ joined xs ++ x
unfolding joined
joined_last [] x = append-nil x
joined_last (y ∷ xs) x = ap (λ (l : List ℕ). y ++ l) (joined_last xs x) ∙ sym (append_assoc y (joined xs) x)

text_lines : (n k : ℕ) → 1 ≤ n → n ≤ 3 → k ≤ 7 → text_of (n ∷ k ∷ []) ≡ joined (map list_line (lists_from k (start n tower))) ++ count_line (length (lists_from k (start n tower)))
unfolding text_of
text_lines n k p q h = rw (allowed 7 n k p q h, pick_true) (joined_last (map list_line (lists_from k (start n tower))) (count_line (length (lists_from k (start n tower)))))

pub counts : Counts
counts = record { lines = text_lines; last = λ n k p q h. is_count (length (lists_from k (start n tower))) (few_lists.few n k p q h); any = λ ls h. is_count (length ls) h }
