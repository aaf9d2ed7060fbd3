-- How long T-01's text can be: there are fewer than 2 ^ 32 lists, and a line has at most seven events of at most 18 bytes each.
use Prim.Native.Nat.{ℕ, ◌*◌, ◌^◌, ◌≤◌, ◌<◌}
use native.Mathlib.Omega.{arith}
use mathlib.Core.List.{List, [], ◌∷◌, map}
use lib.ListN.{length, get_or, length-append}
use Rattle.model.specs.Limits.{tower}
use Rattle.model.specs.Pick.{by_test}
use Rattle.model.specs.State.{start}
use Rattle.model.specs.declared.Event.{Event}
use Rattle.listing.specs.Lines.{row}
use Rattle.listing.specs.Printing.{joined}
use Rattle.listing.proofs.Decimal.{decimal_32_long}
use Rattle.short_lists_text.specs.Rows.{All, Among}
use Rattle.short_lists_text.specs.Lists.{lists_from}
use Rattle.short_lists_text.specs.Text.{list_line, count_line, lines_of, text_of}
use Rattle.short_lists_text.proofs.Rows.{all_by}
use Rattle.short_lists_text.proofs.Whole.{all_lists}
use Rattle.short_lists_text.proofs.Few.{few_lists}
use Rattle.short_lists_text.proofs.Counts.{joined_last}
use Rattle.short_lists_text.proofs.Refuses.{fits_are, stopped}
use Rattle.list_text.proofs.Pasted.{accepted_fit}
use Rattle.list_text.proofs.Lines.{line_long}

lines_long : (ls : List (List Event)) → All (λ l. length (list_line l) ≤ 127) ls → length (joined (map list_line ls)) ≤ 127 * length ls
unfolding joined
lines_long [] a = omega arith
lines_long (l ∷ ls) a = let x = lines_long ls a.1 in let y = a.0 in simp length-append (omega arith)

count_long : (k : ℕ) → k < 2 ^ 32 → length (count_line k) ≤ 17
unfolding count_line row
count_long k h = let d = decimal_32_long k h in simp length-append (omega arith)

all_lines : (n m : ℕ) → m ≤ 7 → All (λ l. length (list_line l) ≤ 127) (lists_from m (start n tower))
all_lines n m h = all_by (λ l. length (list_line l) ≤ 127) (lists_from m (start n tower)) each
  where
    each : (l : List Event) → Among l (lists_from m (start n tower)) → length (list_line l) ≤ 127
    each l a =
        let g = (all_lists m (start n tower)).only l a in
        let k = line_long l (accepted_fit (start n tower) l g.taken) in
        let e = g.long in omega arith

lists_text : (n m : ℕ) → 1 ≤ n → n ≤ 3 → m ≤ 7 → length (joined (lines_of (lists_from m (start n tower)))) < 2 ^ 40
lists_text n m p q h =
    let ls = lists_from m (start n tower) in
    let k = few_lists.few n m p q h in
    let x = lines_long ls (all_lines n m h) in
    let y = count_long (length ls) k in
    rw (joined_last (map list_line ls) (count_line (length ls)), length-append) (omega arith)

pub short_text : (l : List ℕ) → length (text_of l) < 2 ^ 40
unfolding text_of
short_text l =
    by_test (λ (x : List ℕ). length x < 2 ^ 40)
    (λ q. let f = fits_are 7 l q in lists_text (get_or l 0 0) (get_or l 1 0) f.0 f.1 f.2)
    (λ q. rw stopped (omega arith))
