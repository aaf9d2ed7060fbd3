-- The events of a list of bytes fit into their bytes, so the text of such a list has no more bytes than `list_text_limit`.
use Prim.Native.Nat.{ℕ, zero, suc, ◌+◌, ◌≤◌, ◌<◌}
use native.Mathlib.Omega.{arith}
use mathlib.Core.Path.{◌≡◌, refl}
use mathlib.Core.List.{List, [], ◌∷◌, ◌++◌, map}
use lib.ListN.{length, get_or, drop, length-append}
use Rattle.std.specs.Prelude.{Some, None, Ok, Err}
use Rattle.model.specs.Pick.{by_test}
use Rattle.model.proofs.InRange.{start_small}
use Rattle.event_list.specs.declared.Stop.{Stop}
use Rattle.event_list.specs.Format.{First, Next, stop_number, tag_at, length_at, contents_at, event_of, checked, next_at, first_of, Ending, complete, stopped, onward, read_from, rest}
use Rattle.event_list.proofs.Reading.{reading_failed, reading_begun, first_good, reads_all}
use Rattle.listing.specs.Lines.{row, stopped_line}
use Rattle.listing.specs.Printing.{joined}
use Rattle.listing.proofs.Decimal.{decimal_short}
use Rattle.listing.proofs.Lengths.{cabinets_long, stopped_long, joined_append, joined_one}
use Rattle.run_list.specs.Text.{ending_lines}
use Rattle.run_list.proofs.Bound.{stop_small}
use Rattle.short_lists_text.specs.Rows.{All}
use Rattle.list_text.specs.Text.{stand_line, opening_line, event_line, list_lines, list_text_limit, ListTextFits}
use Rattle.list_text.specs.Words.{AllBytes}
use Rattle.list_text.specs.Claims.{FitsBytes}
use Rattle.list_text.proofs.Lengths.{lines_long}
use Rattle.list_text.proofs.Fields.{all_drop, all_take}

-- ── a list of bytes ──

-- also past the end, where 0 is read
byte_at : (c : List ℕ) (k : ℕ) → AllBytes c → get_or c k 0 < 256
byte_at [] k a = omega arith
byte_at (b ∷ c) zero a = a.0
byte_at (b ∷ c) (suc k) a = byte_at c k a.1

-- ── its events ──

pub event_fits : (t : ℕ) (c : List ℕ) → AllBytes c → FitsBytes (event_of t c)
unfolding event_of
event_fits t c a =
    let x = byte_at c 0 a in
    let y = byte_at c 1 a in
    let z = byte_at c 2 a in
    by_test FitsBytes (λ _. (x, tt)) (λ _.
    by_test FitsBytes (λ _. (x, tt)) (λ _.
    by_test FitsBytes (λ _. (x, tt)) (λ _.
    by_test FitsBytes (λ _. (x, tt)) (λ _.
    by_test FitsBytes (λ _. (x, tt)) (λ _.
    by_test FitsBytes (λ _. (x, tt)) (λ _.
    by_test FitsBytes (λ _. (x, (omega arith, (omega arith, tt)))) (λ _.
    by_test FitsBytes (λ _. (x, (y, tt))) (λ _. (x, (y, tt))))))))))

-- what is known of a field
abbrev FieldFits : Next → Type 0
FieldFits (Ok None) = Unit {0}
FieldFits (Err s) = Unit {0}
FieldFits (Ok (Some (e, next))) = FitsBytes e

field_fits : (l : List ℕ) (at : ℕ) → AllBytes l → FieldFits (next_at l at)
unfolding next_at checked
field_fits l at a =
    by_test FieldFits (λ m. tt) (λ m. by_test FieldFits (λ u. tt) (λ u. by_test FieldFits (λ t. tt) (λ t. by_test FieldFits (λ w. tt)
    (λ w. event_fits (tag_at l at) (contents_at l at) (all_take (λ b. b < 256) (length_at l at) (drop (at + 3) l) (all_drop (λ b. b < 256) (at + 3) l a))))))

from_fit : (k : ℕ) (l : List ℕ) (at : ℕ) → AllBytes l → All FitsBytes (read_from k l at).events
unfolding read_from
from_fit zero l at a = tt
from_fit (suc k) l at a = by (next_at l at) (field_fits l at a) (λ n. from_fit k l n a)
  where
    by : (x : Next) → FieldFits x → ((n : ℕ) → All FitsBytes (read_from k l n).events) → All FitsBytes (onward at x (read_from k l)).events
    by (Ok None) f g = tt
    by (Err s) f g = tt
    by (Ok (Some (e, n))) f g = (f, g n)

pub rest_fits : (l : List ℕ) (at : ℕ) → AllBytes l → All FitsBytes (rest l at).events
unfolding rest
rest_fits l at a = from_fit (length l) l at a

-- ── lines ──

stand_long : (n : ℕ) → n ≤ 16 → length (stand_line n) ≤ 12
unfolding stand_line row
stand_long n h = let d = decimal_short 2 {x = n} (omega arith) (omega arith) in simp length-append (omega arith)

opening_long : (t n : ℕ) → n ≤ 16 → length (opening_line t n) ≤ 12
unfolding opening_line
opening_long t n h = by_test (λ (w : List ℕ). length w ≤ 12) (λ e. cabinets_long n h) (λ e. stand_long n h)

-- a list stops at one of its m bytes
ending_long : (m : ℕ) (x : Ending) → ((b : ℕ) (s : Stop) → x ≡ stopped b s → b < m) → m ≤ 65536 → length (joined (ending_lines x)) ≤ 17
unfolding joined
ending_long m complete h i = omega arith
ending_long m (stopped b s) h i = let k = h b s refl in rw (joined_one (stopped_line b (stop_number s))) (stopped_long b (stop_number s) (omega arith) (stop_small s))

-- ── the whole ──

pub list_text_fits : ListTextFits
unfolding list_lines
list_text_fits l a = by (first_of l) refl
  where
    by : (x : First) → x ≡ first_of l → length (joined (list_lines l)) ≤ list_text_limit
    by (Err s) i = let h = stopped_long 0 (stop_number s) (omega arith) (stop_small s) in rw (reading_failed l i refl, joined_one (stopped_line 0 (stop_number s))) (omega arith)
    by (Ok (n, lim)) i =
        let g = first_good l i refl in
        let r = rest l 4 in
        let e = reads_all.few l 4 g.0 in
        let c = opening_long (tag_at l 0) n (start_small n lim g.2) in
        let v = lines_long r.events (rest_fits l 4 a) in
        let b = ending_long (length l) r.ending (reads_all.before l 4) g.1 in
        rw (reading_begun l i refl, joined_append (opening_line (tag_at l 0) n ∷ []) (map event_line r.events ++ ending_lines r.ending), joined_one (opening_line (tag_at l 0) n), joined_append (map event_line r.events) (ending_lines r.ending)) (omega arith)
