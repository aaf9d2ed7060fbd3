-- How long a line of each kind can be, by the digits of its numbers; lines after one another; and the lines of a table in range.
use Prim.Native.Nat.{ℕ, ◌+◌, ◌*◌, ◌^◌, ◌≤◌, ◌<◌}
use native.Mathlib.Omega.{arith}
use mathlib.Core.Path.{◌≡◌}
use mathlib.Core.Bool.{true}
use mathlib.Core.Logic.{⊎_elim}
use mathlib.Core.List.{List, [], ◌∷◌, ◌++◌}
use lib.ListN.{length, length-append}
use Rattle.node_set.specs.NodeSet.{count}
use Rattle.node_set.proofs.Laws.{count_within}
use Rattle.model.specs.declared.Node.{Node}
use Rattle.model.specs.declared.Status.{Status}
use Rattle.model.specs.declared.Status.TheVariants.{Down, Election, Reorganization, Normal}
use Rattle.model.specs.Answers.{status_number}
use Rattle.model.specs.Counts.{total}
use Rattle.model.specs.Range.{node_in_range}
use Rattle.model.specs.State.{State, every, in_range}
use Rattle.model.proofs.Local.{both_left, both_right}
use Rattle.model.proofs.Fields.{NodeFacts, node_facts, in_range_size, in_range_nodes}
use Rattle.listing.specs.Ascii.{bytes}
use Rattle.listing.specs.Lines.{row, cabinets_line, refused_line, stopped_line, node_line, messages_line, turns_line, sent_word, delivered_word, lost_word, total_line, total_lines, node_lines, table_lines}
use Rattle.listing.specs.Printing.{joined}
use Rattle.listing.proofs.Decimal.{decimal_short}
use Rattle.listing.proofs.Totals.{in_range_totals}

-- One number more, of at most k digits.
row_more : (k : ℕ) {x m : ℕ} (xs : List ℕ) → 1 ≤ k → x < 10 ^ k → length (row xs) ≤ m → length (row (x ∷ xs)) ≤ 1 + k + m
unfolding row
row_more k {x} xs o h e = let d = decimal_short k o h in simp length-append (omega arith)

row_end : length (row []) ≤ 1
unfolding row
row_end = omega arith

-- Lines of one and of two numbers after a word.
one_long : (w : List ℕ) (k : ℕ) {x : ℕ} → 1 ≤ k → x < 10 ^ k → length (w ++ row (x ∷ [])) ≤ length w + k + 2
one_long w k o h = let r = row_more k [] o h row_end in simp length-append (omega arith)

two_long : (w : List ℕ) (j k : ℕ) {x y : ℕ} → 1 ≤ j → x < 10 ^ j → 1 ≤ k → y < 10 ^ k → length (w ++ row (x ∷ y ∷ [])) ≤ length w + j + k + 3
two_long w j k {x} {y} o h u i = let r = row_more j (y ∷ []) o h (row_more k [] u i row_end) in simp length-append (omega arith)

pub cabinets_long : (n : ℕ) → n ≤ 16 → length (cabinets_line n) ≤ 12
unfolding cabinets_line
cabinets_long n h = one_long (bytes "cabinets") 2 (omega arith) (omega arith)

pub messages_long : (k : ℕ) → k ≤ 64 → length (messages_line k) ≤ 12
unfolding messages_line
messages_long k h = one_long (bytes "messages") 2 (omega arith) (omega arith)

-- A number of turns of at most seven digits.
pub turns_long : (k : ℕ) → k < 10 ^ 7 → length (turns_line k) ≤ 14
unfolding turns_line
turns_long k h = one_long (bytes "turns") 7 (omega arith) h

-- A total of at most k digits.
pub total_long : (w : List ℕ) (k : ℕ) {x : ℕ} → 1 ≤ k → x < 10 ^ k → length (total_line w x) ≤ length w + k + 2
unfolding total_line
total_long w k o h = one_long w k o h

pub refused_long : (e r : ℕ) → e ≤ 65536 → r ≤ 22 → length (refused_line e r) ≤ 17
unfolding refused_line
refused_long e r h i = two_long (bytes "refused") 5 2 (omega arith) (omega arith) (omega arith) (omega arith)

pub stopped_long : (b r : ℕ) → b ≤ 65536 → r ≤ 22 → length (stopped_line b r) ≤ 17
unfolding stopped_line
stopped_long b r h i = two_long (bytes "stopped") 5 2 (omega arith) (omega arith) (omega arith) (omega arith)

pub status_small : (s : Status) → status_number s ≤ 9
status_small Down = omega arith
status_small Election = omega arith
status_small Reorganization = omega arith
status_small Normal = omega arith

pub node_long : (i : ℕ) (c : Node) → i ≤ 16 → c.coordinator ≤ 16 → c.group.number ≤ 16777215 → c.task.number ≤ 65535 → c.counter ≤ 1048575 → count c.members ≤ 16 →
    length (node_line i c) ≤ 34
unfolding node_line
node_long i c hi hk hg ht hc hm =
    let s = status_small c.status in
    let d = decimal_short 2 {x = i} (omega arith) (omega arith) in
    let r =
    row_more 1 {x = status_number c.status} _ (omega arith) (omega arith)
    (row_more 2 {x = c.coordinator} _ (omega arith) (omega arith)
    (row_more 8 {x = c.group.number} _ (omega arith) (omega arith)
    (row_more 5 {x = c.task.number} _ (omega arith) (omega arith)
    (row_more 7 {x = c.counter} _ (omega arith) (omega arith)
    (row_more 2 {x = count c.members} [] (omega arith) (omega arith) row_end)))))
    in
    simp length-append (omega arith)

-- Lines after one another.
pub joined_append : (xs ys : List (List ℕ)) → length (joined (xs ++ ys)) ≡ length (joined xs) + length (joined ys)
unfolding joined
joined_append [] ys = omega arith
joined_append (x ∷ xs) ys = let e = joined_append xs ys in simp length-append (omega arith)

pub joined_one : (x : List ℕ) → length (joined (x ∷ [])) ≡ length x
unfolding joined
joined_one x = simp length-append (omega arith)

-- The three totals, of at most k digits each.
pub totals_long : (s : State) (k : ℕ) → 1 ≤ k → total s.sent < 10 ^ k → total s.delivered < 10 ^ k → total s.lost < 10 ^ k → length (joined (total_lines s)) ≤ 23 + 3 * k
unfolding total_lines joined
totals_long s k o h i j =
    let a = total_long sent_word k o h in
    let b = total_long delivered_word k o i in
    let c = total_long lost_word k o j in
    simp length-append (omega arith)

-- A table in range.
node_in_range_long : (n i : ℕ) (c : Node) → n ≤ 16 → i ≤ n → NodeFacts n i c → length (node_line i c) ≤ 34
node_in_range_long n i c h k f =
    let g : c.group.number ≤ 16777215 = ⊎_elim (λ e. omega arith) (λ e. omega arith) f.group in
    let m = count_within n c.members f.members.inside in
    node_long i c (omega arith) (omega arith) g f.task f.counter (omega arith)

nodes_in_range_long : (n i : ℕ) (cs : List Node) → n ≤ 16 → i + length cs ≤ n + 1 → every (node_in_range n) i cs ≡ true → length (joined (node_lines i cs)) ≤ 34 * length cs
unfolding node_lines joined every
nodes_in_range_long n i [] h k g = omega arith
nodes_in_range_long n i (c ∷ cs) h k g =
    let l = node_in_range_long n i c h (omega arith) (node_facts n i c (both_left _ _ g)) in
    let r = nodes_in_range_long n (i + 1) cs h (omega arith) (both_right (node_in_range n i c) _ g) in
    simp length-append (omega arith)

-- `sent`, `delivered` and `lost` with ten digits have 16, 21 and 16 bytes.
pub table_long : (s : State) → in_range s ≡ true → length (joined (table_lines s)) ≤ 34 * s.n + 12 + 53
unfolding table_lines
table_long s g =
    let f = in_range_size s g in
    let q = messages_long (length s.queue) f.3 in
    let r = nodes_in_range_long s.n 1 s.nodes f.1 (omega arith) (in_range_nodes s g) in
    let u = in_range_totals s g in
    let t = totals_long s 10 (omega arith) u.0 u.1 u.2 in
    rw (joined_append (node_lines 1 s.nodes) (messages_line (length s.queue) ∷ total_lines s), joined_append (messages_line (length s.queue) ∷ []) (total_lines s), joined_one (messages_line (length s.queue))) (omega arith)
