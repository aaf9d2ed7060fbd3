-- Equal lines show equal numbers, and a table's bytes show one table only: fields end at the first byte that is no digit, lines at the first 0x0A.
use Prim.Native.Nat.{ℕ, zero, suc, ◌+◌, ◌-◌, ◌^◌, ◌≤◌, ◌<◌}
use native.Mathlib.Omega.{arith}
use mathlib.Core.Path.{◌≡◌, refl, sym, ◌∙◌, ap}
use mathlib.Core.Bool.{Bool, true, ◌&&◌}
use mathlib.Core.Logic.{⊎_elim}
use mathlib.Core.List.{List, [], ◌∷◌, ◌++◌, append_assoc, append_cancel_left, head-eq_of_cons-eq, tail-eq_of_cons-eq}
use lib.ListN.{length, get_or}
use lib.Dec.{ltb}
use borrow.Author.Tests.{ltb-true}
use Rattle.node_set.specs.NodeSet.{count}
use Rattle.node_set.proofs.Laws.{count_within}
use Rattle.model.specs.declared.Node.{Node}
use Rattle.model.specs.declared.Status.{Status}
use Rattle.model.specs.declared.Status.TheVariants.{Down, Election, Reorganization, Normal}
use Rattle.model.specs.Answers.{status_number}
use Rattle.model.specs.Counts.{total}
use Rattle.model.specs.Range.{node_in_range}
use Rattle.model.specs.State.{State, starting_node, node_at, in_range}
use Rattle.model.proofs.Local.{both_left, both_right}
use Rattle.model.proofs.Fields.{node_facts, in_range_size, in_range_node}
use Rattle.listing.specs.Ascii.{bytes}
use Rattle.listing.specs.Decimal.{decimal, value_of}
use Rattle.listing.specs.Lines.{row, cabinets_line, refused_line, stopped_line, node_line, messages_line, turns_line, sent_word, delivered_word, lost_word, total_line, total_lines, node_lines, table_lines}
use Rattle.listing.specs.Printing.{joined}
use Rattle.listing.specs.Claims.{SameShown, SameTable, SmallNode, SmallTotals, SmallTable, LinesDetermine, BufferKept, IsTotal, EndsWithTotals, TotalsDenote}
use Rattle.listing.proofs.Decimal.{decimal_each, decimal_denotes}
use Rattle.listing.proofs.Printing.{printed_before, printed_long}
use Rattle.listing.proofs.Lengths.{status_small}
use Rattle.listing.proofs.Totals.{total_fits, in_range_totals}
use Rattle.listing.proofs.Parted.{Each, Stops, each_map, each_append, each_at, parted, Inside, IsLine, line_after, joined_same}

-- ── numbers ──

abbrev Small : ℕ → Type 0
Small x = x < 2 ^ 64

-- 32 bits are fewer.
wide : {x : ℕ} → x < 2 ^ 32 → Small x
wide h = omega arith

abbrev Digit : ℕ → Type 0
Digit b = (48 ≤ b) × (b ≤ 57)

decimal_digits : (x : ℕ) → Each Digit (decimal x)
decimal_digits x = each_at Digit (decimal x) (decimal_each x)

pub decimal_same : (x y : ℕ) → Small x → Small y → decimal x ≡ decimal y → x ≡ y
decimal_same x y h k e = sym (decimal_denotes x h).value ∙ ap (λ (l : List ℕ). value_of l) e ∙ (decimal_denotes y k).value

-- ── a row of numbers ──

row_stops : (xs : List ℕ) → Stops Digit (row xs)
unfolding row
row_stops [] = λ d. omega arith
row_stops (x ∷ xs) = λ d. omega arith

number_row : (x y : ℕ) (xs ys : List ℕ) → Small x → Small y → decimal x ++ row xs ≡ decimal y ++ row ys → (x ≡ y) × (row xs ≡ row ys)
number_row x y xs ys h k e =
    let r = parted Digit (decimal x) (decimal y) (decimal_digits x) (decimal_digits y) (row_stops xs) (row_stops ys) e in
    (decimal_same x y h k r.0, r.1)

row_same : (xs ys : List ℕ) → Each Small xs → Each Small ys → row xs ≡ row ys → xs ≡ ys
unfolding row
row_same [] [] f g e = refl
row_same [] (y ∷ ys) f g e = let z = head-eq_of_cons-eq e in absurd (omega arith)
row_same (x ∷ xs) [] f g e = let z = head-eq_of_cons-eq e in absurd (omega arith)
row_same (x ∷ xs) (y ∷ ys) f g e =
    let r = number_row x y xs ys f.0 g.0 (tail-eq_of_cons-eq e) in
    let t = row_same xs ys f.1 g.1 r.1 in
    rw (r.0, t)

word_same : (w xs ys : List ℕ) → Each Small xs → Each Small ys → w ++ row xs ≡ w ++ row ys → xs ≡ ys
word_same w xs ys f g e = row_same xs ys f g (append_cancel_left w (row xs) (row ys) e)

one_same : (w : List ℕ) {x y : ℕ} → Small x → Small y → w ++ row (x ∷ []) ≡ w ++ row (y ∷ []) → x ≡ y
one_same w {x} {y} h k e = head-eq_of_cons-eq (word_same w (x ∷ []) (y ∷ []) (h, tt) (k, tt) e)

two_same : (w : List ℕ) {x y u v : ℕ} → Small x → Small y → Small u → Small v → w ++ row (x ∷ y ∷ []) ≡ w ++ row (u ∷ v ∷ []) → (x ≡ u) × (y ≡ v)
two_same w {x} {y} {u} {v} h k i j e =
    let r = word_same w (x ∷ y ∷ []) (u ∷ v ∷ []) (h, (k, tt)) (i, (j, tt)) e in
    (head-eq_of_cons-eq r, head-eq_of_cons-eq (tail-eq_of_cons-eq r))

-- ── each is one line ──

digits_inside : (x : ℕ) → Each Inside (decimal x)
digits_inside x = each_map Digit Inside (λ b d e. omega arith) (decimal x) (decimal_digits x)

-- all bytes are above 0x0A
abbrev above : List ℕ → Bool
above [] = true
above (x ∷ l) = ltb 10 x && above l

word_inside : (w : List ℕ) → above w ≡ true → Each Inside w
word_inside [] e = tt
word_inside (x ∷ w) e = let h = ltb-true 10 x (both_left _ (above w) e) in (λ f. omega arith, word_inside w (both_right (ltb 10 x) _ e))

row_line : (xs : List ℕ) → IsLine (row xs)
unfolding row
row_line [] = record { body = []; ends = refl; inside = tt }
row_line (x ∷ xs) = line_after (32 ∷ decimal x) (row xs) (λ e. omega arith, digits_inside x) (row_line xs)

pub cabinets_line_lem : (n : ℕ) → IsLine (cabinets_line n)
unfolding cabinets_line
cabinets_line_lem n = line_after (bytes "cabinets") _ (word_inside (bytes "cabinets") refl) (row_line (n ∷ []))

pub refused_line_lem : (e r : ℕ) → IsLine (refused_line e r)
unfolding refused_line
refused_line_lem e r = line_after (bytes "refused") _ (word_inside (bytes "refused") refl) (row_line (e ∷ r ∷ []))

pub stopped_line_lem : (b r : ℕ) → IsLine (stopped_line b r)
unfolding stopped_line
stopped_line_lem b r = line_after (bytes "stopped") _ (word_inside (bytes "stopped") refl) (row_line (b ∷ r ∷ []))

messages_line_lem : (k : ℕ) → IsLine (messages_line k)
unfolding messages_line
messages_line_lem k = line_after (bytes "messages") _ (word_inside (bytes "messages") refl) (row_line (k ∷ []))

total_is_line : (w : List ℕ) (x : ℕ) → above w ≡ true → IsLine (total_line w x)
unfolding total_line
total_is_line w x e = line_after w _ (word_inside w e) (row_line (x ∷ []))

totals_lines : (s : State) → Each IsLine (total_lines s)
unfolding total_lines
totals_lines s = (total_is_line sent_word _ refl, (total_is_line delivered_word _ refl, (total_is_line lost_word _ refl, tt)))

nodes_lines : (i : ℕ) (cs : List Node) → Each IsLine (node_lines i cs)
unfolding node_lines node_line
nodes_lines i [] = tt
nodes_lines i (c ∷ cs) = (line_after (decimal i) _ (digits_inside i) (row_line _), nodes_lines (i + 1) cs)

pub table_lines_lem : (s : State) → Each IsLine (table_lines s)
unfolding table_lines
table_lines_lem s = each_append IsLine (node_lines 1 s.nodes) _ (nodes_lines 1 s.nodes) (messages_line_lem (length s.queue), totals_lines s)

-- ── a node ──

status_same : (a b : Status) → status_number a ≡ status_number b → a ≡ b
status_same a b e = sym (back a) ∙ ap (λ (n : ℕ). of n) e ∙ back b
  where
    of : ℕ → Status
    of zero = Down
    of (suc zero) = Election
    of (suc (suc zero)) = Reorganization
    of (suc (suc (suc n))) = Normal

    back : (s : Status) → of (status_number s) ≡ s
    back Down = refl
    back Election = refl
    back Reorganization = refl
    back Normal = refl

-- the numbers of a node's line behind its first
abbrev numbers : Node → List ℕ
numbers c = status_number c.status ∷ c.coordinator ∷ c.group.number ∷ c.task.number ∷ c.counter ∷ count c.members ∷ []

numbers_small : (c : Node) → SmallNode c → Each Small (numbers c)
numbers_small c f = let s = status_small c.status in (omega arith, (wide f.coordinator, (wide f.group, (wide f.task, (wide f.counter, (wide f.members, tt))))))

numbers_same : (c d : Node) → numbers c ≡ numbers d → SameShown c d
numbers_same c d e =
    let t1 = tail-eq_of_cons-eq e in
    let t2 = tail-eq_of_cons-eq t1 in
    let t3 = tail-eq_of_cons-eq t2 in
    let t4 = tail-eq_of_cons-eq t3 in
    let t5 = tail-eq_of_cons-eq t4 in
    record {
      status = status_same _ _ (head-eq_of_cons-eq e);
      coordinator = head-eq_of_cons-eq t1;
      group = head-eq_of_cons-eq t2;
      task = head-eq_of_cons-eq t3;
      counter = head-eq_of_cons-eq t4;
      members = head-eq_of_cons-eq t5;
    }

node_same : (i : ℕ) (c : Node) (j : ℕ) (d : Node) → Small i → SmallNode c → Small j → SmallNode d → node_line i c ≡ node_line j d → (i ≡ j) × SameShown c d
unfolding node_line
node_same i c j d h f k g e =
    let r = number_row i j (numbers c) (numbers d) h k e in
    (r.0, numbers_same c d (row_same (numbers c) (numbers d) (numbers_small c f) (numbers_small d g) r.1))

node_small : (n i : ℕ) (c : Node) → n ≤ 16 → node_in_range n i c ≡ true → SmallNode c
node_small n i c h e =
    let f = node_facts n i c e in
    let g : c.group.number ≤ 16777215 = ⊎_elim (λ e. omega arith) (λ e. omega arith) f.group in
    let m = count_within n c.members f.members.inside in
    record { coordinator = omega arith; group = omega arith; task = omega arith; counter = omega arith; members = omega arith }

-- ── a table ──

-- A line's first byte tells its kind: 109 of `messages`, at most 57 of a node's.
row_low : (xs : List ℕ) → get_or (row xs) 0 0 ≤ 57
unfolding row
row_low [] = omega arith
row_low (x ∷ xs) = omega arith

pub node_low : (i : ℕ) (c : Node) → get_or (node_line i c) 0 0 ≤ 57
unfolding node_line
node_low i c = first (decimal i) (decimal_digits i)
  where
    first : (a : List ℕ) → Each Digit a → get_or (a ++ row (numbers c)) 0 0 ≤ 57
    first [] f = row_low (numbers c)
    first (x ∷ a) f = f.0.1

not_messages : (i : ℕ) (c : Node) (k : ℕ) → node_line i c ≡ messages_line k → ⊥
unfolding messages_line
not_messages i c k e = let h = node_low i c in let f = ap (λ (l : List ℕ). get_or l 0 0) e in omega arith

-- two lists of records of which their lines show the same, and what comes behind them
record SameNodes (cs ds : List Node) (k j : ℕ) (xs ys : List (List ℕ)) : Type 0 where
  pub long : length cs ≡ length ds
  pub at : (q : ℕ) → q < length cs → SameShown (get_or cs q starting_node) (get_or ds q starting_node)
  pub waiting : k ≡ j
  pub behind : xs ≡ ys

more : (c d : Node) (cs ds : List Node) (k j : ℕ) (xs ys : List (List ℕ)) → SameShown c d → SameNodes cs ds k j xs ys → SameNodes (c ∷ cs) (d ∷ ds) k j xs ys
more c d cs ds k j xs ys h r = record { long = ap suc r.long; at = at; waiting = r.waiting; behind = r.behind }
  where
    at : (q : ℕ) → q < length (c ∷ cs) → SameShown (get_or (c ∷ cs) q starting_node) (get_or (d ∷ ds) q starting_node)
    at zero l = h
    at (suc q) l = r.at q (omega arith)

abbrev SmallNodes : List Node → Type 0
SmallNodes cs = (q : ℕ) → q < length cs → SmallNode (get_or cs q starting_node)

module _ (k j : ℕ) (u : Small k) (v : Small j) (xs ys : List (List ℕ)) where
  nodes_same : (i : ℕ) (cs ds : List Node) → i + length cs ≤ 2 ^ 32 → SmallNodes cs → SmallNodes ds → node_lines i cs ++ (messages_line k ∷ xs) ≡ node_lines i ds ++ (messages_line j ∷ ys) → SameNodes cs ds k j xs ys
  unfolding node_lines messages_line
  nodes_same i [] [] a f g e = record { long = refl; at = λ q l. absurd (omega arith); waiting = one_same (bytes "messages") u v (head-eq_of_cons-eq e); behind = tail-eq_of_cons-eq e }
  nodes_same i [] (d ∷ ds) a f g e = absurd (not_messages i d k (sym (head-eq_of_cons-eq e)))
  nodes_same i (c ∷ cs) [] a f g e = absurd (not_messages i c j (head-eq_of_cons-eq e))
  nodes_same i (c ∷ cs) (d ∷ ds) a f g e =
      more c d cs ds k j xs ys
      (node_same i c i d (omega arith) (f zero (omega arith)) (omega arith) (g zero (omega arith)) (head-eq_of_cons-eq e)).1
      (nodes_same (i + 1) cs ds (omega arith) (λ q l. f (suc q) (omega arith)) (λ q l. g (suc q) (omega arith)) (tail-eq_of_cons-eq e))

small_nodes : (s : State) → SmallTable s → SmallNodes s.nodes
small_nodes s f q l = let z : q + 1 - 1 ≡ q = omega arith in rw z at (f.node (q + 1) (omega arith) (omega (arith, f.long)))

total_same : (w : List ℕ) (x y : ℕ) → Small x → Small y → total_line w x ≡ total_line w y → x ≡ y
unfolding total_line
total_same w x y h k e = one_same w h k e

totals_same : (s t : State) → SmallTotals s → SmallTotals t → total_lines s ≡ total_lines t
    → (total s.sent ≡ total t.sent) × (total s.delivered ≡ total t.delivered) × (total s.lost ≡ total t.lost)
unfolding total_lines
totals_same s t f g e =
    let e1 = tail-eq_of_cons-eq e in
    let e2 = tail-eq_of_cons-eq e1 in
    (total_same sent_word _ _ f.sent g.sent (head-eq_of_cons-eq e), total_same delivered_word _ _ f.delivered g.delivered (head-eq_of_cons-eq e1), total_same lost_word _ _ f.lost g.lost (head-eq_of_cons-eq e2))

pub table_same : (s t : State) → SmallTable s → SmallTable t → table_lines s ≡ table_lines t → SameTable s t
unfolding table_lines
table_same s t f g e =
    let r =
    nodes_same (length s.queue) (length t.queue) (wide f.waiting) (wide g.waiting) (total_lines s) (total_lines t) 1 s.nodes t.nodes (omega (arith, f.long, f.n)) (small_nodes s f) (small_nodes t g) e
    in
    let u = totals_same s t f.totals g.totals r.behind in
    record {
      n = sym f.long ∙ r.long ∙ g.long;
      node = λ i l o. r.at (i - 1) (omega (arith, f.long));
      waiting = r.waiting;
      sent = u.0;
      delivered = u.1;
      lost = u.2;
    }

pub table_small : (s : State) → in_range s ≡ true → SmallTable s
table_small s e =
    let a = in_range_size s e in
    let b = in_range_totals s e in
    record {
      long = a.2;
      n = omega arith;
      node = λ i l h. node_small s.n i (node_at s i) a.1 (in_range_node s i e l h);
      waiting = omega arith;
      totals = record { sent = omega (arith, b.0); delivered = omega (arith, b.1); lost = omega (arith, b.2) };
    }

-- ── the claims ──

pub lines_determine : LinesDetermine
unfolding cabinets_line refused_line stopped_line messages_line turns_line
lines_determine =
    record {
      cabinets = λ n m h k. one_same (bytes "cabinets") (wide h) (wide k);
      refused = λ e r f q h i j k. two_same (bytes "refused") (wide h) (wide i) (wide j) (wide k);
      stopped = λ a r b q h i j k. two_same (bytes "stopped") (wide h) (wide i) (wide j) (wide k);
      messages = λ k j h i. one_same (bytes "messages") (wide h) (wide i);
      turns = λ k j h i. one_same (bytes "turns") (wide h) (wide i);
      totals = total_same;
      node = λ i c j d h f k g. node_same i c j d (wide h) f (wide k) g;
      table = λ s t f g e. table_same s t f g (joined_same (table_lines s) (table_lines t) (table_lines_lem s) (table_lines_lem t) e);
      whole = whole;
      node_in_range_lem = node_small;
      table_in_range = table_small;
    }
  where
    whole : (n m : ℕ) (s t : State) → n < 2 ^ 32 → m < 2 ^ 32 → SmallTable s → SmallTable t → joined (cabinets_line n ∷ table_lines s) ≡ joined (cabinets_line m ∷ table_lines t) → (n ≡ m) × SameTable s t
    whole n m s t h k f g e =
        let r = joined_same (cabinets_line n ∷ table_lines s) (cabinets_line m ∷ table_lines t) (cabinets_line_lem n, table_lines_lem s) (cabinets_line_lem m, table_lines_lem t) e in
        (one_same (bytes "cabinets") (wide h) (wide k) (head-eq_of_cons-eq r), table_same s t f g (tail-eq_of_cons-eq r))

pub buffer_kept : BufferKept
buffer_kept = record { before = printed_before; long = printed_long }

is_total : (w : List ℕ) (x : ℕ) → Small x → IsTotal w x (total_line w x)
unfolding total_line row
is_total w x h = record { number = decimal x; denotes = decimal_denotes x h; whole = refl }

ends_with_totals : (s : State) → SmallTotals s → EndsWithTotals s
unfolding table_lines total_lines
ends_with_totals s f =
    record {
      sent = total_line sent_word (total s.sent);
      delivered = total_line delivered_word (total s.delivered);
      lost = total_line lost_word (total s.lost);
      ends = sym (append_assoc (node_lines 1 s.nodes) (messages_line (length s.queue) ∷ []) (total_lines s));
      is_sent = is_total sent_word (total s.sent) f.sent;
      is_delivered = is_total delivered_word (total s.delivered) f.delivered;
      is_lost = is_total lost_word (total s.lost) f.lost;
    }

pub totals_denote : TotalsDenote
totals_denote = record { ends = ends_with_totals; small = total_fits }
