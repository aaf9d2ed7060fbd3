-- No mutant prints the text: it is computed, and a byte of the mutant's stands against it.
use Prim.Native.Nat.{ℕ, zero, suc, ◌+◌, ◌/◌, ◌%◌, ◌≤◌}
use native.Mathlib.Omega.{arith}
use mathlib.Core.Path.{◌≡◌, refl, sym, ◌∙◌, ap}
use mathlib.Core.Bool.{Bool}
use mathlib.Core.List.{List, [], ◌∷◌, ◌++◌, append_assoc, append_cancel_left}
use lib.Dec.{ltb}
use lib.ListN.{length, get_or, drop, length-append}
use borrow.Author.Tests.{le-leb, ltb-true}
use Rattle.model.specs.Pick.{pick, by_test, pick_true}
use lib.Count.{ones_in, ones, count_leading_zeros}
use Rattle.model.specs.Limits.{tower}
use Rattle.model.specs.React.{react}
use Rattle.model.specs.State.{node_at}
use Rattle.model.specs.Grounds.{judged}
use Rattle.model.specs.Step.{reaction_to, remaining, effect, grounds, run}
use Rattle.model.specs.Answers.{status_number}
use Rattle.model.specs.declared.Limits.{Limits}
use Rattle.model.specs.declared.Node.{Node}
use Rattle.event_list.specs.Format.{length_of, cut_short, checked, event_of, next_at, limits_of, nodes_of, first_of, read_from, rest, Reading, begun, reading}
use Rattle.listing.specs.Decimal.{digits, decimal}
use Rattle.listing.specs.Lines.{row, cabinets_line, refused_line, stopped_line, node_line, messages_line, node_lines, table_lines, total_line, total_lines}
use Rattle.model.specs.Counts.{total}
use Rattle.std.specs.Prelude.{Ok}
use Rattle.listing.specs.Printing.{refused, joined}
use Rattle.run_list.specs.Text.{note_lines, text_of}
use Rattle.event_list.specs.Cases.{nodes, recover}
use Rattle.listing.specs.Ascii.{bytes}
use Rattle.run_list.specs.Cases.{k10_list}
use Rattle.run_list.specs.Mutants.{Holds, by_print, by_whole, spaced, before_count, NoMutantText}
use Rattle.listing.proofs.Decimal.{decimal_each}
use Rattle.listing.proofs.Parted.{each_at, parted}
use Rattle.run_list.specs.Claims.{lines_before, lines_behind}
use Rattle.run_list.proofs.Behind.{behind}
use Rattle.run_list.proofs.Cases.{quick_text, list_cases}

-- ── the texts ──

record Texts : Type 0 where
  refused : text_of (nodes 2 ++ (recover 1 ++ recover 1)) ≡ bytes "cabinets 2\nrefused 2 9\n1 3 1 16 1 1 0\n2 0 0 0 0 0 0\nmessages 0\nsent 0\ndelivered 0\nlost 0\n"
  stopped : text_of (nodes 2 ++ (0x11 ∷ [])) ≡ bytes "cabinets 2\nstopped 4 3\n1 0 0 0 0 0 0\n2 0 0 0 0 0 0\nmessages 0\nsent 0\ndelivered 0\nlost 0\n"

texts : Texts
unfolding pick ones_in ones count_leading_zeros react reaction_to remaining effect grounds judged length_of cut_short checked event_of next_at limits_of nodes_of first_of read_from rest reading digits decimal row cabinets_line refused_line stopped_line node_line messages_line total_line total_lines total node_lines table_lines joined note_lines
texts = record { refused = quick_text (nodes 2 ++ (recover 1 ++ recover 1)) 2 tower refl (omega arith); stopped = quick_text (nodes 2 ++ (0x11 ∷ [])) 2 tower refl (omega arith) }

-- the buffer begins with the text x
record Begins (o x : List ℕ) : Type 0 where
  behind : List ℕ
  whole : o ≡ x ++ behind

begins : (l o x : List ℕ) → Holds l o → text_of l ≡ x → Begins o x
begins l o x (by_print {b} p h) e = record { behind = drop (length (text_of l)) b; whole = p.whole h ∙ ap (λ (z : List ℕ). z ++ drop (length (text_of l)) b) e }
begins l o x (by_whole {b} {r} w) e = record { behind = drop r b; whole = w.bytes ∙ ap (λ (z : List ℕ). z ++ drop r b) e }

-- two texts with different bytes at k
apart : (o x y : List ℕ) (k a b : ℕ) → o ≡ x → o ≡ y → get_or x k 0 ≡ a → get_or y k 0 ≡ b → (a ≡ b → ⊥) → ⊥
apart o x y k a b e f p q d = d (sym p ∙ ap (λ (l : List ℕ). get_or l k 0) (sym e ∙ f) ∙ q)

-- ── digits ──

-- each byte is at least the digit 0
abbrev Numeral : List ℕ → Type 0
Numeral [] = Unit {0}
Numeral (d ∷ ds) = (48 ≤ d) × Numeral ds

digits_last : (l : List ℕ) (d : ℕ) → Numeral l → 48 ≤ d → Numeral (l ++ (d ∷ []))
digits_last [] d h g = (g, tt)
digits_last (x ∷ l) d h g = (h.0, digits_last l d h.1 g)

all_digits : (p x : ℕ) → Numeral (digits p x)
unfolding digits
all_digits zero x = tt
all_digits (suc p) x = digits_last (pick (ltb x 10) [] (digits p (x / 10))) (48 + x % 10) (by_test Numeral (λ _. tt) (λ _. all_digits p (x / 10))) (omega arith)

some_digits : (p x : ℕ) → 1 ≤ length (digits (suc p) x)
unfolding digits
some_digits p x = simp length-append (omega arith)

-- a second digit is no line's end
second : (l y : List ℕ) (d w : ℕ) (v : List ℕ) → 1 ≤ length l → Numeral (l ++ (d ∷ [])) → (l ++ (d ∷ [])) ++ (10 ∷ y) ≡ w ∷ 10 ∷ v → ⊥
second [] y d w v h g e = omega arith
second (a ∷ []) y d w v h g e = let z : d ≡ 10 = cc in omega (arith, g.1.0)
second (a ∷ b ∷ l) y d w v h g e = let z : b ≡ 10 = cc in omega (arith, g.1.0)

-- the number that stands before a line's end as the digit 1 alone is 1
one_alone : (k : ℕ) (y v : List ℕ) → decimal k ++ (10 ∷ y) ≡ 49 ∷ 10 ∷ v → k ≡ 1
unfolding decimal digits
one_alone k y v =
    by_test (λ (l : List ℕ). Numeral (l ++ ((48 + k % 10) ∷ [])) → (l ++ ((48 + k % 10) ∷ [])) ++ (10 ∷ y) ≡ 49 ∷ 10 ∷ v → k ≡ 1)
    (λ t g e. let z : 48 + k % 10 ≡ 49 = cc in let s = ltb-true k 10 t in omega arith)
    (λ t g e. absurd (second (digits 19 (k / 10)) y (48 + k % 10) 49 v (some_digits 18 (k / 10)) g e))
    (all_digits 20 k)

-- ── the count of members, of any list and any node ──

joined_parts : (xs ys : List (List ℕ)) → joined (xs ++ ys) ≡ joined xs ++ joined ys
unfolding joined
joined_parts [] ys = refl
joined_parts (x ∷ xs) ys = ap (λ (z : List ℕ). x ++ z) (joined_parts xs ys) ∙ sym (append_assoc x (joined xs) (joined ys))

-- numbers and a last one
row_last : (xs : List ℕ) (k : ℕ) → row (xs ++ (k ∷ [])) ≡ spaced xs ++ (bytes " " ++ (decimal k ++ bytes "\n"))
unfolding row spaced
row_last [] k = refl
row_last (x ∷ xs) k =
    ap (λ (z : List ℕ). bytes " " ++ (decimal x ++ z)) (row_last xs k)
    ∙ ap (λ (z : List ℕ). bytes " " ++ z) (sym (append_assoc (decimal x) (spaced xs) (bytes " " ++ (decimal k ++ bytes "\n"))))

-- a node's line, the last number apart
record Counted (i : ℕ) (c : Node) : Type 0 where
  number : ℕ
  line : node_line i c ≡ before_count i c ++ (decimal number ++ (10 ∷ []))

line_counted : (i : ℕ) (c : Node) → Counted i c
unfolding node_line
line_counted i c = record { number = _; line = parts (decimal i) (status_number c.status ∷ c.coordinator ∷ c.group.number ∷ c.task.number ∷ c.counter ∷ []) _ }
  where
    parts : (a xs : List ℕ) (k : ℕ) → a ++ row (xs ++ (k ∷ [])) ≡ (a ++ (spaced xs ++ bytes " ")) ++ (decimal k ++ (10 ∷ []))
    parts a xs k =
        ap (λ (w : List ℕ). a ++ w) (row_last xs k ∙ sym (append_assoc (spaced xs) (bytes " ") (decimal k ++ (10 ∷ []))))
        ∙ sym (append_assoc a (spaced xs ++ bytes " ") (decimal k ++ (10 ∷ [])))

-- digits end at the line's end
abbrev Digit : ℕ → Type 0
Digit b = (48 ≤ b) × (b ≤ 57)

digits_end : (x y : ℕ) (u v : List ℕ) → decimal x ++ (10 ∷ u) ≡ decimal y ++ (10 ∷ v) → decimal x ≡ decimal y
digits_end x y u v e =
    (parted Digit (decimal x) (decimal y) (each_at Digit (decimal x) (decimal_each x)) (each_at Digit (decimal y) (decimal_each y)) (λ d. omega (arith, d.0)) (λ d. omega (arith, d.0)) e).0

-- p, the line of p's node and bytes z behind it, against p, what comes before the count, the digits of k and bytes y
counted_same : (i : ℕ) (c : Node) (k : ℕ) (p y z : List ℕ) → p ++ (node_line i c ++ z) ≡ p ++ (before_count i c ++ (decimal k ++ (10 ∷ y)))
    → node_line i c ≡ before_count i c ++ (decimal k ++ (10 ∷ []))
counted_same i c k p y z e =
    let q = line_counted i c in
    let f : before_count i c ++ (decimal q.number ++ (10 ∷ z)) ≡ before_count i c ++ (decimal k ++ (10 ∷ y)) =
    ap (λ (w : List ℕ). before_count i c ++ w) (sym (append_assoc (decimal q.number) (10 ∷ []) z))
    ∙ sym (append_assoc (before_count i c) (decimal q.number ++ (10 ∷ [])) z)
    ∙ ap (λ (w : List ℕ). w ++ z) (sym q.line)
    ∙ append_cancel_left p _ _ e
    in
    q.line ∙ ap (λ (w : List ℕ). before_count i c ++ (w ++ (10 ∷ []))) (digits_end q.number k z y (append_cancel_left (before_count i c) _ _ f))

-- the text of a list up to the line of node i, that line, and the rest
text_parts : (l : List ℕ) (n : ℕ) (lim : Limits) (r : Reading) (i : ℕ) → reading l ≡ begun n lim r → 1 ≤ i → i ≤ n
    → text_of l ≡ joined (lines_before n lim r i) ++ (node_line i (node_at (run n lim r.events) i) ++ joined (lines_behind n lim r i))
unfolding joined
text_parts l n lim r i e low high = ap joined ((behind l n lim r e).node_line_lem i low high) ∙ joined_parts (lines_before n lim r i) (node_line i (node_at (run n lim r.events) i) ∷ lines_behind n lim r i)

pub no_mutant_text : NoMutantText
no_mutant_text =
    record {
      turns_away = λ o y h e. let t = begins _ o _ h list_cases.k10 in apart o _ _ 11 49 114 t.whole e refl refl (λ z. omega arith);
      same_table = λ o y h e. let t = begins _ o _ h list_cases.k10 in apart o _ _ 13 51 48 t.whole e refl refl (λ z. omega arith);
      idles = λ o y h e. let t = begins _ o _ h list_cases.k10 in apart o _ _ 15 50 49 t.whole e refl refl (λ z. omega arith);
      idles_last = λ o y h e. let t = begins _ o _ h list_cases.k10 in apart o _ _ 30 51 50 t.whole e refl refl (λ z. omega arith);
      thin_air = λ l o y n lim r i k e low high h f d.
          let t = begins l o (text_of l) h refl in
          let x = text_parts l n lim r i e low high in
          d (counted_same i (node_at (run n lim r.events) i) k (joined (lines_before n lim r i)) y (joined (lines_behind n lim r i) ++ t.behind)
          (ap (λ (w : List ℕ). joined (lines_before n lim r i) ++ w) (sym (append_assoc (node_line i (node_at (run n lim r.events) i)) (joined (lines_behind n lim r i)) t.behind))
          ∙ sym (append_assoc (joined (lines_before n lim r i)) (node_line i (node_at (run n lim r.events) i) ++ joined (lines_behind n lim r i)) t.behind)
          ∙ ap (λ (w : List ℕ). w ++ t.behind) (sym x)
          ∙ sym t.whole
          ∙ f));
      thin_one = λ o y k h e d. let t = begins _ o _ h list_cases.k10 in d (one_alone k y _ (ap (drop 43) (sym e ∙ t.whole)));
      from_zero = λ o y h e. let t = begins _ o _ h texts.refused in apart o _ _ 19 50 49 t.whole e refl refl (λ z. omega arith);
      next_ground = λ o y h e. let t = begins _ o _ h texts.refused in apart o _ _ 21 57 49 t.whole e refl refl (λ z. omega arith);
      stops_elsewhere = λ o y h e. let t = begins _ o _ h texts.stopped in apart o _ _ 19 52 48 t.whole e refl refl (λ z. omega arith);
      no_room = λ b o {a} p h e. apart_answers (sym (p.answer ∙ ap (λ (t : Bool). pick t (Ok (length (text_of k10_list))) refused) (le-leb _ _ h) ∙ pick_true _ _) ∙ e);
    }
  where
    apart_answers : {k : ℕ} → Ok k ≡ refused → ⊥
    apart_answers e = let z : ◌≡◌ {A = ℕ} 0 1 = cc in omega arith
