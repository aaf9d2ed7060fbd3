-- The text: its lines, how many bytes it can have, what is refused, and that it tells the transitions.
use Prim.Native.Nat.{ℕ, zero, suc, ◌+◌, ◌-◌, ◌*◌, ◌^◌, ◌≤◌, ◌<◌}
use native.Mathlib.Omega.{arith}
use mathlib.Core.Bool.{Bool, true, false}
use mathlib.Core.Path.{◌≡◌, refl, ◌∙◌, ap, subst}
use mathlib.Core.List.{List, [], ◌∷◌, ◌++◌, map, head-eq_of_cons-eq, tail-eq_of_cons-eq}
use lib.ListN.{length, take, get_or, length-append}
use Rattle.model.specs.Limits.{tower}
use Rattle.model.specs.Pick.{pick, pick_true, pick_false}
use Rattle.model.specs.State.{State, start}
use Rattle.model.specs.declared.Event.{Event}
use Rattle.listing.specs.Ascii.{bytes}
use Rattle.listing.specs.Decimal.{digits, decimal}
use Rattle.listing.specs.Lines.{row, stopped_line}
use Rattle.listing.specs.Printing.{joined}
use Rattle.listing.proofs.Decimal.{decimal_32_long, decimal_denotes}
use Rattle.listing.proofs.Parted.{Each, Stops, each_map, parted, Inside, IsLine, line_after, joined_same}
use Rattle.listing.proofs.Claims.{decimal_same}
use Rattle.short_lists_text.specs.Rows.{All}
use Rattle.short_lists_text.specs.Lists.{up_from, lists_from, is_accepted}
use Rattle.short_lists_text.specs.Claims.{FitsBytes}
use Rattle.short_lists_text.proofs.Few.{of_three}
use Rattle.short_lists_text.proofs.Refuses.{not_two, no_nodes, too_many, too_long, allowed, fits_are, first_three}
use Rattle.short_lists_text.proofs.Bytes.{accepted_fits}
use Rattle.short_lists_text.proofs.Lines.{Digit, decimal_digits, fits_small, all_of_each}
use Rattle.short_lists_text.proofs.Rows.{all_weaken}
use Rattle.aldebaran_text.specs.System.{states, Transition, transition, transitions}
use Rattle.aldebaran_text.specs.Text.{label, first_line, transition_line, states_of, lines_of, fits, refusal_text, text_of}
use Rattle.aldebaran_text.specs.Claims.{transition_at, IsFirstLine, IsLineOf, OneLine, Small, SystemText, TransitionLinesDetermine, TextLength, RefusedInputs}
use Rattle.aldebaran_text.proofs.Transitions.{all_transitions}
use Rattle.aldebaran_text.proofs.Labels.{Quotable, label_quotable, label_distinct, label_short}
use Rattle.aldebaran_text.proofs.Cases.{aldebaran_cases}

-- ── how many states ──

grow : (m k : ℕ) (s : State) → length (states m s) ≤ length (states (m + k) s)
unfolding states
grow m zero s = let z : m + 0 ≡ m = omega arith in rw z (omega arith)
grow m (suc k) s = let z : m + suc k ≡ suc (m + k) = omega arith in let h = grow m k s in rw z (omega (arith, h, length-append (states (m + k) s) (lists_from (suc (m + k)) s)))

up_to_four : (m : ℕ) (s : State) → m ≤ 4 → length (states m s) ≤ length (states 4 s)
up_to_four m s h = let z : m + (4 - m) ≡ 4 = omega arith in subst (λ k. length (states m s) ≤ length (states k s)) z (grow m (4 - m) s)

of_four : (n : ℕ) → 1 ≤ n → n ≤ 3 → length (states 4 (start n tower)) ≤ 601
unfolding up_from
of_four =
    of_three (λ n. length (states 4 (start n tower)) ≤ 601)
    (let e = ap (λ l. get_or l 4 0) aldebaran_cases.states_of_one in omega (arith, e))
    (let e = ap (λ l. get_or l 4 0) aldebaran_cases.states_of_two in omega (arith, e))
    (let e = ap (λ l. get_or l 4 0) aldebaran_cases.states_of_three in omega (arith, e))

pub few : (n m : ℕ) → 1 ≤ n → n ≤ 3 → m ≤ 4 → length (states m (start n tower)) ≤ 601
few n m p q h = let a = up_to_four m (start n tower) h in let b = of_four n p q in omega arith

-- ── the text of an allowed input ──

pub text_lines : (n m : ℕ) → 1 ≤ n → n ≤ 3 → m ≤ 4 → text_of (n ∷ m ∷ []) ≡ joined (lines_of (states m (start n tower)))
unfolding text_of
text_lines n m p q h = rw (allowed 4 n m p q h, pick_true)

-- ── its transitions ──

all_places : {A : Type 0} (P : A → Type 0) (d : A) (xs : List A) → ((k : ℕ) → k < length xs → P (get_or xs k d)) → All P xs
all_places P d [] f = tt
all_places P d (x ∷ xs) f = (f 0 (omega arith), all_places P d xs (λ k h. f (suc k) (omega arith)))

-- the numbers fit: source and target are states, and the event is accepted
record Fits (x : Transition) : Type 0 where
  pub source : x.source < 601
  pub event : FitsBytes x.event
  pub target : x.target < 601

transitions_fit : (n m : ℕ) → 1 ≤ n → n ≤ 3 → m ≤ 4 → All Fits (transitions (states m (start n tower)))
transitions_fit n m p q h = all_places Fits _ (transitions (states m (start n tower))) fit
  where
    fit : (k : ℕ) → k < length (transitions (states m (start n tower))) → Fits (transition_at m (start n tower) k)
    fit k l =
        let t = all_transitions m (start n tower) in
        let x = t.each k l in
        let c = t.count in
        let f = few n m p q h in
        let e = x.target in
        let b = x.smaller in
        record { source = omega arith; event = accepted_fits _ _ (ap is_accepted x.accepts.is); target = omega arith }

all_weak : (xs : List Transition) → All Fits xs → All Small xs
all_weak [] a = tt
all_weak (x ∷ xs) a =
    let f = a.0 in
    let s = f.source in
    let t = f.target in
    (record { source = omega (arith, s); event = fits_small x.event f.event; target = omega (arith, t) }, all_weak xs a.1)

-- ── how many bytes ──

first_short : (t s : ℕ) → t < 2 ^ 32 → s < 2 ^ 32 → length (first_line t s) ≤ 32
unfolding first_line
first_short t s g h =
    let a = decimal_32_long t g in
    let b = decimal_32_long s h in
    simp length-append (omega arith)

line_short : (x : Transition) → Fits x → length (transition_line x) ≤ 45
unfolding transition_line
line_short x f =
    let s = f.source in
    let t = f.target in
    let a = decimal_32_long x.source (omega (arith, s)) in
    let b = decimal_32_long x.target (omega (arith, t)) in
    let c = label_short x.event f.event in
    simp length-append (omega arith)

lines_short : (xs : List Transition) → All Fits xs → length (joined (map transition_line xs)) ≤ 45 * length xs
unfolding joined
lines_short [] a = omega arith
lines_short (x ∷ xs) a =
    let h = line_short x a.0 in
    let r = lines_short xs a.1 in
    omega (arith, h, r, length-append (transition_line x) (joined (map transition_line xs)))

allowed_short : (n m : ℕ) → 1 ≤ n → n ≤ 3 → m ≤ 4 → length (joined (lines_of (states m (start n tower)))) ≤ 32768
unfolding joined
allowed_short n m p q h =
    let c = (all_transitions m (start n tower)).count in
    let f = few n m p q h in
    let a = first_short (length (transitions (states m (start n tower)))) (length (states m (start n tower))) (omega arith) (omega arith) in
    let b = lines_short (transitions (states m (start n tower))) (transitions_fit n m p q h) in
    omega (arith, a, b, c, f, length-append (first_line (length (transitions (states m (start n tower)))) (length (states m (start n tower)))) (joined (map transition_line (transitions (states m (start n tower))))))

pub stopped : refusal_text ≡ bytes "stopped 0 22\n"
unfolding stopped_line row decimal digits pick
stopped = refl

refusal_short : length refusal_text ≤ 32768
refusal_short = rw stopped (omega arith)

refusal_some : 1 ≤ length refusal_text
refusal_some = rw stopped (omega arith)

lines_some : (ls : List (List Event)) → 1 ≤ length (joined (lines_of ls))
unfolding joined first_line
lines_some ls = omega arith

most : (l : List ℕ) → length (text_of l) ≤ 32768
unfolding text_of
most l = by (fits l) refl
  where
    by : (t : Bool) → fits l ≡ t → length (pick (fits l) (joined (lines_of (states (get_or l 1 0) (start (get_or l 0 0) tower)))) refusal_text) ≤ 32768
    by true q = let f = fits_are 4 l q in rw (q, pick_true) (allowed_short (get_or l 0 0) (get_or l 1 0) f.0 f.1 f.2)
    by false q = rw (q, pick_false) refusal_short

pub text_length : TextLength
text_length = record { most = most }

-- ── what is refused ──

by_fits : (l : List ℕ) → fits l ≡ false → text_of l ≡ bytes "stopped 0 22\n"
unfolding text_of
by_fits l q = rw (q, pick_false) stopped

same_text : (l : List ℕ) → text_of (take 3 l) ≡ text_of l
unfolding text_of
same_text l = first_three 4 (λ n m. joined (lines_of (states m (start n tower)))) refusal_text l

pub refused_inputs : RefusedInputs
refused_inputs = record {
  not_two = λ l d. by_fits l (not_two 4 l d);
  no_nodes = λ m. by_fits (0 ∷ m ∷ []) (no_nodes 4 m);
  too_many = λ n m h. by_fits (n ∷ m ∷ []) (too_many 4 n m h);
  too_long = λ n m h. by_fits (n ∷ m ∷ []) (too_long 4 n m h);
  first_three = same_text;
}

-- no text is empty
pub text_some : (l : List ℕ) → 1 ≤ length (text_of l)
unfolding text_of
text_some l = by (fits l) refl
  where
    by : (t : Bool) → fits l ≡ t → 1 ≤ length (pick (fits l) (joined (lines_of (states (get_or l 1 0) (start (get_or l 0 0) tower)))) refusal_text)
    by true q = rw (q, pick_true) (lines_some (states (get_or l 1 0) (start (get_or l 0 0) tower)))
    by false q = rw (q, pick_false) refusal_some

-- ── what it tells ──

-- from decimals that something else follows their number, and what follows
number_tells : (x y : ℕ) (u v : List ℕ) → x < 2 ^ 32 → y < 2 ^ 32 → Stops Digit u → Stops Digit v → decimal x ++ u ≡ decimal y ++ v → (x ≡ y) × (u ≡ v)
number_tells x y u v g h a b q =
    let r = parted Digit (decimal x) (decimal y) (decimal_digits x) (decimal_digits y) a b q in
    (decimal_same x y (omega arith) (omega arith) r.0, r.1)

three_off : {a b c : ℕ} {u v : List ℕ} → a ∷ b ∷ c ∷ u ≡ a ∷ b ∷ c ∷ v → u ≡ v
three_off q = tail-eq_of_cons-eq (tail-eq_of_cons-eq (tail-eq_of_cons-eq q))

eight_off : {a b c d e f g h : ℕ} {u v : List ℕ} → a ∷ b ∷ c ∷ d ∷ e ∷ f ∷ g ∷ h ∷ u ≡ a ∷ b ∷ c ∷ d ∷ e ∷ f ∷ g ∷ h ∷ v → u ≡ v
eight_off q = tail-eq_of_cons-eq (tail-eq_of_cons-eq (three_off (three_off q)))

line_tells : (x y : Transition) → Small x → Small y → transition_line x ≡ transition_line y → x ≡ y
unfolding transition_line
line_tells x y f g q =
    let a = number_tells x.source y.source _ _ f.source g.source (λ d. omega arith) (λ d. omega arith) (tail-eq_of_cons-eq q) in
    let b = parted Quotable (label x.event) (label y.event) (label_quotable x.event) (label_quotable y.event) (λ d. d.0 refl) (λ d. d.0 refl) (three_off a.1) in
    let c = number_tells x.target y.target _ _ f.target g.target (λ d. omega arith) (λ d. omega arith) (three_off b.1) in
    same x y a.0 (label_distinct x.event y.event f.event g.event b.0) c.0
  where
    same : (x y : Transition) → x.source ≡ y.source → x.event ≡ y.event → x.target ≡ y.target → x ≡ y
    same x y p q r = ap (λ a. transition a x.event x.target) p ∙ (ap (λ e. transition y.source e x.target) q ∙ ap (λ b. transition y.source y.event b) r)

pub is_line : (x : Transition) → IsLine (transition_line x)
unfolding transition_line
is_line x =
    let digit : (n : ℕ) → Each Inside (decimal n) = λ n. each_map Digit Inside (λ b d q. omega arith) (decimal n) (decimal_digits n) in
    let inside : Each Inside (label x.event) = each_map Quotable Inside (λ b d. d.1) (label x.event) (label_quotable x.event) in
    line_after (bytes "(") _ (omega arith)
    (line_after (decimal x.source) _ (digit x.source)
    (line_after (bytes ", \"") _ (omega arith)
    (line_after (label x.event) _ inside
    (line_after (bytes "\", ") _ (omega arith)
    (line_after (decimal x.target) _ (digit x.target) (record { body = bytes ")"; ends = refl; inside = omega arith }))))))

are_lines : (xs : List Transition) → Each IsLine (map transition_line xs)
are_lines [] = tt
are_lines (x ∷ xs) = (is_line x, are_lines xs)

lines_tell : (xs ys : List Transition) → All Small xs → All Small ys → map transition_line xs ≡ map transition_line ys → xs ≡ ys
lines_tell [] [] a b q = refl
lines_tell [] (y ∷ ys) a b q = let z = ap length q in absurd (omega arith)
lines_tell (x ∷ xs) [] a b q = let z = ap length q in absurd (omega arith)
lines_tell (x ∷ xs) (y ∷ ys) a b q =
    let h = line_tells x y a.0 b.0 (head-eq_of_cons-eq q) in
    let t = lines_tell xs ys a.1 b.1 (tail-eq_of_cons-eq q) in
    rw (h, t)

-- ── its lines, and what they tell ──

is_first : (t s : ℕ) → t < 2 ^ 32 → s < 2 ^ 32 → IsFirstLine t s (first_line t s)
unfolding first_line
is_first t s g h = record { transitions = decimal t; states = decimal s; denotes_t = decimal_denotes t (omega arith); denotes_s = decimal_denotes s (omega arith); whole = refl }

is_line_of : (x : Transition) → Small x → IsLineOf x (transition_line x)
unfolding transition_line
is_line_of x f =
    let a = f.source in
    let b = f.target in
    record { source = decimal x.source; target = decimal x.target; denotes_a = decimal_denotes x.source (omega arith); denotes_b = decimal_denotes x.target (omega arith); whole = refl }

all_small : (n m : ℕ) → 1 ≤ n → n ≤ 3 → m ≤ 4 → All Small (transitions (states m (start n tower)))
all_small n m p q h = all_weak (transitions (states m (start n tower))) (transitions_fit n m p q h)

first_is : (n m : ℕ) → 1 ≤ n → n ≤ 3 → m ≤ 4 → IsFirstLine (length (transitions (states_of n m))) (length (states_of n m)) (first_line (length (transitions (states_of n m))) (length (states_of n m)))
first_is n m p q h =
    let c = (all_transitions m (start n tower)).count in
    let f = few n m p q h in
    is_first _ _ (omega arith) (omega arith)

pub system_text : SystemText
unfolding joined
system_text = record {
  lines = text_lines;
  first = first_is;
  each = λ n m p q h. all_weaken Small (λ x. IsLineOf x (transition_line x)) (transitions (states_of n m)) is_line_of (all_small n m p q h);
  few = few;
  small = all_small;
}

first_line_is : (t s : ℕ) → IsLine (first_line t s)
unfolding first_line
first_line_is t s =
    let digit : (n : ℕ) → Each Inside (decimal n) = λ n. each_map Digit Inside (λ b d q. omega arith) (decimal n) (decimal_digits n) in
    line_after (bytes "des (0, ") _ (omega arith)
    (line_after (decimal t) _ (digit t) (line_after (bytes ", ") _ (omega arith) (line_after (decimal s) _ (digit s) (record { body = bytes ")"; ends = refl; inside = omega arith }))))

one_line : {l : List ℕ} → IsLine l → OneLine l
one_line x = record { body = x.body; ends = x.ends; inside = all_of_each Inside x.body x.inside }

first_tells : (t s u v : ℕ) → t < 2 ^ 32 → s < 2 ^ 32 → u < 2 ^ 32 → v < 2 ^ 32 → first_line t s ≡ first_line u v → (t ≡ u) × (s ≡ v)
unfolding first_line
first_tells t s u v a b c d q =
    let x = number_tells t u _ _ a c (λ e. omega arith) (λ e. omega arith) (eight_off q) in
    let y = number_tells s v _ _ b d (λ e. omega arith) (λ e. omega arith) (tail-eq_of_cons-eq (tail-eq_of_cons-eq x.1)) in
    (x.0, y.0)

text_tells : (t s u v : ℕ) (xs ys : List Transition) → t < 2 ^ 32 → s < 2 ^ 32 → u < 2 ^ 32 → v < 2 ^ 32 → All Small xs → All Small ys
    → first_line t s ++ joined (map transition_line xs) ≡ first_line u v ++ joined (map transition_line ys) → (t ≡ u) × (s ≡ v) × (xs ≡ ys)
unfolding joined
text_tells t s u v xs ys a b c d e f q =
    let r = joined_same (first_line t s ∷ map transition_line xs) (first_line u v ∷ map transition_line ys) (first_line_is t s, are_lines xs) (first_line_is u v, are_lines ys) q in
    let h = first_tells t s u v a b c d (head-eq_of_cons-eq r) in
    (h.0, h.1, lines_tell xs ys e f (tail-eq_of_cons-eq r))

pub transition_lines_determine : TransitionLinesDetermine
transition_lines_determine = record {
  one_line = λ x. one_line (is_line x);
  first_one_line = λ t s. one_line (first_line_is t s);
  line = line_tells;
  text = text_tells;
}
