-- Records compared: `same_node` tells them apart, the trace shows what the bench shows, and an event changes one at most.
use Prim.Native.Nat.{ℕ, zero, suc, ◌+◌, ◌-◌, ◌≤◌}
use native.Mathlib.Omega.{arith}
use mathlib.Core.Bool.{Bool, true, false, true≢false}
use mathlib.Core.Path.{◌≡◌, refl, sym, ◌∙◌, ap}
use mathlib.Core.List.{List, [], ◌∷◌, ◌++◌, append_assoc}
use lib.Dec.{eqb}
use lib.ListN.{length, get_or, drop, set}
use borrow.Author.Tests.{eqb-true, eq-eqb}
use Rattle.model.specs.Pick.{pick}
use Rattle.model.specs.Answers.{status_number}
use Rattle.model.specs.Step.{actor, reaction_to, effect}
use Rattle.model.specs.declared.Status.{Status}
use Rattle.model.specs.declared.Status.TheVariants.{Down, Election, Reorganization, Normal}
use Rattle.model.specs.declared.Activity.{Activity}
use Rattle.model.specs.declared.Activity.TheVariants.{Idle, Asking, Waiting, Inviting, Collecting, Handing, Contacting, Forwarding, Accepting}
use Rattle.model.specs.declared.Node.{Node}
use Rattle.model.proofs.Local.{both_left, both_right}
use Rattle.listing.specs.Ascii.{bytes}
use Rattle.listing.specs.Decimal.{decimal}
use Rattle.listing.specs.Lines.{row, node_line}
use Rattle.short_lists_text.specs.Text.{spaced}
use Rattle.list_text.specs.Words.{same}
use Rattle.trace_text.specs.Words.{record_line, activity_numbers, shown_numbers, node_numbers, same_node}
use Rattle.trace_text.specs.Trace.{changed_lines}
use Rattle.trace_text.specs.Claims.{SameRecords, ShownAsBench, OneRecord}

-- ── numbers compared ──

same_numbers : (xs ys : List ℕ) → same xs ys ≡ true → xs ≡ ys
unfolding same
same_numbers [] [] e = refl
same_numbers [] (y ∷ ys) e = absurd (true≢false (sym e))
same_numbers (x ∷ xs) [] e = absurd (true≢false (sym e))
same_numbers (x ∷ xs) (y ∷ ys) e =
    let h = eqb-true x y (both_left (eqb x y) (same xs ys) e) in
    let t = same_numbers xs ys (both_right (eqb x y) (same xs ys) e) in
    rw (h, t)

same_itself : (xs : List ℕ) → same xs xs ≡ true
unfolding same
same_itself [] = refl
same_itself (x ∷ xs) = rw (eq-eqb x x refl, same_itself xs)

-- ── a record back from its numbers ──

unfoldable status_of : ℕ → Status
status_of k = pick (eqb k 0) Down (pick (eqb k 1) Election (pick (eqb k 2) Reorganization Normal))

status_back : (s : Status) → status_of (status_number s) ≡ s
unfolding status_of pick
status_back Down = refl
status_back Election = refl
status_back Reorganization = refl
status_back Normal = refl

-- which activity it is, and what it needs to go on
unfoldable activity_of : ℕ → ℕ → ℕ → ℕ → ℕ → Activity
activity_of k a b c d =
    pick (eqb k 0) Idle
    (pick (eqb k 1) (Asking a b)
    (pick (eqb k 2) (Waiting a b)
    (pick (eqb k 3) (Inviting b c a)
    (pick (eqb k 4) Collecting
    (pick (eqb k 5) (Handing b a)
    (pick (eqb k 6) Contacting
    (pick (eqb k 7) (Forwarding b a c (record { number = d }))
    (Accepting a (record { number = b })))))))))

abbrev activity_by : List ℕ → Activity
activity_by l = activity_of (get_or l 0 0) (get_or l 1 0) (get_or l 2 0) (get_or l 3 0) (get_or l 4 0)

activity_back : (a : Activity) → activity_by (activity_numbers a) ≡ a
unfolding activity_of pick
activity_back Idle = refl
activity_back (Asking i f) = refl
activity_back (Waiting t f) = refl
activity_back (Inviting f g i) = refl
activity_back Collecting = refl
activity_back (Handing r i) = refl
activity_back Contacting = refl
activity_back (Forwarding r i a k) = refl
activity_back (Accepting a k) = refl

abbrev node_by : List ℕ → Node
node_by l = record {
  status = status_of (get_or l 0 0);
  counter = get_or l 1 0;
  group = record { number = get_or l 2 0 };
  coordinator = get_or l 3 0;
  task = record { number = get_or l 4 0 };
  members = get_or l 5 0;
  last = record { number = get_or l 6 0 };
  activity = activity_by (drop 7 l);
}

node_back : (c : Node) → node_by (node_numbers c) ≡ c
node_back c = λ i. record {
  status = status_back c.status i;
  counter = c.counter;
  group = c.group;
  coordinator = c.coordinator;
  task = c.task;
  members = c.members;
  last = c.last;
  activity = activity_back c.activity i;
}

same_is : (c d : Node) → same_node c d ≡ true → c ≡ d
unfolding same_node
same_is c d e = sym (node_back c) ∙ ap node_by (same_numbers (node_numbers c) (node_numbers d) e) ∙ node_back d

itself : (c : Node) → same_node c c ≡ true
unfolding same_node
itself c = same_itself (node_numbers c)

pub same_records : SameRecords
same_records = record { same = same_is; itself = itself }

-- ── as the bench prints it ──

pub row_spaced : (xs : List ℕ) → row xs ≡ spaced xs ++ bytes "\n"
unfolding row spaced
row_spaced [] = refl
row_spaced (x ∷ xs) = ap (λ (l : List ℕ). 32 ∷ l) (ap (λ (l : List ℕ). decimal x ++ l) (row_spaced xs) ∙ sym (append_assoc (decimal x) (spaced xs) (bytes "\n")))

pub shown_as_bench : ShownAsBench
unfolding node_line
shown_as_bench i c = ap (λ (l : List ℕ). decimal i ++ l) (row_spaced (shown_numbers c))

-- ── one record at most ──

none_changed : (i : ℕ) (cs : List Node) → changed_lines i cs cs ≡ []
unfolding changed_lines pick
none_changed i [] = refl
none_changed i (c ∷ cs) = rw (itself c) (none_changed (i + 1) cs)

at_most_one : (t : Bool) (x : List ℕ) → length (pick t [] (x ∷ []) ++ []) ≤ 1
unfolding pick
at_most_one true x = omega arith
at_most_one false x = omega arith

one_changed : (i : ℕ) (cs : List Node) (k : ℕ) (d : Node) → length (changed_lines i cs (set cs k d)) ≤ 1
unfolding changed_lines pick
one_changed i [] k d = omega arith
one_changed i (c ∷ cs) zero d = rw (none_changed (i + 1) cs) (at_most_one (same_node c d) (record_line i d))
one_changed i (c ∷ cs) (suc k) d = rw (itself c) (one_changed (i + 1) cs k d)

pub one_record : OneRecord
unfolding effect
one_record s v = one_changed 1 s.nodes (actor v - 1) (reaction_to s v).node
