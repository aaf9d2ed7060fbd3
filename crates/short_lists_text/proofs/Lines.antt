-- A line shows one list only: names end at the first byte that is no letter, numbers at the first that is no digit, events at a comma or at the line's end.
use Prim.Native.Nat.{ℕ, ◌^◌, ◌≤◌, ◌<◌}
use native.Mathlib.Omega.{arith}
use mathlib.Core.Path.{◌≡◌, refl, sym, ◌∙◌, ap, subst}
use mathlib.Core.List.{List, [], ◌∷◌, ◌++◌, append_assoc, head-eq_of_cons-eq, tail-eq_of_cons-eq, map}
use lib.Dec.{eqb}
use lib.ListN.{length, get_or, length-append}
use Rattle.model.specs.Pick.{pick}
use Rattle.model.specs.State.{State}
use Rattle.model.specs.Step.{after}
use Rattle.model.specs.declared.Event.{Event}
use Rattle.model.specs.declared.Event.TheVariants.{Crash, Recover, Check, Timeout, Tick, Expire, Finish, Deliver, Lose}
use Rattle.listing.specs.Ascii.{bytes}
use Rattle.listing.specs.Decimal.{decimal}
use Rattle.listing.specs.Lines.{row}
use Rattle.listing.proofs.Decimal.{decimal_each}
use Rattle.listing.proofs.Parted.{Each, Stops, each_append, each_map, each_at, parted, Inside, IsLine, joined_same}
use Rattle.listing.proofs.Claims.{decimal_same}
use Rattle.short_lists_text.specs.Rows.{All, Ascending}
use Rattle.short_lists_text.specs.Order.{ListBefore}
use Rattle.short_lists_text.specs.Lists.{lists_from, AcceptedFrom}
use Rattle.short_lists_text.specs.Text.{name_of, numbers_of, spaced, event_text, more_text, events_text, list_line, count_line, lines_of}
use Rattle.short_lists_text.specs.Claims.{FitsBytes, SmallNumbers, ListLinesDetermine}
use Rattle.short_lists_text.proofs.Rows.{all_by, alone}
use Rattle.short_lists_text.proofs.Order.{strict_order}
use Rattle.short_lists_text.proofs.Whole.{all_lists}
use Rattle.short_lists_text.proofs.Bytes.{accepted_fits}

-- ── bytes ──

-- from `0` to `9`
abbrev pub Digit : ℕ → Type 0
Digit b = (48 ≤ b) × (b ≤ 57)

-- from `a` on
abbrev Letter : ℕ → Type 0
Letter b = 97 ≤ b

-- neither a comma nor a line's end
abbrev Within : ℕ → Type 0
Within b = (b ≡ 44 → ⊥) × (b ≡ 10 → ⊥)

digit_within : (b : ℕ) → Digit b → Within b
digit_within b d = (λ e. omega arith, λ e. omega arith)

letter_within : (b : ℕ) → Letter b → Within b
letter_within b d = (λ e. omega arith, λ e. omega arith)

pub decimal_digits : (x : ℕ) → Each Digit (decimal x)
decimal_digits x = each_at Digit (decimal x) (decimal_each x)

-- ── numbers ──

pub spaced_stops : (P : ℕ → Type 0) → (P 32 → ⊥) → (xs : List ℕ) → Stops P (spaced xs)
unfolding spaced
spaced_stops P f [] = tt
spaced_stops P f (x ∷ xs) = f

spaced_within : (xs : List ℕ) → Each Within (spaced xs)
unfolding spaced
spaced_within [] = tt
spaced_within (x ∷ xs) = ((λ e. omega arith, λ e. omega arith), each_append Within (decimal x) (spaced xs) (each_map Digit Within digit_within (decimal x) (decimal_digits x)) (spaced_within xs))

spaced_same : (xs ys : List ℕ) → All (λ x. x < 2 ^ 32) xs → All (λ x. x < 2 ^ 32) ys → spaced xs ≡ spaced ys → xs ≡ ys
unfolding spaced
spaced_same [] [] f g e = refl
spaced_same [] (y ∷ ys) f g e = let z = ap length e in absurd (omega arith)
spaced_same (x ∷ xs) [] f g e = let z = ap length e in absurd (omega arith)
spaced_same (x ∷ xs) (y ∷ ys) f g e =
    let no : (Digit 32 → ⊥) = λ d. omega arith in
    let r = parted Digit (decimal x) (decimal y) (decimal_digits x) (decimal_digits y) (spaced_stops Digit no xs) (spaced_stops Digit no ys) (tail-eq_of_cons-eq e) in
    let i = f.0 in
    let j = g.0 in
    let h = decimal_same x y (omega (arith, i)) (omega (arith, j)) r.0 in
    let t = spaced_same xs ys f.1 g.1 r.1 in
    rw (h, t)

-- ── an event ──

name_letters : (e : Event) → Each Letter (name_of e)
unfolding name_of
name_letters (Crash i) = omega arith
name_letters (Recover i) = omega arith
name_letters (Check i) = omega arith
name_letters (Timeout i) = omega arith
name_letters (Tick i) = omega arith
name_letters (Expire i) = omega arith
name_letters (Finish i t) = omega arith
name_letters (Deliver a b) = omega arith
name_letters (Lose a b) = omega arith

name_some : (e : Event) → 1 ≤ length (name_of e)
unfolding name_of
name_some (Crash i) = omega arith
name_some (Recover i) = omega arith
name_some (Check i) = omega arith
name_some (Timeout i) = omega arith
name_some (Tick i) = omega arith
name_some (Expire i) = omega arith
name_some (Finish i t) = omega arith
name_some (Deliver a b) = omega arith
name_some (Lose a b) = omega arith

-- the event of a name and numbers: of `check` and `crash` the second letter tells, of `tick` and `timeout` the third
unfoldable event_by : List ℕ → List ℕ → Event
event_by w c =
    pick (eqb (get_or w 1 0) 104) (Check (get_or c 0 0))
    (pick (eqb (get_or w 0 0) 99) (Crash (get_or c 0 0))
    (pick (eqb (get_or w 0 0) 114) (Recover (get_or c 0 0))
    (pick (eqb (get_or w 2 0) 109) (Timeout (get_or c 0 0))
    (pick (eqb (get_or w 0 0) 116) (Tick (get_or c 0 0))
    (pick (eqb (get_or w 0 0) 101) (Expire (get_or c 0 0))
    (pick (eqb (get_or w 0 0) 102) (Finish (get_or c 0 0) (record { number = get_or c 1 0 }))
    (pick (eqb (get_or w 0 0) 100) (Deliver (get_or c 0 0) (get_or c 1 0))
    (Lose (get_or c 0 0) (get_or c 1 0)))))))))

by_name : (e : Event) → event_by (name_of e) (numbers_of e) ≡ e
unfolding event_by name_of pick
by_name (Crash i) = refl
by_name (Recover i) = refl
by_name (Check i) = refl
by_name (Timeout i) = refl
by_name (Tick i) = refl
by_name (Expire i) = refl
by_name (Finish i t) = refl
by_name (Deliver a b) = refl
by_name (Lose a b) = refl

pub event_same : (e f : Event) → SmallNumbers e → SmallNumbers f → event_text e ≡ event_text f → e ≡ f
unfolding event_text
event_same e f g h q =
    let no : (Letter 32 → ⊥) = λ d. omega arith in
    let r = parted Letter (name_of e) (name_of f) (name_letters e) (name_letters f) (spaced_stops Letter no (numbers_of e)) (spaced_stops Letter no (numbers_of f)) q in
    let t = spaced_same (numbers_of e) (numbers_of f) g h r.1 in
    sym (by_name e) ∙ (ap (λ w. event_by w (numbers_of e)) r.0 ∙ (ap (λ c. event_by (name_of f) c) t ∙ by_name f))

event_within : (e : Event) → Each Within (event_text e)
unfolding event_text
event_within e = each_append Within (name_of e) (spaced (numbers_of e)) (each_map Letter Within letter_within (name_of e) (name_letters e)) (spaced_within (numbers_of e))

event_some : (e : Event) → 1 ≤ length (event_text e)
unfolding event_text
event_some e = let h = name_some e in simp length-append (omega arith)

-- ── a list ──

abbrev end : List ℕ
end = bytes "\n"

-- what stands behind an event
more_stops : (es : List Event) → Stops Within (more_text es ++ end)
unfolding more_text
more_stops [] = λ d. d.1 refl
more_stops (e ∷ es) = λ d. d.0 refl

first_same : (e f : Event) (es fs : List Event) → SmallNumbers e → SmallNumbers f → (event_text e ++ more_text es) ++ end ≡ (event_text f ++ more_text fs) ++ end → (e ≡ f) × (more_text es ++ end ≡ more_text fs ++ end)
first_same e f es fs g h q =
    let r = parted Within (event_text e) (event_text f) (event_within e) (event_within f) (more_stops es) (more_stops fs)
    (sym (append_assoc (event_text e) (more_text es) end) ∙ q ∙ append_assoc (event_text f) (more_text fs) end) in
    (event_same e f g h r.0, r.1)

more_same : (es fs : List Event) → All SmallNumbers es → All SmallNumbers fs → more_text es ++ end ≡ more_text fs ++ end → es ≡ fs
unfolding more_text
more_same [] [] a b q = refl
more_same [] (f ∷ fs) a b q = let z = head-eq_of_cons-eq q in absurd (omega arith)
more_same (e ∷ es) [] a b q = let z = head-eq_of_cons-eq q in absurd (omega arith)
more_same (e ∷ es) (f ∷ fs) a b q =
    let r = first_same e f es fs a.0 b.0 (tail-eq_of_cons-eq (tail-eq_of_cons-eq q)) in
    let t = more_same es fs a.1 b.1 r.1 in
    rw (r.0, t)

line_same : (l m : List Event) → All SmallNumbers l → All SmallNumbers m → list_line l ≡ list_line m → l ≡ m
unfolding list_line events_text
line_same [] [] a b q = refl
line_same [] (f ∷ fs) a b q = let h = event_some f in let z = simp length-append at (ap length q) in absurd (omega arith)
line_same (e ∷ es) [] a b q = let h = event_some e in let z = simp length-append at (ap length q) in absurd (omega arith)
line_same (e ∷ es) (f ∷ fs) a b q =
    let r = first_same e f es fs a.0 b.0 q in
    let t = more_same es fs a.1 b.1 r.1 in
    rw (r.0, t)

-- ── an accepted list ──

pub fits_small : (e : Event) → FitsBytes e → SmallNumbers e
fits_small (Crash i) f = omega arith
fits_small (Recover i) f = omega arith
fits_small (Check i) f = omega arith
fits_small (Timeout i) f = omega arith
fits_small (Tick i) f = omega arith
fits_small (Expire i) f = omega arith
fits_small (Finish i t) f = omega arith
fits_small (Deliver a b) f = omega arith
fits_small (Lose a b) f = omega arith

accepted_small : (s : State) (l : List Event) → AcceptedFrom s l → All SmallNumbers l
accepted_small s [] a = tt
accepted_small s (e ∷ l) a = (fits_small e (accepted_fits s e a.0), accepted_small (after s e) l a.1)

-- ── each line once ──

-- a line below another: those of two lists, of which one is below the other
record LineBelow (x y : List ℕ) : Type 0 where
  pub lower : List Event
  pub upper : List Event
  pub lower_small : All SmallNumbers lower
  pub upper_small : All SmallNumbers upper
  pub lower_line : x ≡ list_line lower
  pub upper_line : y ≡ list_line upper
  pub below : ListBefore lower upper

line_never : (x : List ℕ) → LineBelow x x → ⊥
line_never x b =
    let q = line_same b.lower b.upper b.lower_small b.upper_small (sym b.lower_line ∙ b.upper_line) in
    strict_order.never_itself b.upper (subst (λ l. ListBefore l b.upper) q b.below)

lines_above : (l : List Event) (ms : List (List Event)) → All SmallNumbers l → All (All SmallNumbers) ms → All (ListBefore l) ms → All (LineBelow (list_line l)) (map list_line ms)
lines_above l [] a b c = tt
lines_above l (m ∷ ms) a b c =
    (record { lower = l; upper = m; lower_small = a; upper_small = b.0; lower_line = refl; upper_line = refl; below = c.0 }, lines_above l ms a b.1 c.1)

lines_ascend : (ls : List (List Event)) → All (All SmallNumbers) ls → Ascending ListBefore ls → Ascending LineBelow (map list_line ls)
lines_ascend [] a b = tt
lines_ascend (l ∷ ls) a b = (lines_above l ls a.0 a.1 b.0, lines_ascend ls a.1 b.1)

all_small : (k : ℕ) (s : State) → All (All SmallNumbers) (lists_from k s)
all_small k s = all_by (All SmallNumbers) (lists_from k s) (λ l m. accepted_small s l ((all_lists k s).only l m).taken)

-- ── the text ──

event_inside : (e : Event) → Each Inside (event_text e)
event_inside e = each_map Within Inside (λ b w. w.1) (event_text e) (event_within e)

more_inside : (es : List Event) → Each Inside (more_text es)
unfolding more_text
more_inside [] = tt
more_inside (e ∷ es) = (λ q. omega arith, (λ q. omega arith, each_append Inside (event_text e) (more_text es) (event_inside e) (more_inside es)))

events_inside : (l : List Event) → Each Inside (events_text l)
unfolding events_text
events_inside [] = tt
events_inside (e ∷ es) = each_append Inside (event_text e) (more_text es) (event_inside e) (more_inside es)

list_line_lem : (l : List Event) → IsLine (list_line l)
unfolding list_line
list_line_lem l = record { body = events_text l; ends = refl; inside = events_inside l }

count_line_lem : (k : ℕ) → IsLine (count_line k)
unfolding count_line row
count_line_lem k =
    let d = each_map Digit Inside (λ b w q. omega arith) (decimal k) (decimal_digits k) in
    record { body = bytes "lists " ++ decimal k; ends = sym (append_assoc (bytes "lists ") (decimal k) end); inside = each_append Inside (bytes "lists ") (decimal k) (omega arith) d }

lines_are : (ls : List (List Event)) (k : ℕ) → Each IsLine (map list_line ls ++ (count_line k ∷ []))
lines_are [] k = (count_line_lem k, tt)
lines_are (l ∷ ls) k = (list_line_lem l, lines_are ls k)

-- all but the last line are those of the lists
lists_same : (ls ms : List (List Event)) (x y : List ℕ) → All (All SmallNumbers) ls → All (All SmallNumbers) ms → map list_line ls ++ (x ∷ []) ≡ map list_line ms ++ (y ∷ []) → ls ≡ ms
lists_same [] [] x y a b q = refl
lists_same [] (m ∷ ms) x y a b q = let z = simp length-append at (ap length q) in absurd (omega arith)
lists_same (l ∷ ls) [] x y a b q = let z = simp length-append at (ap length q) in absurd (omega arith)
lists_same (l ∷ ls) (m ∷ ms) x y a b q =
    let h = line_same l m a.0 b.0 (head-eq_of_cons-eq q) in
    let t = lists_same ls ms x y a.1 b.1 (tail-eq_of_cons-eq q) in
    rw (h, t)

pub all_of_each : {A : Type 0} (P : A → Type 0) (xs : List A) → Each P xs → All P xs
all_of_each P [] a = tt
all_of_each P (x ∷ xs) a = (a.0, all_of_each P xs a.1)

pub list_lines_determine : ListLinesDetermine
list_lines_determine = record {
  one_line = λ l. all_of_each Inside (events_text l) (events_inside l);
  line = line_same;
  legal_small = λ k s l x. accepted_small s l x.taken;
  lists_small = all_small;
  once = λ k s x before behind q. alone LineBelow line_never x before behind (subst (Ascending LineBelow) q (lines_ascend (lists_from k s) (all_small k s) (all_lists k s).ascending));
  text = λ ls ms a b q. lists_same ls ms _ _ a b (joined_same (lines_of ls) (lines_of ms) (lines_are ls (length ls)) (lines_are ms (length ms)) q);
}
