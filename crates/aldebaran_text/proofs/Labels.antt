-- Labels: the names in capitals, which letters stand in them, how long they can be, and that each tells its event.
use Prim.Native.Nat.{ℕ, ◌+◌, ◌≤◌, ◌<◌}
use native.Mathlib.Omega.{arith}
use mathlib.Core.Path.{◌≡◌, refl, sym, ◌∙◌, ap}
use mathlib.Core.List.{List, [], ◌∷◌, ◌++◌, map}
use lib.ListN.{length}
use borrow.Author.Tests.{lt-leb}
use Rattle.model.specs.Pick.{pick, pick_false}
use Rattle.model.specs.declared.Event.{Event}
use Rattle.model.specs.declared.Event.TheVariants.{Crash, Recover, Check, Timeout, Tick, Expire, Finish, Deliver, Lose}
use Rattle.model.proofs.Lists.{map_append}
use Rattle.listing.specs.Ascii.{bytes}
use Rattle.listing.specs.Decimal.{decimal}
use Rattle.listing.proofs.Parted.{Each, each_append, each_map, parted}
use Rattle.short_lists_text.specs.Text.{name_of, numbers_of, spaced, event_text}
use Rattle.short_lists_text.specs.Claims.{FitsBytes, SmallNumbers}
use Rattle.short_lists_text.proofs.Spaced.{spaced_one, spaced_two, one_short, two_short, task_short}
use Rattle.short_lists_text.proofs.Lines.{Digit, decimal_digits, spaced_stops, event_same, all_of_each}
use Rattle.aldebaran_text.specs.Text.{capital, label}
use Rattle.aldebaran_text.specs.Claims.{LabelIs}

-- ── each event's ──

two_numbers : (i x : ℕ) → spaced (i ∷ x ∷ []) ≡ bytes " " ++ (decimal i ++ (bytes " " ++ decimal x))
two_numbers i x = spaced_two i x ∙ ap (λ (l : List ℕ). l ++ (32 ∷ decimal x)) (spaced_one i)

-- ── its letters ──

-- no space, quotation mark or digit
abbrev pub Capital : ℕ → Type 0
Capital b = 65 ≤ b

pub name_capitals : (e : Event) → Each Capital (map capital (name_of e))
unfolding name_of capital pick
name_capitals (Crash i) = omega arith
name_capitals (Recover i) = omega arith
name_capitals (Check i) = omega arith
name_capitals (Timeout i) = omega arith
name_capitals (Tick i) = omega arith
name_capitals (Expire i) = omega arith
name_capitals (Finish i t) = omega arith
name_capitals (Deliver a b) = omega arith
name_capitals (Lose a b) = omega arith

-- what may stand between quotation marks in a line
abbrev pub Quotable : ℕ → Type 0
Quotable b = (b ≡ 34 → ⊥) × (b ≡ 10 → ⊥)

spaced_quotable : (xs : List ℕ) → Each Quotable (spaced xs)
unfolding spaced
spaced_quotable [] = tt
spaced_quotable (x ∷ xs) = (
  (λ q. omega arith, λ q. omega arith),
  each_append Quotable (decimal x) (spaced xs) (each_map Digit Quotable (λ b d. (λ q. omega arith, λ q. omega arith)) (decimal x) (decimal_digits x)) (spaced_quotable xs),
)

pub label_quotable : (e : Event) → Each Quotable (label e)
unfolding label
label_quotable e =
    each_append Quotable (map capital (name_of e)) (spaced (numbers_of e))
    (each_map Capital Quotable (λ b c. (λ q. omega arith, λ q. omega arith)) (map capital (name_of e)) (name_capitals e)) (spaced_quotable (numbers_of e))

-- ── the event's text in capitals ──

-- digits and spaces have none
low_same : (l : List ℕ) → Each (λ b. b < 97) l → map capital l ≡ l
unfolding capital
low_same [] h = refl
low_same (b ∷ l) h = let k = h.0 in rw (lt-leb 97 b k, pick_false, low_same l h.1)

spaced_low : (xs : List ℕ) → Each (λ b. b < 97) (spaced xs)
unfolding spaced
spaced_low [] = tt
spaced_low (x ∷ xs) = (omega arith, each_append (λ b. b < 97) (decimal x) (spaced xs) (each_map Digit (λ b. b < 97) (λ b d. omega arith) (decimal x) (decimal_digits x)) (spaced_low xs))

pub text_raised : (e : Event) → map capital (event_text e) ≡ label e
unfolding event_text label
text_raised e = map_append capital (name_of e) (spaced (numbers_of e)) ∙ ap (λ (l : List ℕ). map capital (name_of e) ++ l) (low_same (spaced (numbers_of e)) (spaced_low (numbers_of e)))

-- ── its event ──

abbrev small : List ℕ → List ℕ
small w = map (λ b. b + 32) w

name_back : (e : Event) → small (map capital (name_of e)) ≡ name_of e
unfolding name_of capital pick
name_back (Crash i) = refl
name_back (Recover i) = refl
name_back (Check i) = refl
name_back (Timeout i) = refl
name_back (Tick i) = refl
name_back (Expire i) = refl
name_back (Finish i t) = refl
name_back (Deliver a b) = refl
name_back (Lose a b) = refl

pub label_distinct : (e f : Event) → SmallNumbers e → SmallNumbers f → label e ≡ label f → e ≡ f
unfolding label event_text
label_distinct e f g h q =
    let no : (Capital 32 → ⊥) = λ d. omega arith in
    let r = parted Capital (map capital (name_of e)) (map capital (name_of f)) (name_capitals e) (name_capitals f) (spaced_stops Capital no (numbers_of e)) (spaced_stops Capital no (numbers_of f)) q in
    let n : name_of e ≡ name_of f = sym (name_back e) ∙ (ap small r.0 ∙ name_back f) in
    event_same e f g h (ap (λ w. w ++ spaced (numbers_of e)) n ∙ ap (λ (l : List ℕ). name_of f ++ l) r.1)

-- ── how long ──

-- as in `FINISH 255 65535`
pub label_short : (e : Event) → FitsBytes e → length (label e) ≤ 16
unfolding label name_of capital pick
label_short (Crash i) f = let l = one_short f in omega arith
label_short (Recover i) f = let l = one_short f in omega arith
label_short (Check i) f = let l = one_short f in omega arith
label_short (Timeout i) f = let l = one_short f in omega arith
label_short (Tick i) f = let l = one_short f in omega arith
label_short (Expire i) f = let l = one_short f in omega arith
label_short (Finish i t) f = let l = task_short f.0 f.1 in omega arith
label_short (Deliver a b) f = let l = two_short f.0 f.1 in omega arith
label_short (Lose a b) f = let l = two_short f.0 f.1 in omega arith

-- ── all of it ──

pub label_is : LabelIs
unfolding label name_of capital pick
label_is = record {
  crash = λ i. ap (λ (l : List ℕ). bytes "CRASH" ++ l) (spaced_one i);
  recover = λ i. ap (λ (l : List ℕ). bytes "RECOVER" ++ l) (spaced_one i);
  check = λ i. ap (λ (l : List ℕ). bytes "CHECK" ++ l) (spaced_one i);
  timeout = λ i. ap (λ (l : List ℕ). bytes "TIMEOUT" ++ l) (spaced_one i);
  tick = λ i. ap (λ (l : List ℕ). bytes "TICK" ++ l) (spaced_one i);
  expire = λ i. ap (λ (l : List ℕ). bytes "EXPIRE" ++ l) (spaced_one i);
  finish = λ i t. ap (λ (l : List ℕ). bytes "FINISH" ++ l) (two_numbers i t.number);
  deliver = λ a b. ap (λ (l : List ℕ). bytes "DELIVER" ++ l) (two_numbers a b);
  lose = λ a b. ap (λ (l : List ℕ). bytes "LOSE" ++ l) (two_numbers a b);
  quotable = λ e. all_of_each Quotable (label e) (label_quotable e);
  distinct = label_distinct;
}
