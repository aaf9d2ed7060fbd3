-- Each part of a text takes a byte or more and ends within it, so that the count of parts in `said_from` never ends a text before its end.
use Prim.Native.Nat.{ℕ, zero, suc, ◌+◌, ◌-◌, ◌≤◌, ◌<◌}
use native.Mathlib.Omega.{arith}
use mathlib.Core.Path.{◌≡◌, refl, subst}
use mathlib.Core.Bool.{Bool, false}
use mathlib.Core.List.{List, [], ◌∷◌}
use lib.ListN.{length, drop, length-take, length-drop}
use Rattle.std.specs.Prelude.{Option, None, Some, Ok, Err}
use Rattle.model.specs.Pick.{by_test}
use Rattle.model.specs.declared.Event.{Event}
use Rattle.list_text.specs.Words.{is_blank, is_word_byte, comment_behind, span, past, skipped, past_skipped, word_at, behind_word, value_up_to, Number, found_at, number_at}
use Rattle.list_text.specs.Script.{Part, event_field, with_one, with_second, with_two, second_most, event_named, numbers_at, event_by, event_at, event_from, separated_at, part_at, Said, onward, said_in, said_from}
use Rattle.list_text.specs.Claims.{SaysAll}
use Rattle.list_text.proofs.Numbers.{numbers_read}

-- ── stretches ──

span_within : (f : ℕ → Bool) (s : List ℕ) → span f s ≤ length s
unfolding span
span_within f [] = omega arith
span_within f (b ∷ s) = let i = span_within f s in by_test (λ (k : ℕ). k ≤ suc (length s)) (λ t. omega arith) (λ t. omega arith)

pub past_from : (f : ℕ → Bool) (t : List ℕ) (at : ℕ) → at ≤ past f t at
unfolding past
past_from f t at = omega arith

pub past_within : (f : ℕ → Bool) (t : List ℕ) (at : ℕ) → at ≤ length t → past f t at ≤ length t
unfolding past
past_within f t at h = let i = span_within f (drop at t) in let l = length-drop at t in omega arith

skip_within : (c : Bool) (s : List ℕ) → skipped c s ≤ length s
unfolding skipped
skip_within c [] = omega arith
skip_within c (b ∷ s) = let i = skip_within (comment_behind c b) s in by_test (λ (k : ℕ). k ≤ suc (length s)) (λ t. omega arith) (λ t. omega arith)

pub skipped_from : (t : List ℕ) (at : ℕ) → at ≤ past_skipped t at
unfolding past_skipped
skipped_from t at = omega arith

pub skipped_within : (t : List ℕ) (at : ℕ) → at ≤ length t → past_skipped t at ≤ length t
unfolding past_skipped
skipped_within t at h = let i = skip_within false (drop at t) in let l = length-drop at t in omega arith

-- ── words and numbers ──

-- A word with a byte ends further on, within the text.
word_further : (t : List ℕ) (at : ℕ) → 1 ≤ length (word_at t at) → (at < behind_word t at) × (behind_word t at ≤ length t)
unfolding word_at past
word_further t at h =
    let a = length-take (span is_word_byte (drop at t)) (drop at t) in
    let b = length-drop at t in
    let c = span_within is_word_byte (drop at t) in
    (omega arith, omega arith)

-- what is known of a number that is due at an offset
abbrev Ahead : ℕ → List ℕ → ℕ → Number → Type 0
Ahead most t at (Err p) = Unit {0}
Ahead most t at (Ok (v, p)) = (at < p) × (p ≤ length t) × (v ≤ most)

number_ahead : (most : ℕ) (t : List ℕ) (at : ℕ) → Ahead most t at (number_at most t at)
unfolding number_at
number_ahead most t at = by (past is_blank t at) (past_from is_blank t at) (value_up_to most (word_at t (past is_blank t at))) refl
  where
    by : (from : ℕ) → at ≤ from → (x : Option ℕ) → value_up_to most (word_at t from) ≡ x → Ahead most t at (found_at from (behind_word t from) x)
    by from h None e = tt
    by from h (Some v) e =
        let r = numbers_read.only most (word_at t from) v e in
        let w = word_further t from r.0.some in
        (omega arith, w.1, r.2)

pub number_further : (most : ℕ) (t : List ℕ) (at v p : ℕ) → number_at most t at ≡ Ok (v, p) → (at < p) × (p ≤ length t) × (v ≤ most)
number_further most t at v p e = subst (Ahead most t at) e (number_ahead most t at)

-- ── parts ──

-- what is known of a part that is due at an offset
abbrev Further : List ℕ → ℕ → Part → Type 0
Further t at (Ok None) = Unit {0}
Further t at (Err w) = Unit {0}
Further t at (Ok (Some (e, p))) = (at < p) × (p ≤ length t)

-- from an earlier offset on
earlier : (t : List ℕ) (a b : ℕ) → a ≤ b → (x : Part) → Further t b x → Further t a x
earlier t a b h (Ok None) f = tt
earlier t a b h (Err w) f = tt
earlier t a b h (Ok (Some (e, p))) f = (omega arith, f.1)

one_further : (u : ℕ) (t : List ℕ) (at : ℕ) (x : Number) → Ahead 255 t at x → Further t at (with_one u x)
one_further u t at (Err p) a = tt
one_further u t at (Ok (v, p)) a = (a.0, a.1)

second_further : (u v most : ℕ) (t : List ℕ) (at : ℕ) (x : Number) → Ahead most t at x → Further t at (with_second u v x)
second_further u v most t at (Err p) a = tt
second_further u v most t at (Ok (w, p)) a = (a.0, a.1)

two_further : (u : ℕ) (t : List ℕ) (at : ℕ) (x : Number) → Ahead 255 t at x → Further t at (with_two u t x)
two_further u t at (Err p) a = tt
two_further u t at (Ok (v, p)) a =
    earlier t at p (omega arith) (with_second u v (number_at (second_most u) t p))
    (second_further u v (second_most u) t p (number_at (second_most u) t p) (number_ahead (second_most u) t p))

numbers_further : (u : ℕ) (t : List ℕ) (at : ℕ) → Further t at (numbers_at u t at)
unfolding numbers_at
numbers_further u t at =
    by_test (Further t at)
    (λ e. one_further u t at (number_at 255 t at) (number_ahead 255 t at))
    (λ e. two_further u t at (number_at 255 t at) (number_ahead 255 t at))

event_further : (t : List ℕ) (at : ℕ) → Further t at (event_at t at)
unfolding event_at
event_further t at = by (event_named (word_at t at))
  where
    by : (u : Option ℕ) → Further t at (event_by u t at)
    by None = tt
    by (Some u) = earlier t at (behind_word t at) (past_from is_word_byte t at) (numbers_at u t (behind_word t at)) (numbers_further u t (behind_word t at))

from_further : (t : List ℕ) (at : ℕ) → Further t at (event_from t at)
unfolding event_from
from_further t at = by_test (Further t at) (λ e. tt) (λ e. event_further t at)

separated_further : (t : List ℕ) (at : ℕ) → Further t at (separated_at t at)
unfolding separated_at
separated_further t at =
    let b = past is_blank t (at + 1) in
    let s = past_skipped t at in
    by_test (Further t at) (λ e. tt)
    (λ e. by_test (Further t at) (λ c. earlier t at b (let h = past_from is_blank t (at + 1) in omega arith) (event_at t b) (event_further t b))
    (λ c. by_test (Further t at) (λ n. earlier t at s (skipped_from t at) (event_from t s) (from_further t s)) (λ n. tt)))

pub part_further : (t : List ℕ) (at : ℕ) → Further t at (part_at t at)
unfolding part_at
part_further t at = earlier t at (past is_blank t at) (past_from is_blank t at) (separated_at t (past is_blank t at)) (separated_further t (past is_blank t at))

further : (t : List ℕ) (at : ℕ) (e : Event) (p : ℕ) → part_at t at ≡ Ok (Some (e, p)) → (at < p) × (p ≤ length t)
further t at e p q = subst (Further t at) q (part_further t at)

-- ── the count ──

-- What follows is the same where what is said behind the next event is.
onward_same : (t : List ℕ) (at room : ℕ) (f g : ℕ → ℕ → Said) (x : Part) → Further t at x → ((p r : ℕ) → at < p → p ≤ length t → f p r ≡ g p r) → onward at room x f ≡ onward at room x g
onward_same t at room f g (Ok None) k h = refl
onward_same t at room f g (Err w) k h = refl
onward_same t at room f g (Ok (Some (e, p))) k h = rw (h p (room - length (event_field e)) k.0 k.1)

-- Any two counts of parts that are above the bytes left say the same.
enough : (j k : ℕ) (t : List ℕ) (at room : ℕ) → at ≤ length t → length t < at + j → length t < at + k → said_in j t at room ≡ said_in k t at room
unfolding said_in
enough zero k t at room h p q = absurd (omega arith)
enough (suc j) zero t at room h p q = absurd (omega arith)
enough (suc j) (suc k) t at room h p q = onward_same t at room (said_in j t) (said_in k t) (part_at t at) (part_further t at) (λ n r a b. enough j k t n r b (omega arith) (omega arith))

next : (t : List ℕ) (at room : ℕ) → said_from t at room ≡ onward at room (part_at t at) (said_from t)
unfolding said_from said_in
next t at room =
    onward_same t at room (said_in (length t) t) (said_from t) (part_at t at) (part_further t at)
    (λ p r a b. enough (length t) (suc (length t)) t p r b (omega arith) (omega arith))

pub says_all : SaysAll
says_all = record { next = next; further = further }
