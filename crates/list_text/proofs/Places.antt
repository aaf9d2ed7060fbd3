-- The place that is told of a bad text is an offset within it, or its end: nothing that is looked for goes beyond the end.
use Prim.Native.Nat.{ℕ, zero, suc, ◌+◌, ◌-◌, ◌≤◌}
use native.Mathlib.Omega.{arith}
use mathlib.Core.Path.{subst}
use mathlib.Core.List.{List}
use lib.ListN.{length}
use borrow.Author.Tests.{leb-false, ltb-true}
use Rattle.std.specs.Prelude.{Option, None, Some, Ok, Err}
use Rattle.model.specs.Pick.{by_test}
use Rattle.model.specs.declared.Event.{Event}
use Rattle.event_list.specs.Format.{max_bytes}
use Rattle.list_text.specs.Words.{is_blank, is_word_byte, past, past_skipped, word_at, behind_word, value_up_to, Number, found_at, number_at}
use Rattle.list_text.specs.Script.{Opening, Part, event_field, opening_tag, opening_with, opening_by, opening_at, second_most, event_named, with_one, with_second, with_two, numbers_at, event_by, event_at, event_from, separated_at, part_at, Said, wrong, said, before, onward, said_in, said_from, Script, wrong_at, script, with_events, behind_opening, max_text, script_of}
use Rattle.list_text.specs.Claims.{PlaceWithin}
use Rattle.list_text.proofs.Parts.{past_within, skipped_within}

-- ── numbers ──

-- where a number was due or ends
abbrev NumberWithin : List ℕ → Number → Type 0
NumberWithin t (Err p) = p ≤ length t
NumberWithin t (Ok (v, p)) = p ≤ length t

found_within : (t : List ℕ) (at e : ℕ) (x : Option ℕ) → at ≤ length t → e ≤ length t → NumberWithin t (found_at at e x)
found_within t at e None h k = h
found_within t at e (Some v) h k = k

number_within : (most : ℕ) (t : List ℕ) (at : ℕ) → at ≤ length t → NumberWithin t (number_at most t at)
unfolding number_at
number_within most t at h =
    let from = past is_blank t at in
    let i = past_within is_blank t at h in
    found_within t from (behind_word t from) (value_up_to most (word_at t from)) i (past_within is_word_byte t from i)

-- ── parts ──

-- where a part goes wrong or ends
abbrev pub PartWithin : List ℕ → Part → Type 0
PartWithin t (Ok None) = Unit {0}
PartWithin t (Err w) = w.at ≤ length t
PartWithin t (Ok (Some (e, p))) = p ≤ length t

one_within : (u : ℕ) (t : List ℕ) (x : Number) → NumberWithin t x → PartWithin t (with_one u x)
one_within u t (Err p) h = h
one_within u t (Ok (v, p)) h = h

second_within : (u v : ℕ) (t : List ℕ) (x : Number) → NumberWithin t x → PartWithin t (with_second u v x)
second_within u v t (Err p) h = h
second_within u v t (Ok (w, p)) h = h

two_within : (u : ℕ) (t : List ℕ) (x : Number) → NumberWithin t x → PartWithin t (with_two u t x)
two_within u t (Err p) h = h
two_within u t (Ok (v, p)) h = second_within u v t (number_at (second_most u) t p) (number_within (second_most u) t p h)

numbers_within : (u : ℕ) (t : List ℕ) (at : ℕ) → at ≤ length t → PartWithin t (numbers_at u t at)
unfolding numbers_at
numbers_within u t at h =
    let i = number_within 255 t at h in
    by_test (PartWithin t) (λ o. one_within u t (number_at 255 t at) i) (λ o. two_within u t (number_at 255 t at) i)

event_within : (t : List ℕ) (at : ℕ) → at ≤ length t → PartWithin t (event_at t at)
unfolding event_at
event_within t at h = by (event_named (word_at t at))
  where
    by : (u : Option ℕ) → PartWithin t (event_by u t at)
    by None = h
    by (Some u) = numbers_within u t (behind_word t at) (past_within is_word_byte t at h)

from_within : (t : List ℕ) (at : ℕ) → at ≤ length t → PartWithin t (event_from t at)
unfolding event_from
from_within t at h = by_test (PartWithin t) (λ e. tt) (λ e. event_within t at h)

separated_within : (t : List ℕ) (at : ℕ) → at ≤ length t → PartWithin t (separated_at t at)
unfolding separated_at
separated_within t at h =
    by_test (PartWithin t) (λ e. tt)
    -- a comma stands before the end
    (λ e. by_test (PartWithin t) (λ c. event_within t (past is_blank t (at + 1)) (past_within is_blank t (at + 1) (let i = leb-false (length t) at e in omega arith)))
    (λ c. by_test (PartWithin t) (λ n. from_within t (past_skipped t at) (skipped_within t at h)) (λ n. h)))

pub part_within : (t : List ℕ) (at : ℕ) → at ≤ length t → PartWithin t (part_at t at)
unfolding part_at
part_within t at h = separated_within t (past is_blank t at) (past_within is_blank t at h)

-- ── what is said ──

abbrev SaidWithin : List ℕ → Said → Type 0
SaidWithin t (wrong p x) = p ≤ length t
SaidWithin t (said es) = Unit {0}

before_within : (t : List ℕ) (e : Event) (x : Said) → SaidWithin t x → SaidWithin t (before e x)
before_within t e (wrong p x) h = h
before_within t e (said es) h = tt

onward_within : (t : List ℕ) (at room : ℕ) (x : Part) (later : ℕ → ℕ → Said) → PartWithin t x → ((p r : ℕ) → p ≤ length t → SaidWithin t (later p r)) → SaidWithin t (onward at room x later)
onward_within t at room (Ok None) later h f = tt
onward_within t at room (Err w) later h f = h
onward_within t at room (Ok (Some (e, p))) later h f =
    by_test (SaidWithin t) (λ o. h) (λ o. before_within t e (later p (room - length (event_field e))) (f p (room - length (event_field e)) h))

said_within : (k : ℕ) (t : List ℕ) (at room : ℕ) → at ≤ length t → SaidWithin t (said_in k t at room)
unfolding said_in
said_within zero t at room h = tt
said_within (suc k) t at room h = onward_within t at room (part_at t at) (said_in k t) (part_within t at h) (λ p r i. said_within k t p r i)

-- ── the opening ──

abbrev pub OpeningWithin : List ℕ → Opening → Type 0
OpeningWithin t (Err w) = w.at ≤ length t
OpeningWithin t (Ok (u, n, next)) = next ≤ length t

with_within : (u : ℕ) (t : List ℕ) (x : Number) → NumberWithin t x → OpeningWithin t (opening_with u x)
with_within u t (Err p) h = h
with_within u t (Ok (n, p)) h = h

pub opening_within : (t : List ℕ) (at : ℕ) → at ≤ length t → OpeningWithin t (opening_at t at)
unfolding opening_at
opening_within t at h = by (opening_tag (word_at t at))
  where
    by : (u : Option ℕ) → OpeningWithin t (opening_by u t at)
    by None = h
    by (Some u) = with_within u t (number_at 255 t (behind_word t at)) (number_within 255 t (behind_word t at) (past_within is_word_byte t at h))

-- ── the whole ──

abbrev ScriptWithin : List ℕ → Script → Type 0
ScriptWithin t (wrong_at p x) = p ≤ length t
ScriptWithin t (script u n es) = Unit {0}

events_within : (u n : ℕ) (t : List ℕ) (x : Said) → SaidWithin t x → ScriptWithin t (with_events u n x)
events_within u n t (wrong p x) h = h
events_within u n t (said es) h = tt

behind_within : (t : List ℕ) (x : Opening) → OpeningWithin t x → ScriptWithin t (behind_opening t x)
unfolding said_from
behind_within t (Err w) h = h
behind_within t (Ok (u, n, next)) h = events_within u n t (said_from t next (max_bytes - 4)) (said_within (suc (length t)) t next (max_bytes - 4) h)

whole_within : (t : List ℕ) → ScriptWithin t (script_of t)
unfolding script_of
whole_within t =
    let h = skipped_within t 0 (omega arith) in
    by_test (ScriptWithin t)
    -- a text that is too long is told at an offset that it has
    (λ e. let i = ltb-true max_text (length t) e in omega arith)
    (λ e. behind_within t (opening_at t (past_skipped t 0)) (opening_within t (past_skipped t 0) h))

pub place_within : PlaceWithin
place_within t p x e = subst (ScriptWithin t) e (whole_within t)
