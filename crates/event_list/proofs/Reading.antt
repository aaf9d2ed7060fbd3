-- Laws of the definitions for a loop that reads a list: where the next field starts, what is left there, and that the count of fields in `rest` never ends a list.
use Prim.Native.Nat.{ℕ, zero, suc, ◌+◌, ◌*◌, ◌≤◌, ◌<◌}
use native.Mathlib.Omega.{arith}
use mathlib.Core.Path.{◌≡◌, refl, sym, ◌∙◌, subst}
use mathlib.Core.Bool.{Bool, true, false, not, ◌&&◌}
use mathlib.Core.List.{List}
use lib.ListN.{length, get_or}
use lib.Dec.{eqb, leb, ltb}
use borrow.Author.Tests.{le-leb, leb-true, leb-false, ltb-false, eqb-true, eqb-false, not-false}
use Rattle.std.specs.Prelude.{Some, None, Ok, Err}
use Rattle.model.specs.Range.{TwoPairs, is_tower_or_stand, is_within_tower}
use Rattle.model.specs.Claims.{MayStart}
use Rattle.model.specs.Pick.{pick, by_test}
use Rattle.model.specs.declared.Limits.{Limits}
use Rattle.model.specs.declared.Event.{Event}
use Rattle.event_list.specs.declared.Stop.{Stop}
use Rattle.event_list.specs.Format.{max_bytes, between, tag_at, length_at, contents_at, behind, first_tag, event_tag, length_of, cut_short, checked, Next, next_at, limits_of, nodes_of, First, first_of, Ending, complete, stopped, ended, after, onward, read_from, rest, failed, begun, reading}
use Rattle.event_list.specs.Claims.{ReadsAll}
use Rattle.event_list.proofs.Fields.{uncut, next_end}

-- Tests taken apart.
unlike : true ≡ false → ⊥
unlike e = let z : ◌≡◌ {A = ℕ} 0 1 = cc in omega arith

both : (p q : Bool) → (p && q) ≡ true → (p ≡ true) × (q ≡ true)
both true q e = (refl, e)
both false q e = absurd (unlike (sym e))

within : (a b x : ℕ) → between a b x ≡ true → (a ≤ x) × (x ≤ b)
within a b x e = let h = both (leb a x) (leb x b) e in (leb-true a x h.0, leb-true x b h.1)

above : (a b x : ℕ) → between a b x ≡ false → a ≤ x → b < x
above a b x e h = leb-false x b (rw (le-leb a x h) at e)

abbrev One_up : ℕ → Type 0
One_up n = 1 ≤ n

-- An event's contents have at least one byte.
some_length : (t : ℕ) → 0x10 ≤ t → t ≤ 0x18 → 1 ≤ length_of t
unfolding length_of
some_length t h k =
    by_test One_up
    (λ a. omega arith)
    (λ a. by_test One_up (λ b. omega arith) (λ b. by_test One_up (λ d. omega arith) (λ d. by_test One_up (λ f. omega arith) (λ f. none b d f))))
  where
    none : between 0x10 0x15 t ≡ false → eqb t 0x16 ≡ false → between 0x17 0x18 t ≡ false → 1 ≤ 0
    none b d f =
        let x = above 0x10 0x15 t b h in
        let n = eqb-false t 0x16 d in
        let y : 0x17 ≤ t = omega arith in
        let z = above 0x17 0x18 t f y in
        absurd (omega arith)

one_length : (t : ℕ) → first_tag t ≡ true → length_of t ≡ 1
unfolding length_of pick
one_length t h = rw h

-- what is known of where the next field starts
abbrev Past : List ℕ → ℕ → Next → Type 0
Past l at (Ok None) = Unit {0}
Past l at (Err s) = Unit {0}
Past l at (Ok (Some (e, next))) = (at + 4 ≤ next) × (next ≤ length l)

past_at : (l : List ℕ) (at : ℕ) → Past l at (next_at l at)
unfolding next_at checked
past_at l at =
    by_test (Past l at)
    (λ m. tt)
    (λ m. by_test (Past l at) (λ u. tt) (λ u. by_test (Past l at) (λ t. tt) (λ t. by_test (Past l at) (λ w. tt) (λ w. whole u t w))))
  where
    whole : cut_short l at ≡ false → not (event_tag (tag_at l at)) ≡ false → not (eqb (length_at l at) (length_of (tag_at l at))) ≡ false →
        (at + 4 ≤ behind l at) × (behind l at ≤ length l)
    whole u t w =
        let k = within 0x10 0x18 (tag_at l at) (not-false _ t) in
        let n = some_length (tag_at l at) k.0 k.1 in
        let e = eqb-true (length_at l at) (length_of (tag_at l at)) (not-false _ w) in
        (omega arith, uncut l at u)

-- what is known of a list whose first field is good
abbrev Good : List ℕ → First → Type 0
Good l (Err s) = Unit {0}
Good l (Ok (n, lim)) = (behind l 0 ≡ 4) × (4 ≤ length l) × (length l ≤ max_bytes) × MayStart TwoPairs n lim

-- the limits that a tag gives are one of the two pairs
given_pair : (t : ℕ) → (is_within_tower (limits_of t) ≡ true) × (is_tower_or_stand (limits_of t) ≡ true)
unfolding limits_of
given_pair t = by_test (λ (lim : Limits). (is_within_tower lim ≡ true) × (is_tower_or_stand lim ≡ true)) (λ e. (refl, refl)) (λ e. (refl, refl))

good_nodes : (l : List ℕ) (t n : ℕ) → behind l 0 ≡ 4 → 4 ≤ length l → length l ≤ max_bytes → Good l (nodes_of (limits_of t) n)
unfolding nodes_of
good_nodes l t n a b d =
    by_test (Good l)
    (λ e. tt)
    (λ e.
    let k = within 1 (limits_of t).nodes n (not-false _ e) in
    (a, b, d, record { within = (given_pair t).0; pair = (given_pair t).1; low = k.0; high = k.1 }))

good_of : (l : List ℕ) → Good l (first_of l)
unfolding first_of checked
good_of l =
    by_test (Good l)
    (λ m. tt)
    (λ m. by_test (Good l) (λ u. tt) (λ u. by_test (Good l) (λ t. tt) (λ t. by_test (Good l) (λ w. tt) (λ w. whole m u t w))))
  where
    whole : ltb max_bytes (length l) ≡ false → cut_short l 0 ≡ false → not (first_tag (tag_at l 0)) ≡ false → not (eqb (length_at l 0) (length_of (tag_at l 0))) ≡ false →
        Good l (nodes_of (limits_of (tag_at l 0)) (get_or (contents_at l 0) 0 0))
    whole m u t w =
        let e = eqb-true (length_at l 0) (length_of (tag_at l 0)) (not-false _ w) in
        let o : length_at l 0 ≡ 1 = e ∙ one_length (tag_at l 0) (not-false _ t) in
        let h = uncut l 0 u in
        good_nodes l (tag_at l 0) _ (omega arith) (omega arith) (ltb-false max_bytes (length l) m)

-- Any two counts of fields that are not below the bytes left read the same.
pub enough : (j k : ℕ) (l : List ℕ) (at : ℕ) → length l ≤ at + j → length l ≤ at + k → read_from j l at ≡ read_from k l at
unfolding read_from
enough zero zero l at p q = refl
enough zero (suc k) l at p q = rw (next_end l at (omega arith))
enough (suc j) zero l at p q = rw (next_end l at (omega arith))
enough (suc j) (suc k) l at p q = by (next_at l at) (past_at l at) (λ n u w. enough j k l n u w)
  where
    by : (x : Next) → Past l at x → ((n : ℕ) → length l ≤ n + j → length l ≤ n + k → read_from j l n ≡ read_from k l n) →
        onward at x (read_from j l) ≡ onward at x (read_from k l)
    by (Ok None) g r = refl
    by (Err s) g r = refl
    by (Ok (Some (e, n))) g r = rw (r n (omega arith) (omega arith))

-- What is left at a field, by what stands there and what is left behind it: no reading ends for lack of a count.
pub rest_step : (l : List ℕ) (at : ℕ) → rest l at ≡ onward at (next_at l at) (rest l)
unfolding rest read_from
rest_step l at = enough (length l) (suc (length l)) l at (omega arith) (omega arith)

-- What stops stands before the end.
stop_inside : (l : List ℕ) (at : ℕ) (s : Stop) → next_at l at ≡ Err s → at < length l
stop_inside l at s e = by (leb (length l) at) refl
  where
    by : (t : Bool) → leb (length l) at ≡ t → at < length l
    by true q = let d = next_end l at (leb-true (length l) at q) in let z : ◌≡◌ {A = ℕ} 0 1 = cc in absurd (omega arith)
    by false q = leb-false (length l) at q

-- The same for an answer x of `event_at`.
module _ (l : List ℕ) (at : ℕ) {x : Next} (i : x ≡ next_at l at) where
  pub rest_done : x ≡ Ok None → rest l at ≡ ended complete
  rest_done f = rest_step l at ∙ rw (← i, f)

  pub rest_stopped : {s : Stop} → x ≡ Err s → rest l at ≡ ended (stopped at s)
  rest_stopped f = rest_step l at ∙ rw (← i, f)

  pub rest_got : {e : Event} {next : ℕ} → x ≡ Ok (Some (e, next)) → rest l at ≡ after e (rest l next)
  rest_got f = rest_step l at ∙ rw (← i, f)

  -- An event takes at least four bytes, and the next field starts within the list or at its end.
  pub next_past : {e : Event} {next : ℕ} → x ≡ Ok (Some (e, next)) → (at + 4 ≤ next) × (next ≤ length l)
  next_past {e} {next} f = let w : next_at l at ≡ Ok (Some (e, next)) = sym i ∙ f in rw w at (past_at l at)

-- The whole list for an answer x of `first_of`.
module _ (l : List ℕ) {x : First} (i : x ≡ first_of l) where
  pub reading_failed : {s : Stop} → x ≡ Err s → reading l ≡ failed s
  unfolding reading
  reading_failed f = rw (← i, f)

  module _ {n : ℕ} {lim : Limits} (f : x ≡ Ok (n, lim)) where
    good : (behind l 0 ≡ 4) × (4 ≤ length l) × (length l ≤ max_bytes) × MayStart TwoPairs n lim
    good = let w : first_of l ≡ Ok (n, lim) = sym i ∙ f in rw w at (good_of l)

    -- The first field takes four bytes.
    pub reading_begun : reading l ≡ begun n lim (rest l 4)
    unfolding reading
    reading_begun = rw (← i, f, good.0)

    pub first_good : (4 ≤ length l) × (length l ≤ max_bytes) × MayStart TwoPairs n lim
    first_good = (good.1, good.2, good.3)

-- Each event takes four bytes or more, so there are few: a bound for what is printed.
few_events : (k : ℕ) (l : List ℕ) (at : ℕ) → at ≤ length l → at + 4 * length (read_from k l at).events ≤ length l
unfolding read_from
few_events zero l at h = omega arith
few_events (suc k) l at h = by (next_at l at) (past_at l at) (λ n u. few_events k l n u)
  where
    by : (x : Next) → Past l at x → ((n : ℕ) → n ≤ length l → n + 4 * length (read_from k l n).events ≤ length l) →
        at + 4 * length (onward at x (read_from k l)).events ≤ length l
    by (Ok None) g r = omega arith
    by (Err s) g r = omega arith
    by (Ok (Some (e, n))) g r = let z = r n g.1 in omega arith

rest_few : (l : List ℕ) (at : ℕ) → at ≤ length l → at + 4 * length (rest l at).events ≤ length l
unfolding rest
rest_few l at h = few_events (length l) l at h

-- A list stops at one of its bytes.
abbrev Before : ℕ → Ending → Type 0
Before m complete = Unit {0}
Before m (stopped b s) = b < m

ends_before : (k : ℕ) (l : List ℕ) (at : ℕ) → Before (length l) (read_from k l at).ending
unfolding read_from
ends_before zero l at = tt
ends_before (suc k) l at = by (next_at l at) refl (ends_before k l)
  where
    by : (x : Next) → next_at l at ≡ x → ((n : ℕ) → Before (length l) (read_from k l n).ending) → Before (length l) (onward at x (read_from k l)).ending
    by (Ok None) i f = tt
    by (Err s) i f = stop_inside l at s i
    by (Ok (Some (v, n))) i f = f n

rest_before : (l : List ℕ) (at b : ℕ) (s : Stop) → (rest l at).ending ≡ stopped b s → b < length l
unfolding rest
rest_before l at b s e = subst (Before (length l)) e (ends_before (length l) l at)

pub reads_all : ReadsAll
reads_all = record { next = rest_step; few = rest_few; before = rest_before }
