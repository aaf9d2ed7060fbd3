-- The claims of the step on bytes.
use Rattle.std.specs.Prelude.{Some, None, Ok, Err}
use Prim.Native.Nat.{ℕ, ◌≤◌, ◌<◌}
use native.Mathlib.Omega.{arith}
use mathlib.Core.Bool.{true, false, not}
use mathlib.Core.Path.{◌≡◌, ◌∙◌, ap}
use mathlib.Core.List.{List, [], ◌++◌}
use lib.ListN.{length, drop, length-append}
use borrow.Author.Tests.{lt-leb}
use Rattle.model.specs.Pick.{pick, pick_true, pick_false, by_test}
use Rattle.model.specs.State.{State, no_message, starting_node, in_range, table_of}
use Rattle.model.proofs.Refusals.{refuses_by_ground, result_small}
use Rattle.model.proofs.InRange.{stays_in_range}
use Rattle.model.proofs.Fields.{in_range_places}
use Rattle.model.proofs.Lists.{first_length}
use Rattle.event_list.specs.Format.{stop_number, event_tag, length_of, cut_short, checked, event_of, Next, next_at}
use Rattle.event_list.proofs.Fields.{uncut, checked_alone}
use Rattle.event_list.specs.declared.Stop.{Stop}
use Rattle.event_list.specs.declared.Stop.TheVariants.{TooLong, CutShort, WrongTag, WrongLength, WrongCount}
use Rattle.number_bytes.proofs.Lent.{short_in, long_in, only_short_in, accepts_in, keeps_in, behind_in}
use Rattle.table_bytes.specs.Bytes.{size}
use Rattle.table_bytes.proofs.Records.{encoded_size}
use Rattle.exports.specs.Boundary.{state_of, state_bytes, field_number, field_after, step_number, step_bytes}
use Rattle.exports.specs.Claims.{StepClaims}

-- ── no number of a refusal is 255 ──

field_small : (s : State) (x : Next) → field_number s x < 255
field_small s (Ok None) = omega arith
field_small s (Err TooLong) = omega arith
field_small s (Err CutShort) = omega arith
field_small s (Err WrongTag) = omega arith
field_small s (Err WrongLength) = omega arith
field_small s (Err WrongCount) = omega arith
field_small s (Ok (Some (e, next))) = omega (arith, result_small s e)

-- ── a field that is no event ──

abbrev Bad : Next → Type 0
Bad (Ok None) = Unit {0}
Bad (Err s) = (3 ≤ stop_number s) × (stop_number s ≤ 5)
Bad (Ok (Some (e, next))) = Unit {0}

bad_at : (l : List ℕ) (at : ℕ) → Bad (next_at l at)
unfolding next_at checked
bad_at l at =
    by_test Bad (λ m. tt)
    (λ m. by_test Bad (λ u. omega arith) (λ u. by_test Bad (λ t. omega arith) (λ t. by_test Bad (λ w. omega arith) (λ w. tt))))

-- ── what an accepted event leaves is in range, so each of its lists of counts is whole ──

after_in_range : (s : State) (x : Next) → Bad x → field_number s x ≡ 0 → in_range (field_after s x) ≡ true
after_in_range s (Ok None) h z = absurd (omega (arith, z))
after_in_range s (Err y) h z = absurd (omega arith)
after_in_range s (Ok (Some (e, next))) h z =
    let m = refuses_by_ground.zero_accepts s e z in
    rw m.is (stays_in_range.keeps s e m.state m.mark m.is)

pub state_long : (s : State) → in_range s ≡ true → length (state_bytes s) ≡ size
state_long s h =
    let p = in_range_places s h in
    encoded_size (table_of s)
    (record { nodes = first_length 16 starting_node s.nodes; messages = first_length 64 no_message s.queue; sent = p.0; delivered = p.1; lost = p.2 })

-- ── bytes behind a field ──

same_field : (f g : List ℕ) → cut_short f 0 ≡ false → next_at (f ++ g) 0 ≡ next_at f 0
unfolding next_at
same_field f g h =
    let k = uncut f 0 h in
    let l : 3 ≤ length (f ++ g) = simp length-append (omega arith) in
    rw (lt-leb (length f) 0 (omega arith), lt-leb (length (f ++ g)) 0 (omega arith)) (ap (pick false (Ok None)) (checked_alone event_tag length_of Err (λ t c n. Ok (Some (event_of t c, n))) f g h))

-- ── the claims ──

module _ (t f b : List ℕ) where
  -- where there is room
  abbrev answer : ℕ
  answer = pick (not (in_range (state_of t))) 1 (field_number (state_of t) (next_at f 0))

  -- what an accepted event gives out
  abbrev given : List ℕ
  given = state_bytes (field_after (state_of t) (next_at f 0))

  pub short : length b < size → step_number t f b ≡ 255
  unfolding step_number
  short = short_in size b answer

  pub not_in_range : size ≤ length b → in_range (state_of t) ≡ false → step_number t f b ≡ 1
  unfolding step_number
  not_in_range h q = long_in size b answer h ∙ rw (q, pick_true)

  pub long : size ≤ length b → in_range (state_of t) ≡ true → step_number t f b ≡ field_number (state_of t) (next_at f 0)
  unfolding step_number
  long h q = long_in size b answer h ∙ rw (q, pick_false)

  only_short : step_number t f b ≡ 255 → length b < size
  unfolding step_number
  only_short = only_short_in size b answer (by_test (λ (n : ℕ). n < 255) (λ _. omega arith) (λ _. field_small (state_of t) (next_at f 0)))

  pub keeps : (step_number t f b ≡ 0 → ⊥) → step_bytes t f b ≡ b
  unfolding step_bytes
  keeps = keeps_in size b (step_number t f b) given

  -- accepted: the number is the field's
  accepts : step_number t f b ≡ 0 → field_number (state_of t) (next_at f 0) ≡ 0
  unfolding step_number
  accepts z =
      by_test (λ (n : ℕ). n ≡ 0 → field_number (state_of t) (next_at f 0) ≡ 0) (λ _ y. absurd (omega (arith, y))) (λ _ y. y) (accepts_in size b answer z)

  behind : drop size (step_bytes t f b) ≡ drop size b
  unfolding step_bytes
  behind = behind_in size b (step_number t f b) given (λ z. state_long _ (after_in_range (state_of t) (next_at f 0) (bad_at f 0) (accepts z)))

  no_event : (s : Stop) → size ≤ length b → in_range (state_of t) ≡ true → next_at f 0 ≡ Err s → (3 ≤ step_number t f b) × (step_number t f b ≤ 5)
  no_event s h g q = rw (long h g, q) (rw q at (bad_at f 0))

empty : (t b : List ℕ) → size ≤ length b → in_range (state_of t) ≡ true → step_number t [] b ≡ 3
unfolding next_at pick
empty t b h g = long t [] b h g

module _ (t f g b : List ℕ) (h : cut_short f 0 ≡ false) where
  same_number : step_number t (f ++ g) b ≡ step_number t f b
  unfolding step_number
  same_number = rw (same_field f g h)

  same_bytes : step_bytes t (f ++ g) b ≡ step_bytes t f b
  unfolding step_bytes
  same_bytes = rw (same_number, same_field f g h)

pub step_claims : StepClaims
step_claims = record { short = short; only_short = only_short; keeps = keeps; behind = behind; not_in_range = not_in_range; empty = empty; no_event = no_event; first_alone = λ t f g b h. (same_number t f g b h, same_bytes t f g b h) }
