-- What is claimed of the Bully machine's step on bytes.
use Rattle.std.specs.Prelude.{Ok, Err}
use Prim.Native.Nat.{ℕ, ◌≤◌, ◌<◌}
use native.Mathlib.Omega.{arith}
use mathlib.Core.Bool.{false}
use mathlib.Core.Logic.{⊎_elim}
use mathlib.Core.Path.{◌≡◌, refl, ◌∙◌, ap}
use mathlib.Core.List.{List, [], ◌++◌}
use lib.ListN.{length, drop}
use Rattle.model.specs.Pick.{pick}
use Rattle.model.specs.Grounds.{judged}
use Rattle.model.proofs.Lists.{first_length}
use Rattle.bully_model.specs.State.{State, starting_node, in_range, table_of}
use Rattle.bully_model.specs.Step.{grounds, Result, refused, accepted, step}
use Rattle.bully_model.specs.Answers.{result_number}
use Rattle.bully_model.proofs.Refusals.{refuses_by_ground}
use Rattle.bully_model.specs.declared.Event.{Event}
use Rattle.event_list.specs.Format.{cut_short}
use Rattle.event_list.specs.declared.Stop.{Stop}
use Rattle.event_list.specs.declared.Stop.TheVariants.{TooLong, CutShort, WrongTag, WrongLength, WrongCount}
use Rattle.number_bytes.proofs.Lent.{short_in, long_in, only_short_in, keeps_in, behind_in}
use Rattle.bully_bytes.specs.Bytes.{size}
use Rattle.bully_bytes.specs.Field.{FieldRead, event_in}
use Rattle.bully_bytes.proofs.Records.{encoded_size}
use Rattle.bully_bytes.proofs.Reading.{field_rules}
use Rattle.exports.specs.BullyBoundary.{state_of, state_bytes, field_number, field_after, bully_number, bully_bytes, BullyClaims}

-- ── no number of a refusal is 255 ──

result_small : (s : State) (e : Event) → result_number (step s e) ≤ 10
result_small s e = by (step s e) refl
  where
    by : (x : Result) → step s e ≡ x → result_number x ≤ 10
    by (refused r) q = ⊎_elim (λ h. omega arith) (λ h. omega (arith, h.1)) (refuses_by_ground.numbers s e r q)
    by (accepted u) q = omega arith

field_small : (s : State) (x : FieldRead) → field_number s x < 255
field_small s (Err TooLong) = omega arith
field_small s (Err CutShort) = omega arith
field_small s (Err WrongTag) = omega arith
field_small s (Err WrongLength) = omega arith
field_small s (Err WrongCount) = omega arith
field_small s (Ok e) = omega (arith, result_small s e)

state_long : (s : State) → length (state_bytes s) ≡ size
state_long s = encoded_size (table_of s) (first_length 16 starting_node s.nodes)

-- ── the claims ──

module _ (t f b : List ℕ) where
  abbrev answer : ℕ
  answer = field_number (state_of t) (event_in f)

  -- what an accepted event gives out
  abbrev given : List ℕ
  given = state_bytes (field_after (state_of t) (event_in f))

  pub short : length b < size → bully_number t f b ≡ 255
  unfolding bully_number
  short = short_in size b answer

  pub long : size ≤ length b → bully_number t f b ≡ answer
  unfolding bully_number
  long = long_in size b answer

  only_short : bully_number t f b ≡ 255 → length b < size
  unfolding bully_number
  only_short = only_short_in size b answer (field_small (state_of t) (event_in f))

  pub keeps : (bully_number t f b ≡ 0 → ⊥) → bully_bytes t f b ≡ b
  unfolding bully_bytes
  keeps = keeps_in size b (bully_number t f b) given

  behind : drop size (bully_bytes t f b) ≡ drop size b
  unfolding bully_bytes
  behind = behind_in size b (bully_number t f b) given (λ _. state_long _)

  no_event : (s : Stop) → size ≤ length b → event_in f ≡ Err s → (3 ≤ bully_number t f b) × (bully_number t f b ≤ 5)
  no_event s h q = rw (long h, q) (field_rules.grounds f s q)

  not_in_range : (e : Event) → size ≤ length b → event_in f ≡ Ok e → in_range (state_of t) ≡ false → bully_number t f b ≡ 1
  unfolding step grounds judged pick
  not_in_range e h q away = long h ∙ rw (q, away)

empty : (t b : List ℕ) → size ≤ length b → bully_number t [] b ≡ 3
empty t b h = long t [] b h ∙ ap (field_number (state_of t)) field_rules.empty

module _ (t f g b : List ℕ) (h : cut_short f 0 ≡ false) where
  same_number : bully_number t (f ++ g) b ≡ bully_number t f b
  unfolding bully_number
  same_number = rw (field_rules.first_alone f g h)

  same_bytes : bully_bytes t (f ++ g) b ≡ bully_bytes t f b
  unfolding bully_bytes
  same_bytes = rw (same_number, field_rules.first_alone f g h)

pub bully_claims : BullyClaims
bully_claims = record { short = short; only_short = only_short; keeps = keeps; behind = behind; not_in_range = not_in_range; empty = empty; no_event = no_event; first_alone = λ t f g b h. (same_number t f g b h, same_bytes t f g b h) }
