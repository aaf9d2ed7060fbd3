-- The promise of `nevraspu_step` by its cases: too little room, a table not in range, a field that is no event, and an event.
use Rattle.std.specs.Prelude.{Some, Ok}
use Prim.Native.Nat.{ℕ, ◌≤◌, ◌<◌}
use native.Mathlib.Omega.{arith}
use mathlib.Core.Path.{◌≡◌, sym, ◌∙◌, ap}
use mathlib.Core.Bool.{true, false}
use mathlib.Core.List.{List, ◌++◌}
use lib.ListN.{length, drop}
use borrow.Author.Tests.{eqb-true, eqb-false}
use Rattle.model.specs.Pick.{by_test}
use Rattle.model.specs.State.{State, in_range, view}
use Rattle.model.specs.declared.Event.{Event}
use Rattle.model.specs.declared.Outcome.{Outcome}
use Rattle.machine.specs.Stepped.{Stepped}
use Rattle.event_list.specs.Format.{Next, next_at}
use Rattle.table_bytes.specs.Bytes.{decoded, size}
use Rattle.exports.specs.Boundary.{state_of, state_bytes, field_number, field_after, step_number, step_bytes, StepExported}
use Rattle.exports.specs.Parts.{Answered}
use Rattle.exports.proofs.Claims as claims

module _ (t f b : List ℕ) where
  -- any number but 0 keeps the buffer
  kept_by : (r : ℕ) → r ≡ step_number t f b → (r ≡ 0 → ⊥) → StepExported t f b b r
  kept_by r e h = record { number = e; buffer = sym (claims.keeps t f b (λ z. h (e ∙ z))); back = λ z. absurd (h z) }

  pub short : length b < size → StepExported t f b b 255
  short h = kept_by 255 (sym (claims.short t f b h)) (λ z. omega arith)

  pub away : size ≤ length b → in_range (state_of t) ≡ false → StepExported t f b b 1
  away h q = kept_by 1 (sym (claims.not_in_range t f b h q)) (λ z. omega arith)

  module _ (room : size ≤ length b) (good : in_range (state_of t) ≡ true) where
    long : step_number t f b ≡ field_number (state_of t) (next_at f 0)
    long = claims.long t f b room good

    -- x: what stands in the field
    pub no_event : (x : Next) → x ≡ next_at f 0 → (r : ℕ) → r ≡ field_number (state_of t) x → (r ≡ 0 → ⊥) → StepExported t f b b r
    no_event x i r e h = kept_by r (e ∙ rw i (sym long)) h

    pub event : (x : Next) → x ≡ next_at f 0 → {e : Event} {next : ℕ} → x ≡ Ok (Some (e, next)) → (u : Outcome) → Stepped (decoded t) e u
        → (o : List ℕ) (r : ℕ) → Answered u.answer u.table b o r → StepExported t f b o r
    unfolding step_bytes
    event x i {e} {next} g u s o r a = record {
      number = q;
      buffer = by_test (λ (l : List ℕ). o ≡ l) (λ y. let z = q ∙ eqb-true _ 0 y in a.whole z ∙ ap (λ (v : State). state_bytes v ++ drop size b) after_it) (λ y. a.kept (λ z. eqb-false _ 0 y (sym q ∙ z)));
      back = λ z. a.back z ∙ after_it;
    }
      where
        w : next_at f 0 ≡ Ok (Some (e, next))
        w = sym i ∙ g

        q : r ≡ step_number t f b
        q = a.number ∙ s.answer ∙ sym (long ∙ rw w)

        after_it : view u.table ≡ field_after (state_of t) (next_at f 0)
        after_it = s.table ∙ rw w
