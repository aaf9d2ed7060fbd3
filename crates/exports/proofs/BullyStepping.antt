-- The promise of `nevraspu_bully_step` by its cases: too little room, a field that is no event, and an event.
use Rattle.std.specs.Prelude.{Ok}
use Prim.Native.Nat.{ℕ, ◌≤◌, ◌<◌}
use native.Mathlib.Omega.{arith}
use mathlib.Core.Path.{◌≡◌, sym, ◌∙◌, ap}
use mathlib.Core.List.{List, ◌++◌}
use lib.ListN.{length, drop}
use borrow.Author.Tests.{eqb-true, eqb-false}
use Rattle.model.specs.Pick.{by_test}
use Rattle.bully_model.specs.State.{State, starting_node, view, table_of}
use Rattle.bully_model.specs.declared.Node.{Node}
use Rattle.bully_model.specs.declared.Table.{Table}
use Rattle.bully_model.specs.declared.Event.{Event}
use Rattle.bully_model.specs.declared.Outcome.{Outcome}
use Rattle.bully_machine.specs.Stepped.{Stepped}
use Rattle.bully_bytes.specs.Bytes.{decoded, size}
use Rattle.bully_bytes.specs.Field.{FieldRead, event_in}
use Rattle.exports.specs.BullyBoundary.{state_of, state_bytes, field_number, field_after, bully_number, bully_bytes, BullyExported}
use Rattle.exports.specs.Parts.{BullyAnswered}
use Rattle.exports.proofs.BullyClaims as claims
use Rattle.exports.proofs.Clearing.{first_again}

-- the table of what t means, means the same
pub view_table : (t : Table) → length t.nodes ≡ 16 → view (table_of (view t)) ≡ view t
view_table t long = ap (λ (cs : List Node). record { n = t.n; nodes = cs }) (first_again starting_node 16 t.n t.nodes long)

module _ (t f b : List ℕ) where
  -- any number but 0 keeps the buffer
  kept_by : (r : ℕ) → r ≡ bully_number t f b → (r ≡ 0 → ⊥) → BullyExported t f b b r
  kept_by r e h = record { number = e; buffer = sym (claims.keeps t f b (λ z. h (e ∙ z))); back = λ z. absurd (h z) }

  pub short : length b < size → BullyExported t f b b 255
  short h = kept_by 255 (sym (claims.short t f b h)) (λ z. omega arith)

  module _ (room : size ≤ length b) where
    long : bully_number t f b ≡ field_number (state_of t) (event_in f)
    long = claims.long t f b room

    -- x: what the field says
    pub no_event : (x : FieldRead) → x ≡ event_in f → (r : ℕ) → r ≡ field_number (state_of t) x → (r ≡ 0 → ⊥) → BullyExported t f b b r
    no_event x i r e h = kept_by r (e ∙ rw i (sym long)) h

    pub event : (x : FieldRead) → x ≡ event_in f → {e : Event} → x ≡ Ok e → (u : Outcome) → Stepped (decoded t) e u
        → (o : List ℕ) (r : ℕ) → BullyAnswered u.answer u.table b o r → BullyExported t f b o r
    unfolding bully_bytes
    event x i {e} g u s o r a = record {
      number = q;
      buffer = by_test (λ (l : List ℕ). o ≡ l) (λ y. let z = q ∙ eqb-true _ 0 y in a.whole z room ∙ ap (λ (v : State). state_bytes v ++ drop size b) after_it) (λ y. a.kept (λ z. eqb-false _ 0 y (sym q ∙ z)));
      back = λ z. a.back z room ∙ after_it;
    }
      where
        w : event_in f ≡ Ok e
        w = sym i ∙ g

        q : r ≡ bully_number t f b
        q = a.number ∙ s.answer ∙ sym (long ∙ rw w)

        after_it : view u.table ≡ field_after (state_of t) (event_in f)
        after_it = s.table ∙ rw w
