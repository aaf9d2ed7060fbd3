-- Two calls after `starting` are a chain, so the table is the model's, and demand 3 holds of it; of three, T-05.
use Prim.Native.Nat.{ℕ, ◌-◌, ◌≤◌}
use mathlib.Core.Bool.{Bool, true, false, true≢false}
use mathlib.Core.Path.{◌≡◌, refl, sym, ◌∙◌, ap}
use mathlib.Core.List.{List, [], ◌∷◌}
use lib.Dec.{leb}
use borrow.Author.Tests.{le-leb, leb-true}
use Rattle.model.specs.Limits.{node_limit}
use Rattle.model.specs.Node.{is_normal}
use Rattle.model.specs.State.{State, start, node_at, view}
use Rattle.model.specs.Counts.{count_at, rows_of}
use Rattle.model.specs.Step.{Result, step, kept, after, run_from, run}
use Rattle.model.specs.Range.{TwoPairs}
use Rattle.model.specs.Traffic.{lost_in}
use Rattle.model.specs.Answers.{result_number}
use Rattle.model.proofs.Judged.{by_step}
use Rattle.model.proofs.Fields.{in_range_size}
use Rattle.model.proofs.Traffic.{lost_in_lem}
use Rattle.model.specs.declared.Limits.{Limits}
use Rattle.model.specs.declared.Status.TheVariants.{Normal}
use Rattle.model.specs.declared.Node.{Node}
use Rattle.model.specs.declared.Event.{Event}
use Rattle.model.specs.declared.Outcome.{Outcome}
use Rattle.traffic.proofs.Laws.{rows_same}
use Rattle.machine.specs.declared.Start.{Start}
use Rattle.machine.specs.Stepped.{Stepped, Begun}
use Rattle.machine.specs.Folded.{Folded}
use Rattle.machine.specs.Claims.{Reached}
use Rattle.machine.proofs.Runs.{start_node, code_runs, code_fixes}
use Rattle.session.specs.Applied.{Applied}
use Rattle.session.proofs.Sessions.{session_runs, session_fixed}
use Rattle.client.specs.Fixed.{Fixed, Twice}

-- ── n above 16 ──

-- such a table is not in range, and so it stays
stays : (s : State) (es : List Event) → (s.n ≤ node_limit → ⊥) → run_from s es ≡ s
unfolding run_from
stays s [] h = refl
stays s (e ∷ es) h =
    ap (λ (u : State). run_from u es) (by_step (λ (q : Result). kept s q ≡ s) s e (λ x. refl) (λ c. absurd (h (in_range_size s c.in_range_lem).1))) ∙ stays s es h

-- and none of its nodes is Normal
none_normal : (n i : ℕ) (lim : Limits) (es : List Event) → (n ≤ node_limit → ⊥) → (node_at (run n lim es) i).status ≡ Normal → ⊥
none_normal n i lim es h e =
    true≢false (ap is_normal (sym e) ∙ ap (λ (s : State). is_normal (node_at s i).status) (stays (start n lim) es h) ∙ ap (λ (c : Node). is_normal c.status) (start_node n (i - 1)))

-- so what holds for n up to 16 holds for any n
any_n : (n : ℕ) (lim : Limits) (es : List Event) (s : State) → s ≡ run n lim es → (n ≤ node_limit → Fixed n lim es s) → Fixed n lim es s
any_n n lim es s z f = by (leb n node_limit) refl
  where
    by : (t : Bool) → leb n node_limit ≡ t → Fixed n lim es s
    by true q = f (leb-true n node_limit q)
    by false q = λ i l h e. absurd (none_normal n i lim es (λ k. true≢false (sym (le-leb n node_limit k) ∙ q)) (sym (ap (λ (u : State). (node_at u i).status) z) ∙ e))

-- ── the two calls ──

module _ {n : ℕ} {lim : Limits} {a b : Event} {s : Start} {o r : Outcome} (begun : Begun n lim s) (x : Stepped s.table a o) (y : Stepped o.table b r) where
  -- by value
  pub by_value : Twice n lim a b r
  by_value =
      record {
        table = code_runs.from_start n lim (a ∷ b ∷ []) r.table both;
        answer = y.answer ∙ ap (λ (u : State). result_number (step u b)) (code_runs.from_start n lim (a ∷ []) o.table one);
        fixed = any_n n lim (a ∷ b ∷ []) (view r.table) (code_runs.from_start n lim (a ∷ b ∷ []) r.table both) (λ h. (code_fixes n lim h).fixed_task both []);
      }
    where
      one : Reached Folded n lim (a ∷ []) o.table
      one = record { first = s; begun = begun; led = Folded.more x Folded.none }

      both : Reached Folded n lim (a ∷ b ∷ []) r.table
      both = record { first = s; begun = begun; led = Folded.more x (Folded.more y Folded.none) }

  -- in place
  pub in_place : Twice n lim a b r
  in_place =
      record {
        table = session_runs.from_start n lim (a ∷ b ∷ []) r.table both;
        answer = y.answer ∙ ap (λ (u : State). result_number (step u b)) (session_runs.from_start n lim (a ∷ []) o.table one);
        fixed = any_n n lim (a ∷ b ∷ []) (view r.table) (session_runs.from_start n lim (a ∷ b ∷ []) r.table both) (λ h. (session_fixed n lim h).fixed_task both []);
      }
    where
      one : Reached Applied n lim (a ∷ []) o.table
      one = record { first = s; begun = begun; led = Applied.more x Applied.none }

      both : Reached Applied n lim (a ∷ b ∷ []) r.table
      both = record { first = s; begun = begun; led = Applied.more x (Applied.more y Applied.none) }

-- ── T-05 ──

-- a third call, and the counts of lost messages as rows
pub lost_in_three : {n : ℕ} {lim : Limits} {a b c : Event} {o r : Outcome} → Twice n lim a b o → Stepped o.table c r → rows_of (count_at r.table.lost) ≡ rows_of (lost_in TwoPairs n lim (a ∷ b ∷ c ∷ []))
unfolding run_from
lost_in_three {n} {lim} {a} {b} {c} {o} {r} x y =
    rows_same _ _ (λ i j p.
    ap (λ (s : State). count_at s.lost i j) (y.table ∙ ap (λ (s : State). after s c) x.table) ∙ lost_in_lem TwoPairs n lim (a ∷ b ∷ c ∷ []) i j p)
