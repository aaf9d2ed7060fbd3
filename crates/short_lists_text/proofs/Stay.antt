-- Lists that a step makes which does the same at the first events of a run; T-06 takes none of T-01's lists away, as none of their events meets 18.
use Prim.Native.Nat.{ℕ, zero, suc, ◌+◌, ◌≤◌, ◌<◌}
use native.Mathlib.Omega.{arith}
use mathlib.Core.Path.{◌≡◌, refl, sym, ◌∙◌, ap, subst}
use mathlib.Core.List.{List, [], ◌∷◌, ◌++◌, map}
use lib.ListN.{length, length-append}
use borrow.Author.Tests.{eqb-true}
use Rattle.model.specs.Limits.{tower}
use Rattle.model.specs.Pick.{pick_true, by_test}
use Rattle.model.specs.State.{State, start}
use Rattle.model.specs.Step.{Result, refused, accepted, step, kept, run_from, run}
use Rattle.model.proofs.Whole.{run_append}
use Rattle.model.proofs.Checks.{check_rules}
use Rattle.model.specs.declared.Event.{Event}
use Rattle.listing.specs.Printing.{joined}
use Rattle.short_lists_text.specs.Lists.{alphabet, continued, lists_from}
use Rattle.short_lists_text.specs.Text.{lines_of, text_of}
use Rattle.short_lists_text.specs.Claims.{lists_by, former_result, step_without_eighteen, ListsStay}
use Rattle.short_lists_text.proofs.Rows.{same_rows}
use Rattle.short_lists_text.proofs.Refuses.{allowed}

-- of a step f that does the same at the first k events of a run
module _ (f : State → Event → Result) (n k : ℕ) (same : (es : List Event) (e : Event) → length es < k → f (run n tower es) e ≡ step (run n tower es) e) where
  -- after the events es
  from_run : (m : ℕ) (es : List Event) → length es + m ≤ k → lists_by f m (run n tower es) ≡ lists_from m (run n tower es)
  unfolding lists_by lists_from run_from
  from_run zero es h = refl
  from_run (suc m) es h =
      same_rows _ _
      (λ e. ap (λ (x : Result). continued e x (lists_by f m)) (same es e (omega (arith, h)))
      ∙ each e (step (run n tower es) e) refl (from_run m (es ++ (e ∷ [])) (omega (arith, h, length-append es (e ∷ [])))))
      (alphabet (run n tower es).n)
    where
      each : (e : Event) (x : Result) → step (run n tower es) e ≡ x → lists_by f m (run n tower (es ++ (e ∷ []))) ≡ lists_from m (run n tower (es ++ (e ∷ [])))
          → continued e x (lists_by f m) ≡ continued e x (lists_from m)
      each e (refused r) q l = refl
      each e (accepted u j) q l =
          ap (map (λ es. e ∷ es)) (subst (λ (s : State). lists_by f m s ≡ lists_from m s) (run_append (start n tower) es (e ∷ []) ∙ ap (kept (run n tower es)) q) l)

  pub from_start : (m : ℕ) → m ≤ k → lists_by f m (start n tower) ≡ lists_from m (start n tower)
  unfolding run_from
  from_start m h = from_run m [] (omega (arith, h))

-- the text of an input that is allowed
pub text_of_lem : (n m : ℕ) → 1 ≤ n → n ≤ 3 → m ≤ 7 → text_of (n ∷ m ∷ []) ≡ joined (lines_of (lists_from m (start n tower)))
unfolding text_of
text_of_lem n m l h k = rw (allowed 7 n m l h k, pick_true)

-- ── T-06 ──
unchecked : (n : ℕ) (es : List Event) (e : Event) → length es < 7 → step_without_eighteen (run n tower es) e ≡ step (run n tower es) e
unchecked n es e h = by (step (run n tower es) e) refl
  where
    by : (x : Result) → step (run n tower es) e ≡ x → former_result (run n tower es) x ≡ x
    by (refused r) q =
        by_test (λ (y : Result). y ≡ refused r) (λ t. absurd (check_rules.not_early n tower es e (omega (arith, h)) (q ∙ ap refused (eqb-true r 18 t)))) (λ _. refl)
    by (accepted u k) q = refl

lists : (n m : ℕ) → m ≤ 7 → lists_by step_without_eighteen m (start n tower) ≡ lists_from m (start n tower)
lists n m h = from_start step_without_eighteen n 7 (unchecked n) m h

texts : (n m : ℕ) → 1 ≤ n → n ≤ 3 → m ≤ 7 → text_of (n ∷ m ∷ []) ≡ joined (lines_of (lists_by step_without_eighteen m (start n tower)))
texts n m l h k = text_of_lem n m l h k ∙ ap (λ (ls : List (List Event)). joined (lines_of ls)) (sym (lists n m k))

pub lists_stay : ListsStay
lists_stay = record { lists = lists; texts = texts }
