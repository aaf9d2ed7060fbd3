-- Full peals in a run (02, T-10): the claims `PealsByMajority`.
use Prim.Native.Nat.{ℕ, ◌≤◌}
use native.Mathlib.Omega.{arith}
use mathlib.Core.Bool.{true, false}
use mathlib.Core.Logic.{◌⊎◌, inl, inr}
use mathlib.Core.Path.{◌≡◌, sym, ◌∙◌, ap, subst}
use mathlib.Core.List.{List, ◌∷◌, ◌++◌}
use borrow.Author.Tests.{not-false}
use Rattle.model.specs.Range.{PairRule}
use Rattle.model.specs.Node.{is_down, is_collecting}
use Rattle.model.specs.State.{State, start_by, node_at}
use Rattle.model.specs.Step.{step, run_by, accepted}
use Rattle.model.specs.Claims.{Recovering, Finishing, Fixes, FullPeal, MoreThanHalf, CountedByBoth, PealStarted, PealsByMajority}
use Rattle.model.proofs.Judged.{accepted_is}
use Rattle.model.proofs.Whole.{run_collects}
use Rattle.model.proofs.Fields.{node_is}
use Rattle.model.proofs.Acceptances.{of_acceptances}
use Rattle.model.proofs.InRange.{event_in}
use Rattle.model.proofs.Fixed.{task_from_list}
use Rattle.model.proofs.Traffic.{run_n}
use Rattle.model.proofs.Majority.{majority_rules}
use Rattle.model.specs.declared.Limits.{Limits}
use Rattle.model.specs.declared.TaskNo.{TaskNo}
use Rattle.model.specs.declared.Mark.{Mark}
use Rattle.model.specs.declared.Mark.TheVariants.{Plain, Recovers}
use Rattle.model.specs.declared.Event.{Event}
use Rattle.model.specs.declared.Event.TheVariants.{Finish}

module _ (rule : PairRule) (n : ℕ) (lim : Limits) (small : n ≤ 16) where
  own : (es : List Event) (i : ℕ) → 1 ≤ i → i ≤ n → is_down (node_at (run_by rule n lim es) i).status ≡ false → is_collecting (node_at (run_by rule n lim es) i).activity ≡ true
      → (node_at (run_by rule n lim es) i).coordinator ≡ i
  own es i low high up q = run_collects rule n lim small es i low (omega (arith, high, run_n (start_by rule n lim) es)) up q

  -- so is one whose finish is accepted
  finishing : (es : List Event) (i : ℕ) (t : TaskNo) (u : State) (k : Mark) → step (run_by rule n lim es) (Finish i t) ≡ accepted u k → (node_at (run_by rule n lim es) i).coordinator ≡ i
  finishing es i t u k q =
      let c = (accepted_is (run_by rule n lim es) (Finish i t) u k q).clear in
      let p = node_is (run_by rule n lim es).n i (not-false _ c.number) in
      run_collects rule n lim small es i p.low p.high c.status (not-false _ c.activity)

  only_if : (es : List Event) (i : ℕ) (t : TaskNo) (u : State) (k : Mark) → step (run_by rule n lim es) (Finish i t) ≡ accepted u k → FullPeal t.number
      → MoreThanHalf n (node_at (run_by rule n lim es) i)
  only_if es i t u k q p =
      subst (λ (m : ℕ). MoreThanHalf m (node_at (run_by rule n lim es) i)) (run_n (start_by rule n lim) es) (majority_rules.only_if (run_by rule n lim es) i t u k q p)

  -- what fixes a full peal is a finish: a solo task is the number of a node
  started : (es : List Event) (g t : ℕ) → Fixes rule n lim es g t → FullPeal t → PealStarted rule n lim es g t
  started es g t f p = by f.how
    where
      by : Recovering rule n lim f.before f.event g t ⊎ Finishing rule n lim f.before f.event g t → PealStarted rule n lim es g t
      by (inl x) =
          let c = (accepted_is _ f.event x.table Recovers x.recovers).clear in
          absurd (omega (arith, x.solo, (event_in _ f.event c).place.high, run_n (start_by rule n lim) f.before, p.0))
      by (inr x) =
          let q = subst (λ (e : Event). step (run_by rule n lim f.before) e ≡ accepted x.table Plain) x.event x.finishes in
          record {
            before = f.before;
            node = x.node;
            task = x.task;
            behind = f.behind;
            table = x.table;
            whole = f.whole ∙ ap (λ (e : Event). f.before ++ (e ∷ f.behind)) x.event;
            number = x.number;
            finishes = q;
            group = x.group;
            coordinator = finishing f.before x.node x.task x.table Plain q;
            majority = only_if f.before x.node x.task x.table Plain q (subst FullPeal (sym x.number) p);
          }

  pub peals_by_majority : PealsByMajority rule n lim
  peals_by_majority =
      record {
        only_if = only_if;
        by_coordinator = own;
        normal = λ es i l h q p. started es _ _ ((task_from_list rule n lim small).task es i l h q) p;
        entered = λ es g t q p. started es g t ((task_from_list rule n lim small).entry_fixed es g t q) p;
        share = λ es fs i j t v x y k m q p w z.
            let a = run_n (start_by rule n lim) es in
            let b = run_n (start_by rule n lim) fs in
            subst (λ (d : ℕ). CountedByBoth d (run_by rule n lim es) i (run_by rule n lim fs) j) a (majority_rules.share _ _ i j t v x y k m (a ∙ sym b) q p w z);
        of_acceptances = of_acceptances rule n lim;
      }
