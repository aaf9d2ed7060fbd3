-- Demand 3, the traffic and the range of the driver's runs: its turns are events of a run.
use Prim.Native.Nat.{ℕ, ◌≤◌}
use native.Mathlib.Omega.{arith}
use mathlib.Core.Bool.{true, not, true≢false}
use mathlib.Core.Path.{◌≡◌, sym, ◌∙◌, ap, subst}
use mathlib.Core.List.{List}
use Rattle.model.specs.Pick.{by_test}
use Rattle.model.specs.Grounds.{judged}
use Rattle.model.specs.Node.{is_active}
use Rattle.model.specs.Range.{PairRule, TwoPairs, LeftOut}
use Rattle.model.specs.State.{State, start_by, node_at, in_range}
use Rattle.model.specs.Step.{step, run_by}
use Rattle.model.specs.Claims.{RunHolds}
use Rattle.model.proofs.TowerAndStand.{tower_and_stand}
use Rattle.model.specs.declared.Limits.{Limits}
use Rattle.model.specs.declared.Status.TheVariants.{Normal}
use Rattle.model.specs.declared.Event.{Event}
use Rattle.round.specs.Turn.{Turn, turn_refused, turn_grounds, looked_at, turn_at}
use Rattle.round.specs.Schedule.{Move, drive}
use Rattle.round.specs.Claims.{table_by, events_by, DriverHolds, DriverRuns}
use Rattle.round.specs.declared.Place.{Place}
use Rattle.round.proofs.Turns.{turn_apart}
use Rattle.round.proofs.Schedules.{schedule_is_run}

-- a turn on a table in range does not meet 1
pub in_range_not_one : (s : State) (p : Place) → in_range s ≡ true → turn_at s p ≡ turn_refused 1 → ⊥
unfolding turn_at turn_grounds looked_at judged
in_range_not_one s p r =
    by_test P (λ e _. true≢false (sym e ∙ ap not r)) (λ _. by_test P (λ _ q. one_apart q) (λ _. by_test P (λ _ q. turn_apart q) (λ _ q. turn_apart q)))
  where
    P : Turn → Type 0
    P t = t ≡ turn_refused 1 → ⊥

    one_apart : turn_refused 7 ≡ turn_refused 1 → ⊥
    one_apart q = let z : ◌≡◌ {A = ℕ} 7 1 = cc in omega (arith, z)

module _ (r : PairRule) (n : ℕ) (lim : Limits) (h : RunHolds r n lim) where
  is_run : (p : Place) (ms : List Move) → table_by r n lim p ms ≡ run_by r n lim (events_by r n lim p ms)
  is_run p ms = schedule_is_run.schedule (drive (start_by r n lim) p) ms

  in_range_lem : (p : Place) (ms : List Move) → in_range (table_by r n lim p ms) ≡ true
  in_range_lem p ms = ap in_range (is_run p ms) ∙ h.in_range_lem (events_by r n lim p ms)

  agree : (s : State) (es : List Event) → s ≡ run_by r n lim es → (i j : ℕ) → 1 ≤ i → i ≤ n → 1 ≤ j → j ≤ n → (node_at s i).status ≡ Normal → (node_at s j).status ≡ Normal
      → (node_at s i).group.number ≡ (node_at s j).group.number → ((node_at s i).coordinator ≡ (node_at s j).coordinator) × ((node_at s i).task.number ≡ (node_at s j).task.number)
  agree s es z =
      subst
      (λ (s : State). (i j : ℕ) → 1 ≤ i → i ≤ n → 1 ≤ j → j ≤ n → (node_at s i).status ≡ Normal → (node_at s j).status ≡ Normal
      → (node_at s i).group.number ≡ (node_at s j).group.number → ((node_at s i).coordinator ≡ (node_at s j).coordinator) × ((node_at s i).task.number ≡ (node_at s j).task.number))
      (sym z)
      (λ i j a b c d p q g.
      (h.fixes.same_coordinator es i j a b c d (ap is_active p) (ap is_active q) g, h.fixes.same_task es i j a b c d p q g))

  driver_holds : DriverHolds r n lim
  driver_holds =
      record {
        is_run = is_run;
        holds = h;
        in_range_lem = in_range_lem;
        never_one = λ p ms q. in_range_not_one (table_by r n lim p ms) q (in_range_lem p ms);
        never_seventeen = λ p ms e q. h.traffic.never_seventeen (events_by r n lim p ms) e (ap (λ (s : State). step s e) (sym (is_run p ms)) ∙ q);
        agree = λ p ms. agree (table_by r n lim p ms) (events_by r n lim p ms) (is_run p ms);
      }

pub driver_runs : DriverRuns
driver_runs =
    record {
      any_limits = λ n lim a b low high. driver_holds LeftOut n lim (tower_and_stand.any_limits n lim a b low high);
      for_tower = λ n low high. driver_holds TwoPairs n (record { nodes = 16; messages = 64 }) (tower_and_stand.for_tower n low high);
      for_stand = λ n low high. driver_holds TwoPairs n (record { nodes = 4; messages = 12 }) (tower_and_stand.for_stand n low high);
    }
