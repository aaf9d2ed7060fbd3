-- T-13's claim of the code: its answers are the model's, and its tables those of the model's runs.
use Prim.Native.Nat.{ℕ, ◌+◌, ◌*◌, ◌≤◌}
use native.Mathlib.Omega.{arith}
use mathlib.Core.Bool.{Bool, true, false}
use mathlib.Core.Path.{◌≡◌, refl, sym, ◌∙◌, ap, ap₂, subst}
use mathlib.Core.List.{List}
use lib.ListN.{length, replicate}
use borrow.Author.Tests.{eqb-true, eq-eqb}
use Rattle.model.specs.Counts.{one}
use Rattle.model.specs.Limits.{tower, stand}
use Rattle.model.specs.Range.{TwoPairs}
use Rattle.model.specs.State.{State, no_message, view}
use Rattle.model.specs.Step.{Result, refused, accepted, step, run}
use Rattle.model.specs.Traffic.{of_accepted, tally, accepted_from}
use Rattle.model.specs.Answers.{Answer, answer_number, result_number, is_accepted}
use Rattle.model.specs.Claims.{MayStart}
use Rattle.model.proofs.Answers.{accepted_zero}
use Rattle.model.proofs.Lists.{first_length}
use Rattle.model.proofs.Refusals.{refuses_by_ground}
use Rattle.model.proofs.TowerAndStand.{holds}
use Rattle.model.specs.declared.Limits.{Limits}
use Rattle.model.specs.declared.Table.{Table}
use Rattle.model.specs.declared.Event.{Event}
use Rattle.model.specs.declared.Outcome.{Outcome}
use Rattle.machine.specs.Stepped.{Stepped}
use Rattle.machine.specs.Claims.{Chain, Reached, CodeRuns}
use Rattle.machine.specs.Folded.{Folded}
use Rattle.machine.proofs.Runs.{accepted_alike, code_runs}
use Rattle.session.specs.Applied.{Applied}
use Rattle.session.proofs.Sessions.{session_runs}
use Rattle.round.specs.Order.{is_in_round, round_size}
use Rattle.round.specs.Schedule.{turn, Drive, drive, driven}
use Rattle.round.specs.declared.Place.{Place}
use Rattle.driver.specs.Scheduled.{Scheduled, ByDriver}
use Rattle.driver.proofs.Chains.{code_round, code_driver_runs}
use Rattle.rest_bound.specs.Quiet.{all_quiet}
use Rattle.rest_bound.specs.Potential.{rest_bound}
use Rattle.rest_bound.specs.Turns.{accepted_by, queue_empty}
use Rattle.rest_bound.proofs.Falls.{bound_most, run_waiting, run_rests}
use Rattle.rest_bound.proofs.Turns.{unchanged, driver_rests}
use Rattle.rest_list.specs.Chains.{FoldedCounting, none, more, CodeRests, CodeComesToRest, EveryChainRests}

-- ── the answers ──
refused_none : (a : Answer) → (answer_number a ≡ 0 → ⊥) → one (is_accepted a) ≡ 0
refused_none a h = by (is_accepted a) refl
  where
    by : (t : Bool) → is_accepted a ≡ t → one (is_accepted a) ≡ 0
    by true e = absurd (h (accepted_zero a e))
    by false e = ap one e

answer_counts : {t : Table} {e : Event} {r : Outcome} → Stepped t e r → one (is_accepted r.answer) ≡ of_accepted 1 (step (view t) e)
answer_counts {t} {e} {r} x = by (step (view t) e) refl
  where
    by : (y : Result) → step (view t) e ≡ y → one (is_accepted r.answer) ≡ of_accepted 1 (step (view t) e)
    by (accepted u k) q = ap (λ (a : Answer). one (is_accepted a)) (accepted_alike.code_accepts x u k q) ∙ sym (ap (of_accepted 1) q)
    by (refused d) q =
        refused_none r.answer (λ z. refuses_by_ground.never_zero (view t) e (q ∙ ap refused (sym (x.answer ∙ ap result_number q) ∙ z)))
        ∙ sym (ap (of_accepted 1) q)

answers_count : {t u : Table} {es : List Event} {k : ℕ} → FoldedCounting t es k u → k ≡ accepted_from (view t) es
unfolding tally
answers_count none = refl
answers_count (more {es = es} x a) = ap₂ ◌+◌ (answer_counts x) (answers_count a ∙ ap (λ (s : State). accepted_from s es) x.table)

-- ── the claim ──
module _ (chain : Chain) (runs : CodeRuns chain) (n : ℕ) (lim : Limits) (m : MayStart TwoPairs n lim) where
  waiting_is : (t : Table) → length (view t).queue ≡ t.waiting
  waiting_is t = first_length t.waiting no_message t.messages

  answers : {es fs : List Event} {t u : Table} {k : ℕ} → Reached chain n lim es t → all_quiet fs ≡ true → FoldedCounting t fs k u → k ≤ rest_bound n t.waiting
  answers {es} {fs} {t} x q a =
      let e = runs.from_start n lim es t x in
      let b = subst (λ (s : State). accepted_from s fs ≤ rest_bound n (length s.queue)) (sym e) ((run_rests TwoPairs n lim (holds TwoPairs n lim m)).rests es fs q) in
      omega (arith, answers_count a, b, waiting_is t)

  turns : {es : List Event} {t u : Table} {p q : Place} {k : ℕ} → Reached chain n lim es t → is_in_round n p ≡ true → rest_bound n t.waiting * round_size n ≤ k
      → Scheduled t p (replicate k turn) u q → u.waiting ≡ 0
  turns {es} {t} {u} {p} {q} {k} x i h s =
      let e = runs.from_start n lim es t x in
      let b = ap (λ (w : ℕ). rest_bound n w * round_size n) (ap (λ (v : State). length v.queue) (sym e) ∙ waiting_is t) in
      let y = (driver_rests TwoPairs n lim (holds TwoPairs n lim m)).turns es p k i (omega (arith, b, h)) in
      let d : view u ≡ (driven (drive (run n lim es) p) (replicate k turn)).table = ap (λ (v : Drive). v.table) (code_round.drives s) ∙ ap (λ (v : State). (driven (drive v p) (replicate k turn)).table) e in
      sym (waiting_is u) ∙ eqb-true (length (view u).queue) 0 (ap (λ (v : State). queue_empty v) d ∙ y)

  code_rests : CodeRests chain n lim
  code_rests =
      record {
        answers = answers;
        schedules = λ {es} {t} {u} {p} {q} {ms} x ok s.
            let e = runs.from_start n lim es t x in
            let b = subst (λ (v : State). accepted_by (drive v p) ms ≤ rest_bound n (length v.queue)) (sym e) ((driver_rests TwoPairs n lim (holds TwoPairs n lim m)).accepts es p ms ok) in
            omega (arith, b, waiting_is t);
        unchanged = λ {es} {t} {u} {p} {q} k x w s. ap (λ (v : Drive). v.table) (code_round.drives s) ∙ unchanged k (drive (view t) p) (eq-eqb (length (view t).queue) 0 (waiting_is t ∙ w));
        turns = turns;
        alone = λ {es} {t} x e.
            sym (waiting_is t) ∙ eqb-true (length (view t).queue) 0 (ap (λ (v : State). queue_empty v) (runs.from_start n lim es t x) ∙ (driver_rests TwoPairs n lim (holds TwoPairs n lim m)).alone es e);
      }

chain_rests : (chain : Chain) → CodeRuns chain → CodeComesToRest chain
chain_rests chain runs =
    record {
      any = code_rests chain runs;
      for_tower = λ n low high {es} {fs} {t} {u} {k} x q a.
          let m : MayStart TwoPairs n tower = record { within = refl; pair = refl; low = low; high = high } in
          omega (arith, answers chain runs n tower m x q a, few n tower m es t x, bound_most n 16 64 high);
      for_stand = λ n low high {es} {fs} {t} {u} {k} x q a.
          let m : MayStart TwoPairs n stand = record { within = refl; pair = refl; low = low; high = high } in
          omega (arith, answers chain runs n stand m x q a, few n stand m es t x, bound_most n 4 12 high);
    }
  where
    few : (n : ℕ) (lim : Limits) → MayStart TwoPairs n lim → (es : List Event) (t : Table) → Reached chain n lim es t → t.waiting ≤ lim.messages
    few n lim m es t x =
        let e = runs.from_start n lim es t x in
        omega (arith, run_waiting TwoPairs n lim (holds TwoPairs n lim m) es, ap (λ (v : State). length v.queue) e, first_length t.waiting no_message t.messages)

pub every_chain_rests : EveryChainRests
every_chain_rests = record { by_value = chain_rests Folded code_runs; in_place = chain_rests Applied session_runs; by_driver = chain_rests ByDriver code_driver_runs.runs }
