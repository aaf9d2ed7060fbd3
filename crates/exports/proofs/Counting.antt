-- How the count of accepted events goes on, event by event.
use Rattle.std.specs.Prelude.{Some, None, Ok, Err}
use Prim.Native.Nat.{ℕ, ◌+◌, ◌≤◌}
use native.Mathlib.Omega.{arith}
use mathlib.Core.Path.{◌≡◌, refl, ◌∙◌, ap}
use mathlib.Core.List.{List}
use lib.Dec.{eqb}
use borrow.Author.Tests.{ne_eqb}
use Rattle.model.specs.Pick.{pick, pick_true, pick_false, by_test}
use Rattle.model.specs.State.{State}
use Rattle.model.specs.Step.{Result, refused, accepted, step, after}
use Rattle.model.specs.Traffic.{of_accepted, tally, accepted_from}
use Rattle.model.specs.Answers.{result_number}
use Rattle.model.proofs.Refusals.{refuses_by_ground}
use Rattle.model.specs.declared.Event.{Event}
use Rattle.event_list.specs.Format.{Next, next_at, rest}
use Rattle.event_list.specs.declared.Stop.{Stop}
use Rattle.event_list.proofs.Reading.{rest_done, rest_stopped, rest_got}
use Rattle.exports.specs.Boundary.{plus_accepted}

-- at most one more
pub plus_one : (k r : ℕ) → plus_accepted k r ≤ k + 1
unfolding plus_accepted
plus_one k r = by_test (λ (x : ℕ). x ≤ k + 1) (λ _. omega arith) (λ _. omega arith)

-- one more where the event is accepted: no refusal has the number 0
plus_accepted_lem : (s : State) (e : Event) (k : ℕ) → plus_accepted k (result_number (step s e)) ≡ k + of_accepted 1 (step s e)
unfolding plus_accepted
plus_accepted_lem s e k = by (step s e) refl
  where
    by : (x : Result) → step s e ≡ x → pick (eqb (result_number (step s e)) 0) (k + 1) k ≡ k + of_accepted 1 (step s e)
    by (accepted u m) q = rw (q, pick_true)
    by (refused r) q = rw (q, ne_eqb r 0 (λ z. refuses_by_ground.never_zero s e (q ∙ ap refused z)), pick_false) (omega arith)

-- the events of l from at on, run from s
abbrev pub left : List ℕ → State → ℕ → ℕ
left l s at = accepted_from s (rest l at).events

module _ (l : List ℕ) (s : State) (at : ℕ) {x : Next} (i : x ≡ next_at l at) where
  pub left_done : x ≡ Ok None → left l s at ≡ 0
  unfolding tally
  left_done q = rw (rest_done l at i q)

  pub left_stopped : {z : Stop} → x ≡ Err z → left l s at ≡ 0
  unfolding tally
  left_stopped q = rw (rest_stopped l at i q)

  -- r: the answer's number, and u the state after the event
  pub left_got : {e : Event} {next : ℕ} → x ≡ Ok (Some (e, next)) → (k r : ℕ) → r ≡ result_number (step s e) → (u : State) → u ≡ after s e → plus_accepted k r + left l u next ≡ k + left l s at
  unfolding tally
  left_got {e} {next} q k r hr u hu = rw (rest_got l at i q, hr, hu) (omega (arith, plus_accepted_lem s e k))
