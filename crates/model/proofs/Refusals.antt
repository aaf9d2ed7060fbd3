-- Refusals: by the first ground that applies, with its number, and no other.
use Prim.Native.Nat.{ℕ, ◌≤◌}
use native.Mathlib.Omega.{arith}
use mathlib.Core.Bool.{Bool, true, ◌&&◌, ◌||◌}
use mathlib.Core.Logic.{◌⊎◌, inl, inr, ⊎_elim}
use mathlib.Core.Path.{◌≡◌, refl, sym, ◌∙◌, ap, subst}
use mathlib.Core.List.{[], ◌∷◌, map}
use lib.Dec.{eqb, leb}
use borrow.Author.Tests.{eqb-true, leb-true}
use Rattle.model.specs.Pick.{pick}
use Rattle.model.specs.State.{State}
use Rattle.model.specs.Grounds.{judged, NoneApplies}
use Rattle.model.specs.Step.{reaction_to, pair_at_end, grounds, Result, refused, accepted, step}
use Rattle.model.specs.Answers.{result_number}
use Rattle.model.specs.Claims.{Accepts, FirstApplies, RefusesByGround}
use Rattle.model.proofs.Grounds.{judged_each, first_refuses, first_applies, not_refused}
use Rattle.model.proofs.Judged.{Clear, none_applies, accepted_apart, refused_same}
use Rattle.model.proofs.Local.{both_left, both_right}
use Rattle.model.proofs.Fields.{either}
use Rattle.model.proofs.InRange.{delivery_never_full}
use Rattle.model.specs.declared.Mark.{Mark}
use Rattle.model.specs.declared.Event.{Event}

-- the test f holds of the number of a refusal
abbrev Passes : (ℕ → Bool) → Result → Type 0
Passes f (refused r) = f r ≡ true
Passes f (accepted u k) = Unit {0}

-- 1, 7 to 14 or 17 to 19
abbrev of_events : ℕ → Bool
of_events r = eqb r 1 || ((leb 7 r && leb r 14) || (leb 17 r && leb r 19))

step_number : (s : State) (e : Event) → Passes of_events (step s e)
unfolding step grounds
step_number s e = judged_each refused (Passes of_events) _ (grounds s e) (refl, (refl, (refl, (refl, (refl, (refl, (refl, (refl, (refl, (refl, (refl, (refl, tt)))))))))))) tt

numbers : (s : State) (e : Event) (r : ℕ) → step s e ≡ refused r → (r ≡ 1) ⊎ (((7 ≤ r) × (r ≤ 14)) ⊎ ((17 ≤ r) × (r ≤ 19)))
numbers s e r q =
    ⊎_elim (λ x. inl (eqb-true r 1 x))
    (λ x. inr (⊎_elim (λ y. inl (within 7 14 y)) (λ y. inr (within 17 19 y)) (either (leb 7 r && leb r 14) (leb 17 r && leb r 19) x)))
    (either (eqb r 1) ((leb 7 r && leb r 14) || (leb 17 r && leb r 19)) (subst (Passes of_events) q (step_number s e)))
  where
    within : (a b : ℕ) → leb a r && leb r b ≡ true → (a ≤ r) × (r ≤ b)
    within a b y = (leb-true a r (both_left (leb a r) _ y), leb-true r b (both_right (leb a r) _ y))

never_zero : (s : State) (e : Event) → step s e ≡ refused 0 → ⊥
never_zero s e q = ⊎_elim (λ z. omega arith) (λ z. ⊎_elim (λ y. omega (arith, y.0)) (λ y. omega (arith, y.0)) z) (numbers s e 0 q)

zero_accepts : (s : State) (e : Event) → result_number (step s e) ≡ 0 → Accepts s e
zero_accepts s e z = by_result (step s e) refl
  where
    by_result : (x : Result) → step s e ≡ x → Accepts s e
    by_result (refused r) q = absurd (never_zero s e (q ∙ ap refused (sym (ap result_number q) ∙ z)))
    by_result (accepted u k) q = record { state = u; mark = k; is = q }

-- 17 is given where no other ground applies, and it does
pub clear_ends : (s : State) (e : Event) → Clear s e → pair_at_end s.sent (reaction_to s e).outgoing ≡ true → step s e ≡ refused 17
unfolding step grounds judged pick
clear_ends s e c t = rw (c.in_range_lem, c.number, c.task, c.status, c.activity, c.coordinator, c.majority, c.waiting, c.counter, c.calls, c.room, t)

-- ── the first ground that applies ──

first : (s : State) (e : Event) (r : ℕ) → step s e ≡ refused r → FirstApplies (grounds s e) r
unfolding step
first s e r q = first_applies refused (λ a b. refused_same) _ (λ x. accepted_apart) (grounds s e) r q

none : (s : State) (e : Event) (u : State) (k : Mark) → step s e ≡ accepted u k → NoneApplies (grounds s e)
unfolding step
none s e u k q = not_refused refused _ (accepted u k) (λ r. accepted_apart) (grounds s e) q

first_given : (s : State) (e : Event) (r : ℕ) → FirstApplies (grounds s e) r → step s e ≡ refused r
unfolding step
first_given s e r f = first_refuses refused _ (grounds s e) r f

none_accepts : (s : State) (e : Event) → NoneApplies (grounds s e) → Accepts s e
none_accepts s e c = record { state = _; mark = _; is = none_applies s e c }

order : (s : State) (e : Event) → map (λ g. g.number) (grounds s e) ≡ 1 ∷ 7 ∷ 8 ∷ 9 ∷ 10 ∷ 18 ∷ 19 ∷ 11 ∷ 12 ∷ 13 ∷ 14 ∷ 17 ∷ []
unfolding grounds
order s e = refl

pub refuses_by_ground : RefusesByGround
refuses_by_ground = record { order = order; first = first; first_given = first_given; none = none; none_accepts = none_accepts; numbers = numbers; never_zero = never_zero; zero_accepts = zero_accepts; delivery_never_full = delivery_never_full }

-- so the number of a result is small
pub result_small : (s : State) (e : Event) → result_number (step s e) ≤ 19
result_small s e = by (step s e) refl
  where
    by : (x : Result) → step s e ≡ x → result_number x ≤ 19
    by (refused r) q = ⊎_elim (λ h. omega arith) (λ h. ⊎_elim (λ y. omega (arith, y.1)) (λ y. omega (arith, y.1)) h) (numbers s e r q)
    by (accepted u k) q = omega arith
