-- The order of the grounds, and that a refusal has the number of one of them.
use Prim.Native.Nat.{ℕ, ◌≤◌}
use native.Mathlib.Omega.{arith}
use mathlib.Core.Path.{◌≡◌, refl}
use mathlib.Core.Logic.{◌⊎◌, inl, inr}
use mathlib.Core.List.{[], ◌∷◌, map}
use Rattle.model.specs.Pick.{by_test}
use Rattle.model.specs.Grounds.{judged}
use Rattle.bully_model.specs.State.{State}
use Rattle.bully_model.specs.Step.{grounds, Result, refused, accepted, step}
use Rattle.bully_model.specs.Claims.{RefusesByGround}
use Rattle.bully_model.specs.declared.Event.{Event}

order : (s : State) (e : Event) → map (λ g. g.number) (grounds s e) ≡ 1 ∷ 7 ∷ 8 ∷ 9 ∷ 10 ∷ []
unfolding grounds
order s e = refl

-- of events: 1, or 7 to 10
abbrev Numbers : Result → Type 0
Numbers (refused r) = (r ≡ 1) ⊎ ((7 ≤ r) × (r ≤ 10))
Numbers (accepted u) = Unit {0}

step_numbers : (s : State) (e : Event) → Numbers (step s e)
unfolding step grounds judged
step_numbers s e =
    by_test Numbers (λ _. inl refl)
    (λ _. by_test Numbers (λ _. inr (omega arith, omega arith))
    (λ _. by_test Numbers (λ _. inr (omega arith, omega arith))
    (λ _. by_test Numbers (λ _. inr (omega arith, omega arith))
    (λ _. by_test Numbers (λ _. inr (omega arith, omega arith)) (λ _. tt)))))

numbers : (s : State) (e : Event) (r : ℕ) → step s e ≡ refused r → (r ≡ 1) ⊎ ((7 ≤ r) × (r ≤ 10))
numbers s e r q = rw q at (step_numbers s e)

pub refuses_by_ground : RefusesByGround
refuses_by_ground = record { order = order; numbers = numbers }
