-- A step is refused, or no ground applies and it has its effect.
use Prim.Native.Nat.{ℕ, ◌≤◌}
use native.Mathlib.Omega.{arith}
use mathlib.Core.Bool.{true, false, true≢false}
use mathlib.Core.Path.{◌≡◌, refl, sym, ◌∙◌}
use lib.Dec.{leb}
use borrow.Author.Tests.{leb-true, not-true, not-false}
use Rattle.model.specs.Pick.{pick}
use Rattle.model.proofs.Local.{both_left, both_right}
use Rattle.model.proofs.Grounds.{judged_by, judged_met}
use Rattle.bully_model.specs.State.{State, node_at, in_range}
use Rattle.bully_model.specs.Step.{effect, actor, wrong_task, wrong_running, wrong_place, grounds, Result, refused, accepted, step}
use Rattle.bully_model.specs.declared.Event.{Event}

-- what is known where an event is accepted, ground by ground
pub record Clear (s : State) (e : Event) : Type 0 where
  pub in_range_lem : in_range s ≡ true
  pub low : 1 ≤ actor e
  pub high : actor e ≤ s.n
  pub task : wrong_task e ≡ false
  pub runs : wrong_running (node_at s (actor e)).runs e ≡ false
  pub place : wrong_place (node_at s (actor e)).place e ≡ false

-- what holds of every refusal, and of the effect where no ground applies, holds of the step
pub by_step : (P : Result → Type 0) (s : State) (e : Event) → ((x : ℕ) → P (refused x)) → (Clear s e → P (accepted (effect s e))) → P (step s e)
unfolding step grounds
by_step P s e f g =
    judged_by refused P _ _ f
    (λ c. g (record {
      in_range_lem = not-false _ c.0;
      low = leb-true 1 (actor e) (both_left _ _ (not-false _ c.1.0));
      high = leb-true (actor e) s.n (both_right (leb 1 (actor e)) _ (not-false _ c.1.0));
      task = c.1.1.0;
      runs = c.1.1.1.0;
      place = c.1.1.1.1.0;
    }))

pub accepted_apart : {u : State} {r : ℕ} → accepted u ≡ refused r → ⊥
accepted_apart e = let z : ◌≡◌ {A = ℕ} 0 1 = cc in omega arith

refused_same : {a b : ℕ} → refused a ≡ refused b → a ≡ b
refused_same q = cc

-- what an accepted event is
pub record Accepted (s : State) (e : Event) (u : State) : Type 0 where
  pub clear : Clear s e
  pub state : u ≡ effect s e

pub accepted_is : (s : State) (e : Event) (u : State) → step s e ≡ accepted u → Accepted s e u
accepted_is s e u =
    by_step (λ r. r ≡ accepted u → Accepted s e u) s e (λ x q. absurd (accepted_apart (sym q))) (λ c q. record { clear = c; state = (cc) })

-- a table in range is never refused by ground 1
pub in_range_not_one : (s : State) (e : Event) → in_range s ≡ true → step s e ≡ refused 1 → ⊥
unfolding step grounds pick
in_range_not_one s e r q =
    true≢false (sym r ∙ not-true _ (judged_met refused (λ a b. refused_same) (accepted (effect s e)) (λ x. accepted_apart) 1 (grounds s e) refl q))
