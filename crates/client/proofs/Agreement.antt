-- The claims that the Bully machine's entries keep, cited for two events.
use Prim.Native.Nat.{ℕ}
use mathlib.Core.Path.{◌∙◌, ap}
use mathlib.Core.List.{[], ◌∷◌}
use Rattle.bully_model.specs.State.{State}
use Rattle.bully_model.specs.Step.{step}
use Rattle.bully_model.specs.Answers.{result_number}
use Rattle.bully_model.specs.declared.Event.{Event}
use Rattle.bully_model.specs.declared.Outcome.{Outcome}
use Rattle.bully_machine.specs.declared.Start.{Start}
use Rattle.bully_machine.specs.Stepped.{Stepped, Begun}
use Rattle.bully_machine.specs.Folded.{Folded}
use Rattle.bully_machine.specs.Claims.{CodeAgrees}
use Rattle.bully_machine.proofs.Runs.{code_runs, code_agrees_from_down}
use Rattle.client.specs.Agreed.{Agreed}

-- `starting(n)` gave s, and the events a and b were answered with o and r
pub cites : {n : ℕ} {a b : Event} {s : Start} {o r : Outcome} → Begun n s → Stepped s.table a o → Stepped o.table b r → Agreed n a b r
cites {n} {a} {b} {s} {o} {r} begun x y =
    record {
      table = code_runs.from_start n (a ∷ b ∷ []) r.table (record { first = s; begun = begun; led = both });
      answer = y.answer ∙ ap (λ (u : State). result_number (step u b)) (code_runs.from_start n (a ∷ []) o.table (record { first = s; begun = begun; led = Folded.more x Folded.none }));
      same_coordinator = agrees.same_coordinator both;
      same_task = agrees.same_task both;
    }
  where
    both : Folded s.table (a ∷ b ∷ []) r.table
    both = Folded.more x (Folded.more y Folded.none)

    agrees : CodeAgrees s.table
    agrees = code_agrees_from_down.from_start n s begun
