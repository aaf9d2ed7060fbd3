-- What ties the code to T-07's claim: the tables that the code's step returns, one after another, are those of the model's run.
use Prim.Native.Nat.{ℕ}
use native.Mathlib.Omega.{arith}
use mathlib.Core.Bool.{true}
use mathlib.Core.Logic.{⊎_elim}
use mathlib.Core.Path.{◌≡◌, refl, sym, ◌∙◌, ap, subst}
use mathlib.Core.List.{List}
use lib.Dec.{eqb}
use Rattle.model.specs.Pick.{pick}
use Rattle.model.specs.Node.{is_normal, is_active}
use Rattle.bully_model.specs.State.{State, node_at, in_range, view}
use Rattle.bully_model.specs.Step.{Result, refused, accepted, step, kept, run_from, run}
use Rattle.bully_model.specs.Claims.{Agreement}
use Rattle.bully_model.specs.Answers.{Accepted, Answer, answer_number, result_number}
use Rattle.bully_model.proofs.Refusals.{refuses_by_ground}
use Rattle.bully_model.proofs.InRange.{stays_in_range}
use Rattle.bully_model.proofs.Whole.{agrees_from_down}
use Rattle.bully_model.specs.declared.Table.{Table}
use Rattle.bully_model.specs.declared.Event.{Event}
use Rattle.bully_model.specs.declared.Outcome.{Outcome}
use Rattle.std.specs.Prelude.{Ok, Err}
use Rattle.bully_model.specs.declared.Refusal.TheVariants.{NotInRange, WrongNumber, WrongTask, WrongRunning, WrongPlace}
use Rattle.bully_machine.specs.Stepped.{Stepped}
use Rattle.bully_machine.specs.Folded.{Folded, none, more}
use Rattle.bully_machine.specs.Claims.{AcceptedAlike, SteppedAlike, Reached, CodeRuns, CodeAgrees, CodeAgreesFromDown}

-- ── Accepted, of the code and of the model ──

-- an answer is known by its number
answer_of : ℕ → Answer
answer_of r =
    pick (eqb r 1) (Err NotInRange)
    (pick (eqb r 7) (Err WrongNumber)
    (pick (eqb r 8) (Err WrongTask)
    (pick (eqb r 9) (Err WrongRunning)
    (pick (eqb r 10) (Err WrongPlace)
    (Ok tt)))))

answer_back : (a : Answer) → answer_of (answer_number a) ≡ a
unfolding answer_of pick
answer_back (Ok u) = refl
answer_back (Err NotInRange) = refl
answer_back (Err WrongNumber) = refl
answer_back (Err WrongTask) = refl
answer_back (Err WrongRunning) = refl
answer_back (Err WrongPlace) = refl

answer_known : (a b : Answer) → answer_number a ≡ answer_number b → a ≡ b
answer_known a b e = sym (answer_back a) ∙ ap answer_of e ∙ answer_back b

pub stepped_alike : SteppedAlike
stepped_alike =
    record {
      answer = alike;
      table = λ x y. x.table ∙ sym y.table;
      same = λ x y h. x.same h ∙ sym (y.same (λ a. h (alike x y ∙ a)));
    }
  where
    alike : {t : Table} {e : Event} {r q : Outcome} → Stepped t e r → Stepped t e q → r.answer ≡ q.answer
    alike {r = r} {q = q} x y = answer_known r.answer q.answer (x.answer ∙ sym y.answer)

-- no refusal has the number 0
never_zero : (s : State) (e : Event) → step s e ≡ refused 0 → ⊥
never_zero s e q = ⊎_elim (λ h. omega arith) (λ h. omega (arith, h.0)) (refuses_by_ground.numbers s e 0 q)

pub accepted_alike : AcceptedAlike
accepted_alike =
    record {
      model_accepts = λ {t} {e} {r} x. by x (step (view t) e) refl;
      code_accepts = λ {t} {e} {r} x u i. answer_known r.answer Accepted (x.answer ∙ ap result_number i);
    }
  where
    by : {t : Table} {e : Event} {r : Outcome} → Stepped t e r → (q : Result) → step (view t) e ≡ q → r.answer ≡ Accepted → step (view t) e ≡ accepted (view r.table)
    by {t} {e} {r} x (refused k) i a =
        let z : k ≡ 0 = sym (ap result_number i) ∙ sym x.answer ∙ ap answer_number a in
        absurd (never_zero (view t) e (i ∙ ap refused z))
    by {t} {e} {r} x (accepted u) i a = i ∙ ap accepted (sym (x.table ∙ ap (kept (view t)) i))

-- ── the tables of a chain are those of the model's run ──
folded_runs : {t u : Table} {es : List Event} → Folded t es u → view u ≡ run_from (view t) es
unfolding run_from
folded_runs none = refl
folded_runs (more {es = es} s f) = folded_runs f ∙ ap (λ (v : State). run_from v es) s.table

reached_run : {n : ℕ} {es : List Event} {t : Table} → Reached n es t → view t ≡ run n es
reached_run {es = es} c = folded_runs c.led ∙ ap (λ (v : State). run_from v es) c.begun.table

-- a result with the number 1 is that refusal
one_is : (x : Result) → 1 ≡ result_number x → x ≡ refused 1
one_is (refused k) h = ap refused (sym h)
one_is (accepted u) h = absurd (omega arith)

pub code_runs : CodeRuns
code_runs =
    record {
      from_any = λ t es u c. folded_runs c;
      from_start = λ n es t c. reached_run c;
      in_range_lem = λ n l h {es} {t} c. ap in_range (reached_run c) ∙ stays_in_range.runs n l h es;
      never_one = λ n l h {es} {t} c {e} {r} x a.
          stays_in_range.never_one n l h es e
          (ap (λ (s : State). step s e) (sym (reached_run c)) ∙ one_is (step (view t) e) (sym (ap answer_number a) ∙ x.answer));
    }

-- what holds of the model's tables holds of the code's
agrees : (t : Table) (s : State) → view t ≡ s → Agreement s → CodeAgrees t
agrees t s e a =
    record {
      same_coordinator = λ {es} {u} c.
          subst
          (λ (v : State). (i j : ℕ) → is_active (node_at v i).status ≡ true → is_active (node_at v j).status ≡ true → (node_at v i).coordinator ≡ (node_at v j).coordinator)
          (sym (led c)) (a.same_coordinator es);
      same_task = λ {es} {u} c.
          subst
          (λ (v : State). (i j : ℕ) → is_normal (node_at v i).status ≡ true → is_normal (node_at v j).status ≡ true → (node_at v i).task ≡ (node_at v j).task)
          (sym (led c)) (a.same_task es);
    }
  where
    led : {es : List Event} {u : Table} → Folded t es u → view u ≡ run_from s es
    led {es = es} c = folded_runs c ∙ ap (λ (v : State). run_from v es) e

pub code_agrees_from_down : CodeAgreesFromDown
code_agrees_from_down =
    record {
      from_start = λ n r b. agrees r.table _ b.table (agrees_from_down.from_start n);
      from_down = λ t d. agrees t (view t) refl (agrees_from_down.from_down (view t) d);
    }
