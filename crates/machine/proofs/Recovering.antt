-- The records of a recovery (02, T-04). What `recovery` comes to, by the outcome of the step: a refusal; or the record of node i, which is then one of the table and fits
-- its words. And the claims `RecoveryAlike`.
use Prim.Native.Nat.{ℕ, ◌+◌, ◌%◌, ◌≤◌}
use native.Mathlib.Omega.{arith}
use mathlib.Core.Bool.{true, false}
use mathlib.Core.Path.{◌≡◌, refl, sym, ◌∙◌, ap}
use mathlib.Core.List.{List}
use lib.ListN.{get_or, replicate}
use Rattle.model.specs.Pick.{pick}
use Rattle.model.specs.Limits.{counter_end}
use Rattle.model.specs.Recovery.{recovery_records}
use Rattle.model.specs.State.{State, starting_node, node_at, view}
use Rattle.model.specs.Step.{Result, refused, accepted, step, kept}
use Rattle.model.specs.Answers.{answer_number, result_number, is_accepted}
use Rattle.model.proofs.Answers.{accepted_zero, refused_some}
use Rattle.model.specs.Claims.{Accepts, record_after}
use Rattle.model.proofs.Judged.{Clear, accepted_is}
use Rattle.model.proofs.Refusals.{refuses_by_ground}
use Rattle.model.proofs.Recovery.{recovery_rules}
use Rattle.model.specs.declared.Node.{Node}
use Rattle.model.specs.declared.Table.{Table}
use Rattle.model.specs.declared.Event.TheVariants.{Recover}
use Rattle.model.specs.declared.Mark.{Mark}
use Rattle.model.specs.declared.Outcome.{Outcome}
use Rattle.model.specs.Answers.{Accepted}
use Rattle.machine.specs.declared.RecoveryAnswer.{RecoveryAnswer}
use Rattle.model.specs.Grounds.{first}
use Rattle.node_step.specs.Grounds.{number_grounds}
use Rattle.machine.specs.Stepped.{Stepped, records_beside, RecoveryAnswered}
use Rattle.machine.specs.Claims.{RecoveryAlike}
use Rattle.machine.proofs.Laws.{Sized}
use Rattle.machine.proofs.Places.{small, actor_is, node_read, node_fits}
use Rattle.machine.proofs.Judged.{seat_is}
use Rattle.machine.proofs.Runs.{answer_known}

module _ (t : Table) (i : ℕ) (o : Outcome) (x : Stepped t (Recover i) o) where
  pub refuses : is_accepted o.answer ≡ false → (c : Node) → c ≡ starting_node → RecoveryAnswered t i (record { answer = o.answer; records = replicate 8 c })
  refuses q c e = record { answer = x.answer; records = ap (replicate 8) e ∙ beside (step (view t) (Recover i)) refl }
    where
      beside : (y : Result) → step (view t) (Recover i) ≡ y → replicate 8 starting_node ≡ records_beside (view t) i y
      beside (refused r) h = refl
      beside (accepted u k) h = absurd (omega (arith, refused_some o.answer q, x.answer ∙ ap result_number h))

  module _ (yes : is_accepted o.answer ≡ true) where
    accepts : Accepts (view t) (Recover i)
    accepts = refuses_by_ground.zero_accepts (view t) (Recover i) (sym x.answer ∙ accepted_zero o.answer yes)

    clear : Clear (view t) (Recover i)
    clear = (accepted_is (view t) (Recover i) accepts.state accepts.mark accepts.is).clear

    numbers : first (number_grounds t.n (Recover i)) ≡ 0
    unfolding first pick
    numbers = rw clear.number

    module _ (z : Sized t) (d : Node) where
      read : get_or t.nodes ((i + 15) % 16) d ≡ node_at (view t) i
      read =
          let a = actor_is t z clear.in_range_lem (Recover i) numbers in
          rw (seat_is i a.0 (omega (arith, a.1, (small t z clear.in_range_lem (Recover i)).1))) (node_read t z clear.in_range_lem (Recover i) numbers d)

      pub fits : (1 ≤ i) × ((get_or t.nodes ((i + 15) % 16) d).counter ≤ counter_end)
      fits = let f = node_fits t z clear.in_range_lem (Recover i) numbers _ read in (f.low, f.counter)

      pub recorded : (l : List Node) → l ≡ recovery_records i (get_or t.nodes ((i + 15) % 16) d) → RecoveryAnswered t i (record { answer = Accepted; records = l })
      recorded l e =
          record {
            answer = sym (ap result_number accepts.is);
            records = e ∙ ap (recovery_records i) read ∙ sym (ap (records_beside (view t) i) accepts.is);
          }

-- ── the claims ──

module _ {t : Table} {i : ℕ} {q : RecoveryAnswer} (y : RecoveryAnswered t i q) where
  -- where it is accepted, the model accepts recover i
  pub model_accepts : q.answer ≡ Accepted → Accepts (view t) (Recover i)
  model_accepts a = refuses_by_ground.zero_accepts (view t) (Recover i) (sym y.answer ∙ ap answer_number a)

  pub code_accepts : (u : State) (k : Mark) → step (view t) (Recover i) ≡ accepted u k → q.answer ≡ Accepted
  code_accepts u k e = answer_known q.answer Accepted (y.answer ∙ ap result_number e)

  records_are : q.answer ≡ Accepted → q.records ≡ recovery_records i (node_at (view t) i)
  records_are a = y.records ∙ ap (records_beside (view t) i) (model_accepts a).is

  none_are : (q.answer ≡ Accepted → ⊥) → q.records ≡ replicate 8 starting_node
  none_are n = by (step (view t) (Recover i)) refl
    where
      by : (x : Result) → step (view t) (Recover i) ≡ x → q.records ≡ replicate 8 starting_node
      by (refused r) e = y.records ∙ ap (records_beside (view t) i) e
      by (accepted u k) e = absurd (n (code_accepts u k e))

  last_is : {r : Outcome} → Stepped t (Recover i) r → q.answer ≡ Accepted → record_after 8 q.records ≡ node_at (view r.table) i
  last_is x a =
      let m = model_accepts a in
      ap (record_after 8) (records_are a)
      ∙ recovery_rules.last_record (view t) i m.state m.mark m.is
      ∙ sym (ap (λ (v : State). node_at v i) (x.table ∙ ap (kept (view t)) m.is))

pub recovery_alike : RecoveryAlike
recovery_alike =
    record {
      answer = λ {t} {i} {r} {q} x y. answer_known q.answer r.answer (y.answer ∙ sym x.answer);
      records = records_are;
      last_record = λ x y. last_is y x;
      refused_records = none_are;
      same_answer = λ {t} {i} {p} {q} x y. answer_known p.answer q.answer (x.answer ∙ sym y.answer);
      same_records = λ x y. x.records ∙ sym y.records;
    }
