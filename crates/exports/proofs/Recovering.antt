-- The promise of `nevraspu_recovery` by its cases: too little room, a refusal, and the eight records; and the claims `RecoveryClaims`.
use Rattle.std.specs.Prelude.{Some, Ok}
use Prim.Native.Nat.{ℕ, ◌≤◌, ◌<◌}
use native.Mathlib.Omega.{arith}
use mathlib.Core.Path.{◌≡◌, refl, sym, ◌∙◌, ap}
use mathlib.Core.Bool.{false}
use mathlib.Core.List.{List, ◌++◌}
use lib.ListN.{length, drop}
use borrow.Author.Tests.{not-true, le-ltb, ne_eqb}
use Rattle.model.specs.Pick.{pick, pick_false, by_test}
use Rattle.model.specs.Recovery.{recovery_records}
use Rattle.model.specs.State.{State, node_at, in_range}
use Rattle.model.specs.Grounds.{judged}
use Rattle.model.specs.Step.{grounds, step, kept}
use Rattle.model.specs.Answers.{answer_number, result_number}
use Rattle.model.specs.Claims.{Accepts, record_after}
use Rattle.model.proofs.Refusals.{refuses_by_ground, result_small}
use Rattle.model.proofs.Recovery.{recovery_rules}
use Rattle.model.specs.declared.Node.{Node}
use Rattle.model.specs.Answers.{Accepted}
use Rattle.model.specs.declared.Event.TheVariants.{Recover}
use Rattle.machine.specs.declared.RecoveryAnswer.{RecoveryAnswer}
use Rattle.machine.specs.Stepped.{RecoveryAnswered}
use Rattle.machine.proofs.Runs.{answer_known}
use Rattle.machine.proofs.Recovering.{recovery_alike}
use Rattle.event_list.specs.Format.{length_of, cut_short, checked, event_of, next_at}
use Rattle.number_bytes.specs.Bytes.{many, all}
use Rattle.table_bytes.specs.Bytes.{node_of, decoded, node_bytes, size, records_size, RecordsStored}
use Rattle.number_bytes.proofs.Records.{all_long}
use Rattle.number_bytes.proofs.Lent.{short_in, long_in, only_short_in, keeps_in, gives_in, behind_in}
use Rattle.table_bytes.proofs.Records.{node_long}
use Rattle.exports.specs.Boundary.{state_of, field_number, field_after, step_number, StepExported, recovery_number, recovery_bytes, RecoveryExported}
use Rattle.exports.specs.Claims.{recover_field, RecoveryClaims}

-- ── the promise ──

module _ (t : List ℕ) (i : ℕ) (b : List ℕ) where
  -- any number but 0 keeps the buffer
  kept_by : (r : ℕ) → r ≡ recovery_number t i b → (r ≡ 0 → ⊥) → RecoveryExported t i b b r
  unfolding recovery_bytes
  kept_by r e h = record { number = e; buffer = rw (← e, ne_eqb r 0 h, pick_false); back = λ z. absurd (h z) }

  too_short : length b < records_size → recovery_number t i b ≡ 255
  unfolding recovery_number
  too_short = short_in records_size b (result_number (step (state_of t) (Recover i)))

  long : records_size ≤ length b → recovery_number t i b ≡ result_number (step (state_of t) (Recover i))
  unfolding recovery_number
  long = long_in records_size b (result_number (step (state_of t) (Recover i)))

  pub short : length b < records_size → RecoveryExported t i b b 255
  short h = kept_by 255 (sym (too_short h)) (λ z. omega arith)

  module _ (room : records_size ≤ length b) (q : RecoveryAnswer) (x : RecoveryAnswered (decoded t) i q) (r : ℕ) (e : r ≡ answer_number q.answer) where
    number_is : r ≡ recovery_number t i b
    number_is = e ∙ x.answer ∙ sym (long room)

    pub refused : (r ≡ 0 → ⊥) → RecoveryExported t i b b r
    refused h = kept_by r number_is h

    module _ (z : r ≡ 0) where
      records_are : q.records ≡ recovery_records i (node_at (state_of t) i)
      records_are = recovery_alike.records x (answer_known q.answer Accepted (sym e ∙ z))

      pub accepted : (o : List ℕ) → RecordsStored q.records b o → RecoveryExported t i b o r
      unfolding recovery_bytes
      accepted o w =
          record {
            number = number_is;
            buffer = w.whole room ∙ ap (λ (l : List Node). all node_bytes l ++ drop records_size b) records_are ∙ sym (gives_in records_size b (recovery_number t i b) (all node_bytes (recovery_records i (node_at (state_of t) i))) (sym number_is ∙ z));
            back = λ _. w.back room ∙ records_are;
          }

-- ── the claims ──

-- the field of recover i is read as that event
recover_read : (i : ℕ) → next_at (recover_field i) 0 ≡ Ok (Some (Recover i, 4))
unfolding length_of cut_short checked event_of next_at pick
recover_read i = refl

-- a table that is not in range is refused by 1
not_in_range : (s : State) (i : ℕ) → in_range s ≡ false → result_number (step s (Recover i)) ≡ 1
unfolding step grounds judged pick
not_in_range s i h = rw h

records_long : (i : ℕ) (c : Node) → length (all node_bytes (recovery_records i c)) ≡ records_size
records_long i c = all_long node_bytes 29 node_long (recovery_records i c)

as_step : (t : List ℕ) (i : ℕ) (b c : List ℕ) → records_size ≤ length b → size ≤ length c → recovery_number t i b ≡ step_number t (recover_field i) c
unfolding step_number
as_step t i b c h k =
    long t i b h
    ∙ sym (rw (le-ltb (length c) size k, pick_false)
    (by_test (λ (r : ℕ). r ≡ result_number (step (state_of t) (Recover i))) (λ q. sym (not_in_range (state_of t) i (not-true _ q))) (λ q. ap (field_number (state_of t)) (recover_read i))))

only_short : (t : List ℕ) (i : ℕ) (b : List ℕ) → recovery_number t i b ≡ 255 → length b < records_size
unfolding recovery_number
only_short t i b = only_short_in records_size b (result_number (step (state_of t) (Recover i))) (omega (arith, result_small (state_of t) (Recover i)))

zero_accepts : (t : List ℕ) (i : ℕ) (b : List ℕ) → recovery_number t i b ≡ 0 → Accepts (state_of t) (Recover i)
unfolding recovery_number
zero_accepts t i b =
    by_test (λ (n : ℕ). n ≡ 0 → Accepts (state_of t) (Recover i)) (λ _ z. absurd (omega (arith, z))) (λ _. refuses_by_ground.zero_accepts (state_of t) (Recover i))

last_record : (t : List ℕ) (i : ℕ) (b c o p : List ℕ) → StepExported t (recover_field i) c o 0 → RecoveryExported t i b p 0 → record_after 8 (many node_of 29 8 p) ≡ node_at (state_of o) i
last_record t i b c o p x y =
    let m = zero_accepts t i b (sym y.number) in
    ap (record_after 8) (y.back refl)
    ∙ recovery_rules.last_record (state_of t) i m.state m.mark m.is
    ∙ sym (ap (λ (s : State). node_at s i) (x.back refl ∙ ap (field_after (state_of t)) (recover_read i) ∙ ap (kept (state_of t)) m.is))

pub recovery_claims : RecoveryClaims
unfolding recovery_bytes
recovery_claims =
    record {
      short = too_short;
      only_short = only_short;
      keeps = λ t i b. keeps_in records_size b (recovery_number t i b) (all node_bytes (recovery_records i (node_at (state_of t) i)));
      behind = λ t i b. behind_in records_size b (recovery_number t i b) (all node_bytes (recovery_records i (node_at (state_of t) i))) (λ _. records_long i (node_at (state_of t) i));
      as_step = as_step;
      last_record = λ {t} {i} {b} {c} {o} {p}. last_record t i b c o p;
    }
