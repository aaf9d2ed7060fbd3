-- No outcome that meets the promise is that of a wrong controller: the claims `NoOtherController`.
use Prim.Native.Nat.{ℕ, suc}
use native.Mathlib.Omega.{arith}
use mathlib.Core.Bool.{true, false, not, true≢false}
use mathlib.Core.Path.{◌≡◌, refl, sym, ◌∙◌, ap}
use mathlib.Core.Logic.{⊎_elim}
use mathlib.Core.List.{List, []}
use lib.ListN.{length, take}
use borrow.Author.Tests.{eq-eqb, ne_eqb}
use Rattle.model.specs.Pick.{pick}
use Rattle.model.specs.Node.{is_down}
use Rattle.model.specs.Limits.{node_limit, counter_end}
use Rattle.model.specs.Grounds.{NoneApplies, judged}
use Rattle.model.specs.Range.{is_node, is_given_task}
use Rattle.model.specs.React.{react}
use Rattle.model.specs.Recovery.{recovered}
use Rattle.model.specs.State.{is_count}
use Rattle.model.specs.Answers.{answer_number}
use Rattle.model.proofs.Answers.{zero_is}
use Rattle.model.proofs.Grounds.{applies_of, before, judged_passed}
use Rattle.model.proofs.Local.{both_left, both_right}
use Rattle.model.specs.declared.Node.{Node}
use Rattle.model.specs.declared.TaskNo.{TaskNo}
use Rattle.model.specs.Answers.{Answer}
use Rattle.model.specs.Answers.{Accepted}
use Rattle.std.specs.Prelude.{Err}
use Rattle.model.specs.declared.Refusal.TheVariants.{OtherNode, WrongStatus, NoMessage, QueueFull, SentAtEnd}
use Rattle.message_fields.specs.Fields.{message_in, is_message}
use Rattle.controller.specs.declared.LocalEvent.TheVariants.{Recover, Finish}
use Rattle.controller.specs.declared.ControllerOutcome.{ControllerOutcome}
use Rattle.controller.specs.Controller.{Incoming, event, message, reaction_in, sent_bytes, in_range_for, is_for_other, controller_grounds, Result, refused, accepted, controller_step, result_number, node_after, sent_in}
use Rattle.controller.specs.Stepped.{ControllerStepped}
use Rattle.controller.specs.Claims.{result_by}
use Rattle.controller.specs.Mutants.{NoOtherController}
use Rattle.controller.proofs.Alone.{apart, refused_same, accepted_none, controller_refuses, controller_stays_in_range}
use Rattle.controller.proofs.Outcomes.{stepped_result}

-- ── a step by its number ──
module _ (n i : ℕ) (c : Node) (x : Incoming) where
  refused_by : (k : ℕ) → result_number (controller_step n i c x) ≡ suc k → controller_step n i c x ≡ refused (suc k)
  refused_by k = by (controller_step n i c x)
    where
      by : (y : Result) → result_number y ≡ suc k → y ≡ refused (suc k)
      by (refused r) h = ap refused h
      by (accepted d l) h = absurd (omega (arith, h))

  -- where its number is 0, no ground applies
  accepted_by : result_number (controller_step n i c x) ≡ 0 → NoneApplies (controller_grounds n i c x)
  accepted_by = by (controller_step n i c x) refl
    where
      by : (y : Result) → controller_step n i c x ≡ y → result_number y ≡ 0 → NoneApplies (controller_grounds n i c x)
      by (refused r) q h = absurd ((controller_refuses.never_queues n i c x r q).1.1.1 h)
      by (accepted d l) q h = accepted_none n i c x d l q

  -- a ground before that of a refusal does not apply
  passed : (q r : ℕ) → before q r (controller_grounds n i c x) ≡ true → controller_step n i c x ≡ refused r → applies_of q (controller_grounds n i c x) ≡ false
  unfolding controller_step
  passed q r b h = judged_passed refused refused_same (accepted (reaction_in n i c x).node (sent_bytes (reaction_in n i c x).outgoing)) (λ k. apart) q r (controller_grounds n i c x) b h

  -- ── an outcome that meets the promise ──
  module _ (r : ControllerOutcome) (s : ControllerStepped n i c x r) where
    none : r.answer ≡ Accepted → NoneApplies (controller_grounds n i c x)
    none a = accepted_by (sym s.answer ∙ ap answer_number a)

    numbered : (a : Answer) (k : ℕ) → answer_number a ≡ suc k → r.answer ≡ a → controller_step n i c x ≡ refused (suc k)
    numbered a k h q = refused_by k (sym s.answer ∙ ap answer_number q ∙ h)

    any_record : in_range_for n i c ≡ false → r.answer ≡ Accepted → ⊥
    unfolding controller_grounds
    any_record h a = true≢false (sym (ap not h) ∙ (none a).0)

    any_node : is_for_other i x ≡ true → r.answer ≡ Accepted → ⊥
    unfolding controller_grounds
    any_node h a = true≢false (sym h ∙ (none a).1.1.1.1.0)

    status_before_other : is_for_other i x ≡ true → r.answer ≡ Err WrongStatus → ⊥
    unfolding controller_grounds pick
    status_before_other h q = true≢false (sym h ∙ passed 21 9 refl (numbered (Err WrongStatus) 8 refl q))

    refusal : (r.answer ≡ Accepted → ⊥) → (P : Result → Type 0) → ((k : ℕ) → P (refused k)) → P (controller_step n i c x)
    refusal h P f = by (controller_step n i c x) refl
      where
        by : (y : Result) → controller_step n i c x ≡ y → P y
        by (refused k) q = f k
        by (accepted d l) q = absurd (h (zero_is r.answer (s.answer ∙ ap result_number q)))

    refused_moves : (r.answer ≡ Accepted → ⊥) → (r.node ≡ c → ⊥) → ⊥
    refused_moves h k = k (s.node ∙ refusal h (λ (y : Result). node_after c y ≡ c) (λ _. refl))

    refused_sends : (r.answer ≡ Accepted → ⊥) → (r.packet.length ≡ 0 → ⊥) → ⊥
    refused_sends h k = k (s.packet.length ∙ refusal h (λ (y : Result). length (sent_in y) ≡ 0) (λ _. refl))

    -- what it sends
    is_accepted_lem : r.answer ≡ Accepted → controller_step n i c x ≡ accepted r.node (take r.packet.length r.packet.bytes)
    unfolding result_by pick
    is_accepted_lem a = sym (stepped_result n i c x r s) ∙ rw a

    module _ (a : r.answer ≡ Accepted) (sends : r.packet.length ≡ 0 → ⊥) where
      some_bytes : take r.packet.length r.packet.bytes ≡ [] → ⊥
      some_bytes q = sends (s.packet.length ∙ ap (λ (y : Result). length (sent_in y)) (is_accepted_lem a) ∙ ap (λ (l : List ℕ). length l) q)

      sends_none : is_message n (take r.packet.length r.packet.bytes) ≡ false → ⊥
      sends_none h = ⊎_elim some_bytes (λ m. true≢false (sym m.0 ∙ h)) (controller_stays_in_range.message_after n i c x r.node _ (is_accepted_lem a))

      other_name : ((message_in (take r.packet.length r.packet.bytes)).sender ≡ i → ⊥) → ⊥
      other_name h = ⊎_elim some_bytes (λ m. h m.1) (controller_stays_in_range.message_after n i c x r.node _ (is_accepted_lem a))

-- ── bytes, and tasks ──
any_bytes : (n i : ℕ) (c : Node) (l : List ℕ) (r : ControllerOutcome) → ControllerStepped n i c (message l) r → is_message n l ≡ false → r.answer ≡ Accepted → ⊥
unfolding controller_grounds
any_bytes n i c l r s h a = true≢false (sym (ap not h) ∙ (none n i c (message l) r s a).1.1.1.0)

other_before_bytes : (n i : ℕ) (c : Node) (l : List ℕ) (r : ControllerOutcome) → ControllerStepped n i c (message l) r → is_message n l ≡ false → r.answer ≡ Err OtherNode → ⊥
unfolding controller_grounds pick
other_before_bytes n i c l r s h q = true≢false (sym (ap not h) ∙ passed n i c (message l) 20 21 refl (numbered n i c (message l) r s (Err OtherNode) 20 refl q))

other_before_task : (n i j : ℕ) (t : TaskNo) (c : Node) (r : ControllerOutcome) → ControllerStepped n i c (event (Finish j t)) r → is_given_task t.number ≡ false → r.answer ≡ Err OtherNode → ⊥
unfolding controller_grounds pick
other_before_task n i j t c r s h q = true≢false (sym (ap not h) ∙ passed n i c (event (Finish j t)) 8 21 refl (numbered n i c (event (Finish j t)) r s (Err OtherNode) 20 refl q))

-- ── a recovery that is due ──
module _ (n i : ℕ) (c : Node) (ok : in_range_for n i c ≡ true) (d : is_down c.status ≡ true) (k : c.counter ≡ counter_end → ⊥) where
  recovers : controller_step n i c (event (Recover i)) ≡ accepted (recovered i c) []
  unfolding controller_step controller_grounds reaction_in react judged pick
  recovers = rw (ok, both_left (is_node n i) _ (both_right (is_count node_limit n) _ ok), eq-eqb i i refl, d, ne_eqb c.counter counter_end k)

  module _ (r : ControllerOutcome) (s : ControllerStepped n i c (event (Recover i)) r) where
    turns_away : (r.answer ≡ Accepted → ⊥) → ⊥
    turns_away h = h (zero_is r.answer (s.answer ∙ ap result_number recovers))

    moves_nothing : r.node ≡ c → ⊥
    moves_nothing h = true≢false (sym d ∙ ap (λ (x : Node). is_down x.status) (sym h ∙ s.node ∙ ap (node_after c) recovers))

pub no_other_controller : NoOtherController
no_other_controller =
    record {
      turns_away = λ n i c r s ok d k. turns_away n i c ok d k r s;
      moves_nothing = λ n i c r s ok d k. moves_nothing n i c ok d k r s;
      any_record = any_record;
      any_bytes = any_bytes;
      any_node = any_node;
      other_before_task = λ n i j t c r s. other_before_task n i j t c r s;
      other_before_bytes = other_before_bytes;
      status_before_other = status_before_other;
      none_waits_lem = λ n i c x r s q. (controller_refuses.never_queues n i c x 11 (numbered n i c x r s (Err NoMessage) 10 refl q)).0 refl;
      queue_full = λ n i c x r s q. (controller_refuses.never_queues n i c x 14 (numbered n i c x r s (Err QueueFull) 13 refl q)).1.0 refl;
      sent_at_end = λ n i c x r s q. (controller_refuses.never_queues n i c x 17 (numbered n i c x r s (Err SentAtEnd) 16 refl q)).1.1.0 refl;
      refused_moves = refused_moves;
      refused_sends = refused_sends;
      sends_none = sends_none;
      other_name = other_name;
    }
