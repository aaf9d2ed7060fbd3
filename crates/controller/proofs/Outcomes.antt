-- An outcome that meets the promise is the definition's result, and there are such outcomes; and the corollary: the claims `ControllersHold`.
use Prim.Native.Nat.{ℕ}
use mathlib.Core.Bool.{false}
use mathlib.Core.Path.{◌≡◌, refl}
use lib.Dec.{eqb}
use lib.ListN.{length, take}
use Rattle.model.specs.Pick.{pick, pick_true, pick_false}
use Rattle.model.specs.Answers.{answer_number}
use Rattle.model.proofs.Answers.{zero_accepted, answer_of}
use Rattle.model.specs.declared.Node.{Node}
use Rattle.model.specs.declared.Message.{Message}
use Rattle.std.specs.Prelude.{Option, None, Some}
use Rattle.message_fields.specs.Fields.{padded}
use Rattle.message_fields.specs.Fields.{Packed}
use Rattle.message_fields.proofs.Forms.{unpacked}
use Rattle.controller.specs.declared.ControllerOutcome.{ControllerOutcome}
use Rattle.controller.specs.Controller.{Incoming, reaction_in, sent_bytes, Result, refused, accepted, controller_step, result_number, node_after, sent_in}
use Rattle.controller.specs.Stepped.{OutcomeOf, ControllerStepped}
use Rattle.controller.specs.Claims.{result_by, Outcomes, MeetsPromise, answers_of, ControllersHold}
use Rattle.controller.proofs.Alone.{by_number}
use Rattle.controller.proofs.Holds.{network_fixes, network_in_range}

-- ── what an outcome is as a result ──
module _ (c : Node) (r : ControllerOutcome) where
  refusal : (k : ℕ) → eqb k 0 ≡ false → OutcomeOf c (refused k) r → result_by r ≡ refused k
  unfolding result_by
  refusal k h s = rw (← zero_accepted r.answer, s.answer, h, pick_false)

  sent_back : (o : Option Message) → Packed r.packet (sent_bytes o) → take r.packet.length r.packet.bytes ≡ sent_bytes o
  sent_back None p = rw p.length
  sent_back (Some m) p = unpacked r.packet m p

  acceptance : (d : Node) (o : Option Message) → OutcomeOf c (accepted d (sent_bytes o)) r → result_by r ≡ accepted d (sent_bytes o)
  unfolding result_by
  acceptance d o s = rw (← zero_accepted r.answer, s.answer, pick_true, s.node, sent_back o s.packet)

pub stepped_result : (n i : ℕ) (c : Node) (x : Incoming) (r : ControllerOutcome) → ControllerStepped n i c x r → result_by r ≡ controller_step n i c x
stepped_result n i c x r =
    by_number n i c x (λ (y : Result). OutcomeOf c y r → result_by r ≡ y)
    (refusal c r 1 refl) (refusal c r 7 refl) (refusal c r 8 refl) (refusal c r 20 refl) (refusal c r 21 refl) (refusal c r 9 refl) (refusal c r 10 refl) (refusal c r 18 refl) (refusal c r 19 refl) (refusal c r 12 refl) (refusal c r 13 refl)
    (acceptance c r (reaction_in n i c x).node (reaction_in n i c x).outgoing)

-- ── there are such ──
number_back : (n i : ℕ) (c : Node) (x : Incoming) → answer_number (answer_of (result_number (controller_step n i c x))) ≡ result_number (controller_step n i c x)
unfolding answer_of pick
number_back n i c x = by_number n i c x (λ (y : Result). answer_number (answer_of (result_number y)) ≡ result_number y) refl refl refl refl refl refl refl refl refl refl refl refl

some_outcome : Outcomes
some_outcome n i c x =
    record {
      answer = answer_of (result_number (controller_step n i c x));
      node = node_after c (controller_step n i c x);
      packet = record { bytes = padded (sent_in (controller_step n i c x)); length = length (sent_in (controller_step n i c x)) };
    }

some_meets : MeetsPromise some_outcome
unfolding some_outcome
some_meets n i c x = record { answer = number_back n i c x; node = refl; packet = record { bytes = refl; length = refl } }

pub controllers_hold : ControllersHold
controllers_hold =
    record {
      fixes = network_fixes controller_step (λ n i c x. refl);
      in_range_lem = network_in_range controller_step (λ n i c x. refl);
      code_fixes = λ g h. network_fixes (answers_of g) (λ n i c x. stepped_result n i c x (g n i c x) (h n i c x));
      code_in_range = λ g h. network_in_range (answers_of g) (λ n i c x. stepped_result n i c x (g n i c x) (h n i c x));
      stepped = stepped_result;
      some = some_outcome;
      some_meets = some_meets;
    }
