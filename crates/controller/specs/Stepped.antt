-- What the public functions promise: for any n, own number, record, and event or bytes, what `controller_step` gives.
use Rattle.std.specs.Prelude.{ℕ, ◌≡◌}
use Rattle.model.specs.Answers.{answer_number}
use Rattle.model.specs.declared.Node.{Node}
use Rattle.message_fields.specs.Fields.{Packed}
use Rattle.controller.specs.declared.ControllerOutcome.{ControllerOutcome}
use Rattle.controller.specs.Controller.{Incoming, Result, controller_step, result_number, node_after, sent_in}

-- the outcome r is that of the result y, with the record c before it; nothing of it is free
pub record OutcomeOf (c : Node) (y : Result) (r : ControllerOutcome) : Type 0 where
  pub answer : answer_number r.answer ≡ result_number y
  -- a refusal leaves the record as it was
  pub node : r.node ≡ node_after c y
  -- and sends nothing
  pub packet : Packed r.packet (sent_in y)

-- the outcome r of controller i of n, with the record c, and the event or bytes x
abbrev pub ControllerStepped : ℕ → ℕ → Node → Incoming → ControllerOutcome → Type 0
ControllerStepped n i c x r = OutcomeOf c (controller_step n i c x) r
