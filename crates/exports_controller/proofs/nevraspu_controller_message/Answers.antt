-- Too little room, or the step's outcome in bytes.
use Rattle.exports_controller.proofs.Promises.{message_short, message_stepped}
use Rattle.exports_controller.proofs.nevraspu_controller_message.Goals as goal

pub returns-then-out-lt-OUTCOME_SIZE : goal.returns-then-out-lt-OUTCOME_SIZE
returns-then-out-lt-OUTCOME_SIZE c = message_short _ _ _ _ _ c.if-out-lt-OUTCOME_SIZE.true

pub returns : goal.returns
returns c =
    message_stepped _ _ _ _ _ c.if-out-lt-OUTCOME_SIZE.false c.on_message-o.result (rw c.node_of.ensures at c.on_message-o.ensures) _ _ c.answered.ensures
