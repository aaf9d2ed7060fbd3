-- Too little room, no event, or the step's outcome in bytes.
use mathlib.Core.Path.{sym, ◌∙◌}
use Rattle.exports_controller.proofs.Promises.{event_short, no_event, event_stepped}
use Rattle.exports_controller.proofs.nevraspu_controller_event.Goals as goal

pub returns-then-out-lt-OUTCOME_SIZE : goal.returns-then-out-lt-OUTCOME_SIZE
returns-then-out-lt-OUTCOME_SIZE c = event_short _ _ _ _ _ c.if-out-lt-OUTCOME_SIZE.true

pub returns-in-Err : goal.returns-in-Err
returns-in-Err c =
    no_event _ _ _ _ _ c.if-out-lt-OUTCOME_SIZE.false (sym c.event_in.ensures ∙ c.in-Err.is) _ c.stop_number.ensures

pub returns-in-Ok : goal.returns-in-Ok
returns-in-Ok c =
    event_stepped _ _ _ _ _ c.if-out-lt-OUTCOME_SIZE.false (sym c.event_in.ensures ∙ c.in-Ok.is) c.on_event-o.result (rw c.node_of.ensures at c.on_event-o.ensures) _ _ c.answered.ensures
