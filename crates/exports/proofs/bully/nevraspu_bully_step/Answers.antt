-- `nevraspu_bully_step` meets its contract: too little room, no event, or the step's outcome in bytes.
use mathlib.Core.Path.{sym, ◌∙◌}
use Rattle.event_list.proofs.Fields.{refuses}
use Rattle.exports.proofs.BullyStepping.{short, no_event, event}
use Rattle.exports.proofs.bully.nevraspu_bully_step.Goals as goal

pub returns-then-out-lt-SIZE : goal.returns-then-out-lt-SIZE
returns-then-out-lt-SIZE c = short _ _ _ c.if-out-lt-SIZE.true

pub returns-in-Err : goal.returns-in-Err
returns-in-Err c =
    let n = c.stop_number.ensures in
    no_event _ _ _ c.if-out-lt-SIZE.false _ c.event_in.ensures _ (rw c.in-Err.is n) (λ z. refuses c.in-Err.stop (sym n ∙ z))

pub returns-in-Ok : goal.returns-in-Ok
returns-in-Ok c =
    event _ _ _ c.if-out-lt-SIZE.false _ c.event_in.ensures c.in-Ok.is c.step-o.result (rw c.decode.ensures at c.step-o.ensures) _ _ c.answered.ensures
