-- `recovery` meets its contract: the step's refusal, or the records that `recovery_records` ensures.
use mathlib.Core.Path.{ap}
use Rattle.model.specs.Answers.{is_accepted}
use Rattle.machine.proofs.Laws.{sized}
use Rattle.machine.proofs.Recovering.{fits, recorded}
use Rattle.machine.proofs.recovery.Goals as goal

pub recovery_records-requires : goal.recovery_records-requires
recovery_records-requires c =
    let o = c.step-o in
    rw c.seat_of.ensures.0 (fits _ _ o.result o.ensures (ap is_accepted c.in-Ok.is) (sized c.args.t c.well_formed.0) _)

pub returns-in-Ok : goal.returns-in-Ok
returns-in-Ok c =
    let o = c.step-o in
    recorded _ _ o.result o.ensures (ap is_accepted c.in-Ok.is) (sized c.args.t c.well_formed.0) _ _ (rw c.seat_of.ensures.0 at c.recovery_records.ensures)
