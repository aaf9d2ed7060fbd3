-- `step` meets its contract: by the grounds, the table after the event or the very same.
use Rattle.bully_machine.proofs.Steps.{refused_stepped, accepted_stepped}
use Rattle.bully_machine.proofs.step.Goals as goal

pub effect-requires : goal.effect-requires
effect-requires c = c.in-Ok.ensures.clear.passed

pub returns-in-Ok : goal.returns-in-Ok
returns-in-Ok c = accepted_stepped c.args.t c.args.e c.in-Ok.ensures.clear.none _ c.effect.ensures

pub returns-in-Err : goal.returns-in-Err
returns-in-Err c = refused_stepped c.args.t c.args.e c.in-Err.r c.in-Err.ensures.met
