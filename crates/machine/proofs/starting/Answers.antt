-- `starting` meets its contract: what the callees ensure.
use mathlib.Core.Path.{◌∙◌, ap}
use Rattle.model.specs.State.{view}
use Rattle.machine.proofs.Laws.{start_is}
use Rattle.machine.proofs.starting.Goals as goal

pub returns : goal.returns
returns c =
    let e = c.blank.ensures in
    record { answer = c.begun_answer.ensures; exact = e; table = ap view e ∙ start_is _ _ }
