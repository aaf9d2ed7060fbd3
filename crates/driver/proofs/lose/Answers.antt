-- `lose` meets its contract: the step that loses the message.
use Rattle.driver.proofs.Turns.{lost}
use Rattle.driver.proofs.lose.Goals as goal

pub returns : goal.returns
returns c =
    let o = c.advance-o in
    lost c.args.t c.args.p c.args.next o.result c.outcome_of.result c.requires o.ensures c.outcome_of.ensures
