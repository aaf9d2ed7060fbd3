-- `client::bully::agreed` meets its contract.
use Rattle.client.proofs.Agreement.{cites}
use Rattle.client.proofs.bully.agreed.Goals as goal

pub returns : goal.returns
returns c = cites c.starting-s.ensures c.step-o.ensures c.step.ensures
