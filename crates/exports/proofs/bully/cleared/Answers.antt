-- The places past the n records are cleared.
use Rattle.bully_machine.proofs.Laws.{sized}
use Rattle.exports.proofs.bully.cleared.Goals as goal

pub returns : goal.returns
returns c = rw (c.clear.ensures, sized c.args.t c.well_formed.0, c.starting_node.ensures)
