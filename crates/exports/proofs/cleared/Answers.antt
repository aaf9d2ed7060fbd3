-- The places past the n records and the waiting messages are cleared; as many messages wait as before.
use Rattle.model.specs.State.{no_message}
use Rattle.model.proofs.Lists.{first_length}
use Rattle.machine.proofs.Laws.{sized}
use Rattle.exports.proofs.cleared.Goals as goal

pub returns : goal.returns
returns c =
    let t = c.args.t in
    let z = sized t c.well_formed.0 in
    rw (c.clear.ensures, c.clear-2.ensures, z.nodes, z.messages, c.starting_node.ensures, c.no_message.ensures, first_length t.waiting no_message t.messages)
