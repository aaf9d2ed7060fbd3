-- `list_tree::line::put_tree` meets its contract: two pieces.
use Rattle.listing.specs.Printing.{joined}
use Rattle.listing.proofs.Appended.{wrote_twice}
use Rattle.list_tree.proofs.line.put_tree.Goals as goal

pub returns : goal.returns
unfolding joined
returns c = wrote_twice c.put_first.ensures.0 c.put_transitions.ensures
