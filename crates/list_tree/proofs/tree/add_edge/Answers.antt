-- `list_tree::tree::add_edge` meets its contract.
use Rattle.list_tree.proofs.Trees.{extends_edge}
use Rattle.list_tree.proofs.tree.add_edge.Goals as goal

pub returns : goal.returns
returns c = extends_edge c.args.t.now c.args.a c.args.e c.requires.0 c.requires.1 c.requires.2
