-- `list_tree::tree::root` meets its contract: no edge counts.
use lib.ListN.{length-replicate}
use Rattle.list_tree.specs.Tree.{no_edge}
use Rattle.list_tree.proofs.Trees.{rooted}
use Rattle.list_tree.proofs.tree.root.Goals as goal

pub returns : goal.returns
returns c = rooted _ c.requires.0 c.requires.1 _ (length-replicate 600 no_edge)
