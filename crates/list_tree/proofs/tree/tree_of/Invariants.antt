-- `list_tree::tree::tree_of` meets its contract. The invariant: the tree has the lists of up to so many events as there were turns.
use Rattle.list_tree.proofs.Complete.{Complete}
use Rattle.list_tree.proofs.tree.tree_of.Given as goal

abbrev pub invariant-loop : goal.invariant-loop
invariant-loop l = Complete l.n l.counter l.first l.t
