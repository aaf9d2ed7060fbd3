-- `list_tree::tree::table_of` ends: the state before has a smaller number.
use Rattle.list_tree.proofs.tree.+table_of.Given as goal

abbrev pub decreases-table_of : goal.decreases-table_of
decreases-table_of l = l.b
