-- `list_tree::tree::add_next` meets its contract. The invariant: what comes of the events so far stands behind the states of before.
use lib.ListN.{take}
use Rattle.model.specs.State.{view}
use Rattle.short_lists_text.specs.Rows.{concat_map}
use Rattle.short_lists_text.specs.Lists.{alphabet}
use Rattle.list_tree.specs.Tree.{Extends}
use Rattle.list_tree.proofs.Turns.{by_event}
use Rattle.list_tree.proofs.tree.add_next.Given as goal

abbrev pub invariant-loop-e : goal.invariant-loop-e
invariant-loop-e l = Extends l.initial.t (concat_map (by_event l.initial.t l.a (view l.table)) (take l.e-index (alphabet l.initial.t.n))) l.t
