-- `list_tree::tree::add_level` meets its contract. The invariant: what comes next to the lists of the states before a stands behind the states of before.
use Prim.Native.Nat.{◌-◌}
use lib.ListN.{take, drop}
use Rattle.model.specs.Limits.{tower}
use Rattle.model.specs.State.{start}
use Rattle.short_lists_text.specs.Rows.{concat_map}
use Rattle.list_tree.specs.Tree.{lists_in, next_of, Extends}
use Rattle.list_tree.proofs.tree.add_level.Given as goal

abbrev pub invariant-loop-a : goal.invariant-loop-a
invariant-loop-a l = Extends l.initial.t (concat_map (next_of (start l.initial.t.n tower)) (take (l.a - l.first) (drop l.first (take l.end (lists_in l.initial.t))))) l.t
