-- `list_tree::tree::tree_of` meets its contract: each turn adds the lists of one event more.
use native.Mathlib.Omega.{arith}
use Rattle.list_tree.proofs.Complete.{root_complete, level_within, level_fits, level_complete}
use Rattle.list_tree.proofs.tree.tree_of.Goals as goal

pub loop-init : goal.loop-init
loop-init c = root_complete _ c.root-t.ensures

pub overflow_add-end : goal.overflow_add-end
overflow_add-end c = let w = c.loop.invariant.sound.within in omega (arith, w)

pub add_level-requires : goal.add_level-requires
add_level-requires c =
    let a = c.loop.invariant in
    let p = c.requires in
    let h = p.2 in
    (a.sound, level_within _ _ _ _ a, omega arith, level_fits _ _ _ _ a p.0 p.1 (omega (arith, c.loop-test.true, h)))

pub loop-preserved : goal.loop-preserved
loop-preserved c = level_complete _ _ _ _ c.loop.invariant c.add_level.ensures
