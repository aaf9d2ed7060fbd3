-- `list_tree::tree::add_level` meets its contract: a turn for each state of the level.
use Prim.Native.Nat.{◌-◌, ◌≤◌}
use native.Mathlib.Omega.{arith}
use mathlib.Core.Path.{◌≡◌, sym, subst}
use mathlib.Core.List.{[], ◌++◌}
use lib.ListN.{length, take, drop, get_or, length-drop}
use lib.Seq.{length-take-le}
use Rattle.model.specs.Limits.{tower}
use Rattle.model.specs.State.{start}
use Rattle.short_lists_text.specs.Rows.{concat_map}
use Rattle.list_tree.specs.Tree.{lists_in, next_of, Extends}
use Rattle.list_tree.proofs.Trees.{lists_long}
use Rattle.list_tree.proofs.Turns.{no_turn, all_turns, still_in, level_room, level_on}
use Rattle.list_tree.proofs.tree.add_level.Goals as goal

pub loop-a-init : goal.loop-a-init
loop-a-init c =
    let t = c.args.t.now in
    let f = c.args.first in
    let z : 0 ≡ f - f = omega arith in
    let xs = drop f (take c.args.end (lists_in t)) in
    subst (λ k. Extends t (concat_map (next_of (start t.n tower)) (take k xs)) t) z (no_turn (next_of (start t.n tower)) xs [] t c.requires.0)

pub add_next-requires : goal.add_next-requires
add_next-requires c =
    let l = c.loop-a in
    let t = c.args.t.now in
    let g = l.invariant in
    let b : c.args.first ≤ l.a = omega arith in
    let r = level_room (start t.n tower) t c.requires.0 c.args.first c.args.end l.a b c.loop-a-test.true c.requires.2 g c.requires.3 in (
      g.sound,
      still_in (start t.n tower) t c.requires.0 c.args.first c.args.end l.a b c.loop-a-test.true c.requires.2 g,
      subst (λ n. length (lists_in l.t ++ next_of (start n tower) (get_or (lists_in l.t) l.a [])) ≤ 601) (sym g.same) r,
    )

pub loop-a-preserved : goal.loop-a-preserved
loop-a-preserved c =
    let l = c.loop-a in
    let t = c.args.t.now in
    let g = l.invariant in
    let x = subst (λ n. Extends l.t (next_of (start n tower) (get_or (lists_in l.t) l.a [])) c.add_next.new.t) g.same c.add_next.ensures in
    level_on (start t.n tower) t c.requires.0 c.args.first c.args.end l.a (omega arith) c.loop-a-test.true c.requires.2 g x

pub returns : goal.returns
returns c =
    let l = c.loop-a in
    let t = c.args.t.now in
    let f = c.requires.1 in
    let p = c.requires.2 in
    let n = lists_long t c.requires.0 in
    let xs = drop c.args.first (take c.args.end (lists_in t)) in
    all_turns (next_of (start t.n tower)) xs [] t (l.a - c.args.first)
    (omega (arith, c.loop-a-test.false, length-drop c.args.first (take c.args.end (lists_in t)), length-take-le c.args.end (lists_in t) (omega (arith, p, n)))) l.invariant
