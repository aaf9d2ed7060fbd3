-- `node_at` meets its contract: the record at its place, or nobody's.
use native.Mathlib.Omega.{arith}
use Rattle.bully_machine.proofs.Laws.{sized, node_is, nobody}
use Rattle.bully_machine.proofs.node_at.Goals as goal

pub returns-then-i-lt1 : goal.returns-then-i-lt1
returns-then-i-lt1 c = let z = nobody c.args.t c.args.i (omega (arith, c.if-i-lt1.true)) in rw c.starting_node.ensures z

pub offset_bounds-t-at : goal.offset_bounds-t-at
offset_bounds-t-at c = let s = sized c.args.t c.well_formed.0 in omega (arith, c.requires.0, c.requires.1)

pub bounds-t-at : goal.bounds-t-at
bounds-t-at c = let s = sized c.args.t c.well_formed.0 in omega (arith, c.requires.0, c.requires.1)

pub returns : goal.returns
returns c =
    node_is c.args.t (sized c.args.t c.well_formed.0) c.requires.0 c.args.i c.if-i-lt1.false c.requires.1
