-- `stored` meets its contract: the array with that record at its place.
use native.Mathlib.Omega.{arith}
use Rattle.bully_machine.proofs.Laws.{sized, stored_is}
use Rattle.bully_machine.proofs.stored.Goals as goal

pub offset_bounds-next-at : goal.offset_bounds-next-at
offset_bounds-next-at c = let s = sized c.args.t c.well_formed.0 in omega (arith, c.requires.0, c.requires.2)

pub bounds-next-at : goal.bounds-next-at
bounds-next-at c = let s = sized c.args.t c.well_formed.0 in omega (arith, c.requires.0, c.requires.2)

pub returns : goal.returns
returns c = stored_is c.args.t (sized c.args.t c.well_formed.0) c.requires.0 c.args.i _ c.requires.1 c.requires.2
