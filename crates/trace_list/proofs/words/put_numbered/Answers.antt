-- `put_numbered` meets its contract: two pieces.
use native.Mathlib.Omega.{arith}
use Rattle.listing.proofs.Appended.{wrote_twice}
use Rattle.trace_list.proofs.words.put_numbered.Goals as goal

pub returns : goal.returns
returns c = let f = c.field.ensures in (wrote_twice c.put.ensures f.0, omega (arith, f.1, c.put.ensures.appended.next))
