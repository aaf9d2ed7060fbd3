-- `put_caller` meets its contract: two pieces.
use native.Mathlib.Omega.{arith}
use Rattle.listing.proofs.Appended.{wrote_twice}
use Rattle.trace_list.proofs.words.put_caller.Goals as goal

pub returns : goal.returns
returns c =
    let f = c.put_numbered.ensures in
    let g = c.put_numbered-2.ensures in
    (wrote_twice f.0 g.0, omega (arith, f.1, g.1))
