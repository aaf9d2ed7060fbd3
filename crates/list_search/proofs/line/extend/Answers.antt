-- `list_search::line::extend` meets its contract: two pieces.
use native.Mathlib.Omega.{arith}
use Rattle.listing.proofs.Appended.{wrote_twice}
use Rattle.list_search.proofs.line.extend.Goals as goal

pub returns : goal.returns
returns c =
    let e = c.put_event.ensures in
    let w = (wrote_twice e.0 c.put.ensures).appended in
    (omega arith, w, omega (arith, e.0.appended.next, c.put.ensures.appended.next))
