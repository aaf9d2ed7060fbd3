-- `list_search::line::put_line` meets its contract: three pieces.
use native.Mathlib.Omega.{arith}
use Rattle.listing.proofs.Appended.{wrote_twice}
use Rattle.list_search.proofs.line.put_line.Goals as goal

pub returns : goal.returns
returns c =
    let a = c.put.ensures.appended in
    let b = c.put_event.ensures.0.appended in
    let d = c.put-2.ensures.appended in
    (wrote_twice c.put.ensures (wrote_twice c.put_event.ensures.0 c.put-2.ensures), omega (arith, a.next, b.next, d.next), omega (arith, a.next, c.put_event.ensures.1, d.next))
