-- `put_event_number` meets its contract: three pieces.
use native.Mathlib.Omega.{arith}
use Rattle.listing.proofs.Appended.{wrote_twice}
use Rattle.trace_list.proofs.words.put_event_number.Goals as goal

pub returns : goal.returns
returns c =
    let n = c.number.ensures in
    let p = c.put.ensures in
    let v = c.put_event.ensures in
    (wrote_twice n.0 (wrote_twice p v.0), omega (arith, n.1, p.appended.next, v.1))
