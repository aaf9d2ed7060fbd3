-- `put_way` meets its contract: four pieces.
use native.Mathlib.Omega.{arith}
use Rattle.listing.proofs.Appended.{wrote_twice}
use Rattle.trace_list.proofs.words.put_way.Goals as goal

pub returns : goal.returns
returns c =
    let a = c.number.ensures in
    let p = c.put.ensures in
    let b = c.number-2.ensures in
    let q = c.put-2.ensures in
    (wrote_twice a.0 (wrote_twice p (wrote_twice b.0 q)), omega (arith, a.1, p.appended.next, b.1, q.appended.next))
