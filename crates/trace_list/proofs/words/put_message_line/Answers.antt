-- `put_message_line` meets its contract: three pieces.
use native.Mathlib.Omega.{arith}
use Rattle.listing.proofs.Appended.{wrote_twice}
use Rattle.trace_list.proofs.words.put_message_line.Goals as goal

pub returns : goal.returns
returns c =
    let p = c.put.ensures in
    let m = c.put_message.ensures in
    let q = c.put-2.ensures in
    (wrote_twice p (wrote_twice m.0 q), omega (arith, p.appended.next, m.1, q.appended.next))
