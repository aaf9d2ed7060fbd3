-- `put_record` meets its contract: six pieces.
use native.Mathlib.Omega.{arith}
use Rattle.listing.proofs.Appended.{wrote_twice}
use Rattle.trace_text.specs.Words.{record_line}
use Rattle.trace_list.proofs.words.put_record.Goals as goal

pub returns : goal.returns
unfolding record_line
returns c =
    let p = c.put.ensures in
    let n = c.number.ensures in
    let s = c.put_shown.ensures in
    let q = c.put-2.ensures in
    let a = c.put_activity.ensures in
    let r = c.put-3.ensures in
    (wrote_twice p (wrote_twice n.0 (wrote_twice s.0 (wrote_twice q (wrote_twice a.0 r)))), omega (arith, p.appended.next, n.1, s.1, q.appended.next, a.1, r.appended.next))
