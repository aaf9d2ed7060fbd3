-- `list_tree::line::put_source` meets its contract: three pieces.
use native.Mathlib.Omega.{arith}
use Rattle.listing.proofs.Appended.{wrote_twice}
use Rattle.list_tree.proofs.line.put_source.Goals as goal

pub returns : goal.returns
returns c =
    let x = c.put_with_number.ensures.1 in
    let y = c.put_label.ensures.1 in
    (wrote_twice c.put_with_number.ensures.0 (wrote_twice c.put.ensures c.put_label.ensures.0), omega (arith, c.put.ensures.appended.next))
