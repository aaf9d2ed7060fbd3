-- `list_tree::line::put_with_number` meets its contract: two pieces.
use borrow.Author.Rules.{rules}
use native.Mathlib.Omega.{arith}
use Rattle.listing.proofs.Appended.{wrote_twice}
use Rattle.listing.proofs.Decimal.{decimal_32_long}
use Rattle.list_tree.proofs.line.put_with_number.Goals as goal

pub returns : goal.returns
returns c =
    let l = decimal_32_long c.args.x (search rules) in
    (wrote_twice c.put.ensures c.put_number.ensures, omega (arith, c.put.ensures.appended.next, c.put_number.ensures.appended.next))
