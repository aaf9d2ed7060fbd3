-- `list_search::line::put_count` meets its contract: three pieces.
use borrow.Author.Rules.{rules}
use native.Mathlib.Omega.{arith}
use Rattle.listing.specs.Lines.{row}
use Rattle.listing.proofs.Appended.{wrote_twice}
use Rattle.listing.proofs.Decimal.{decimal_32_long}
use Rattle.short_lists_text.specs.Text.{count_line}
use Rattle.list_search.proofs.line.put_count.Goals as goal

pub returns : goal.returns
unfolding count_line row
returns c =
    let l = decimal_32_long c.args.k (search rules) in
    let w = wrote_twice c.put.ensures (wrote_twice c.put_field.ensures c.put-2.ensures) in
    (w, omega (arith, w.appended.next), omega (arith, w.appended.next))
