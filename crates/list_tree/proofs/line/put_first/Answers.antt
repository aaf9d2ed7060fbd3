-- `list_tree::line::put_first` meets its contract: three pieces.
use native.Mathlib.Omega.{arith}
use Rattle.listing.proofs.Appended.{wrote_twice}
use Rattle.aldebaran_text.specs.Text.{first_line}
use Rattle.list_tree.proofs.line.put_first.Goals as goal

pub returns : goal.returns
unfolding first_line
returns c =
    let x = c.put_with_number.ensures.1 in
    let y = c.put_with_number-2.ensures.1 in
    (wrote_twice c.put_with_number.ensures.0 (wrote_twice c.put_with_number-2.ensures.0 c.put.ensures), omega (arith, c.put.ensures.appended.next))
