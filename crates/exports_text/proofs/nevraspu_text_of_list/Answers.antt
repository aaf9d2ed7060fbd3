-- `nevraspu_text_of_list` meets its contract: the answer of `print`, as a number.
use native.Mathlib.Omega.{arith}
use Rattle.listing.proofs.Printing.{lines_exported}
use Rattle.exports_text.proofs.nevraspu_text_of_list.Goals as goal

pub returns : goal.returns
returns c =
    let p = c.print in
    lines_exported _ _ _ p.result (omega arith) p.ensures _ c.put_length.ensures
