-- `list_printer::print_whole` meets its contract: the list has bytes alone, and the buffer is as long as the text of any such list.
use native.Mathlib.Nat.{le_trans}
use native.Mathlib.Omega.{arith}
use Rattle.listing.proofs.Printing.{whole_or}
use Rattle.list_text.proofs.Fits.{list_text_fits}
use Rattle.list_printer.proofs.Laws.{all_bytes}
use Rattle.list_printer.proofs.print_whole.Goals as goal

pub returns : goal.returns
returns c =
    let b = all_bytes c.args.list.now (λ i. (c.type_inv.list i).fits) in
    whole_or _ _ _ _ c.print.ensures (le_trans (list_text_fits _ b) (omega arith)) _ c.unwrap_or.ensures
