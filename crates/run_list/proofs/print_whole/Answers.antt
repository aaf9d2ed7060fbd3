-- `run_list::print_whole` meets its contract: the buffer is as long as any text.
use native.Mathlib.Nat.{le_trans}
use native.Mathlib.Omega.{arith}
use Rattle.listing.proofs.Printing.{whole_or}
use Rattle.run_list.proofs.Bound.{text_fits}
use Rattle.run_list.proofs.print_whole.Goals as goal

pub returns : goal.returns
returns c = whole_or _ _ _ _ c.print.ensures (le_trans (text_fits _) (omega arith)) _ c.unwrap_or.ensures
