-- `stopped` meets its contract: there is room for a line and a table in range.
use native.Mathlib.Omega.{arith}
use mathlib.Core.Path.{refl}
use Rattle.listing.proofs.Written.{lines_in}
use Rattle.trace_list.proofs.Given.{stop_piece}
use Rattle.trace_list.proofs.stopped.Goals as goal

pub returns : goal.returns
returns c = stop_piece refl (omega arith) c.args.t c.requires.0 _ c.requires.1 c.requires.2 (lines_in c.put_stopped.ensures) (lines_in c.put_table.ensures)
