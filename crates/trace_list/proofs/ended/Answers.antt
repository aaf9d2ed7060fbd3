-- `ended` meets its contract: there is room for a table in range.
use native.Mathlib.Omega.{arith}
use mathlib.Core.Path.{refl}
use Rattle.listing.proofs.Written.{lines_in}
use Rattle.trace_list.proofs.Given.{table_piece}
use Rattle.trace_list.proofs.ended.Goals as goal

pub returns : goal.returns
returns c = table_piece refl (omega arith) c.args.t c.requires (lines_in c.put_table.ensures)
