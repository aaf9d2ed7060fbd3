-- `headed` meets its contract: there is room for the line, and the table is the starting one.
use native.Mathlib.Omega.{arith}
use mathlib.Core.Path.{refl}
use Rattle.listing.proofs.Written.{lines_in}
use Rattle.trace_list.proofs.Given.{head_piece}
use Rattle.trace_list.proofs.headed.Goals as goal

pub returns : goal.returns
returns c = head_piece refl (omega arith) _ _ _ c.requires (lines_in c.put_cabinets.ensures) c.starting-begun.ensures.table
