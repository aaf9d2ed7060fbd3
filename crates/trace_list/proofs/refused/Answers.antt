-- `refused` meets its contract: there is room for the line.
use native.Mathlib.Omega.{arith}
use mathlib.Core.Path.{refl}
use Rattle.listing.proofs.Written.{lines_in}
use Rattle.trace_list.proofs.Given.{stop_alone}
use Rattle.trace_list.proofs.refused.Goals as goal

pub returns : goal.returns
returns c = stop_alone refl (omega arith) _ c.requires (lines_in c.put_stopped.ensures)
