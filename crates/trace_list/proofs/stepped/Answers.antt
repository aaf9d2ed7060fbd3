-- `stepped` meets its contract: a step has at most 512 bytes.
use native.Mathlib.Omega.{arith}
use mathlib.Core.Path.{refl}
use Rattle.trace_list.proofs.Given.{mid_piece}
use Rattle.trace_list.proofs.stepped.Goals as goal

pub returns : goal.returns
returns c =
    let s = c.put_step.ensures in
    mid_piece refl s.0 (omega (arith, s.1, s.0.appended.next)) _ _ c.advance-o.ensures.table
