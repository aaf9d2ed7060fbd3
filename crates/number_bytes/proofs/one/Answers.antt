-- The number of one byte is the byte.
use mathlib.Core.Path.{sym, ◌∙◌}
use Rattle.number_bytes.proofs.Numbers.{one_is}
use Rattle.number_bytes.proofs.one.Goals as goal

pub returns : goal.returns
returns c = c.byte.ensures ∙ sym (one_is _ _)
