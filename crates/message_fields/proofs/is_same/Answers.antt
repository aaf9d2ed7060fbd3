-- The library's test is the definition's.
use mathlib.Core.Path.{◌∙◌}
use Rattle.number_bytes.proofs.Same.{same_pointwise}
use Rattle.message_fields.proofs.is_same.Goals as goal

pub returns : goal.returns
returns c = c.eq.ensures ∙ same_pointwise _ _
