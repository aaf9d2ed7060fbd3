-- The number of a yes or no is written behind the head.
use mathlib.Core.Path.{refl}
use Rattle.number_bytes.specs.Bytes.{bytes}
use Rattle.number_bytes.proofs.Numbers.{then}
use Rattle.message_fields.proofs.put_yes.Goals as goal

pub returns : goal.returns
unfolding bytes
returns c =
    rw (← c.yes_number.ensures) (then _ _ _ _ 3 c.put_head.ensures refl c.put_one.ensures)
