-- The length is written behind the tag.
use mathlib.Core.Path.{refl}
use Rattle.number_bytes.specs.Bytes.{bytes}
use Rattle.number_bytes.proofs.Numbers.{then}
use Rattle.message_fields.proofs.put_head.Goals as goal

pub returns : goal.returns
unfolding bytes
returns c =
    then _ _ _ _ 1 c.put_one.ensures refl c.put_two.ensures
