-- Each part is written where the one before it ends.
use mathlib.Core.Path.{refl}
use Rattle.number_bytes.specs.Bytes.{bytes}
use Rattle.number_bytes.proofs.Numbers.{then}
use Rattle.message_fields.proofs.put_call.Goals as goal

pub returns : goal.returns
unfolding bytes
returns c =
    then _ _ _ _ 9
    (then _ _ _ _ 6
    (then _ _ _ _ 5
    (then _ _ _ _ 4
    (then _ _ _ _ 3 c.put_head.ensures refl c.put_one.ensures)
    refl
    c.put_one-2.ensures)
    refl
    c.put_one-3.ensures)
    refl
    c.put_head-2.ensures)
    refl
    c.put_four.ensures
