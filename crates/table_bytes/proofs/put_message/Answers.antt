-- Each field is written where the one before it ends.
use mathlib.Core.Path.{refl}
use Rattle.number_bytes.specs.Bytes.{bytes}
use Rattle.table_bytes.specs.Bytes.{message_bytes}
use Rattle.number_bytes.proofs.Numbers.{then}
use Rattle.table_bytes.proofs.put_message.Goals as goal

pub returns : goal.returns
unfolding bytes message_bytes
returns c =
    rw (← c.yes_number.ensures)
    (then _ _ _ _ 13
    (then _ _ _ _ 11
    (then _ _ _ _ 7
    (then _ _ _ _ 3
    (then _ _ _ _ 2
    (then _ _ _ _ 1 c.put_one.ensures refl c.put_one-2.ensures)
    refl
    c.put_one-3.ensures)
    refl
    c.put_four.ensures)
    refl
    c.put_four-2.ensures)
    refl
    c.put_two.ensures)
    refl
    c.put_one-4.ensures)
