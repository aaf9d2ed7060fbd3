-- Each part is written where the one before it ends.
use mathlib.Core.Path.{refl}
use Rattle.number_bytes.specs.Bytes.{bytes}
use Rattle.table_bytes.specs.Bytes.{parts_bytes}
use Rattle.number_bytes.proofs.Numbers.{then}
use Rattle.table_bytes.proofs.put_parts.Goals as goal

pub returns : goal.returns
unfolding bytes parts_bytes
returns c =
    then _ _ _ _ 7
    (then _ _ _ _ 6
    (then _ _ _ _ 5
    (then _ _ _ _ 3
    (then _ _ _ _ 1 c.put_one.ensures refl c.put_two.ensures)
    refl
    c.put_two-2.ensures)
    refl
    c.put_one-2.ensures)
    refl
    c.put_one-3.ensures)
    refl
    c.put_four.ensures
