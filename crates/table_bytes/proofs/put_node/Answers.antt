-- Each field is written where the one before it ends.
use mathlib.Core.Path.{refl}
use Rattle.number_bytes.specs.Bytes.{bytes}
use Rattle.table_bytes.specs.Bytes.{node_bytes, parts_bytes}
use Rattle.number_bytes.proofs.Numbers.{then}
use Rattle.table_bytes.proofs.put_node.Goals as goal

pub returns : goal.returns
unfolding bytes node_bytes parts_bytes
returns c =
    rw (← c.status_number.ensures, ← c.parts_of.ensures)
    (then _ _ _ _ 18
    (then _ _ _ _ 14
    (then _ _ _ _ 12
    (then _ _ _ _ 10
    (then _ _ _ _ 9
    (then _ _ _ _ 5
    (then _ _ _ _ 1 c.put_one.ensures refl c.put_four.ensures)
    refl
    c.put_four-2.ensures)
    refl
    c.put_one-2.ensures)
    refl
    c.put_two.ensures)
    refl
    c.put_two-2.ensures)
    refl
    c.put_four-3.ensures)
    refl
    c.put_parts.ensures)
