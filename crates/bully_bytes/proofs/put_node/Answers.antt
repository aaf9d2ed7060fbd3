-- Each field is written where the one before it ends.
use mathlib.Core.Path.{refl}
use Rattle.number_bytes.specs.Bytes.{bytes}
use Rattle.number_bytes.proofs.Numbers.{then}
use Rattle.bully_bytes.specs.Bytes.{node_bytes, parts_bytes}
use Rattle.bully_bytes.proofs.put_node.Goals as goal

pub returns : goal.returns
unfolding bytes node_bytes parts_bytes
returns c =
    rw (← c.yes_number.ensures, ← c.status_number.ensures, ← c.parts_of.ensures)
    (then _ _ _ _ 8
    (then _ _ _ _ 6
    (then _ _ _ _ 5
    (then _ _ _ _ 3
    (then _ _ _ _ 2
    (then _ _ _ _ 1 c.put_one.ensures refl c.put_one-2.ensures)
    refl
    c.put_one-3.ensures)
    refl
    c.put_two.ensures)
    refl
    c.put_one-4.ensures)
    refl
    c.put_two-2.ensures)
    refl
    c.put_parts.ensures)
