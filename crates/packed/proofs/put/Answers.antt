-- `put` meets its contract: the four words are the message's.
use native.Mathlib.Omega.{arith}
use mathlib.Core.Path.{◌∙◌, ap}
use lib.ListN.{set}
use Rattle.model.specs.declared.Message.{Message}
use Rattle.packed.specs.Packed.{held}
use Rattle.packed.proofs.Laws.{narrow, read_back, held_set}
use Rattle.packed.proofs.put.Goals as goal

pub returns : goal.returns
returns c =
    let s = c.args in
    held_set s.q.now s.k _ _ _ _ (omega arith)
    ∙ ap (λ (x : Message). set (held s.q.now) s.k x) (rw (c.route.ensures, c.content.ensures) (read_back s.m (narrow s.m c.well_formed.1.1.0)))
