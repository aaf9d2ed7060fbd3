-- `move_down` meets its contract: the four words are those of the next message.
use native.Mathlib.Omega.{arith}
use mathlib.Core.Path.{sym, ◌∙◌, ap}
use lib.ListN.{set}
use Rattle.model.specs.State.{no_message}
use Rattle.model.specs.declared.Message.{Message}
use Rattle.packed.specs.Packed.{held}
use Rattle.packed.proofs.Laws.{held_set, held_after}
use Rattle.packed.proofs.move_down.Goals as goal

pub returns : goal.returns
returns c =
    let s = c.args in
    held_set s.q.now s.k _ _ _ _ (omega arith) ∙ ap (λ (x : Message). set (held s.q.now) s.k x) (sym (held_after s.q.now s.k no_message (omega arith)))
