-- `fold_from` meets its contract: what is counted and what is left is the whole count.
use Prim.Native.Nat.{◌+◌, ◌-◌, ◌≤◌}
use mathlib.Core.Path.{◌≡◌}
use lib.ListN.{length}
use Rattle.model.specs.State.{view}
use Rattle.exports.proofs.Counting.{left}
use Rattle.exports.proofs.fold_from.Given as goal

abbrev pub invariant-loop-event : goal.invariant-loop-event
invariant-loop-event l = (l.count ≤ l.at) × (l.at ≤ length l.list) × (l.count + left l.list (view l.t) l.at ≡ left l.list (view l.initial.t) 4)

abbrev pub decreases-loop-event : goal.decreases-loop-event
decreases-loop-event l = length l.list - l.at
