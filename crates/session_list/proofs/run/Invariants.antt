-- `session_list::run` meets its contract. The invariant: to print what is left is to print all of it, whatever is printed of the last table; and the table that is left is that of
-- the whole run.
use Prim.Native.Nat.{◌≤◌, ◌-◌}
use lib.ListN.{length}
use Rattle.model.specs.State.{view}
use Rattle.session_list.proofs.Laws.{Left}
use Rattle.session_list.proofs.run.Given as goal

abbrev pub invariant-loop-event : goal.invariant-loop-event
invariant-loop-event l = (l.e ≤ l.at) × (l.at ≤ length l.list) × Left l.list (view l.initial.table) l.initial.out l.at l.e (view l.table) l.out

-- An event takes at least four bytes.
abbrev pub decreases-loop-event : goal.decreases-loop-event
decreases-loop-event l = length l.list - l.at
