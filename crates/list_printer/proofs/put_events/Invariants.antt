-- `list_printer::put_events` meets its contract. The invariant: to write what is left is to write all of it.
use Prim.Native.Nat.{◌≤◌, ◌-◌}
use lib.ListN.{length}
use Rattle.listing.specs.Printing.{WroteLines}
use Rattle.list_printer.proofs.Laws.{left}
use Rattle.list_printer.proofs.put_events.Given as goal

abbrev pub invariant-loop-event : goal.invariant-loop-event
invariant-loop-event l = (l.at ≤ length l.list) × ((r : _) (d : _) → WroteLines l.out (left l.list l.at) r d → WroteLines l.initial.out (left l.list 4) r d)

-- An event takes at least four bytes.
abbrev pub decreases-loop-event : goal.decreases-loop-event
decreases-loop-event l = length l.list - l.at
