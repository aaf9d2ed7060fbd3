-- `run_list::run` meets its contract. The invariant: the table, with its messages as words, is in range, and to write what is left is to write all of it.
use Prim.Native.Nat.{◌≤◌, ◌-◌}
use lib.ListN.{length}
use Rattle.model.specs.State.{view}
use Rattle.model.proofs.Traffic.{SentWithin}
use Rattle.packed.specs.Seen.{seen}
use Rattle.packed.proofs.Turns.{Ready}
use Rattle.listing.specs.Lines.{table_lines}
use Rattle.listing.specs.Printing.{WroteLines}
use Rattle.run_list.proofs.Laws.{left}
use Rattle.run_list.proofs.run.Given as goal

abbrev pub invariant-loop-out : goal.invariant-loop-out
invariant-loop-out l =
    (l.e ≤ l.at) × (l.at ≤ length l.list) × Ready l.t.n l.t.limits l.t.nodes l.q l.t.waiting l.t.sent l.t.delivered l.t.lost × SentWithin (seen l.t.n l.t.limits l.t.nodes l.q l.t.waiting l.t.sent l.t.delivered l.t.lost) × ((r : _) (d : _) → WroteLines l.out (left table_lines l.list (seen l.t.n l.t.limits l.t.nodes l.q l.t.waiting l.t.sent l.t.delivered l.t.lost) l.at l.e) r d → WroteLines l.initial.out (left table_lines l.list (view l.initial.t) 4 1) r d)

-- An event takes at least four bytes.
abbrev pub decreases-loop-out : goal.decreases-loop-out
decreases-loop-out l = length l.list - l.at
