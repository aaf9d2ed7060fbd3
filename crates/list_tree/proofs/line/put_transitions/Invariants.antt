-- `list_tree::line::put_transitions` meets its contract. The invariant: the lines of the first k transitions are written, each of 45 bytes at most.
use Prim.Native.Nat.{◌+◌, ◌*◌, ◌≤◌}
use mathlib.Core.List.{map}
use lib.ListN.{take}
use Rattle.listing.specs.Printing.{joined, Wrote}
use Rattle.aldebaran_text.specs.Text.{transition_line}
use Rattle.list_tree.specs.Tree.{edges_in, transitions_by}
use Rattle.list_tree.proofs.line.put_transitions.Given as goal

abbrev pub invariant-loop-k : goal.invariant-loop-k
invariant-loop-k l = (l.out.end ≤ l.initial.out.end + 45 * l.k) × Wrote l.initial.out (joined (map transition_line (transitions_by (take l.k (edges_in l.fn.t))))) l.out
