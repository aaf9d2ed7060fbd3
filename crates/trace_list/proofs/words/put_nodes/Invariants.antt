-- `put_nodes` meets its contract: one node more with each turn.
use Prim.Native.Nat.{◌+◌, ◌*◌, ◌≤◌}
use Rattle.listing.specs.Printing.{Wrote}
use Rattle.short_lists_text.specs.Text.{spaced}
use Rattle.trace_text.specs.Words.{nodes_from}
use Rattle.trace_list.proofs.words.put_nodes.Given as goal

abbrev pub invariant-loop-i : goal.invariant-loop-i
invariant-loop-i l = Wrote l.initial.out (spaced (nodes_from l.i 1 l.s)) l.out × (l.out.end ≤ l.initial.out.end + 3 * l.i)
