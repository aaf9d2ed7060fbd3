-- `trace::print` is safe and ends: where a piece is not the last the trace can be called again, and each further one goes further in the list.
use Rattle.std.specs.Prelude.{IfSome}
use Rattle.trace_list.specs.Pieces.{SoundTrace}
use Rattle.trace_list.proofs.Given.{bytes_left}
use Rattle.trace.proofs.print.Given as goal

abbrev pub invariant-loop-piece : goal.invariant-loop-piece
invariant-loop-piece l = IfSome l.piece.next (SoundTrace l.list)

abbrev pub decreases-loop-piece : goal.decreases-loop-piece
decreases-loop-piece l = bytes_left l.list l.piece.next
