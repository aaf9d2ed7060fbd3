-- `print_pieces` meets its contract: to write what the trace still gives is to write all behind the first piece.
use Rattle.std.specs.Prelude.{IfSome}
use Rattle.listing.specs.Printing.{WroteLines}
use Rattle.trace_list.specs.Pieces.{pieces_after, SoundTrace}
use Rattle.trace_list.proofs.Given.{bytes_left}
use Rattle.trace_list.proofs.print_pieces.Given as goal

abbrev pub invariant-loop-piece : goal.invariant-loop-piece
invariant-loop-piece l =
    IfSome l.piece.next (SoundTrace l.list) × ((r : _) (d : _) → WroteLines l.out (pieces_after l.list l.piece) r d → WroteLines l.initial.out (pieces_after l.list l.initial.piece) r d)

abbrev pub decreases-loop-piece : goal.decreases-loop-piece
decreases-loop-piece l = bytes_left l.list l.piece.next
