-- To write what is left is to write the whole table.
use Rattle.model.specs.State.{view}
use Rattle.listing.specs.Lines.{table_lines}
use Rattle.listing.specs.Printing.{WroteLines}
use Rattle.listing.proofs.Table.{left}
use Rattle.listing.proofs.buffer.TextBuffer.put_table.Given as goal

abbrev pub invariant-loop-i : goal.invariant-loop-i
invariant-loop-i l = (r : _) (d : _) → WroteLines l.self (left (view l.t) l.i) r d → WroteLines l.initial.self (table_lines (view l.t)) r d
