-- `TextBuffer::put_totals` meets its contract: each line is written behind the one before it, or refused.
use mathlib.Core.List.{[], ◌∷◌}
use Rattle.listing.specs.Lines.{row, delivered_word, lost_word, total_line, total_lines}
use Rattle.listing.proofs.Written.{lines_then, lines_refused}
use Rattle.listing.proofs.buffer.TextBuffer.put_totals.Goals as goal

pub returns-in_err-put_one : goal.returns-in_err-put_one
unfolding row total_line total_lines
returns-in_err-put_one c = rw (← c.total.ensures) (lines_refused (total_line delivered_word _ ∷ total_line lost_word _ ∷ []) c.put_one.ensures c.in_err-put_one.was c.from_residual.ensures.0)

pub returns-in_err-put_one-2 : goal.returns-in_err-put_one-2
unfolding row total_line total_lines
returns-in_err-put_one-2 c =
    rw (← c.total.ensures, ← c.total-2.ensures)
    (lines_then c.put_one.ensures c.in_ok-put_one.was (lines_refused (total_line lost_word _ ∷ []) c.put_one-2.ensures c.in_err-put_one-2.was c.from_residual-in_err-put_one-2.ensures.0))

pub returns : goal.returns
unfolding row total_line total_lines
returns c = rw (← c.total.ensures, ← c.total-2.ensures, ← c.total-3.ensures) (lines_then c.put_one.ensures c.in_ok-put_one.was (lines_then c.put_one-2.ensures c.in_ok-put_one-2.was c.put_one-3.ensures))
