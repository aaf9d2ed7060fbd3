-- `listing::print_into` meets its contract: what is written into all of the buffer is what is printed from its start.
use mathlib.Core.Path.{refl}
use borrow.Author.Rules.{rules}
use Rattle.listing.proofs.Written.{printed_whole_buffer, refused_there}
use Rattle.listing.proofs.buffer.print_into.Goals as goal

pub returns-in_err-lines : goal.returns-in_err-lines
returns-in_err-lines g c = λ xs h. printed_whole_buffer refl (h _ _ _ c.lines.ensures) _ (search rules) _ (refused_there _ c.from_residual.ensures.0 c.in_err-lines.was _)

pub returns : goal.returns
returns g c = λ xs h. printed_whole_buffer refl (h _ _ _ c.lines.ensures) _ (search rules) _ (rw c.in_ok-lines.was)
