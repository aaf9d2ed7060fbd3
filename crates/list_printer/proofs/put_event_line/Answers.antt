-- `list_printer::put_event_line` meets its contract: the local array holds the event's text and behind it the line's end.
use mathlib.Core.Path.{refl}
use borrow.Author.Rules.{rules}
use Rattle.listing.proofs.Appended.{wrote_twice}
use Rattle.list_printer.proofs.Laws.{line_made}
use Rattle.list_printer.proofs.put_event_line.Goals as goal

pub returns : goal.returns
returns c = line_made c.args.e refl (wrote_twice c.put_event.ensures.0 c.put.ensures) c.put_line.ensures (search rules)
