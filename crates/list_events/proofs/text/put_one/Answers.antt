-- `list_events::text::put_one` meets its contract: a name and a number are two pieces.
use Rattle.listing.proofs.Appended.{wrote_twice}
use Rattle.short_lists_text.proofs.Spaced.{spaced_one}
use Rattle.list_events.proofs.text.put_one.Goals as goal

pub returns : goal.returns
returns c = rw (spaced_one c.args.i) (wrote_twice c.put.ensures c.put_field.ensures)
