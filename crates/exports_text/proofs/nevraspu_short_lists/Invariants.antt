-- `nevraspu_short_lists` meets its contract. The invariant: so much of the window stands in the buffer, and the rest of it is in what the search still gives. It ends, as each piece leaves
-- less of the text.
use mathlib.Core.Path.{◌≡◌}
use lib.ListN.{length}
use Rattle.std.specs.Prelude.{IfSome}
use Rattle.short_lists_text.specs.Text.{text_of as short_lists_text}
use Rattle.list_search.specs.Search.{Sound, text_from}
use Rattle.exports_text.proofs.Window.{Filled}
use Rattle.exports_text.proofs.nevraspu_short_lists.Given as goal

abbrev pub invariant-loop-next : goal.invariant-loop-next
invariant-loop-next l = record {
  sound : IfSome l.next Sound;
  same : l.text.bytes.ghost_name ≡ l.initial.text.bytes.ghost_name;
  filled : Filled (short_lists_text l.input) l.from l.initial.text.bytes.now l.text.bytes.now l.text.end l.skip (text_from l.next);
}

abbrev pub decreases-loop-next : goal.decreases-loop-next
decreases-loop-next l = length (text_from l.next)
