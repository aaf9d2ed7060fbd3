-- `list_search::lines_on` meets its contract. The invariant, `Kept`: what was written, and then what the stack still gives, is the text that the search gave at first.
use mathlib.Core.Path.{◌≡◌}
use Rattle.list_events.specs.Events.{size_of, Holds}
use Rattle.list_search.specs.Search.{text_left}
use Rattle.list_search.proofs.Loop.{Kept, turns_of}
use Rattle.list_search.proofs.lines_on.Given as goal

abbrev pub invariant-loop-top : goal.invariant-loop-top
invariant-loop-top l =
    Kept (text_left l.fn.s) l.out.bytes.now l.n l.length l.levels l.height l.top l.given l.out.end × (l.count ≡ size_of l.n) × Holds l.n l.events × (l.out.bytes.ghost_name ≡ l.initial.out.bytes.ghost_name)

abbrev pub decreases-loop-top : goal.decreases-loop-top
decreases-loop-top l =
    turns_of l.n l.length l.levels l.height l.top
