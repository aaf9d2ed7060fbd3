-- `short_lists::print` is safe and ends: the search can be called again, and each piece leaves less of the text.
use Rattle.std.proofs.Common.{length}
use Rattle.std.specs.Prelude.{IfSome}
use Rattle.list_search.specs.Search.{Sound, text_from}
use Rattle.short_lists.proofs.print.Given as goal

abbrev pub invariant-loop-next : goal.invariant-loop-next
invariant-loop-next l = IfSome l.next Sound

abbrev pub decreases-loop-next : goal.decreases-loop-next
decreases-loop-next l = length (text_from l.next)
