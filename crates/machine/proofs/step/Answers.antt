-- `step` meets its contract: ground 1, and then `advance`.
use mathlib.Core.Bool.{not}
use mathlib.Core.Path.{ap, sym, ◌∙◌}
use borrow.Author.Tests.{not-true}
use Rattle.machine.proofs.Parts.{range_refuses}
use Rattle.machine.proofs.step.Goals as goal

pub returns-then-not-in_range : goal.returns-then-not-in_range
returns-then-not-in_range c = range_refuses _ _ (sym c.in_range.ensures ∙ not-true _ (ap not c.if-not-in_range.true))
