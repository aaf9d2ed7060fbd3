-- `look` meets its contract: nothing where no message waits, the delivery, or the loss that it becomes.
use mathlib.Core.Bool.{not}
use mathlib.Core.Path.{ap}
use borrow.Author.Tests.{not-true, not-false}
use mathlib.Core.Path.{sym, ◌∙◌}
use Rattle.driver.proofs.Turns.{small, nothing, delivered, losing}
use Rattle.driver.proofs.look.Goals as goal

pub next_pair-next-requires : goal.next_pair-next-requires
next_pair-next-requires c = (small c.args.t c.args.p c.requires, c.requires.in_round)

pub returns-then-not-some_wait : goal.returns-then-not-some_wait
returns-then-not-some_wait c =
    nothing c.args.t c.args.p c.requires c.next_pair-next.result c.outcome_of.result (sym c.some_wait.ensures ∙ not-true _ (ap not c.if-not-some_wait.true)) c.next_pair-next.ensures
    c.outcome_of.ensures

pub lose-requires : goal.lose-requires
lose-requires c =
    losing c.args.t c.args.p c.requires c.next_pair-next.result c.advance-o.result (sym c.some_wait.ensures ∙ not-false _ (ap not c.if-not-some_wait.false)) c.advance-o.ensures
    (sym c.is_accepted.ensures ∙ not-true _ (ap not c.if-not-is_accepted.true)) c.next_pair-next.ensures

pub returns : goal.returns
returns c =
    delivered c.args.t c.args.p c.requires c.next_pair-next.result c.advance-o.result c.outcome_of-2.result c.advance-o.ensures
    (sym c.is_accepted.ensures ∙ not-false _ (ap not c.if-not-is_accepted.false)) c.next_pair-next.ensures c.outcome_of-2.ensures
