-- `turn` meets its contract: 1, n = 1, 7, and then `look`.
use mathlib.Core.Bool.{not}
use mathlib.Core.Path.{ap}
use borrow.Author.Tests.{not-true, not-false}
use mathlib.Core.Path.{sym, ◌∙◌}
use Rattle.model.specs.State.{view}
use Rattle.std.specs.Prelude.{Err}
use Rattle.model.specs.declared.Refusal.TheVariants.{NotInRange, WrongNumber}
use Rattle.round.proofs.Turns.{turn_rules}
use Rattle.driver.proofs.Turns.{refuses, stays_alone}
use Rattle.driver.proofs.turn.Goals as goal

pub returns-then-not-in_range : goal.returns-then-not-in_range
returns-then-not-in_range c =
    refuses c.args.t c.args.p (Err NotInRange) c.outcome_of.result
    (turn_rules.not_in_range (view c.args.t) c.args.p (sym c.in_range.ensures ∙ not-true _ (ap not c.if-not-in_range.true)))
    c.outcome_of.ensures

pub returns-then-t-eq1 : goal.returns-then-t-eq1
returns-then-t-eq1 c =
    stays_alone c.args.t c.args.p c.outcome_of-then-t-eq1.result
    (turn_rules.alone (view c.args.t) c.args.p (sym c.in_range.ensures ∙ not-false _ (ap not c.if-not-in_range.false)) c.if-t-eq1.true)
    c.outcome_of-then-t-eq1.ensures

pub returns-then-not-is_pair : goal.returns-then-not-is_pair
returns-then-not-is_pair c =
    refuses c.args.t c.args.p (Err WrongNumber) c.outcome_of-then-not-is_pair.result
    (turn_rules.no_pair (view c.args.t) c.args.p (sym c.in_range.ensures ∙ not-false _ (ap not c.if-not-in_range.false)) c.if-t-eq1.false
    (sym c.is_pair.ensures ∙ not-true _ (ap not c.if-not-is_pair.true)))
    c.outcome_of-then-not-is_pair.ensures
