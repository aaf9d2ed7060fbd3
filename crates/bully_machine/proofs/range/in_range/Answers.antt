-- `in_range` meets its contract: n first, so that the view's list is the array's first part.
use borrow.Author.Tests.{leb-true, not-true, not-false}
use mathlib.Core.Path.{sym, ◌∙◌}
use Rattle.std.proofs.Common.{rules}
use Rattle.model.proofs.Local.{both_left, both_right}
use Rattle.bully_model.specs.Range.{node_in_range}
use Rattle.bully_model.specs.State.{in_range}
use Rattle.bully_machine.proofs.Laws.{sized, in_range_is}
use Rattle.bully_machine.proofs.range.in_range.Goals as goal

pub returns-then-wrong_count : goal.returns-then-wrong_count
unfolding in_range
returns-then-wrong_count c = rw (not-true _ (sym c.wrong_count.ensures ∙ c.if-wrong_count.true))

pub returns : goal.returns
returns c =
    let n = not-false _ (sym c.wrong_count.ensures ∙ c.if-wrong_count.false) in
    c.all_from_one.ensures (node_in_range c.args.t.n) (λ i x b l h e. search rules)
    ∙ sym (in_range_is c.args.t (sized c.args.t c.well_formed.0) (leb-true _ _ (both_right _ _ n)) (leb-true _ _ (both_left _ _ n)))
