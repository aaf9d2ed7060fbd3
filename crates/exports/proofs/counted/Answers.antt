-- `counted` meets its contract, by its test.
use borrow.Author.Tests.{eq-eqb, ne_eqb}
use Rattle.model.specs.Pick.{pick}
use Rattle.exports.specs.Boundary.{plus_accepted}
use Rattle.exports.proofs.counted.Goals as goal

pub returns-then-number-eq0 : goal.returns-then-number-eq0
unfolding pick plus_accepted
returns-then-number-eq0 c = rw (eq-eqb _ _ c.if-number-eq0.true)

pub returns-else-number-eq0 : goal.returns-else-number-eq0
unfolding pick plus_accepted
returns-else-number-eq0 c = rw (ne_eqb _ _ c.if-number-eq0.false)
