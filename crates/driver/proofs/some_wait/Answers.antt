-- `some_wait` meets its contract: T-05's sum of the pair's counts.
use native.Mathlib.Omega.{arith}
use Rattle.round.specs.Order.{pair}
use Rattle.driver.proofs.Turns.{counts_fit, more_sent}
use Rattle.driver.proofs.some_wait.Goals as goal

pub overflow_add-result : goal.overflow_add-result
overflow_add-result c =
    record { fits = rw c.count_place-k.ensures.0 (omega (arith, counts_fit c.args.t (pair c.args.a c.args.b) c.requires)) }

pub returns : goal.returns
returns c =
    rw c.count_place-k.ensures.0 (more_sent c.args.t (pair c.args.a c.args.b) c.requires)
