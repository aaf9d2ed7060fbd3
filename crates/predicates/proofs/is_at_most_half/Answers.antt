-- `is_at_most_half` meets its contract: a set of at most 16 nodes keeps the sum small.
use Prim.Native.Nat.{ℕ, ◌≤◌, ◌<◌}
use native.Mathlib.Omega.{arith}
use Rattle.node_set.specs.NodeSet.{count}
use Rattle.node_set.proofs.Laws.{lt_within, count_within}
use Rattle.predicates.proofs.is_at_most_half.Goals as goal

few : (s : ℕ) → s < 65536 → count s ≤ 16
few s h = count_within 16 s (lt_within 16 s h)

pub overflow_mul-result : goal.overflow_mul-result
overflow_mul-result c = omega (arith, c.count.ensures, few c.args.members c.well_formed.1.0.1)

pub overflow_add-result : goal.overflow_add-result
overflow_add-result c = omega (arith, c.count.ensures, few c.args.members c.well_formed.1.0.1)

pub returns : goal.returns
returns c = rw c.count.ensures
