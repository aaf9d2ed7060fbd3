-- The invariant: the test of the first a senders.
use mathlib.Core.Path.{◌≡◌}
use Rattle.model.specs.State.{up_to}
use Rattle.traffic.specs.Rows.{adding}
use Rattle.traffic.proofs.adds_up.Given as goal

abbrev pub invariant-loop-a : goal.invariant-loop-a
invariant-loop-a l = l.good ≡ up_to l.a (λ x. up_to l.n (adding l.sent l.delivered l.lost l.waiting x))
