-- The invariant: the test of the first b receivers.
use mathlib.Core.Path.{◌≡◌}
use Rattle.model.specs.State.{up_to}
use Rattle.traffic.specs.Rows.{adding}
use Rattle.traffic.proofs.row_adds_up.Given as goal

abbrev pub invariant-loop-b : goal.invariant-loop-b
invariant-loop-b l = l.good ≡ up_to l.b (adding l.sent l.delivered l.lost l.waiting l.a)
