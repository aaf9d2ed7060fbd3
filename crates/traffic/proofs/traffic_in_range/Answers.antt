-- `traffic_in_range` meets its contract: the definition's tests are the two calls.
use native.Mathlib.Omega.{arith}
use mathlib.Core.Path.{◌∙◌}
use Rattle.model.specs.State.{no_message, first_of, traffic_in_range}
use Rattle.traffic.proofs.Laws.{adding_is}
use Rattle.traffic.proofs.traffic_in_range.Goals as goal

pub returns : goal.returns
unfolding traffic_in_range
returns c =
    let x = c.args in
    rw (c.counts_in_range.ensures, c.adds_up.ensures ∙ adding_is x.n (omega arith) x.sent.now x.delivered.now x.lost.now (first_of x.waiting no_message x.messages) _ c.waiting_rows-rows.ensures)
