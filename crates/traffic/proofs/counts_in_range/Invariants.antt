-- The invariant: the test so far, and those of the counts from k on.
use mathlib.Core.Path.{◌≡◌}
use mathlib.Core.Bool.{◌&&◌}
use Rattle.traffic.proofs.Laws.{rest}
use Rattle.traffic.proofs.counts_in_range.Given as goal

abbrev pub invariant-loop-k : goal.invariant-loop-k
invariant-loop-k l = rest l.n l.sent l.delivered l.lost 0 ≡ (l.good && rest l.n l.sent l.delivered l.lost l.k)
