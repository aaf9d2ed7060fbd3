-- The invariant: the first messages are counted.
use mathlib.Core.Path.{◌≡◌}
use lib.ListN.{take}
use Rattle.model.specs.Counts.{rows_of}
use Rattle.model.specs.State as state
use Rattle.traffic.proofs.waiting_rows.Given as goal

abbrev pub invariant-loop-m : goal.invariant-loop-m
invariant-loop-m l = l.all ≡ rows_of (state.waiting (take l.m-index l.m-items))
