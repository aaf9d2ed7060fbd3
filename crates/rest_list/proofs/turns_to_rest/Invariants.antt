-- `rest_list::turns_to_rest` meets its contract. The invariant: k turns were made, and what is left of them is what was left at the start. It ends, as the bound of T-13 has fewer
-- turns left each time.
use Prim.Native.Nat.{◌-◌}
use Rattle.model.specs.State.{view}
use Rattle.rest_bound.specs.Turns.{turn_bound}
use Rattle.rest_list.proofs.Turns.{Made}
use Rattle.rest_list.proofs.turns_to_rest.Given as goal

abbrev pub invariant-loop-u : goal.invariant-loop-u
invariant-loop-u l = Made (view l.initial.u) l.u l.p l.k

abbrev pub decreases-loop-u : goal.decreases-loop-u
decreases-loop-u l = turn_bound (view l.initial.u) - l.k
