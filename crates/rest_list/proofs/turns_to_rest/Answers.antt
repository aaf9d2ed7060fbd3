-- `rest_list::turns_to_rest` meets its contract. The invariant: k turns were made, and what is left of them is what was left at the start. It ends, as the bound of T-13 has fewer
-- turns left each time.
use mathlib.Core.Path.{refl}
use native.Mathlib.Omega.{arith}
use Rattle.model.specs.State.{view}
use Rattle.rest_list.proofs.Turns.{bound_small, made_none, made_below, made_more, made_all}
use Rattle.rest_list.proofs.turns_to_rest.Goals as goal

pub loop-u-init : goal.loop-u-init
loop-u-init c = made_none c.args.t _ c.requires.0 c.requires.1 c.first_pair-p.ensures

-- no message waits
pub returns : goal.returns
returns c =
    let l = c.loop-u in
    made_all l.invariant c.loop-u-test.false _ refl

pub overflow_add-k : goal.overflow_add-k
overflow_add-k c =
    let l = c.loop-u in
    omega (arith, made_below l.invariant c.loop-u-test.true, bound_small (view c.args.t) c.requires.0)

pub loop-u-smaller : goal.loop-u-smaller
loop-u-smaller c =
    let l = c.loop-u in
    omega (arith, made_below l.invariant c.loop-u-test.true)

pub loop-u-preserved : goal.loop-u-preserved
loop-u-preserved c =
    let l = c.loop-u in
    made_more l.invariant c.loop-u-test.true _ c.turn-o.ensures
