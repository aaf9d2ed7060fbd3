-- `whole_round` meets its contract: so many turns are made, one after another, until all are.
use native.Mathlib.Omega.{arith}
use Prim.Native.Nat.{ℕ}
use lib.ListN.{replicate}
use mathlib.Core.Path.{◌≡◌, ◌∙◌, subst}
use Rattle.round.specs.Order.{round_size}
use Rattle.round.specs.Schedule.{turn}
use Rattle.driver.specs.Scheduled.{Scheduled, none}
use Rattle.client.proofs.Rounds.{turn_more, rounded}
use Rattle.client.proofs.turns.whole_round.Goals as goal

pub loop-init : goal.loop-init
loop-init c = none

pub loop-preserved : goal.loop-preserved
loop-preserved c = turn_more c.loop.counter c.loop.invariant c.turn-o.ensures

pub returns : goal.returns
returns c =
    let l = c.loop in
    let e : l.counter ≡ round_size c.args.t.n = omega (arith, c.loop-test.false) ∙ c.pairs_of-end.ensures in
    rounded c.args.t c.args.p l.u l.q (subst (λ (k : ℕ). Scheduled c.args.t c.args.p (replicate k turn) l.u l.q) e l.invariant)
