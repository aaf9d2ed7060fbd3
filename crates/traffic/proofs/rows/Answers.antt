-- The invariant: the first a rows are there.
use mathlib.Core.Path.{refl, ◌∙◌}
use native.Mathlib.Omega.{arith}
use lib.ListN.{length-set}
use Rattle.model.specs.Counts.{count_at, listed}
use Rattle.traffic.proofs.Laws.{fill_turn, fill_end, row_slice}
use Rattle.traffic.proofs.rows.Goals as goal

pub loop-a-init : goal.loop-a-init
unfolding listed
loop-a-init c = (refl, refl)

pub loop-a-preserved : goal.loop-a-preserved
loop-a-preserved c =
    let l = c.loop-a in
    (simp length-set l.invariant.0, fill_turn (λ x. listed (count_at c.args.counts x) 1 16) 1 l.all l.a l.invariant.1 (omega arith) _ (c.copy_from_slice.ensures.after ∙ row_slice c.args.counts l.a _ c.well_formed.0.1.0.1 (omega arith) (omega arith)))

pub returns : goal.returns
returns c =
    let l = c.loop-a in
    fill_end _ 1 l.all l.a l.invariant.1 16 l.invariant.0 l.auto.a-end c.loop-a-test.false
