-- `list_tree::tree::table_of` meets its contract: a state's table is that of the state before it after one event.
use mathlib.Core.Path.{sym, ◌∙◌}
use native.Mathlib.Omega.{arith}
use Rattle.model.specs.Limits.{tower}
use Rattle.model.specs.State.{start}
use Rattle.list_tree.proofs.Tables.{run_first, run_next}
use Rattle.list_tree.proofs.tree.+table_of.Goals as goal

pub returns-then-b-eq0 : goal.returns-then-b-eq0
returns-then-b-eq0 t c =
    let b = rw c.tower.ensures at c.starting.ensures in
    b.table ∙ sym (run_first c.args.t.now c.requires.0 (start c.args.t.now.n tower) c.args.b c.if-b-eq0.true)

pub returns : goal.returns
returns t c =
    run_next c.args.t.now c.requires.0 (start c.args.t.now.n tower) c.args.b (omega (arith, c.if-b-eq0.false)) c.requires.1 _ _ c.table_of.ensures c.step.ensures.table
