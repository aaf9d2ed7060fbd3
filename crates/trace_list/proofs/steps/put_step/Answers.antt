-- `put_step` meets its contract: by the answer.
use mathlib.Core.Bool.{not}
use mathlib.Core.Path.{sym, ◌∙◌, ap}
use native.Mathlib.Omega.{arith}
use borrow.Author.Tests.{not-true, not-false}
use Rattle.listing.proofs.Appended.{wrote_twice}
use Rattle.trace_list.proofs.Moved.{step_refused, step_moves, step_accepted}
use Rattle.trace_list.proofs.steps.put_step.Goals as goal

pub returns-then-not-is_accepted : goal.returns-then-not-is_accepted
returns-then-not-is_accepted c =
    let a = c.args in
    let r = c.put_refused_step.ensures in
    (rw (step_refused a.t a.v a.o c.requires.1 (sym c.is_accepted.ensures ∙ not-true _ (ap not c.if-not-is_accepted.true)) a.e _ c.answer_number.ensures) r.0, omega (arith, r.1))

pub put_details-requires : goal.put_details-requires
put_details-requires c =
    let a = c.args in
    let x = c.put_accepted.ensures in
    (omega (arith, x.1, x.0.appended.long), step_moves a.t a.v a.o c.requires.1 (sym c.is_accepted.ensures ∙ not-false _ (ap not c.if-not-is_accepted.false)))

pub returns : goal.returns
returns c =
    let a = c.args in
    let m = step_moves a.t a.v a.o c.requires.1 (sym c.is_accepted.ensures ∙ not-false _ (ap not c.if-not-is_accepted.false)) in
    let x = c.put_accepted.ensures in
    let y = c.put_details.ensures in
    (rw (step_accepted a.t a.v a.o.table m a.e) (wrote_twice x.0 y.0), omega (arith, x.1, y.1))
