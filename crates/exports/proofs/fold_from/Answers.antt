-- `fold_from` meets its contract: what is counted and what is left is the whole count.
use borrow.Author.Rules.{rules}
use native.Mathlib.Omega.{arith}
use mathlib.Core.Path.{◌≡◌, ◌∙◌, ap}
use Rattle.std.specs.Prelude.{Ok, None}
use Rattle.model.specs.State.{view}
use Rattle.event_list.proofs.Reading.{next_past}
use Rattle.exports.proofs.Counting.{left_done, left_stopped, left_got, plus_one}
use Rattle.exports.proofs.fold_from.Goals as goal

pub returns-in_default : goal.returns-in_default
returns-in_default c =
    let l = c.loop-event in
    let none : c.in_default.field-0 ≡ None = search rules in
    omega (arith, l.invariant.2, left_done c.args.list.now (view l.t) l.at c.event_at.ensures (c.in_default.is ∙ ap Ok none))

pub returns-in_default-2 : goal.returns-in_default-2
returns-in_default-2 c =
    let l = c.loop-event in
    omega (arith, l.invariant.2, left_stopped c.args.list.now (view l.t) l.at c.event_at.ensures c.in_default.is)

pub loop-event-smaller : goal.loop-event-smaller
loop-event-smaller c =
    let l = c.loop-event in
    let s = c.args in
    let z = next_past s.list.now l.at c.event_at.ensures (c.in-Ok-Some.is ∙ ap Ok c.in-Ok-Some.field-0-is) in
    omega arith

pub loop-event-preserved : goal.loop-event-preserved
loop-event-preserved c =
    let l = c.loop-event in
    let s = c.args in
    let a = c.step-o.ensures in
    let n = c.answer_number in
    let z = next_past s.list.now l.at c.event_at.ensures (c.in-Ok-Some.is ∙ ap Ok c.in-Ok-Some.field-0-is) in (
      omega (arith, c.counted-count.ensures, plus_one l.count n.result),
      z.1,
      rw c.counted-count.ensures
          (left_got s.list.now (view l.t) l.at c.event_at.ensures (c.in-Ok-Some.is ∙ ap Ok c.in-Ok-Some.field-0-is) l.count n.result (n.ensures ∙ a.answer) _ a.table ∙ l.invariant.2),
    )
