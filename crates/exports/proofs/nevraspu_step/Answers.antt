-- `nevraspu_step` meets its contract: too little room, a table not in range, no event, or the step's outcome in bytes.
use native.Mathlib.Omega.{arith}
use mathlib.Core.Path.{sym, ◌∙◌, ap}
use Rattle.std.specs.Prelude.{Ok}
use Rattle.event_list.proofs.Fields.{refuses}
use Rattle.exports.proofs.Stepping.{short, away, no_event, event}
use Rattle.exports.proofs.nevraspu_step.Goals as goal

pub returns-then-out-lt-SIZE : goal.returns-then-out-lt-SIZE
returns-then-out-lt-SIZE c = short _ _ _ c.if-out-lt-SIZE.true

pub returns-then-not-in_range : goal.returns-then-not-in_range
returns-then-not-in_range c = away _ _ _ c.if-out-lt-SIZE.false (rw c.decode-t.ensures at (sym c.in_range.ensures ∙ c.if-not-in_range.true))

pub returns-in-Ok-None : goal.returns-in-Ok-None
returns-in-Ok-None c =
    no_event _ _ _ c.if-out-lt-SIZE.false (rw c.decode-t.ensures at (sym c.in_range.ensures ∙ c.if-not-in_range.false)) _ c.event_at.ensures 3 (rw (c.in-Ok-None.is, c.in-Ok-None.field-0-is)) (λ z. omega arith)

pub returns-in-Err : goal.returns-in-Err
returns-in-Err c =
    let n = c.stop_number.ensures in
    no_event _ _ _ c.if-out-lt-SIZE.false (rw c.decode-t.ensures at (sym c.in_range.ensures ∙ c.if-not-in_range.false)) _ c.event_at.ensures _ (rw c.in-Err.is n) (λ z. refuses c.in-Err.stop (sym n ∙ z))

pub returns-in-Ok-Some : goal.returns-in-Ok-Some
returns-in-Ok-Some c =
    event _ _ _ c.if-out-lt-SIZE.false (rw c.decode-t.ensures at (sym c.in_range.ensures ∙ c.if-not-in_range.false)) _ c.event_at.ensures (c.in-Ok-Some.is ∙ ap Ok c.in-Ok-Some.field-0-is) c.advance-o.result (rw c.decode-t.ensures at c.advance-o.ensures) _ _ c.answered.ensures
