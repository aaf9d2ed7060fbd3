-- `in_range` meets its contract: the limits, n and the number waiting first, so that the view's lists are the arrays' first parts.
use mathlib.Core.Path.{ap}
use borrow.Author.Tests.{not-true, not-false}
use mathlib.Core.Path.{sym, ◌∙◌, ap₂}
use mathlib.Core.Path.{◌≡◌}
use mathlib.Core.Bool.{Bool, false, not, ◌&&◌}
use Rattle.std.proofs.Common.{rules}
use Rattle.model.specs.Range.{node_in_range, message_in_range}
use Rattle.model.specs.declared.Table.{Table}
use Rattle.machine.specs.Parts.{within_limits}
use Rattle.machine.proofs.Laws.{sized, WithinLimits, within_is, outside_limits, in_range_is, traffic_of}
use Rattle.machine.proofs.range.in_range.Goals as goal

-- what is known past that test
known : (t : Table) (r : Bool) → r ≡ within_limits t.limits t.n t.waiting → not r ≡ false → WithinLimits t
known t r e q = within_is t (sym e ∙ not-false _ q)

pub returns-then-not-within_limits : goal.returns-then-not-within_limits
returns-then-not-within_limits c =
    let t = c.args.t in
    sym (outside_limits t (sym c.within_limits.ensures ∙ not-true _ (ap not c.if-not-within_limits.true)))

pub traffic_in_range-requires : goal.traffic_in_range-requires
traffic_in_range-requires c =
    (known c.args.t _ c.within_limits.ensures (ap not c.if-not-within_limits.false)).small

pub returns : goal.returns
returns c =
    let t = c.args.t in
    let nodes = c.all_from_one.ensures (node_in_range t.n) (λ i x b l h e. search rules) in
    let messages = c.all_from_one-2.ensures (λ k. message_in_range t.n) (λ i x b l h e. search rules) in
    ap₂ (λ (x y : Bool). x && y) (ap₂ (λ (x y : Bool). x && y) nodes messages) (c.traffic_in_range.ensures ∙ traffic_of t)
    ∙ sym (in_range_is t (sized t c.well_formed.0) (known t _ c.within_limits.ensures (ap not c.if-not-within_limits.false)))
