-- By the tests, in the order of the grounds.
use mathlib.Core.Path.{sym, ◌∙◌}
use Rattle.node_step.proofs.InRange.{message_fits}
use Rattle.message_fields.proofs.RoundTrip.{one_form, got_is, wrong_is}
use Rattle.controller.proofs.Steps.{out_of_range, small, fits, wrong_bytes, good_bytes}
use Rattle.controller.proofs.judge_message.Goals as goal

pub returns-then-not-in_range : goal.returns-then-not-in_range
returns-then-not-in_range c =
    let s = c.args in
    sym (out_of_range s.n s.own s.node _ (sym c.in_range.ensures ∙ c.if-not-in_range.true))

pub received-requires : goal.received-requires
received-requires c =
    let s = c.args in
    let ok = sym c.in_range.ensures ∙ c.if-not-in_range.false in
    let g = sym c.decode.ensures ∙ c.in-Some.is in
    (fits s.n s.own s.node ok, message_fits s.n _ (small s.n s.own s.node ok) (one_form.decoded s.n _ _ g).0)

pub returns-in-None : goal.returns-in-None
returns-in-None c =
    let s = c.args in
    let g = sym c.decode.ensures ∙ c.in-None.is in
    sym (wrong_bytes s.n s.own s.node _ (sym c.in_range.ensures ∙ c.if-not-in_range.false) (wrong_is s.n _ g))

pub returns-in-Some : goal.returns-in-Some
returns-in-Some c =
    let s = c.args in
    let g = got_is s.n _ _ (sym c.decode.ensures ∙ c.in-Some.is) in
    (rw (← g.1) at c.received.ensures) ∙ sym (good_bytes s.n s.own s.node _ (sym c.in_range.ensures ∙ c.if-not-in_range.false) g.0)
