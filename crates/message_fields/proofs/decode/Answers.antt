-- By its tests: the same bytes, and a message in range.
use mathlib.Core.Bool.{true, false}
use mathlib.Core.Path.{◌≡◌, sym, ◌∙◌}
use Rattle.model.specs.Pick.{pick}
use Rattle.model.specs.Range.{message_in_range}
use Rattle.message_fields.specs.Fields.{is_message, reading}
use Rattle.message_fields.proofs.Forms.{at_most, unpacked}
use Rattle.message_fields.proofs.decode.Goals as goal

pub shared_ref_as_front-is_same : goal.shared_ref_as_front-is_same
shared_ref_as_front-is_same c = rw (c.from.ensures, c.packet_of-p.ensures.length) (at_most c.message_in-m.result)

pub returns-then-not-is_same : goal.returns-then-not-is_same
unfolding is_message reading pick
returns-then-not-is_same c =
    let m = c.message_in-m in
    let u = unpacked c.packet_of-p.result m.result c.packet_of-p.ensures in
    rw (← m.ensures, ← u, ← c.from.ensures, ← c.is_same.ensures, c.if-not-is_same.true)

pub returns-then-not-message_in_range : goal.returns-then-not-message_in_range
unfolding is_message reading pick
returns-then-not-message_in_range c =
    let m = c.message_in-m in
    let u = unpacked c.packet_of-p.result m.result c.packet_of-p.ensures in
    let r : message_in_range c.args.n m.result ≡ false = sym c.message_in_range.ensures ∙ c.if-not-message_in_range.true in
    rw (← m.ensures, ← u, ← c.from.ensures, ← c.is_same.ensures, c.if-not-is_same.false, r)

pub returns : goal.returns
unfolding is_message reading pick
returns c =
    let m = c.message_in-m in
    let u = unpacked c.packet_of-p.result m.result c.packet_of-p.ensures in
    let r : message_in_range c.args.n m.result ≡ true = sym c.message_in_range.ensures ∙ c.if-not-message_in_range.false in
    rw (← m.ensures, ← u, ← c.from.ensures, ← c.is_same.ensures, c.if-not-is_same.false, r)
