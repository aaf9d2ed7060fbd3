-- `put_member` meets its contract: one field, or nothing.
use native.Mathlib.Omega.{arith}
use mathlib.Core.Path.{sym, ◌∙◌}
use Rattle.listing.proofs.Decimal.{decimal_short}
use Rattle.trace_list.proofs.Put.{member_in, member_out}
use Rattle.trace_list.proofs.words.put_member.Goals as goal

pub put_field-requires : goal.put_field-requires
put_field-requires c =
    let a = c.args in
    let d = decimal_short 2 {x = a.i} (omega arith) (omega arith) in
    omega arith

pub returns-then-contains : goal.returns-then-contains
returns-then-contains c = member_in c.args.s c.args.i (sym c.contains.ensures ∙ c.if-contains.true) (omega arith) c.put_field.ensures

pub returns-else-contains : goal.returns-else-contains
returns-else-contains c = member_out _ c.args.s c.args.i (sym c.contains.ensures ∙ c.if-contains.false) (omega arith)
