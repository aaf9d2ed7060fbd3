-- `list_parser::words::value_up_to` meets its contract. The invariant: what is left of the word gives, behind the value so far, what the word gives.
use mathlib.Core.Path.{sym, ◌∙◌, ap}
use mathlib.Core.Bool.{not}
use native.Mathlib.Omega.{arith}
use borrow.Author.Tests.{lt-ltb, le-ltb}
use Rattle.list_parser.proofs.Scanning.{value_on, value_over}
use Rattle.list_parser.proofs.words.value_up_to.Goals as goal

pub returns-then-most-v : goal.returns-then-most-v
returns-then-most-v c =
    sym (value_over c.args.most c.loop-b.v c.args.w.now c.loop-b.b-index (omega arith) (ap not (sym c.is_ascii_digit.ensures.value ∙ c.if-not-is_ascii_digit.false)) (lt-ltb _ _ c.if-most-v.true)) ∙ c.loop-b.invariant.1

pub loop-b-preserved : goal.loop-b-preserved
loop-b-preserved c =
    (c.if-most-v.false, sym (value_on c.args.most c.loop-b.v c.args.w.now c.loop-b.b-index (omega arith) (ap not (sym c.is_ascii_digit.ensures.value ∙ c.if-not-is_ascii_digit.false)) (le-ltb _ _ c.if-most-v.false)) ∙ c.loop-b.invariant.1)
