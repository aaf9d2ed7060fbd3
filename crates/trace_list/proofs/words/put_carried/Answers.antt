-- `put_carried` meets its contract: by the kind.
use borrow.Author.Rules.{rules}
use native.Mathlib.Omega.{arith}
use Rattle.model.specs.Pick.{pick}
use Rattle.listing.proofs.Appended.{wrote_twice}
use Rattle.trace_text.specs.Words.{carried_text}
use Rattle.trace_list.proofs.Put.{nothing_put, carried_group}
use Rattle.trace_list.proofs.words.put_carried.Goals as goal

pub returns-in-1 : goal.returns-in-1
unfolding carried_text pick
returns-in-1 c = (rw c.in-1.is (nothing_put c.args.out.now (omega arith)), omega arith)

pub returns-in-6 : goal.returns-in-6
unfolding carried_text pick
returns-in-6 c = let y = c.put_yes.ensures in (rw c.in-6.is y.0, omega (arith, y.1))

pub returns-in-5 : goal.returns-in-5
unfolding carried_text pick
returns-in-5 c =
    let f = c.put_numbered.ensures in
    let g = c.put_numbered-in-5.ensures in
    (rw c.in-5.is (wrote_twice f.0 g.0), omega (arith, f.1, g.1))

pub returns-in_default : goal.returns-in_default
returns-in_default c =
    let f = c.put_numbered-in_default.ensures in
    (rw (carried_group c.args.m (search rules) (search rules) (search rules)) f.0, omega (arith, f.1))
