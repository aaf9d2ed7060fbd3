-- `append` meets its contract, by whether something is sent.
use native.Mathlib.Omega.{arith}
use native.Mathlib.Numerals.{add-one}
use lib.Seq.{take-suc-set}
use Rattle.packed.specs.Packed.{held}
use Rattle.packed.proofs.Laws.{held_long}
use Rattle.packed.proofs.append.Goals as goal

pub returns-in-Some : goal.returns-in-Some
returns-in-Some c =
    let r = rw c.in-Some.is at c.requires.1 in
    (omega arith, rw (c.put.ensures, c.in-Some.is, add-one c.args.left) (take-suc-set (held c.args.q.now) c.args.left _ (omega (arith, held_long 64 c.args.q.now c.told-q))))
