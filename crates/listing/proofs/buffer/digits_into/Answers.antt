-- The digits of y that are still to be written, and then those in place, are the last digits of x.
use mathlib.Core.Path.{refl, sym, ◌∙◌}
use mathlib.Core.List.{append-nil}
use native.Mathlib.Omega.{arith}
use lib.ListN.{length, drop_of_length-le}
use Rattle.listing.proofs.Making.{digits_turn, digits_end}
use Rattle.listing.proofs.buffer.digits_into.Goals as goal

pub loop-p-init : goal.loop-p-init
loop-p-init c = let d = c.args.d.now in rw (drop_of_length-le d {i = length d} (omega arith), append-nil)

pub loop-p-preserved : goal.loop-p-preserved
loop-p-preserved c =
    let l = c.loop-p in
    sym (digits_turn l.d l.p l.y _ c.loop-p-test.true (omega arith) refl) ∙ l.invariant

pub returns : goal.returns
returns c =
    let l = c.loop-p in
    sym (digits_end l.d l.p l.y (omega arith)) ∙ l.invariant
