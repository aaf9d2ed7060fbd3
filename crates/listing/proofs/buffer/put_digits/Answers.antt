-- `listing::buffer::put_digits` meets its contract: a part of the buffer comes back with as many last digits as x has, which are its decimal.
use Prim.Native.Nat.{◌+◌, ◌-◌, ◌≤◌}
use mathlib.Core.Path.{◌≡◌, ◌∙◌}
use native.Mathlib.Omega.{arith}
use lib.ListN.{length}
use Rattle.listing.proofs.Making.{part_piece, padded_decimal}
use Rattle.listing.proofs.Appended.{appended}
use Rattle.listing.proofs.buffer.put_digits.Goals as goal

pub returns : goal.returns
returns c =
    let a = c.args in
    let k = c.digit_count.result in
    let l = c.digit_count.ensures.0 in
    let e : a.at + k - a.at ≡ k = omega arith in
    let h : a.at + k ≤ length a.out.now = omega (arith, c.requires) in
    appended a.out.now _ _ a.at _ c.requires (part_piece a.out.now _ a.at (a.at + k - a.at) k a.x e h c.digits_into.ensures ∙ rw (padded_decimal k a.x l)) (omega arith)
