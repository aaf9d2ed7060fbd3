-- `listing::write_row` meets its contract: the line is refused, or its pieces are written one after the other.
use Prim.Native.Nat.{◌+◌, ◌-◌, ◌<◌}
use native.Mathlib.Omega.{arith}
use lib.ListN.{length}
use Rattle.listing.specs.Decimal.{decimal}
use Rattle.listing.specs.Lines.{row}
use Rattle.listing.proofs.Printing.{line_refused}
use Rattle.listing.proofs.Row.{begun, piece_room, piece_put, number_room, number_put, end_room, end_put, line_fits, line_short}
use Rattle.listing.proofs.write_row.Goals as goal

pub returns-then-free-w : goal.returns-then-free-w
returns-then-free-w g c =
    let h : length c.args.free.now - 0 < length c.args.w.now + c.row_len.result = omega (arith, c.if-free-w.true) in
    line_refused c.args.free.now _ 0 (line_short c.args.w.now _ (length c.args.free.now) 0 c.row_len.ensures.0 (omega arith) h)

pub put_digits-p-requires : goal.put_digits-p-requires
put_digits-p-requires g c =
    let a = c.args in
    let h = line_fits a.w.now _ (length a.free.now) c.row_len.ensures.0 c.if-free-w.false in
    piece_room (decimal a.x) (row a.more.now) (piece_put (begun a.free.now 0 _ (omega arith)) c.put_bytes-p.ensures) h

pub loop-y-init : goal.loop-y-init
loop-y-init g c = piece_put (piece_put (begun c.args.free.now 0 _ (omega arith)) c.put_bytes-p.ensures) c.put_digits-p.ensures

pub put_spaced-p-requires : goal.put_spaced-p-requires
put_spaced-p-requires g c =
    let a = c.args in
    let h = line_fits a.w.now _ (length a.free.now) c.row_len.ensures.0 c.if-free-w.false in
    number_room a.more.now c.loop-y.y-index c.loop-y.invariant h (omega arith)

pub loop-y-preserved : goal.loop-y-preserved
loop-y-preserved g c =
    let a = c.args in
    let h = line_fits a.w.now _ (length a.free.now) c.row_len.ensures.0 c.if-free-w.false in
    number_put a.more.now c.loop-y.y-index c.loop-y.invariant h (omega arith) c.put_spaced-p.ensures

pub bounds-free-p : goal.bounds-free-p
bounds-free-p g c =
    let a = c.args in
    let h = line_fits a.w.now _ (length a.free.now) c.row_len.ensures.0 c.if-free-w.false in
    end_room a.more.now c.loop-y.y-index c.loop-y.invariant h (omega arith)

pub returns : goal.returns
returns g c =
    let a = c.args in
    let h = line_fits a.w.now _ (length a.free.now) c.row_len.ensures.0 c.if-free-w.false in
    end_put a.more.now c.loop-y.y-index c.loop-y.invariant h (omega arith)
