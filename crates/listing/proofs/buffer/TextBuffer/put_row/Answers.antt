-- `TextBuffer::put_row` meets its contract: what `write_row` does to the free end, read in the whole buffer.
use mathlib.Core.Path.{refl}
use native.Mathlib.Omega.{arith}
use Rattle.listing.proofs.Printing.{line_refused, put_fits, put_next_lem, put_refused, put_ends, put_stays, line_stays}
use Rattle.listing.proofs.Written.{refused_at}
use Rattle.listing.proofs.buffer.TextBuffer.put_row.Goals as goal

pub returns-then-self : goal.returns-then-self
returns-then-self g c = record { same = refl; lines = line_refused c.args.self.now.bytes.now _ c.args.self.now.end (omega arith); ends = line_stays c.args.self.now.bytes.now _ c.args.self.now.end (omega arith) }

pub returns-in_err-self : goal.returns-in_err-self
returns-in_err-self g c =
    let b = c.args.self.now in
    record {
      same = refl;
      lines = rw (refused_at c.from_residual.result b.end c.from_residual.ensures.0) (put_refused b.bytes.now _ _ b.end _ c.if-self.false c.write_row.ensures c.in_err-self.was);
      ends = put_stays b.bytes.now _ _ b.end _ c.if-self.false c.write_row.ensures c.in_err-self.was;
    }

pub overflow_add-self : goal.overflow_add-self
overflow_add-self g c =
    let b = c.args.self.now in
    let z = put_fits b.bytes.now _ _ b.end _ c.if-self.false c.write_row.ensures _ c.in_ok-self.was in
    omega (arith, z, c.if-self.false)

pub returns : goal.returns
returns g c =
    let b = c.args.self.now in
    record {
      same = refl;
      lines = put_next_lem b.bytes.now _ _ b.end _ c.if-self.false c.write_row.ensures _ c.in_ok-self.was;
      ends = put_ends b.bytes.now _ _ b.end _ c.if-self.false c.write_row.ensures _ c.in_ok-self.was;
    }
