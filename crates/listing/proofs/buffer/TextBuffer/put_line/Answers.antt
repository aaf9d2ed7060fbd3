-- `TextBuffer::put_line` meets its contract: the line is refused, or is one piece.
use Prim.Native.Nat.{◌+◌, ◌<◌}
use lib.ListN.{length}
use mathlib.Core.Path.{refl, ◌∙◌}
use native.Mathlib.Omega.{arith}
use Rattle.listing.proofs.Printing.{line_refused, line_next, line_ends, line_stays}
use Rattle.listing.proofs.Appended.{appended_written}
use Rattle.listing.proofs.buffer.TextBuffer.put_line.Goals as goal
use Rattle.listing.proofs.buffer.TextBuffer.put_line.Goals.{then-self-via-then-self, then-self-via-else-self+then-self-line}

pub returns-then-self : goal.returns-then-self
returns-then-self c =
    let b = c.args.self.now in
    let short : length b.bytes.now < b.end + length c.args.line.now =
    elim c.then-self.branch [
      | then-self-via-then-self w ↦ omega (arith, w.if-self.true)
      | then-self-via-else-self+then-self-line w ↦ omega (arith, w.if-self.false, w.if-self-line.true)
    ] in
    record { same = refl; lines = line_refused b.bytes.now _ b.end short; ends = line_stays b.bytes.now _ b.end short }

pub returns : goal.returns
returns c =
    let b = c.args.self.now in
    let e = c.put.ensures.appended in
    let n = e.next in
    record {
      same = c.put.ensures.same;
      lines = line_next b.bytes.now _ _ b.end _ n (omega arith) (appended_written e);
      ends = n ∙ line_ends b.bytes.now c.args.line.now b.end (omega arith);
    }
