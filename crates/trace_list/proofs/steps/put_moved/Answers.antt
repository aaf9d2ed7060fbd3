-- `put_moved` meets its contract: one line, or none.
use native.Mathlib.Omega.{arith}
use lib.ListN.{length}
use Prim.Native.Nat.{◌+◌}
use mathlib.Core.List.{◌++◌}
use Rattle.listing.specs.Ascii.{bytes}
use Rattle.trace_text.specs.Words.{message_words}
use Rattle.trace_list.proofs.Put.{line_in, line_out}
use Rattle.trace_list.proofs.steps.put_moved.Goals as goal

pub returns-then-some : goal.returns-then-some
returns-then-some c =
    let r = c.put_message_line.ensures in
    let h = line_in (length c.args.w.now + 97) _ _ c.if-some.true r.0 (omega (arith, r.1)) in
    (h.0, omega (arith, h.1))

pub returns-else-some : goal.returns-else-some
returns-else-some c =
    let a = c.args in
    let h = line_out (length a.w.now + 97) a.out.now a.some (a.w.now ++ (message_words a.m ++ bytes "\n")) c.if-some.false (omega arith) in
    (h.0, omega (arith, h.1))
