-- `put_with_set` meets its contract: two pieces.
use native.Mathlib.Omega.{arith}
use Rattle.listing.proofs.Appended.{wrote_twice}
use Rattle.trace_list.proofs.words.put_with_set.Goals as goal

pub returns : goal.returns
returns c =
    let n = c.put_numbered.ensures in
    let s = c.put_word_set.ensures in
    (wrote_twice n.0 s.0, omega (arith, n.1, s.1))
