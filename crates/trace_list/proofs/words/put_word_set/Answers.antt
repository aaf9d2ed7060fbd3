-- `put_word_set` meets its contract: two pieces.
use native.Mathlib.Omega.{arith}
use Rattle.listing.proofs.Appended.{wrote_twice}
use Rattle.trace_list.proofs.words.put_word_set.Goals as goal

pub returns : goal.returns
returns c = let s = c.put_set.ensures in (wrote_twice c.put.ensures s.0, omega (arith, s.1, c.put.ensures.appended.next))
