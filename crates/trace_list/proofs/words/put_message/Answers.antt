-- `put_message` meets its contract: four pieces, the first of which is four.
use native.Mathlib.Omega.{arith}
use Rattle.listing.proofs.Appended.{wrote_twice}
use Rattle.listing.specs.Ascii.{bytes}
use Rattle.listing.specs.Decimal.{decimal}
use Rattle.trace_text.specs.Words.{message_words}
use Rattle.trace_list.proofs.Put.{put_fourth}
use Rattle.trace_list.proofs.words.put_message.Goals as goal

pub returns : goal.returns
unfolding message_words
returns c =
    let m = c.args.m in
    let w = c.put_way.ensures in
    let k = c.put_kind.ensures in
    let d = c.put_carried.ensures in
    let n = c.put_numbered.ensures in
    (put_fourth (decimal m.sender) (bytes " -> ") (decimal m.receiver) (bytes " ") _ w.0 (wrote_twice k.0 (wrote_twice d.0 n.0)), omega (arith, w.1, k.1, d.1, n.1))
