-- `put_accepted` meets its contract: two pieces, the first of which is three.
use native.Mathlib.Omega.{arith}
use Rattle.listing.specs.Ascii.{bytes}
use Rattle.listing.specs.Decimal.{decimal}
use Rattle.short_lists_text.specs.Text.{event_text}
use Rattle.trace_text.specs.Trace.{accepted_line}
use Rattle.trace_list.proofs.Put.{put_third}
use Rattle.trace_list.proofs.words.put_accepted.Goals as goal

pub returns : goal.returns
unfolding accepted_line
returns c =
    let a = c.args in
    let n = c.put_event_number.ensures in
    let p = c.put.ensures in
    (put_third (decimal a.e) (bytes " ") (event_text a.v) _ n.0 p, omega (arith, n.1, p.appended.next))
