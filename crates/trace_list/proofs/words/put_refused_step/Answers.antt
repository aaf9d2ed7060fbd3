-- `put_refused_step` meets its contract: four pieces, the first of which is three.
use native.Mathlib.Omega.{arith}
use Rattle.listing.proofs.Appended.{wrote_twice}
use Rattle.listing.specs.Ascii.{bytes}
use Rattle.listing.specs.Decimal.{decimal}
use Rattle.listing.specs.Lines.{row}
use Rattle.short_lists_text.specs.Text.{event_text}
use Rattle.short_lists_text.proofs.Spaced.{spaced_one}
use Rattle.trace_text.specs.Trace.{refused_step_line}
use Rattle.trace_list.proofs.Put.{put_third}
use Rattle.trace_list.proofs.words.put_refused_step.Goals as goal

pub returns : goal.returns
unfolding refused_step_line row
returns c =
    let a = c.args in
    let n = c.put_event_number.ensures in
    let p = c.put.ensures in
    let f = c.field.ensures in
    let q = c.put-2.ensures in
    (put_third (decimal a.e) (bytes " ") (event_text a.v) _ n.0 (wrote_twice p (wrote_twice (rw (spaced_one a.r) at f.0) q)), omega (arith, n.1, p.appended.next, f.1, q.appended.next))
