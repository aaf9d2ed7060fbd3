-- Each part is written where the one before it ends, and the table fits.
use Rattle.table_bytes.specs.Bytes.{encoded}
use Rattle.number_bytes.proofs.Numbers.{length_bytes, then}
use Rattle.table_bytes.proofs.Records.{lengths, nodes_end, messages_end, waiting_end, sent_end, delivered_end, lost_end}
use Rattle.table_bytes.proofs.Widths.{table_fits}
use Rattle.table_bytes.proofs.RoundTrip.{stored}
use Rattle.table_bytes.proofs.encode.Goals as goal

pub returns : goal.returns
unfolding encoded
returns c =
    let t = c.args.t in
    let h = table_fits t c.well_formed.0 in
    let l = lengths t h in
    stored t h _ _
    (then _ _ _ _ 4434
    (then _ _ _ _ 3410
    (then _ _ _ _ 2386
    (then _ _ _ _ 1362
    (then _ _ _ _ 1361
    (then _ _ _ _ 465
    (then _ _ _ _ 1 c.put_one.ensures (length_bytes 1 _) c.put_many.ensures)
    (nodes_end t l)
    c.put_many-2.ensures)
    (messages_end t l)
    c.put_one-2.ensures)
    (waiting_end t l)
    c.put_many-3.ensures)
    (sent_end t l)
    c.put_many-4.ensures)
    (delivered_end t l)
    c.put_many-5.ensures)
    (lost_end t l)
    c.put_limits.ensures)
