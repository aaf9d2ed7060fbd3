-- Each part is written where the one before it ends, and the table fits.
use Rattle.bully_bytes.specs.Bytes.{encoded}
use Rattle.number_bytes.proofs.Numbers.{length_bytes, then}
use Rattle.bully_bytes.proofs.Widths.{table_fits}
use Rattle.bully_bytes.proofs.RoundTrip.{stored}
use Rattle.bully_bytes.proofs.encode.Goals as goal

pub returns : goal.returns
unfolding encoded
returns c =
    stored c.args.t (table_fits c.args.t c.well_formed.0) _ _ (then _ _ _ _ 1 c.put_one.ensures (length_bytes 1 _) c.put_many.ensures)
