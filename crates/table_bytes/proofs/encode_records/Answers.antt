-- What is written, and that it fits.
use Rattle.table_bytes.proofs.Widths.{records_fit}
use Rattle.table_bytes.proofs.RoundTrip.{records_stored}
use Rattle.table_bytes.proofs.encode_records.Goals as goal

pub returns : goal.returns
returns c =
    let f = records_fit 8 c.args.records c.well_formed.0 in
    records_stored c.args.records f.0 f.1 _ _ c.put_many.ensures
