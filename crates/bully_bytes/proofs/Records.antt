-- How long a record is, and where a table ends.
use mathlib.Core.Path.{◌≡◌}
use lib.ListN.{length, length-append}
use Rattle.number_bytes.proofs.Numbers.{length_bytes}
use Rattle.number_bytes.proofs.Records.{all_long}
use Rattle.bully_model.specs.declared.Table.{Table}
pub use Rattle.bully_bytes.specs.Sizes.{node_long}
use Rattle.bully_bytes.specs.Bytes.{node_bytes, size, encoded}

pub encoded_size : (t : Table) → length t.nodes ≡ 16 → length (encoded t) ≡ size
unfolding encoded
encoded_size t h = rw (length-append, length_bytes, all_long node_bytes 12 node_long, h)
