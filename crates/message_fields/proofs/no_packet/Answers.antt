-- No bytes in a room of zeros.
use mathlib.Core.Path.{refl}
use Rattle.number_bytes.specs.Bytes.{written}
use Rattle.message_fields.proofs.no_packet.Goals as goal

pub returns : goal.returns
unfolding written
returns c = record { bytes = refl; length = refl }
