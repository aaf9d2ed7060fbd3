-- The length first, then the bytes.
use Rattle.number_bytes.specs.Bytes.{bytes}
use Rattle.number_bytes.proofs.Numbers.{length_bytes, then}
use Rattle.exports_controller.proofs.put_packet.Goals as goal

pub returns : goal.returns
returns c =
    let p = c.args.p in
    then _ 29 (bytes 1 p.length) p.bytes 1 c.put_one.ensures (length_bytes 1 p.length) c.put_bytes.ensures
