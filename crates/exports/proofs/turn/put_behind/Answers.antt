-- `put_behind` meets its contract: three bytes, one behind the other.
use Rattle.number_bytes.specs.Bytes.{written}
use Rattle.exports.proofs.turn.put_behind.Goals as goal

pub returns : goal.returns
unfolding written
returns c =
    rw (c.put-3.ensures, c.done_number.ensures, c.put-2.ensures, c.put.ensures)
