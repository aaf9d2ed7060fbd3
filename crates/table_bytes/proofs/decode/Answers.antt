-- Each part is read at its place.
use Rattle.table_bytes.specs.Bytes.{decoded}
use Rattle.table_bytes.proofs.decode.Goals as goal

pub returns : goal.returns
unfolding decoded
returns c =
    rw (c.read_many-5.ensures, c.from-6.ensures, c.read_many-4.ensures, c.from-5.ensures, c.read_many-3.ensures, c.from-4.ensures)
    (rw (c.one-2.ensures, c.limits_of.ensures, c.from.ensures, c.one.ensures, c.read_many-2.ensures, c.from-3.ensures, c.read_many.ensures, c.from-2.ensures))
