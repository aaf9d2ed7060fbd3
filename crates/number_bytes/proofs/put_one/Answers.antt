-- The byte of one byte is the number.
use Rattle.number_bytes.proofs.Numbers.{one_bytes}
use Rattle.number_bytes.specs.Bytes.{written}
use borrow.Author.Rules.{rules}
use Rattle.number_bytes.proofs.put_one.Goals as goal

pub returns : goal.returns
unfolding written
returns c =
    rw (one_bytes c.args.x (search rules)) c.put.ensures
