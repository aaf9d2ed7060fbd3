-- The closure changes nothing, and its answer at i is the record there.
use borrow.Author.Rules.{rules}
use Rattle.number_bytes.proofs.Records.{many_made}
use Rattle.number_bytes.proofs.read_many.Goals as goal

pub returns : goal.returns
returns g c = many_made _ g.F.Form.of_bytes g.F.Form.SIZE c.args.s.now _ _ (λ i x q k. search rules) _ c.from_fn.ensures.items
