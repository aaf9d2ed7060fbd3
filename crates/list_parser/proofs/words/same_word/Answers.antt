-- `list_parser::words::same_word` meets its contract: what `==` says of slices.
use Rattle.std.proofs.Common.{◌∙◌}
use Rattle.list_parser.proofs.Scanning.{same_is}
use Rattle.list_parser.proofs.words.same_word.Goals as goal

pub returns : goal.returns
returns c = c.eq.ensures ∙ same_is _ _
