-- `list_search::refused` meets its contract: its line is the whole text.
use native.Mathlib.Omega.{arith}
use Rattle.list_search.proofs.Ends.{refused_text, refused_line_lem, gave_whole}
use Rattle.list_search.proofs.refused.Goals as goal

pub returns : goal.returns
returns c = gave_whole _ _ (refused_text _ c.requires.0) c.requires.1.0 c.put.ensures (omega arith) refused_line_lem
