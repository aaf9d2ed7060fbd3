-- `list_tree::put_text` meets its contract: the line of a refusal, or the text of the tree.
use mathlib.Core.Bool.{not}
use borrow.Author.Tests.{not-true, not-false}
use mathlib.Core.Path.{sym, ◌∙◌, ap}
use Rattle.list_tree.proofs.Whole.{printed_refusal, printed_tree}
use Rattle.list_tree.proofs.put_text.Goals as goal

pub returns-then-not-fits : goal.returns-then-not-fits
returns-then-not-fits c =
    printed_refusal _ _ _ _ (sym c.fits.ensures ∙ not-true _ (ap not c.if-not-fits.true)) c.put.ensures.appended

pub returns : goal.returns
returns c =
    let g = c.tree_of.ensures in
    printed_tree _ _ _ _ (sym c.fits.ensures ∙ not-false _ (ap not c.if-not-fits.false)) _ g.0 g.1 c.put_tree.ensures.appended
