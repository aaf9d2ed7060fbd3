-- `list_printer::put_opening` meets its contract: by the tag.
use borrow.Author.Tests.{eq-eqb, ne_eqb}
use Rattle.model.specs.Pick.{pick}
use Rattle.listing.specs.Lines.{row}
use Rattle.list_text.specs.Text.{opening_line, stand_line}
use Rattle.list_printer.proofs.put_opening.Goals as goal

pub returns-then-tag-eq1 : goal.returns-then-tag-eq1
unfolding opening_line pick
returns-then-tag-eq1 c = rw (eq-eqb _ _ c.if-tag-eq1.true) c.put_cabinets.ensures

pub returns : goal.returns
unfolding opening_line stand_line row pick
returns c = rw (ne_eqb _ _ c.if-tag-eq1.false) c.put_one.ensures
