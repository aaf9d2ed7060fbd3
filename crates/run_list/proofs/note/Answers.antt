-- `run_list::note` meets its contract.
use borrow.Author.Tests.{eq-eqb, ne_eqb}
use mathlib.Core.Path.{refl}
use Rattle.model.specs.Pick.{pick}
use Rattle.listing.specs.Printing.{printed, end_of}
use Rattle.run_list.specs.Text.{note_lines}
use Rattle.run_list.proofs.note.Goals as goal

pub returns-then-r-eq0 : goal.returns-then-r-eq0
unfolding note_lines printed end_of pick
returns-then-r-eq0 c =
    record {
      same = refl;
      lines = rw (← c.answer_number-r.ensures, eq-eqb _ _ c.if-r-eq0.true);
      ends = rw (← c.answer_number-r.ensures, eq-eqb _ _ c.if-r-eq0.true);
    }

pub returns : goal.returns
unfolding note_lines pick
returns c = rw (← c.answer_number-r.ensures, ne_eqb _ _ c.if-r-eq0.false) c.put_refused.ensures
