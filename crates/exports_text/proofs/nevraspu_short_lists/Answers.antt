-- `nevraspu_short_lists` meets its contract. The invariant: so much of the window stands in the buffer, and the rest of it is in what the search still gives. It ends, as each piece leaves
-- less of the text.
use native.Mathlib.Omega.{arith}
use mathlib.Core.Path.{ap, ◌∙◌}
use borrow.Author.Rules.{rules}
use Rattle.list_search.specs.Search.{text_from}
use Rattle.exports_text.proofs.Window.{piece_put, piece_full, filled_end, filled_there}
use Rattle.exports_text.proofs.nevraspu_short_lists.Goals as goal

pub returns-then-text : goal.returns-then-text
returns-then-text c =
    let f = rw c.in-Some.is at c.loop-next.invariant.filled in
    filled_there (piece_full _ _ _ _ _ _ _ _ _ _ _ c.next_lines-p.ensures f c.put_window.ensures.appended c.if-text.true) _ (search rules)

pub put_window-requires : goal.put_window-requires
put_window-requires c = let f = c.loop-next.invariant.filled in omega (arith, f.long, f.fits)

pub loop-next-preserved : goal.loop-next-preserved
loop-next-preserved c =
    let f = rw c.in-Some.is at c.loop-next.invariant.filled in record {
      sound = c.next_lines-p.ensures.sound;
      same = c.put_window.ensures.same ∙ c.loop-next.invariant.same;
      filled = rw c.saturating_sub-skip.ensures (piece_put _ _ _ _ _ _ _ _ _ _ _ c.next_lines-p.ensures f c.put_window.ensures.appended);
    }

pub returns : goal.returns
returns c = filled_there (filled_end _ _ _ _ _ _ _ c.loop-next.invariant.filled (ap text_from c.in_default.is)) _ (search rules)
