-- `list_search::empty_list` meets its contract: an empty line, and the last one.
use borrow.Author.Rules.{rules}
use native.Mathlib.Omega.{arith}
use Rattle.listing.proofs.Appended.{wrote_twice}
use Rattle.list_search.proofs.Ends.{empty_text, empty_count, empty_lines, gave_whole}
use Rattle.list_search.proofs.empty_list.Goals as goal

pub overflow_add-s : goal.overflow_add-s
overflow_add-s c = let p = c.requires in let z = empty_count _ _ p.0 p.1 in search rules

pub returns : goal.returns
returns c =
    let p = c.requires in
    gave_whole _ _ (empty_text _ _ p.0 p.1) p.2.0 (wrote_twice c.put.ensures c.put_count.ensures.0) (omega arith) (empty_lines _)
