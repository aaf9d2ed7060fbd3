-- `list_search::lowest` meets its contract: no message waits, so the words do not matter.
use mathlib.Core.Path.{refl, ap}
use lib.ListN.{length}
use Rattle.model.specs.declared.Table.{Table}
use Rattle.list_search.proofs.Ends.{lowest_state}
use Rattle.list_search.proofs.lowest.Goals as goal

pub returns : goal.returns
returns c =
    let s = rw c.tower.ensures at c.starting-begun.ensures in
    record {
      state = lowest_state _ _ _ s.exact s.table;
      nodes = ap (λ (t : Table). length t.nodes) s.exact;
      words = c.none.ensures;
      tried = refl;
      space = refl;
      end = refl;
    }
