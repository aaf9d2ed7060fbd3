-- `list_search::rule_in_tower` meets its contract: what `rule` ensures, with the tower's limit.
use Rattle.list_search.proofs.rule_in_tower.Goals as goal

pub returns : goal.returns
returns c = rw c.tower.ensures at c.rule.ensures
