-- `same_node` meets its contract: by the numbers of both.
use mathlib.Core.Path.{◌∙◌}
use Rattle.trace_text.specs.Words.{node_numbers, same_node}
use Rattle.trace_list.proofs.Compared.{same_is}
use Rattle.trace_list.proofs.records.same_node.Goals as goal

pub returns : goal.returns
unfolding same_node
returns c = c.eq.ensures ∙ rw (c.node_numbers.ensures, c.node_numbers-2.ensures) (same_is (node_numbers c.args.c) (node_numbers c.args.d))
