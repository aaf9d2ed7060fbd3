-- `list_parser::words::value_up_to` meets its contract. The invariant: what is left of the word gives, behind the value so far, what the word gives.
use Prim.Native.Nat.{◌≤◌}
use mathlib.Core.Path.{◌≡◌}
use lib.ListN.{drop}
use Rattle.list_text.specs.Words.{value_behind, value_up_to}
use Rattle.list_parser.proofs.words.value_up_to.Given as goal

abbrev pub invariant-loop-b : goal.invariant-loop-b
invariant-loop-b l = (l.v ≤ l.most) × (value_behind l.most l.v (drop l.b-index l.w) ≡ value_up_to l.most l.w)
