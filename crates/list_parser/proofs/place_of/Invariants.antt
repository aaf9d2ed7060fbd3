-- `list_parser::place_of` meets its contract. The invariant: what is left before the offset leads from the line and column so far to those of the offset.
use Prim.Native.Nat.{◌+◌, ◌≤◌}
use mathlib.Core.Path.{◌≡◌}
use lib.ListN.{take, drop}
use Rattle.list_text.specs.Script.{place_from, place_of}
use Rattle.list_parser.proofs.place_of.Given as goal

abbrev pub invariant-loop-b : goal.invariant-loop-b
invariant-loop-b l =
    (l.line ≤ l.b-index + 1) × (l.column ≤ l.b-index + 1) × (place_from l.line l.column (drop l.b-index (take l.at l.t)) ≡ place_of l.t l.at)
