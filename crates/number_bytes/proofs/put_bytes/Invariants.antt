use Rattle.std.proofs.Common.{◌≡◌, ◌+◌, drop}
use Rattle.number_bytes.specs.Bytes.{written}
use Rattle.number_bytes.proofs.put_bytes.Given as goal

-- what is left is written behind what is written
abbrev pub invariant-loop-i : goal.invariant-loop-i
invariant-loop-i l = written l.fn.out l.at l.l ≡ written l.out (l.at + l.i) (drop l.i l.l)
