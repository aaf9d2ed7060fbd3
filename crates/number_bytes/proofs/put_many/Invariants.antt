use Rattle.std.proofs.Common.{◌≡◌, ◌+◌, ◌*◌, drop}
use Rattle.number_bytes.specs.Bytes.{written, all}
use Rattle.number_bytes.proofs.put_many.Given as goal

-- what is left is written behind what is written
abbrev pub invariant-loop-i : goal.invariant-loop-i
invariant-loop-i g l = written l.fn.out l.at (all g.F.Form.bytes l.xs) ≡ written l.out (l.at + l.i * g.F.Form.SIZE) (all g.F.Form.bytes (drop l.i l.xs))
