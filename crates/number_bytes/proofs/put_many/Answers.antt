-- A record more at each turn.
use Prim.Native.Nat.{◌+◌, ◌*◌, ◌≤◌}
use mathlib.Core.Path.{◌≡◌, sym, ◌∙◌}
use native.Mathlib.Omega.{arith}
use native.Mathlib.Nat.{zero-mul, suc-mul}
use native.Mathlib.Numerals.{add-one}
use Rattle.std.proofs.Common.{add-zero}
use Rattle.std.proofs.Math.Nat.{mul-le-mul_right}
use lib.ListN.{length}
use Rattle.number_bytes.proofs.Records.{all_turn, all_end}
use Rattle.number_bytes.proofs.put_many.Goals as goal

pub put-requires : goal.put-requires
put-requires g c =
    let size = g.F.Form.SIZE in
    let few : c.loop-i.i ≤ length c.args.xs.now = omega arith in
    let less : c.loop-i.i * size ≤ length c.args.xs.now * size = mul-le-mul_right size few in
    rw c.SIZE.ensures (omega arith)

pub loop-i-init : goal.loop-i-init
loop-i-init g c = rw (zero-mul, add-zero)

pub loop-i-preserved : goal.loop-i-preserved
loop-i-preserved g c =
    let size = g.F.Form.SIZE in
    let i = c.loop-i.i in
    let next : c.args.at + (i + 1) * size ≡ c.args.at + i * size + size = rw (add-one, suc-mul) (omega arith) in
    c.loop-i.invariant
    ∙ all_turn g.F.Form.bytes size g.met.F.Form.long c.args.xs.now i c.loop-i-test.true _ _ next c.index-xs-i.result c.loop-i.out _ (rw (← c.SIZE.ensures, ← c.index-xs-i.is) c.put.ensures)

pub returns : goal.returns
returns g c =
    sym (c.loop-i.invariant ∙ all_end g.F.Form.bytes g.F.Form.SIZE g.met.F.Form.long c.args.xs.now c.loop-i.i c.loop-i-test.false _ c.loop-i.out)
