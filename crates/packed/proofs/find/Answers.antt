-- `find` meets its contract: what is found is what is found from i on.
use borrow.Author.Rules.{rules}
use native.Mathlib.Omega.{arith}
use Rattle.model.specs.State.{no_message}
use Rattle.machine.proofs.Laws.{place_hit, place_miss, place_end}
use Rattle.packed.specs.Packed.{held}
use Rattle.packed.proofs.Laws.{held_long, queue_take, found_at}
use Rattle.packed.proofs.find.Goals as goal

pub returns-then-is_route : goal.returns-then-is_route
returns-then-is_route c =
    let s = c.args in
    let ws = s.q.now in
    let g = found_at s.a s.b ws c.loop-i.i (search rules) (omega arith) _ _ c.route-key.ensures c.is_route.ensures in
    let h = place_hit s.a s.b (held ws) s.waiting (omega (arith, held_long 64 ws c.told-q)) c.loop-i.i (omega arith) no_message _ g c.if-is_route.true in
    (rw (queue_take ws s.waiting c.told-q c.requires) (omega (arith, c.loop-i.invariant)), omega arith)

pub loop-i-preserved : goal.loop-i-preserved
loop-i-preserved c =
    let s = c.args in
    let ws = s.q.now in
    let g = found_at s.a s.b ws c.loop-i.i (search rules) (omega arith) _ _ c.route-key.ensures c.is_route.ensures in
    let h = place_miss s.a s.b (held ws) s.waiting (omega (arith, held_long 64 ws c.told-q)) c.loop-i.i (omega arith) no_message _ g c.if-is_route.false in
    omega (arith, c.loop-i.invariant)

pub returns : goal.returns
returns c =
    let s = c.args in
    let ws = s.q.now in
    let h = place_end s.a s.b (held ws) s.waiting (omega (arith, held_long 64 ws c.told-q)) c.loop-i.i (omega arith) in
    (rw (queue_take ws s.waiting c.told-q c.requires) (omega (arith, c.loop-i.invariant)), omega arith)
