-- `stored` meets its contract: the queue without its message at j is what the table is to hold.
use mathlib.Core.Path.{◌≡◌, ◌∙◌}
use native.Mathlib.Omega.{arith}
use lib.ListN.{length-set}
use Rattle.machine.proofs.Laws.{sized, without_turn, moves, stored_quiet, stored_sent}
use Rattle.machine.proofs.queue.stored.Goals as goal

pub loop-j-preserved : goal.loop-j-preserved
loop-j-preserved c =
    let l = c.loop-j in
    let v = l.invariant in
    let p = c.requires.waiting_bound in
    let e = moves _ _ _ p.2 (omega arith) in (
      omega arith,
      simp length-set v.1,
      without_turn l.next.messages c.args.t.waiting (omega arith) l.j (omega arith) _ ∙ v.2,
      v.3,
      v.4,
      v.5,
      v.6,
      v.7,
      v.8,
    )

pub returns-in-None : goal.returns-in-None
returns-in-None c =
    let v = c.loop-j.invariant in
    let t = c.args.t in
    let p = c.requires.waiting_bound in
    let e : c.loop-j.j ≡ c.args.left = omega (arith, v.0, c.loop-j-test.false) in
    rw (c.sent_place-p.ensures.0, c.sent_by.ensures.0, c.moved_place-i.ensures.0, c.delivered_by.ensures.0, c.lost_by.ensures.0, c.in-None.is, v.3, v.4, v.5, v.6, v.7, v.8)
    (stored_quiet t (sized t c.well_formed.0) p.4 p.0 c.args.k c.args.left c.args.at p.2 p.3 c.args.r.node c.loop-j.next.messages v.1 (rw (← e) v.2) _ _ _)

pub returns-in-Some : goal.returns-in-Some
returns-in-Some c =
    let v = c.loop-j.invariant in
    let t = c.args.t in
    let p = c.requires.waiting_bound in
    let e : c.loop-j.j ≡ c.args.left = omega (arith, v.0, c.loop-j-test.false) in
    let r = rw c.in-Some.is at c.requires.room in
    rw (c.sent_place-p.ensures.0, c.sent_by.ensures.0, c.moved_place-i.ensures.0, c.delivered_by.ensures.0, c.lost_by.ensures.0, c.in-Some.is, v.3, v.4, v.5, v.6, v.7, v.8)
    (stored_sent t (sized t c.well_formed.0) p.4 p.0 c.args.k c.args.left c.args.at p.2 p.3 c.args.r.node c.loop-j.next.messages v.1 (rw (← e) v.2) _ _ _ r _)
