-- `exchange` meets its contract: a message goes out and what is sent in, or only that.
use borrow.Author.Tests.{lt-ltb, le-ltb}
use Prim.Native.Nat.{◌≤◌, ◌<◌}
use native.Mathlib.Omega.{arith}
use Rattle.model.specs.Pick.{pick_true, pick_false}
use Rattle.model.specs.Step.{sent}
use Rattle.packed.proofs.Laws.{one_out, none_out}
use Rattle.packed.proofs.exchange.Goals as goal

pub append-requires : goal.append-requires
append-requires c =
    let s = c.args in
    let h : s.k < s.waiting = omega arith in
    (omega arith, rw (lt-ltb s.k s.waiting h, pick_true) at c.requires.2)

pub returns-then-k-waiting : goal.returns-then-k-waiting
returns-then-k-waiting c =
    let s = c.args in
    let r = c.append.ensures in
    let n = c.append.array_long in
    (n, r.0, one_out s.q.now _ c.told-q n s.waiting s.k _ c.requires.0 r.0 (sent s.o) _ (omega arith) c.remove.ensures r.1)

pub append-requires-2 : goal.append-requires-2
append-requires-2 c =
    let s = c.args in
    let h : s.waiting ≤ s.k = omega arith in
    (c.requires.0, rw (le-ltb s.k s.waiting h, pick_false) at c.requires.2)

pub returns : goal.returns
returns c =
    let s = c.args in
    let r = c.append-2.ensures in
    let n = c.append-2.array_long in
    (n, r.0, none_out s.q.now _ c.told-q n s.waiting s.k _ c.requires.0 r.0 (sent s.o) (omega arith) r.1)
