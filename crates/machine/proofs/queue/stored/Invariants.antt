-- `stored` meets its contract: the queue without its message at j is what the table is to hold.
use Prim.Native.Nat.{◌≤◌}
use mathlib.Core.Path.{◌≡◌}
use lib.ListN.{length, take}
use Rattle.machine.specs.Parts.{without}
use Rattle.machine.proofs.queue.stored.Given as goal

abbrev pub invariant-loop-j : goal.invariant-loop-j
invariant-loop-j l =
    (l.j ≤ l.end) × (length l.next.messages ≡ 64) × (without l.j (take l.initial.next.waiting l.next.messages) ≡ without l.k (take l.initial.next.waiting l.initial.next.messages)) × (l.next.nodes ≡ l.initial.next.nodes) × (l.next.n ≡ l.initial.next.n) × (l.next.sent ≡ l.initial.next.sent) × (l.next.delivered ≡ l.initial.next.delivered) × (l.next.lost ≡ l.initial.next.lost) × (l.next.limits ≡ l.initial.next.limits)
