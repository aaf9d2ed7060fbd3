-- What is in range fits the code.
use Prim.Native.Nat.{ℕ, ◌≤◌}
use native.Mathlib.Omega.{arith}
use mathlib.Core.Bool.{true}
use mathlib.Core.Path.{◌≡◌}
use Rattle.model.specs.Range.{node_in_range, message_in_range}
use Rattle.model.proofs.Fields.{Busy, node_facts, message_facts}
use Rattle.model.specs.declared.Activity.{Activity}
use Rattle.model.specs.declared.Activity.TheVariants.{Idle, Asking, Waiting, Inviting, Collecting, Handing, Contacting, Forwarding, Accepting}
use Rattle.model.specs.declared.Node.{Node}
use Rattle.model.specs.declared.Message.{Message}
use Rattle.node_step.specs.Fits.{Fits, FitsActivity, RangeFits}

busy_fits : (n i g t : ℕ) (a : Activity) → n ≤ 16 → Busy n i g t a → FitsActivity a
busy_fits n i g t Idle h b = tt
busy_fits n i g t (Asking asked found) h b = (b.0.low, omega arith)
busy_fits n i g t (Waiting ticks found) h b = omega arith
busy_fits n i g t (Inviting found former now) h b = tt
busy_fits n i g t Collecting h b = tt
busy_fits n i g t (Handing rest now) h b = tt
busy_fits n i g t Contacting h b = tt
busy_fits n i g t (Forwarding rest now caller call) h b = tt
busy_fits n i g t (Accepting caller call) h b = tt

pub in_range_fits : (n i : ℕ) (c : Node) → n ≤ 16 → 1 ≤ i → i ≤ n → node_in_range n i c ≡ true → Fits i c
in_range_fits n i c h l u e =
    let f = node_facts n i c e in
    record { low = l; high = omega arith; counter = f.counter; last = f.last; activity = busy_fits n i _ _ c.activity h f.activity }

pub message_fits : (n : ℕ) (m : Message) → n ≤ 16 → message_in_range n m ≡ true → (1 ≤ m.sender) × (m.sender ≤ 16)
message_fits n m h e = let f = (message_facts n m e).sender in (f.low, omega arith)

pub range_fits : (n : ℕ) → n ≤ 16 → RangeFits n
range_fits n h = record { node = λ i c. in_range_fits n i c h; message = λ m. message_fits n m h }
