-- What the code needs of a node and its input, so that no number leaves its word. What is in range has it: RangeFits.
use Rattle.std.specs.Prelude.{ℕ, ◌≤◌, true, ◌≡◌}
use Rattle.model.specs.Limits.{node_limit, counter_end, call_end}
use Rattle.model.specs.Range.{node_in_range, message_in_range}
use Rattle.model.specs.declared.Activity.{Activity}
use Rattle.model.specs.declared.Activity.TheVariants.{Idle, Asking, Waiting, Inviting, Collecting, Handing, Contacting, Forwarding, Accepting}
use Rattle.model.specs.declared.Node.{Node}
use Rattle.model.specs.declared.Message.{Message}
use Rattle.model.specs.declared.Input.{Input}
use Rattle.model.specs.declared.Input.TheVariants.{Crash, Recover, Check, Timeout, Tick, Expire, Finish, Receive}

-- the node asked can be put into a set, and a tick can be taken off
abbrev pub FitsActivity : Activity → Type 0
FitsActivity Idle = Unit {0}
FitsActivity (Asking asked found) = (1 ≤ asked) × (asked ≤ node_limit)
FitsActivity (Waiting ticks found) = 1 ≤ ticks
FitsActivity (Inviting found former now) = Unit {0}
FitsActivity Collecting = Unit {0}
FitsActivity (Handing rest now) = Unit {0}
FitsActivity Contacting = Unit {0}
FitsActivity (Forwarding rest now caller call) = Unit {0}
FitsActivity (Accepting caller call) = Unit {0}

-- the record of node i
pub record Fits (i : ℕ) (c : Node) : Type 0 where
  pub low : 1 ≤ i
  pub high : i ≤ node_limit
  pub counter : c.counter ≤ counter_end
  pub last : c.last.number ≤ call_end
  pub activity : FitsActivity c.activity

-- the sender of a message can be put into a set
abbrev pub FitsSender : Message → Type 0
FitsSender m = (1 ≤ m.sender) × (m.sender ≤ node_limit)

abbrev pub FitsInput : Input → Type 0
FitsInput Crash = Unit {0}
FitsInput Recover = Unit {0}
FitsInput Check = Unit {0}
FitsInput Timeout = Unit {0}
FitsInput Tick = Unit {0}
FitsInput Expire = Unit {0}
FitsInput (Finish t) = Unit {0}
FitsInput (Receive m) = FitsSender m

-- What is in range, among n nodes (n up to 16), has it.
pub record RangeFits (n : ℕ) : Type 0 where
  pub node : (i : ℕ) (c : Node) → 1 ≤ i → i ≤ n → node_in_range n i c ≡ true → Fits i c
  pub message : (m : Message) → message_in_range n m ≡ true → FitsSender m
