-- A table as 4,436 bytes, and the table of any bytes. Numbers have their high byte first.
--   table     n 1, 16 nodes of 29 bytes, 64 messages of 14 bytes, waiting 1, then sent, delivered and lost, each of 256 counts of 4 bytes, then limits
--   node      status 1, counter 4, group 4, coordinator 1, task 2, members 2, last 4, activity 11
--   activity  tag 1, set 2, former 2, node 1, caller 1, call 4; what an activity does not have is 0
--             set is found or rest; node is asked, ticks or now
--   message   sender 1, receiver 1, kind 1, call 4, group 4, task 2, yes 1
--   counts    that from node a to node b is at place (a - 1) * 16 + (b - 1): `pair_place` of crate model
--   limits    nodes 1, messages 1
-- Numbers, records of one size and what a status byte means are in `number_bytes/specs/Bytes`. That a table is read back from its bytes is claimed in Claims.
use Rattle.std.specs.Prelude.{ℕ, ◌%◌, ◌≤◌, ◌<◌, ◌≡◌, List, ◌++◌, eqb, length, drop}
use Rattle.model.specs.Pick.{pick}
use Rattle.model.specs.Answers.{status_number}
use Rattle.model.specs.declared.Limits.{Limits}
use Rattle.model.specs.declared.Activity.{Activity}
use Rattle.model.specs.declared.Activity.TheVariants.{Idle, Asking, Waiting, Inviting, Collecting, Handing, Contacting, Forwarding, Accepting}
use Rattle.model.specs.declared.Node.{Node}
use Rattle.model.specs.declared.Message.{Message}
use Rattle.model.specs.declared.Table.{Table}
use Rattle.number_bytes.specs.Bytes.{number, bytes, many, all, Each, written, status_of, yes_of, yes_number}
use Rattle.table_bytes.specs.declared.Parts.{Parts}

-- ── activities ──

-- a place for each thing that an activity can hold
abbrev pub parts : ℕ → ℕ → ℕ → ℕ → ℕ → ℕ → Parts
parts tag set former node caller call = record { tag = tag; set = set; former = former; node = node; caller = caller; call = call }

-- the variants in their order, 0 to 8, each with what it holds
abbrev pub parts_of : Activity → Parts
parts_of Idle = parts 0 0 0 0 0 0
parts_of (Asking asked found) = parts 1 found 0 asked 0 0
parts_of (Waiting ticks found) = parts 2 found 0 ticks 0 0
parts_of (Inviting found former now) = parts 3 found former now 0 0
parts_of Collecting = parts 4 0 0 0 0 0
parts_of (Handing rest now) = parts 5 rest 0 now 0 0
parts_of Contacting = parts 6 0 0 0 0 0
parts_of (Forwarding rest now caller call) = parts 7 rest 0 now caller call.number
parts_of (Accepting caller call) = parts 8 0 0 0 caller call.number

-- the activity of any parts: the tag counts modulo 9, and what the activity does not have is not looked at
unfoldable pub activity_of : Parts → Activity
activity_of p =
    pick (eqb (p.tag % 9) 0) Idle
    (pick (eqb (p.tag % 9) 1) (Asking p.node p.set)
    (pick (eqb (p.tag % 9) 2) (Waiting p.node p.set)
    (pick (eqb (p.tag % 9) 3) (Inviting p.set p.former p.node)
    (pick (eqb (p.tag % 9) 4) Collecting
    (pick (eqb (p.tag % 9) 5) (Handing p.set p.node)
    (pick (eqb (p.tag % 9) 6) Contacting
    (pick (eqb (p.tag % 9) 7) (Forwarding p.set p.node p.caller (record { number = p.call }))
    (Accepting p.caller (record { number = p.call })))))))))

-- ── what bytes mean ──

unfoldable pub node_of : List ℕ → Node
node_of l = record {
  status = status_of (number 1 l 0);
  counter = number 4 l 1;
  group = record { number = number 4 l 5 };
  coordinator = number 1 l 9;
  task = record { number = number 2 l 10 };
  members = number 2 l 12;
  last = record { number = number 4 l 14 };
  activity = activity_of (parts (number 1 l 18) (number 2 l 19) (number 2 l 21) (number 1 l 23) (number 1 l 24) (number 4 l 25));
}

unfoldable pub message_of : List ℕ → Message
message_of l = record {
  sender = number 1 l 0;
  receiver = number 1 l 1;
  kind = number 1 l 2;
  call = record { number = number 4 l 3 };
  group = record { number = number 4 l 7 };
  task = record { number = number 2 l 11 };
  yes = yes_of (number 1 l 13);
}

-- a count of messages (02, T-05)
abbrev pub count_of : List ℕ → ℕ
count_of l = number 4 l 0

-- a table's limits (02, T-08)
unfoldable pub limits_of : List ℕ → Limits
limits_of l = record { nodes = number 1 l 0; messages = number 1 l 1 }

-- the table of any bytes, in range or not
unfoldable pub decoded : List ℕ → Table
decoded l = record {
  n = number 1 l 0;
  limits = limits_of (drop 4434 l);
  nodes = many node_of 29 16 (drop 1 l);
  messages = many message_of 14 64 (drop 465 l);
  waiting = number 1 l 1361;
  sent = many count_of 4 256 (drop 1362 l);
  delivered = many count_of 4 256 (drop 2386 l);
  lost = many count_of 4 256 (drop 3410 l);
}

-- ── the bytes of a table ──

unfoldable pub parts_bytes : Parts → List ℕ
parts_bytes p = bytes 1 p.tag ++ bytes 2 p.set ++ bytes 2 p.former ++ bytes 1 p.node ++ bytes 1 p.caller ++ bytes 4 p.call

unfoldable pub node_bytes : Node → List ℕ
node_bytes c =
    bytes 1 (status_number c.status) ++ bytes 4 c.counter ++ bytes 4 c.group.number ++ bytes 1 c.coordinator
    ++ bytes 2 c.task.number ++ bytes 2 c.members ++ bytes 4 c.last.number ++ parts_bytes (parts_of c.activity)

unfoldable pub message_bytes : Message → List ℕ
message_bytes m =
    bytes 1 m.sender ++ bytes 1 m.receiver ++ bytes 1 m.kind ++ bytes 4 m.call.number ++ bytes 4 m.group.number
    ++ bytes 2 m.task.number ++ bytes 1 (yes_number m.yes)

unfoldable pub limits_bytes : Limits → List ℕ
limits_bytes l = bytes 1 l.nodes ++ bytes 1 l.messages

-- how many they are
abbrev pub size : ℕ
size = 4436

unfoldable pub encoded : Table → List ℕ
encoded t =
    bytes 1 t.n ++ all node_bytes t.nodes ++ all message_bytes t.messages ++ bytes 1 t.waiting
    ++ all (bytes 4) t.sent ++ all (bytes 4) t.delivered ++ all (bytes 4) t.lost ++ limits_bytes t.limits

-- What writing the table t into a buffer that held b leaves there, o.
pub record Stored (t : Table) (b o : List ℕ) : Type 0 where
  -- its bytes over the start of b, as many as b has room for
  pub bytes : o ≡ written b 0 (encoded t)
  -- where b has room for all, they stand there whole, and behind them what was there
  pub whole : size ≤ length b → o ≡ encoded t ++ drop size b
  -- and the very same table is read back, whatever else stands behind its bytes
  pub back : size ≤ length b → (l : List ℕ) → decoded (o ++ l) ≡ t

-- ── the bytes of eight records (02, T-04), one after another ──

-- how many they are
abbrev pub records_size : ℕ
records_size = 232

-- What writing the eight records l into a buffer that held b leaves there, o.
pub record RecordsStored (l : List Node) (b o : List ℕ) : Type 0 where
  -- their bytes over the start of b, as many as b has room for
  pub bytes : o ≡ written b 0 (all node_bytes l)
  -- where b has room for all, they stand there whole, and behind them what was there
  pub whole : records_size ≤ length b → o ≡ all node_bytes l ++ drop records_size b
  -- and the very same records are read back
  pub back : records_size ≤ length b → many node_of 29 8 o ≡ l

-- ── what the types of a table's fields hold: every table of the code fits, `table_fits` of proofs/Widths ──

pub record PartsFit (p : Parts) : Type 0 where
  pub tag : p.tag < 256
  pub set : p.set < 65536
  pub former : p.former < 65536
  pub node : p.node < 256
  pub caller : p.caller < 256
  pub call : p.call < 4294967296

pub record NodeFits (c : Node) : Type 0 where
  pub counter : c.counter < 4294967296
  pub group : c.group.number < 4294967296
  pub coordinator : c.coordinator < 256
  pub task : c.task.number < 65536
  pub members : c.members < 65536
  pub last : c.last.number < 4294967296
  pub activity : PartsFit (parts_of c.activity)

pub record MessageFits (m : Message) : Type 0 where
  pub sender : m.sender < 256
  pub receiver : m.receiver < 256
  pub kind : m.kind < 256
  pub call : m.call.number < 4294967296
  pub group : m.group.number < 4294967296
  pub task : m.task.number < 65536

abbrev pub CountFits : ℕ → Type 0
CountFits x = x < 4294967296

pub record Fits (t : Table) : Type 0 where
  pub n : t.n < 256
  pub limits : (t.limits.nodes < 256) × (t.limits.messages < 256)
  pub nodes : (length t.nodes ≡ 16) × Each NodeFits t.nodes
  pub messages : (length t.messages ≡ 64) × Each MessageFits t.messages
  pub waiting : t.waiting < 256
  pub sent : (length t.sent ≡ 256) × Each CountFits t.sent
  pub delivered : (length t.delivered ≡ 256) × Each CountFits t.delivered
  pub lost : (length t.lost ≡ 256) × Each CountFits t.lost
