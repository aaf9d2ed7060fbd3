-- One node (01: cabinet): tests of its fields, the records that the procedures make of it (a recovery's are in Recovery), and the messages that it sends.
use Rattle.std.specs.Prelude.{ℕ, ◌+◌, ◌-◌, ◌*◌, ◌/◌, ◌%◌, Bool, true, false}
use Rattle.node_set.specs.NodeSet.{with}
use Rattle.model.specs.declared.Status.{Status}
use Rattle.model.specs.declared.Status.TheVariants.{Down, Election, Reorganization, Normal}
use Rattle.model.specs.declared.Activity.{Activity}
use Rattle.model.specs.declared.Activity.TheVariants.{Idle, Asking, Waiting, Inviting, Collecting, Handing, Contacting, Forwarding, Accepting}
use Rattle.model.specs.declared.Node.{Node}
use Rattle.model.specs.declared.CallNo.{CallNo}
use Rattle.model.specs.declared.GroupNo.{GroupNo}
use Rattle.model.specs.declared.TaskNo.{TaskNo}
use Rattle.model.specs.declared.Message.{Message}

-- ── tests ──

abbrev pub is_down : Status → Bool
is_down Down = true
is_down Election = false
is_down Reorganization = false
is_down Normal = false

abbrev pub is_election : Status → Bool
is_election Down = false
is_election Election = true
is_election Reorganization = false
is_election Normal = false

abbrev pub is_reorganization : Status → Bool
is_reorganization Down = false
is_reorganization Election = false
is_reorganization Reorganization = true
is_reorganization Normal = false

abbrev pub is_normal : Status → Bool
is_normal Down = false
is_normal Election = false
is_normal Reorganization = false
is_normal Normal = true

-- in Reorganization or Normal
abbrev pub is_active : Status → Bool
is_active Down = false
is_active Election = false
is_active Reorganization = true
is_active Normal = true

abbrev pub is_idle : Activity → Bool
is_idle Idle = true
is_idle (Asking asked found) = false
is_idle (Waiting ticks found) = false
is_idle (Inviting found former now) = false
is_idle Collecting = false
is_idle (Handing rest now) = false
is_idle Contacting = false
is_idle (Forwarding rest now caller call) = false
is_idle (Accepting caller call) = false

abbrev pub is_waiting : Activity → Bool
is_waiting Idle = false
is_waiting (Asking asked found) = false
is_waiting (Waiting ticks found) = true
is_waiting (Inviting found former now) = false
is_waiting Collecting = false
is_waiting (Handing rest now) = false
is_waiting Contacting = false
is_waiting (Forwarding rest now caller call) = false
is_waiting (Accepting caller call) = false

abbrev pub is_collecting : Activity → Bool
is_collecting Idle = false
is_collecting (Asking asked found) = false
is_collecting (Waiting ticks found) = false
is_collecting (Inviting found former now) = false
is_collecting Collecting = true
is_collecting (Handing rest now) = false
is_collecting Contacting = false
is_collecting (Forwarding rest now caller call) = false
is_collecting (Accepting caller call) = false

-- "Asking, inviting, handing, contacting, forwarding and accepting have an open call, whose number is the last call number."
abbrev pub has_open_call : Activity → Bool
has_open_call Idle = false
has_open_call (Asking asked found) = true
has_open_call (Waiting ticks found) = false
has_open_call (Inviting found former now) = true
has_open_call Collecting = false
has_open_call (Handing rest now) = true
has_open_call Contacting = true
has_open_call (Forwarding rest now caller call) = true
has_open_call (Accepting caller call) = true

-- ── group numbers: "counter × 16 + (owner − 1)" ──

abbrev pub group_of : ℕ → ℕ → ℕ
group_of counter owner = counter * 16 + (owner - 1)

-- "the owner is the cabinet that formed it"; of a group that is not 0
abbrev pub owner_of : ℕ → ℕ
owner_of g = g % 16 + 1

abbrev pub counter_of : ℕ → ℕ
counter_of g = g / 16

-- ── records: c with some fields set, the others kept ──

-- another activity
abbrev pub turned : Node → Activity → Node
turned c a = record {
  status = c.status;
  counter = c.counter;
  group = c.group;
  coordinator = c.coordinator;
  task = c.task;
  members = c.members;
  last = c.last;
  activity = a;
}

-- "last call number plus one": the number of the next call
abbrev pub next_call : Node → CallNo
next_call c = record { number = c.last.number + 1 }

-- the next call is made, in the activity that it is for
abbrev pub calling : Node → Activity → Node
calling c a = record {
  status = c.status;
  counter = c.counter;
  group = c.group;
  coordinator = c.coordinator;
  task = c.task;
  members = c.members;
  last = next_call c;
  activity = a;
}

-- another status, and idle
abbrev pub settled : Node → Status → Node
settled c s = record {
  status = s;
  counter = c.counter;
  group = c.group;
  coordinator = c.coordinator;
  task = c.task;
  members = c.members;
  last = c.last;
  activity = Idle;
}

-- another status and task
abbrev pub tasked : Node → Status → TaskNo → Node
tasked c s t = record {
  status = s;
  counter = c.counter;
  group = c.group;
  coordinator = c.coordinator;
  task = t;
  members = c.members;
  last = c.last;
  activity = c.activity;
}

-- "the sender joins the members"
abbrev pub joined : Node → ℕ → Node
joined c j = record {
  status = c.status;
  counter = c.counter;
  group = c.group;
  coordinator = c.coordinator;
  task = c.task;
  members = with c.members j;
  last = c.last;
  activity = c.activity;
}

-- "Election; counter plus one, new group, coordinator i; members are .. emptied"
abbrev pub merged : ℕ → Node → Node
merged i c = record {
  status = Election;
  counter = c.counter + 1;
  group = record { number = group_of (c.counter + 1) i };
  coordinator = i;
  task = c.task;
  members = 0;
  last = c.last;
  activity = Idle;
}

-- "its activity stops; Election, the new group and its owner as coordinator. .. The member set is kept."
abbrev pub invited : Node → GroupNo → Node
invited c g = record {
  status = Election;
  counter = c.counter;
  group = g;
  coordinator = owner_of g.number;
  task = c.task;
  members = c.members;
  last = c.last;
  activity = Idle;
}

-- ── messages of node i; a field that the kind does not carry is 0, or no ──

-- "1 AreYouCoordinator", with the call number k, to node r
abbrev pub asks : ℕ → ℕ → CallNo → Message
asks i r k = record {
  sender = i;
  receiver = r;
  kind = 1;
  call = k;
  group = record { number = 0 };
  task = record { number = 0 };
  yes = false;
}

-- "2 AreYouThere (group); 3 Invitation (group); 4 Accept (group)": a call of this kind
abbrev pub calls : ℕ → ℕ → ℕ → CallNo → GroupNo → Message
calls i kind r k g = record {
  sender = i;
  receiver = r;
  kind = kind;
  call = k;
  group = g;
  task = record { number = 0 };
  yes = false;
}

-- "5 Ready (group, task)"
abbrev pub readies : ℕ → ℕ → CallNo → GroupNo → TaskNo → Message
readies i r k g t = record {
  sender = i;
  receiver = r;
  kind = 5;
  call = k;
  group = g;
  task = t;
  yes = false;
}

-- "6 reply (yes or no; .. its call number is that of the call it answers)"
abbrev pub replies : ℕ → ℕ → CallNo → Bool → Message
replies i r k y = record {
  sender = i;
  receiver = r;
  kind = 6;
  call = k;
  group = record { number = 0 };
  task = record { number = 0 };
  yes = y;
}
