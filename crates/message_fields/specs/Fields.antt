-- A message on the cable (02, T-11): "A message crosses the cable as tagged fields in the house form: 0x20 sender, receiver and kind; 0x21 call number; 0x22 group; 0x23 task;
-- 0x24 yes or no as 1 or 0. They take three single bytes, then 4, 4, 2 and 1, high byte first. Fields come in that order, only those that the kind carries, and the kind
-- number is one byte." What is claimed of these bytes is in Claims.
use Rattle.std.specs.Prelude.{Option, Some, None, ℕ, ◌≡◌, Bool, ◌&&◌, List, [], ◌++◌, eqb, length, replicate}
use Rattle.model.specs.Pick.{pick}
use Rattle.model.specs.Range.{carries_group, message_in_range}
use Rattle.model.specs.declared.Message.{Message}
use Rattle.number_bytes.specs.Bytes.{number, bytes, same_bytes, written, yes_of, yes_number}
use Rattle.message_fields.specs.declared.Packet.{Packet}

-- ── the bytes of a message ──

-- "in the house form": 01's "one-byte tag, two-byte length with the high byte first, contents"
abbrev pub field : ℕ → List ℕ → List ℕ
field tag contents = bytes 1 tag ++ (bytes 2 (length contents) ++ contents)

-- "0x20 sender, receiver and kind", "three single bytes"
abbrev pub address_field : Message → List ℕ
address_field m = field 0x20 (bytes 1 m.sender ++ (bytes 1 m.receiver ++ bytes 1 m.kind))

-- "0x21 call number", "4"
abbrev pub call_field : Message → List ℕ
call_field m = field 0x21 (bytes 4 m.call.number)

-- "0x22 group", "4"
abbrev pub group_field : Message → List ℕ
group_field m = field 0x22 (bytes 4 m.group.number)

-- "0x23 task", "2"
abbrev pub task_field : Message → List ℕ
task_field m = field 0x23 (bytes 2 m.task.number)

-- "0x24 yes or no as 1 or 0", "1"
abbrev pub yes_field : Message → List ℕ
yes_field m = field 0x24 (bytes 1 (yes_number m.yes))

-- 01: "5 Ready (group, task)"; that kinds 2 to 5 carry a group is `carries_group` of crate model
abbrev pub carries_task : ℕ → Bool
carries_task k = eqb k 5

-- 01: "6 reply (yes or no ..)"
abbrev pub carries_yes : ℕ → Bool
carries_yes k = eqb k 6

-- a field, or nothing
abbrev pub only_if : Bool → List ℕ → List ℕ
only_if b l = pick b l []

-- "Fields come in that order, only those that the kind carries": every kind has an address and a call number
unfoldable pub fields : Message → List ℕ
fields m =
    address_field m
    ++ (call_field m
    ++ (only_if (carries_group m.kind) (group_field m)
    ++ (only_if (carries_task m.kind) (task_field m)
    ++ only_if (carries_yes m.kind) (yes_field m))))

-- the most bytes that a message has: those of kind 5
abbrev pub most_bytes : ℕ
most_bytes = 25

-- ── the message of bytes ──

-- The message whose numbers stand at their places: the address from byte 3 on, the call number from 9, the group or the yes or no from 16, the task from 23. What its kind does not carry is
-- 0, or no.
unfoldable pub message_in : List ℕ → Message
message_in l = record {
  sender = number 1 l 3;
  receiver = number 1 l 4;
  kind = number 1 l 5;
  call = record { number = number 4 l 9 };
  group = record { number = pick (carries_group (number 1 l 5)) (number 4 l 16) 0 };
  task = record { number = pick (carries_task (number 1 l 5)) (number 2 l 23) 0 };
  yes = carries_yes (number 1 l 5) && yes_of (number 1 l 16);
}

-- The bytes are those of a message among n nodes. 20: "a message's bytes are not of that form, hold a number out of range or have the same sender and receiver". They are of that form where
-- they are just the bytes of the message whose numbers stand in them: a wrong tag, order or length, a field that is missing, one too many or not carried by the kind, a yes or no that
-- is neither 1 nor 0, and bytes behind all make them others. (`message_in_range` of crate model has the ranges, and that sender and receiver are two nodes.)
unfoldable pub is_message : ℕ → List ℕ → Bool
is_message n l = same_bytes l (fields (message_in l)) && message_in_range n (message_in l)

-- 02's number of what bytes are answered: 20 where they are no message; a message that is read is not refused
abbrev pub read_number : Option Message → ℕ
read_number None = 20
read_number (Some m) = 0

-- what bytes say: the message, or that they are none
unfoldable pub reading : ℕ → List ℕ → Option Message
reading n l = pick (is_message n l) (Some (message_in l)) None

-- A message of a table with 0, or no, in the fields that its kind does not carry: these are free in a table, and do not cross the cable.
unfoldable pub carried : Message → Message
carried m = record {
  sender = m.sender;
  receiver = m.receiver;
  kind = m.kind;
  call = m.call;
  group = record { number = pick (carries_group m.kind) m.group.number 0 };
  task = record { number = pick (carries_task m.kind) m.task.number 0 };
  yes = carries_yes m.kind && m.yes;
}

-- ── the code's packet: room for the bytes of any message, and how many of them are a message's ──

-- bytes at the start of such a room; behind them 0
abbrev pub padded : List ℕ → List ℕ
padded l = written (replicate most_bytes 0) 0 l

-- the packet p is that of the bytes l, which are a message's, or none: nothing of it is free
pub record Packed (p : Packet) (l : List ℕ) : Type 0 where
  pub bytes : p.bytes ≡ padded l
  pub length : p.length ≡ length l
