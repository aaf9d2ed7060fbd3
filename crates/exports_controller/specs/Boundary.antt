-- What nevraspu_controller_event and nevraspu_controller_message promise (02, T-11): for any numbers and any bytes at all, the number that is answered and what the lent buffer then holds; and what
-- is claimed of them. The proofs are in proofs/Boundary.
use Rattle.std.specs.Prelude.{Ok, Err, ◌≡◌, true, false, List, [], ◌∷◌, ◌++◌, ℕ, ◌+◌, ◌*◌, ◌≤◌, ◌<◌, length, get_or, take, drop, replicate}
use Rattle.model.specs.State.{starting_node}
use Rattle.model.specs.Step.{actor, wrong_number, wrong_task}
use Rattle.model.specs.declared.Node.{Node}
use Rattle.number_bytes.specs.Bytes.{bytes, number_in, buffer_in}
use Rattle.table_bytes.specs.Bytes.{node_of, node_bytes}
use Rattle.event_list.specs.Format.{stop_number, between, tag_at, cut_short}
use Rattle.event_list.specs.declared.Stop.{Stop}
use Rattle.message_fields.specs.Fields.{message_in, is_message, padded}
use Rattle.controller.specs.Controller.{event, message, as_event, in_range_for, Result, refused, controller_step, result_number, node_after, sent_in}
use Rattle.controller.specs.declared.LocalEvent.{LocalEvent}
use Rattle.controller.specs.declared.LocalEvent.TheVariants.{Crash, Recover, Check, Timeout, Tick, Expire, Finish}
use Rattle.exports_controller.specs.Field.{FieldRead, event_in}

-- ── what both give out ──

-- the room that they need: a record of 29 bytes, one byte, and the 25 of the longest message
abbrev pub outcome_size : ℕ
outcome_size = 55

-- by the result y, with the record c before it: the record after it, how many bytes the outgoing message has, 0 for none, and its bytes; zeros up to the end of that room
abbrev pub outcome_bytes : Node → Result → List ℕ
outcome_bytes c y = node_bytes (node_after c y) ++ (bytes 1 (length (sent_in y)) ++ padded (sent_in y))

-- ── nevraspu_controller_event ──

-- A field that is no event is answered by its ground, 3 to 5, whatever the others are; 1 is a ground of an event.
abbrev pub field_step : ℕ → ℕ → Node → FieldRead → Result
field_step n i c (Err x) = refused (stop_number x)
field_step n i c (Ok e) = controller_step n i c (event e)

-- What is answered by controller i of n for the bytes of its record, r, and of a field, f, with a lent buffer that holds b
unfoldable pub event_number : ℕ → ℕ → List ℕ → List ℕ → List ℕ → ℕ
event_number n i r f b = number_in outcome_size b (result_number (field_step n i (node_of r) (event_in f)))

-- what the buffer then holds
unfoldable pub event_bytes : ℕ → ℕ → List ℕ → List ℕ → List ℕ → List ℕ
event_bytes n i r f b = buffer_in outcome_size b (event_number n i r f b) (outcome_bytes (node_of r) (field_step n i (node_of r) (event_in f)))

-- ── nevraspu_controller_message ──

-- the same for the bytes of one message, l
unfoldable pub message_number : ℕ → ℕ → List ℕ → List ℕ → List ℕ → ℕ
message_number n i r l b = number_in outcome_size b (result_number (controller_step n i (node_of r) (message l)))

unfoldable pub message_bytes : ℕ → ℕ → List ℕ → List ℕ → List ℕ → List ℕ
message_bytes n i r l b = buffer_in outcome_size b (message_number n i r l b) (outcome_bytes (node_of r) (controller_step n i (node_of r) (message l)))

-- ── what is read back, where 0 is answered: o is what the buffer then holds ──

pub record ReadBack (c : Node) (y : Result) (o : List ℕ) : Type 0 where
  -- handed in again as a record, it is the record after
  pub node : node_of o ≡ node_after c y
  -- and the outgoing message is read by its length
  pub sent : take (get_or o 29 0) (drop 30 o) ≡ sent_in y

-- x: what is answered, o: what the buffer then holds
pub record EventExported (n i : ℕ) (r f b o : List ℕ) (x : ℕ) : Type 0 where
  pub number : x ≡ event_number n i r f b
  pub buffer : o ≡ event_bytes n i r f b
  pub back : x ≡ 0 → ReadBack (node_of r) (field_step n i (node_of r) (event_in f)) o

pub record MessageExported (n i : ℕ) (r l b o : List ℕ) (x : ℕ) : Type 0 where
  pub number : x ≡ message_number n i r l b
  pub buffer : o ≡ message_bytes n i r l b
  pub back : x ≡ 0 → ReadBack (node_of r) (controller_step n i (node_of r) (message l)) o

-- ── what is claimed of them. Past the end of r zeros are read, and a status or an activity that is no number of table_bytes' is read modulo 4 or 9 (table_bytes/specs/Bytes: node_of) ──

pub record ControllerEventClaims : Type 0 where
  -- 255 stands for a buffer that is too short, and for nothing else
  pub short : (n i : ℕ) (r f b : List ℕ) → length b < outcome_size → event_number n i r f b ≡ 255
  pub only_short : (n i : ℕ) (r f b : List ℕ) → event_number n i r f b ≡ 255 → length b < outcome_size
  -- whatever is not accepted leaves the buffer as it was
  pub keeps : (n i : ℕ) (r f b : List ℕ) → (event_number n i r f b ≡ 0 → ⊥) → event_bytes n i r f b ≡ b
  -- and what is behind the outcome stays in any case
  pub behind : (n i : ℕ) (r f b : List ℕ) → drop outcome_size (event_bytes n i r f b) ≡ drop outcome_size b
  -- no bytes are no field, 3; any other bytes that are no event of a controller are answered by their ground, 3, 4 or 5, whatever the others are
  pub empty : (n i : ℕ) (r b : List ℕ) → outcome_size ≤ length b → event_number n i r [] b ≡ 3
  pub no_event : (n i : ℕ) (r f b : List ℕ) (s : Stop) → outcome_size ≤ length b → event_in f ≡ Err s → event_number n i r f b ≡ stop_number s
  pub field_grounds : (f : List ℕ) (s : Stop) → event_in f ≡ Err s → (3 ≤ stop_number s) × (stop_number s ≤ 5)
  -- a whole field with the tag of deliver or lose by 4, whatever its length is
  pub queue_events : (n i : ℕ) (r f b : List ℕ) → outcome_size ≤ length b → cut_short f 0 ≡ false → between 0x17 0x18 (tag_at f 0) ≡ true → event_number n i r f b ≡ 4
  -- those of the other seven are read as their events
  pub crash : (i : ℕ) → event_in (0x10 ∷ 0 ∷ 1 ∷ i ∷ []) ≡ Ok (Crash i)
  pub recover : (i : ℕ) → event_in (0x11 ∷ 0 ∷ 1 ∷ i ∷ []) ≡ Ok (Recover i)
  pub check : (i : ℕ) → event_in (0x12 ∷ 0 ∷ 1 ∷ i ∷ []) ≡ Ok (Check i)
  pub timeout : (i : ℕ) → event_in (0x13 ∷ 0 ∷ 1 ∷ i ∷ []) ≡ Ok (Timeout i)
  pub tick : (i : ℕ) → event_in (0x14 ∷ 0 ∷ 1 ∷ i ∷ []) ≡ Ok (Tick i)
  pub expire : (i : ℕ) → event_in (0x15 ∷ 0 ∷ 1 ∷ i ∷ []) ≡ Ok (Expire i)
  pub finish : (i high low : ℕ) → event_in (0x16 ∷ 0 ∷ 3 ∷ i ∷ high ∷ low ∷ []) ≡ Ok (Finish i (record { number = high * 256 + low }))
  -- 29 zero bytes, as no bytes at all, are the record of the start
  pub starts : node_of (replicate 29 0) ≡ starting_node
  pub starts_none : node_of [] ≡ starting_node
  -- an event with an n, an own number or a record out of range is answered by 1
  pub not_in_range : (n i : ℕ) (r f b : List ℕ) (e : LocalEvent) → outcome_size ≤ length b → event_in f ≡ Ok e → in_range_for n i (node_of r) ≡ false → event_number n i r f b ≡ 1
  -- an event with good numbers for another node by 21
  pub other_node : (n i : ℕ) (r f b : List ℕ) (e : LocalEvent) → outcome_size ≤ length b → event_in f ≡ Ok e → in_range_for n i (node_of r) ≡ true → wrong_number n (as_event e) ≡ false → wrong_task (as_event e) ≡ false
      → (actor (as_event e) ≡ i → ⊥) → event_number n i r f b ≡ 21
  -- bytes behind a field that is there whole are not looked at
  pub first_alone : (n i : ℕ) (r f g b : List ℕ) → cut_short f 0 ≡ false → (event_number n i r (f ++ g) b ≡ event_number n i r f b) × (event_bytes n i r (f ++ g) b ≡ event_bytes n i r f b)

pub record ControllerMessageClaims : Type 0 where
  pub short : (n i : ℕ) (r l b : List ℕ) → length b < outcome_size → message_number n i r l b ≡ 255
  pub only_short : (n i : ℕ) (r l b : List ℕ) → message_number n i r l b ≡ 255 → length b < outcome_size
  pub keeps : (n i : ℕ) (r l b : List ℕ) → (message_number n i r l b ≡ 0 → ⊥) → message_bytes n i r l b ≡ b
  pub behind : (n i : ℕ) (r l b : List ℕ) → drop outcome_size (message_bytes n i r l b) ≡ drop outcome_size b
  -- an n, an own number or a record out of range is answered by 1, whatever the bytes are
  pub not_in_range : (n i : ℕ) (r l b : List ℕ) → outcome_size ≤ length b → in_range_for n i (node_of r) ≡ false → message_number n i r l b ≡ 1
  -- and bytes that are no message by 20, bytes behind one included
  pub no_message_lem : (n i : ℕ) (r l b : List ℕ) → outcome_size ≤ length b → in_range_for n i (node_of r) ≡ true → is_message n l ≡ false → message_number n i r l b ≡ 20
  -- a message for another node by 21
  pub other_node : (n i : ℕ) (r l b : List ℕ) → outcome_size ≤ length b → in_range_for n i (node_of r) ≡ true → is_message n l ≡ true → ((message_in l).receiver ≡ i → ⊥) → message_number n i r l b ≡ 21
