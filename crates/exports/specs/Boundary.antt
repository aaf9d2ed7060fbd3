-- What the exported functions promise: for any bytes at all, the number that is answered and what the lent buffer then holds.
use Rattle.std.specs.Prelude.{Some, None, Ok, Err, ◌≡◌, not, List, ℕ, ◌+◌, eqb}
use Rattle.model.specs.Pick.{pick}
use Rattle.model.specs.Recovery.{recovery_records}
use Rattle.model.specs.State.{State, start, node_at, in_range, view, table_of}
use Rattle.model.specs.Step.{step, after}
use Rattle.model.specs.Traffic.{accepted_from}
use Rattle.model.specs.Answers.{result_number}
use Rattle.model.specs.declared.Event.TheVariants.{Recover}
use Rattle.event_list.specs.Format.{Listed, failed, begun, reading, stop_number, Next, next_at}
use Rattle.event_list.specs.declared.Stop.TheVariants.{CutShort}
use Rattle.number_bytes.specs.Bytes.{many, all, number_in, buffer_in}
use Rattle.table_bytes.specs.Bytes.{node_of, decoded, node_bytes, size, encoded, records_size}

-- ── nevraspu_step: one event on a table in bytes ──

-- the state that bytes mean as a table
abbrev pub state_of : List ℕ → State
state_of t = view (decoded t)

-- the bytes of a state: of its table, in which nothing is free
abbrev pub state_bytes : State → List ℕ
state_bytes s = encoded (table_of s)

-- what a field is answered on the state s. One that is no event of 01's list: by the grounds of "a field", 3 to 5 (3 for no bytes at all: "an empty list too").
-- An event: its refusal, or 0 where it is accepted
abbrev pub field_number : State → Next → ℕ
field_number s (Ok None) = stop_number CutShort
field_number s (Err x) = stop_number x
field_number s (Ok (Some (e, next))) = result_number (step s e)

-- the state after it
abbrev pub field_after : State → Next → State
field_after s (Ok None) = s
field_after s (Err x) = s
field_after s (Ok (Some (e, next))) = after s e

-- What is answered for the bytes of a table, t, and of a field, f, with a lent buffer that holds b: as in 01's table of grounds, the "table handed in" comes before the
-- field and the event
unfoldable pub step_number : List ℕ → List ℕ → List ℕ → ℕ
step_number t f b = number_in size b (pick (not (in_range (state_of t))) 1 (field_number (state_of t) (next_at f 0)))

-- what the buffer then holds
unfoldable pub step_bytes : List ℕ → List ℕ → List ℕ → List ℕ
step_bytes t f b = buffer_in size b (step_number t f b) (state_bytes (field_after (state_of t) (next_at f 0)))

-- r: what is answered, o: what the buffer then holds
pub record StepExported (t f b o : List ℕ) (r : ℕ) : Type 0 where
  pub number : r ≡ step_number t f b
  pub buffer : o ≡ step_bytes t f b
  -- handed in again as a table, the buffer means the state after the event
  pub back : r ≡ 0 → state_of o ≡ field_after (state_of t) (next_at f 0)

-- ── nevraspu_recovery: the eight records of a recovery, in bytes (02, T-04) ──

-- What is answered for the bytes of a table, t, and node i, with a lent buffer that holds b. Whether b has the room of eight records is looked at first; then it "is
-- refused as" recover i is, or 0
unfoldable pub recovery_number : List ℕ → ℕ → List ℕ → ℕ
recovery_number t i b = number_in records_size b (result_number (step (state_of t) (Recover i)))

-- What the buffer then holds: "the eight records of cabinet i, one after each assignment", and behind them what was there; all that was there by any other answer than 0
unfoldable pub recovery_bytes : List ℕ → ℕ → List ℕ → List ℕ
recovery_bytes t i b = buffer_in records_size b (recovery_number t i b) (all node_bytes (recovery_records i (node_at (state_of t) i)))

-- r: what is answered, o: what the buffer then holds
pub record RecoveryExported (t : List ℕ) (i : ℕ) (b o : List ℕ) (r : ℕ) : Type 0 where
  pub number : r ≡ recovery_number t i b
  pub buffer : o ≡ recovery_bytes t i b
  -- the eight records are read back
  pub back : r ≡ 0 → many node_of 29 8 o ≡ recovery_records i (node_at (state_of t) i)

-- ── nevraspu_fold: the count of accepted events ──

-- k, and one more where an event's number says that it is accepted
unfoldable pub plus_accepted : ℕ → ℕ → ℕ
plus_accepted k r = pick (eqb r 0) (k + 1) k

abbrev pub accepted_listed : Listed → ℕ
accepted_listed (failed s) = 0
accepted_listed (begun n lim r) = accepted_from (start n lim) r.events

-- of a list
abbrev pub accepted_in : List ℕ → ℕ
accepted_in l = accepted_listed (reading l)
