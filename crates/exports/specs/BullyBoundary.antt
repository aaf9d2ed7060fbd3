-- What nevraspu_bully_step promises (02, T-07): for any bytes at all, the number that is answered and what the lent buffer then holds; and what is claimed of it. The
-- proofs are in proofs/bully/nevraspu_bully_step and proofs/BullyClaims.
use Rattle.std.specs.Prelude.{◌≡◌, Ok, Err, false, List, [], ◌++◌, ℕ, ◌≤◌, ◌<◌, length, drop}
use Rattle.bully_model.specs.State.{State, in_range, view, table_of}
use Rattle.bully_model.specs.Step.{step, after}
use Rattle.bully_model.specs.Answers.{result_number}
use Rattle.bully_model.specs.declared.Event.{Event}
use Rattle.event_list.specs.Format.{stop_number, cut_short}
use Rattle.event_list.specs.declared.Stop.{Stop}
use Rattle.number_bytes.specs.Bytes.{number_in, buffer_in}
use Rattle.bully_bytes.specs.Bytes.{decoded, size, encoded}
use Rattle.bully_bytes.specs.Field.{FieldRead, event_in}

-- the state that bytes mean as a table
abbrev pub state_of : List ℕ → State
state_of t = view (decoded t)

-- the bytes of a state: of its table, in which nothing is free; what the bytes handed in had past the n records is not given out again
abbrev pub state_bytes : State → List ℕ
state_bytes s = encoded (table_of s)

-- what a field is answered on the state s: one that is no event, by the grounds of "a field", 3 to 5; an event, by its refusal, or 0 where it is accepted
abbrev pub field_number : State → FieldRead → ℕ
field_number s (Err x) = stop_number x
field_number s (Ok e) = result_number (step s e)

-- the state after it
abbrev pub field_after : State → FieldRead → State
field_after s (Err x) = s
field_after s (Ok e) = after s e

-- What is answered for the bytes of a table, t, and of a field, f, with a lent buffer that holds b. A field that is no event is answered by its ground whatever the table
-- is; 1 is a ground of an event. (nevraspu_step looks at the table before the field. docs/DECISIONS.md, T-07, says why this function does not.)
unfoldable pub bully_number : List ℕ → List ℕ → List ℕ → ℕ
bully_number t f b = number_in size b (field_number (state_of t) (event_in f))

-- what the buffer then holds
unfoldable pub bully_bytes : List ℕ → List ℕ → List ℕ → List ℕ
bully_bytes t f b = buffer_in size b (bully_number t f b) (state_bytes (field_after (state_of t) (event_in f)))

-- r: what is answered, o: what the buffer then holds
pub record BullyExported (t f b o : List ℕ) (r : ℕ) : Type 0 where
  pub number : r ≡ bully_number t f b
  pub buffer : o ≡ bully_bytes t f b
  -- handed in again as a table, the buffer means the state after the event
  pub back : r ≡ 0 → state_of o ≡ field_after (state_of t) (event_in f)

-- t: the bytes of a table, f: of a field, b: what the lent buffer holds before. Any bytes at all: past the end of t zeros are read, and a byte for whether a node runs, for a
-- status or for a place is read modulo 2, 4 or 8 (bully_bytes/specs/Bytes: decoded).
pub record BullyClaims : Type 0 where
  -- 255 stands for a buffer that is too short, and for nothing else
  pub short : (t f b : List ℕ) → length b < size → bully_number t f b ≡ 255
  pub only_short : (t f b : List ℕ) → bully_number t f b ≡ 255 → length b < size
  -- whatever is not accepted leaves the buffer as it was
  pub keeps : (t f b : List ℕ) → (bully_number t f b ≡ 0 → ⊥) → bully_bytes t f b ≡ b
  -- and what is behind a table stays in any case
  pub behind : (t f b : List ℕ) → drop size (bully_bytes t f b) ≡ drop size b
  -- no bytes are no field, 3; any other bytes that are no event are answered by 3, 4 or 5, whatever the table is
  pub empty : (t b : List ℕ) → size ≤ length b → bully_number t [] b ≡ 3
  pub no_event : (t f b : List ℕ) (s : Stop) → size ≤ length b → event_in f ≡ Err s → (3 ≤ bully_number t f b) × (bully_number t f b ≤ 5)
  -- any event on a table that is not in range is answered by 1
  pub not_in_range : (t f b : List ℕ) (e : Event) → size ≤ length b → event_in f ≡ Ok e → in_range (state_of t) ≡ false → bully_number t f b ≡ 1
  -- bytes behind a field that is there whole are not looked at
  pub first_alone : (t f g b : List ℕ) → cut_short f 0 ≡ false → (bully_number t (f ++ g) b ≡ bully_number t f b) × (bully_bytes t (f ++ g) b ≡ bully_bytes t f b)
