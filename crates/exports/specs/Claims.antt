-- What is claimed of the step on bytes, of the records of a recovery in bytes, and of a turn on bytes. The proofs are in proofs/Claims, proofs/Recovering and proofs/Turning.
use Rattle.std.specs.Prelude.{Some, Ok, Err, ℕ, ◌≤◌, ◌<◌, true, false, ◌⊎◌, ◌≡◌, List, [], ◌∷◌, ◌++◌, length, take, drop}
use Rattle.model.specs.State.{node_at, in_range}
use Rattle.model.specs.Claims.{record_after}
use Rattle.event_list.specs.Format.{cut_short, next_at}
use Rattle.event_list.specs.declared.Stop.{Stop}
use Rattle.model.specs.declared.Event.{Event}
use Rattle.round.specs.Order.{pair}
use Rattle.round.specs.Turn.{event_of, done_in}
use Rattle.number_bytes.specs.Bytes.{many}
use Rattle.table_bytes.specs.Bytes.{node_of, size, records_size}
use Rattle.exports.specs.Boundary.{state_of, step_number, step_bytes, StepExported, recovery_number, recovery_bytes, RecoveryExported}
use Rattle.exports.specs.TurnBoundary.{turn_size, turn_on, turn_answer, turn_bytes}

-- t: the bytes of a table, f: of a field, b: what the lent buffer holds before. Any bytes at all: past the end of t zeros are read, and a status, an activity or a yes
-- that is no number of 01's is read modulo 4, 9 or 2 (table_bytes/specs/Bytes: decoded).
pub record StepClaims : Type 0 where
  -- 255 stands for a buffer that is too short, and for nothing else
  pub short : (t f b : List ℕ) → length b < size → step_number t f b ≡ 255
  pub only_short : (t f b : List ℕ) → step_number t f b ≡ 255 → length b < size
  -- whatever is not accepted leaves the buffer as it was
  pub keeps : (t f b : List ℕ) → (step_number t f b ≡ 0 → ⊥) → step_bytes t f b ≡ b
  -- and what is behind a table stays in any case
  pub behind : (t f b : List ℕ) → drop size (step_bytes t f b) ≡ drop size b
  -- a table that is not in range is answered by 1, whatever the field is
  pub not_in_range : (t f b : List ℕ) → size ≤ length b → in_range (state_of t) ≡ false → step_number t f b ≡ 1
  -- with one in range, no bytes are no field, 3; any other bytes that are no event are answered by 3, 4 or 5
  pub empty : (t b : List ℕ) → size ≤ length b → in_range (state_of t) ≡ true → step_number t [] b ≡ 3
  pub no_event : (t f b : List ℕ) (s : Stop) → size ≤ length b → in_range (state_of t) ≡ true → next_at f 0 ≡ Err s → (3 ≤ step_number t f b) × (step_number t f b ≤ 5)
  -- bytes behind a field that is there whole are not looked at
  pub first_alone : (t f g b : List ℕ) → cut_short f 0 ≡ false → (step_number t (f ++ g) b ≡ step_number t f b) × (step_bytes t (f ++ g) b ≡ step_bytes t f b)

-- the field of recover i: tag 0x11, a length of one byte, and i
abbrev pub recover_field : ℕ → List ℕ
recover_field i = 0x11 ∷ 0 ∷ 1 ∷ i ∷ []

-- 02, T-04. t: the bytes of a table, i: any number, b: what the lent buffer holds before.
pub record RecoveryClaims : Type 0 where
  -- 255 stands for a buffer that is too short, and for nothing else
  pub short : (t : List ℕ) (i : ℕ) (b : List ℕ) → length b < records_size → recovery_number t i b ≡ 255
  pub only_short : (t : List ℕ) (i : ℕ) (b : List ℕ) → recovery_number t i b ≡ 255 → length b < records_size
  -- whatever is not accepted leaves the buffer as it was
  pub keeps : (t : List ℕ) (i : ℕ) (b : List ℕ) → (recovery_number t i b ≡ 0 → ⊥) → recovery_bytes t i b ≡ b
  -- and what is behind eight records stays in any case
  pub behind : (t : List ℕ) (i : ℕ) (b : List ℕ) → drop records_size (recovery_bytes t i b) ≡ drop records_size b
  -- "is refused as it is": with room in both buffers, the number is the one that nevraspu_step answers to recover i on the same bytes
  pub as_step : (t : List ℕ) (i : ℕ) (b c : List ℕ) → records_size ≤ length b → size ≤ length c → recovery_number t i b ≡ step_number t (recover_field i) c
  -- "and the last is the one recover i leaves": o is what nevraspu_step leaves of c, and p what nevraspu_recovery leaves of b
  pub last_record : {t : List ℕ} {i : ℕ} {b c o p : List ℕ} → StepExported t (recover_field i) c o 0 → RecoveryExported t i b p 0 → record_after 8 (many node_of 29 8 p) ≡ node_at (state_of o) i

-- 02, T-09. t: the bytes of a table, a and b: any numbers, l: what the lent buffer holds before.
pub record TurnClaims : Type 0 where
  -- 255 stands for a buffer that is too short, and for nothing else; the other answers are 0, 1 and 7
  pub short : (t : List ℕ) (a b : ℕ) (l : List ℕ) → length l < turn_size → turn_answer t a b l ≡ 255
  pub only_short : (t : List ℕ) (a b : ℕ) (l : List ℕ) → turn_answer t a b l ≡ 255 → length l < turn_size
  pub numbers : (t : List ℕ) (a b : ℕ) (l : List ℕ) → turn_size ≤ length l → (turn_answer t a b l ≡ 0) ⊎ ((turn_answer t a b l ≡ 1) ⊎ (turn_answer t a b l ≡ 7))
  -- whatever is not accepted leaves the buffer as it was
  pub keeps : (t : List ℕ) (a b : ℕ) (l : List ℕ) → (turn_answer t a b l ≡ 0 → ⊥) → turn_bytes t a b l ≡ l
  -- and what is behind the table, the place and what was done stays in any case
  pub behind : (t : List ℕ) (a b : ℕ) (l : List ℕ) → drop turn_size (turn_bytes t a b l) ≡ drop turn_size l
  -- a table that is not in range is answered by 1, whatever a and b are
  pub not_in_range : (t : List ℕ) (a b : ℕ) (l : List ℕ) → turn_size ≤ length l → in_range (state_of t) ≡ false → turn_answer t a b l ≡ 1
  -- With room in both buffers, a turn that delivers or loses a message, which is the event e, leaves the bytes of the table that nevraspu_step leaves for e. f is a field that is read as e, up to k.
  pub as_step : (t : List ℕ) (a b : ℕ) (l m : List ℕ) (e : Event) (f : List ℕ) (k : ℕ) → turn_size ≤ length l → size ≤ length m
      → event_of (pair a b) (done_in (turn_on t a b)) ≡ e ∷ [] → next_at f 0 ≡ Ok (Some (e, k))
      → (turn_answer t a b l ≡ 0) × (step_number t f m ≡ 0) × (take size (step_bytes t f m) ≡ take size (turn_bytes t a b l))
