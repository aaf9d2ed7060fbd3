-- What is claimed of reading a list, whatever its bytes are. The proof is in proofs/Reading.
use Rattle.std.specs.Prelude.{ℕ, ◌+◌, ◌*◌, ◌≤◌, ◌<◌, ◌≡◌, List, length}
use Rattle.event_list.specs.declared.Stop.{Stop}
use Rattle.event_list.specs.Format.{next_at, stopped, onward, rest}

pub record ReadsAll : Type 0 where
  -- what is left at a field is what stands there and then what is left behind it, so no field is left unread for the count in `rest`
  pub next : (l : List ℕ) (at : ℕ) → rest l at ≡ onward at (next_at l at) (rest l)
  -- each event takes four bytes or more
  pub few : (l : List ℕ) (at : ℕ) → at ≤ length l → at + 4 * length (rest l at).events ≤ length l
  -- a list that stops stops before its end
  pub before : (l : List ℕ) (at b : ℕ) (s : Stop) → (rest l at).ending ≡ stopped b s → b < length l
