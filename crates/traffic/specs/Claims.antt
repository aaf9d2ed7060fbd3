-- What is claimed of a table's counts as rows. The proof is in proofs/Sums.
use Rattle.std.specs.Prelude.{ℕ, ◌+◌, ◌≤◌, ◌≡◌, List}
use Rattle.model.specs.Counts.{count_at, rows_of}
use Rattle.model.specs.State.{State, waiting}
use Rattle.traffic.specs.Rows.{entry}

-- of a table in range
pub record RowsAgree (s : State) : Type 0 where
  -- T-05: "Sent is delivered plus lost plus those waiting, for each pair", of all 16 rows
  pub sums : rows_of (count_at s.sent) ≡ rows_of (λ a b. count_at s.delivered a b + count_at s.lost a b + waiting s.queue a b)
  -- a count and how many wait are read from their rows
  pub count : (l : List ℕ) (a b : ℕ) → 1 ≤ a → a ≤ 16 → 1 ≤ b → b ≤ 16 → entry (rows_of (count_at l)) a b ≡ count_at l a b
  pub waits : (a b : ℕ) → 1 ≤ a → a ≤ 16 → 1 ≤ b → b ≤ 16 → entry (rows_of (waiting s.queue)) a b ≡ waiting s.queue a b
