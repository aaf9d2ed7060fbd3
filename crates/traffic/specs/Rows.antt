-- T-05: counts in 16 rows of 16, the most that a count may be, and the sum of a pair. The model has the counts, their rows and their range.
use Rattle.std.specs.Prelude.{ℕ, ◌+◌, ◌-◌, Bool, ◌&&◌, List, [], eqb, leb, get_or, set}
use Rattle.model.specs.Counts.{sender_at, receiver_at, count_at}
use Rattle.model.specs.Limits.{queue_limit, traffic_end}
use Rattle.model.specs.Pick.{pick}
use Rattle.model.specs.Range.{is_node, is_pair}
use Rattle.model.specs.State.{counts_in_range}

-- the count from a to b in rows, where both are 1 to 16
abbrev pub entry : List (List ℕ) → ℕ → ℕ → ℕ
entry w a b = get_or (get_or w (a - 1) []) (b - 1) 0

-- one more there
abbrev pub raised : List (List ℕ) → ℕ → ℕ → List (List ℕ)
raised w a b = set w (a - 1) (set (get_or w (a - 1) []) (b - 1) (entry w a b + 1))

-- one more from a to b, where both are 1 to 16; else none more
unfoldable pub one_more_in : List (List ℕ) → ℕ → ℕ → List (List ℕ)
one_more_in w a b = pick (is_node 16 a && is_node 16 b) (raised w a b) w

-- how many of the 64 places hold a message where w are said to wait
unfoldable pub used_of : ℕ → ℕ
used_of w = pick (leb w queue_limit) w queue_limit

-- T-05, the most that the count at place k may be: "a count that stands for no pair of its n cabinets is 0, and no count is above 33,554,430"
unfoldable pub most_at : ℕ → ℕ → ℕ
most_at n k = pick (is_pair n (sender_at k) (receiver_at k)) traffic_end 0

-- all three of a table's counts are in range
abbrev pub all_in_range : ℕ → List ℕ → List ℕ → List ℕ → Bool
all_in_range n sent delivered lost = counts_in_range n sent && counts_in_range n delivered && counts_in_range n lost

-- T-05: "Sent is delivered plus lost plus those waiting", from a to b; those waiting in rows
abbrev pub adding : List ℕ → List ℕ → List ℕ → List (List ℕ) → ℕ → ℕ → Bool
adding sent delivered lost w a b = eqb (count_at sent a b) (count_at delivered a b + count_at lost a b + entry w a b)
