-- The alphabet by its places, as code finds an event: for the n of T-01, without walking a list.
use Rattle.std.specs.Prelude.{ℕ, ◌+◌, ◌-◌, ◌*◌, ◌/◌, ◌%◌, ◌≤◌, ◌<◌, ◌≡◌, eqb, ltb, length, get_or, List}
use Rattle.model.specs.Pick.{pick}
use Rattle.model.specs.declared.Event.{Event}
use Rattle.model.specs.declared.Event.TheVariants.{Crash, Recover, Check, Timeout, Tick, Expire, Finish, Deliver, Lose}
use Rattle.short_lists_text.specs.Lists.{only_task, alphabet}

-- how many events the alphabet has
abbrev pub size_of : ℕ → ℕ
size_of n = length (alphabet n)

-- its event i, from 0 on
unfoldable pub event_at : ℕ → ℕ → Event
event_at n i = get_or (alphabet n) i (Crash 0)

-- the event of one node with tag 0x10 + k, for k up to 6
unfoldable pub single : ℕ → ℕ → Event
single k i =
    pick (eqb k 0) (Crash i)
    (pick (eqb k 1) (Recover i)
    (pick (eqb k 2) (Check i)
    (pick (eqb k 3) (Timeout i)
    (pick (eqb k 4) (Tick i)
    (pick (eqb k 5) (Expire i)
    (Finish i (record { number = only_task })))))))

-- of the pairs (1,2), (1,3) and so on to (n,n-1), pair p from 0 on: its sender, and its receiver
abbrev pub sender : ℕ → ℕ → ℕ
sender n p = p / (n - 1) + 1

unfoldable pub receiver : ℕ → ℕ → ℕ
receiver n p = pick (ltb (p % (n - 1) + 1) (sender n p)) (p % (n - 1) + 1) (p % (n - 1) + 1 + 1)

abbrev pub pair_count : ℕ → ℕ
pair_count n = n * (n - 1)

-- seven events of a node, and two of a pair
abbrev pub event_count : ℕ → ℕ
event_count n = 7 * n + 2 * pair_count n

-- event i from 0 on
unfoldable pub event_by : ℕ → ℕ → Event
event_by n i =
    pick (ltb i (7 * n)) (single (i / n) (i % n + 1))
    (pick (ltb (i - 7 * n) (pair_count n)) (Deliver (sender n (i - 7 * n)) (receiver n (i - 7 * n)))
    (Lose (sender n (i - 7 * n - pair_count n)) (receiver n (i - 7 * n - pair_count n))))

-- for 1, 2 and 3 nodes this is the alphabet
pub record ByPlace : Type 0 where
  pub size : (n : ℕ) → 1 ≤ n → n ≤ 3 → size_of n ≡ event_count n
  pub event : (n i : ℕ) → 1 ≤ n → n ≤ 3 → i < event_count n → event_at n i ≡ event_by n i

-- es has the events of n nodes at its start, in order
pub record Holds (n : ℕ) (es : List Event) : Type 0 where
  pub long : length es ≡ 33
  pub each : (i : ℕ) → i < size_of n → get_or es i (Crash 0) ≡ event_at n i
