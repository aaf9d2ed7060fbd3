-- What is claimed of T-13, "It comes to rest". The proofs are in proofs/.
use Rattle.std.specs.Prelude.{ℕ, ◌*◌, ◌≤◌, ◌<◌, true, false, ◌≡◌, List, length, replicate}
use Rattle.model.specs.Range.{PairRule, TwoPairs, LeftOut}
use Rattle.model.specs.State.{State, in_range}
use Rattle.model.specs.Step.{accepted, step, run_by}
use Rattle.model.specs.Traffic.{accepted_from}
use Rattle.model.specs.declared.Limits.{Limits}
use Rattle.model.specs.declared.Mark.{Mark}
use Rattle.model.specs.declared.Event.{Event}
use Rattle.round.specs.Order.{is_in_round, round_size, first_pair}
use Rattle.round.specs.Turn.{turn_at, table_after, done_in, event_of}
use Rattle.round.specs.Claims.{AtPair}
use Rattle.round.specs.Schedule.{Move, turn, Drive, drive, driven}
use Rattle.round.specs.declared.Place.{Place}
use Rattle.round.specs.declared.Done.TheVariants.{Nothing}
use Rattle.rest_bound.specs.Quiet.{quiet, all_quiet}
use Rattle.rest_bound.specs.Potential.{potential, suited, rest_bound}
use Rattle.rest_bound.specs.Turns.{count_of, turns_counted, quiet_moves, accepted_by, queue_empty, turns_to_rest}

-- ── events ──

-- the potential, on any table that is suited
pub record PotentialFalls : Type 0 where
  -- what it needs of a table, every event keeps, whatever the event
  pub keeps : (s : State) (e : Event) (u : State) (k : Mark) → suited s ≡ true → step s e ≡ accepted u k → suited u ≡ true
  -- there each accepted deliver, lose, expire, tick and finish lowers it,
  pub falls : (s : State) (e : Event) (u : State) (k : Mark) → suited s ≡ true → quiet e ≡ true → step s e ≡ accepted u k → potential u < potential s
  -- so of a list of these no more can be accepted than it says,
  pub at_most : (s : State) (es : List Event) → suited s ≡ true → all_quiet es ≡ true → accepted_from s es ≤ potential s
  -- and if the table is in range too, it is at most this
  pub bounded : (s : State) → in_range s ≡ true → suited s ≡ true → potential s ≤ rest_bound s.n (length s.queue)

-- "From any table that a run can reach": after every list of events es from the starting table of n nodes with the limits l; fs are the events behind it
pub record RunRests (r : PairRule) (n : ℕ) (l : Limits) : Type 0 where
  pub suits : (es : List Event) → suited (run_by r n l es) ≡ true
  -- "further events can be accepted if all of them are deliver, lose, expire, tick or finish": at most so many, by n and by how many messages wait,
  pub rests : (es fs : List Event) → all_quiet fs ≡ true → accepted_from (run_by r n l es) fs ≤ rest_bound n (length (run_by r n l es).queue)
  -- and so at most as many as where the queue is full
  pub full : (es fs : List Event) → all_quiet fs ≡ true → accepted_from (run_by r n l es) fs ≤ rest_bound n l.messages

-- T-13's claim
pub record ComesToRest : Type 0 where
  -- "This holds for the tower and the stand"
  pub for_tower : (n : ℕ) → 1 ≤ n → n ≤ 16 → RunRests TwoPairs n (record { nodes = 16; messages = 64 })
  pub for_stand : (n : ℕ) → 1 ≤ n → n ≤ 4 → RunRests TwoPairs n (record { nodes = 4; messages = 12 })
  -- and, over the steps with the rule of the two pairs left out, for any limits not above the tower's. (The limits are written out here, as in model/specs/Claims, so that the claim
  -- can be read without a definition of them.)
  pub any_limits : (n : ℕ) (l : Limits) → l.nodes ≤ 16 → l.messages ≤ 64 → 1 ≤ n → n ≤ l.nodes → RunRests LeftOut n l
  -- "at most 20,000 further events can be accepted", in the tower and on the stand;
  pub tower_asked : (n : ℕ) → 1 ≤ n → n ≤ 16 → (es fs : List Event) → all_quiet fs ≡ true → accepted_from (run_by TwoPairs n (record { nodes = 16; messages = 64 }) es) fs ≤ 20000
  pub stand_asked : (n : ℕ) → 1 ≤ n → n ≤ 4 → (es fs : List Event) → all_quiet fs ≡ true → accepted_from (run_by TwoPairs n (record { nodes = 4; messages = 12 }) es) fs ≤ 20000
  -- what is shown: at most 5,344, with any limits, and at most 312
  pub any_shown : (n : ℕ) (l : Limits) → l.nodes ≤ 16 → l.messages ≤ 64 → 1 ≤ n → n ≤ l.nodes → (es fs : List Event) → all_quiet fs ≡ true → accepted_from (run_by LeftOut n l es) fs ≤ 5344
  pub tower_shown : (n : ℕ) → 1 ≤ n → n ≤ 16 → (es fs : List Event) → all_quiet fs ≡ true → accepted_from (run_by TwoPairs n (record { nodes = 16; messages = 64 }) es) fs ≤ 5344
  pub stand_shown : (n : ℕ) → 1 ≤ n → n ≤ 4 → (es fs : List Event) → all_quiet fs ≡ true → accepted_from (run_by TwoPairs n (record { nodes = 4; messages = 12 }) es) fs ≤ 312

-- ── turns ──

-- of any turn, on any table and at any place: "only those that accept an event count"
pub record TurnCounts : Type 0 where
  -- what counts of a turn is 1 where it delivers or loses, and 0 where it does nothing or is refused
  pub counts : (s : State) (p : Place) → accepted_from s (event_of p (done_in (turn_at s p))) ≡ count_of (done_in (turn_at s p))
  -- where it does nothing it leaves the table as it was
  pub nothing : (s : State) (p : Place) → done_in (turn_at s p) ≡ Nothing → table_after s (turn_at s p) ≡ s
  -- where no message waits, every turn is such
  pub empty : (s : State) (p : Place) → queue_empty s ≡ true → done_in (turn_at s p) ≡ Nothing

-- After k turns no message waits, and after fewer some did: k is the number of turns until no message waits.
pub record RestsAfter (d : Drive) (k : ℕ) : Type 0 where
  pub empty : queue_empty (driven d (replicate k turn)).table ≡ true
  pub before : (j : ℕ) → j < k → queue_empty (driven d (replicate j turn)).table ≡ false

-- turns alone, from a table in range that is suited
pub record TurnsEnd : Type 0 where
  -- from a pair of the round on no message waits after potential × n × (n − 1) turns: of each n × (n − 1) turns one at least lowers the potential as long as a message waits
  pub within : (s : State) (p : Place) (k : ℕ) → AtPair s p → suited s ≡ true → potential s * round_size s.n ≤ k → queue_empty (driven (drive s p) (replicate k turn)).table ≡ true
  -- so from the first pair on, and with one node too, the definition of their number says what it is meant to say
  pub first : (s : State) → in_range s ≡ true → suited s ≡ true → RestsAfter (drive s first_pair) (turns_to_rest s)

-- The driver on the tables of runs: after every list of events es from the starting table.
pub record DriverRests (r : PairRule) (n : ℕ) (l : Limits) : Type 0 where
  -- of a schedule from any place on, in which other events than turns are quiet, at most so many events are accepted, those of turns and those between them,
  pub accepts : (es : List Event) (p : Place) (ms : List Move) → quiet_moves ms ≡ true → accepted_by (drive (run_by r n l es) p) ms ≤ rest_bound n (length (run_by r n l es).queue)
  -- so no more turns count;
  pub turns_count : (es : List Event) (p : Place) (ms : List Move) → quiet_moves ms ≡ true → turns_counted (drive (run_by r n l es) p) ms ≤ rest_bound n (length (run_by r n l es).queue)
  -- and once as many are accepted as the potential says, which is within the bound, no message waits
  pub empty_after : (es : List Event) (p : Place) (ms : List Move) → quiet_moves ms ≡ true
      → potential (run_by r n l es) ≤ accepted_by (drive (run_by r n l es) p) ms → queue_empty (driven (drive (run_by r n l es) p) ms).table ≡ true
  -- Once no message waits, every further turn does nothing.
  pub unchanged : (es : List Event) (p : Place) (k : ℕ) → queue_empty (run_by r n l es) ≡ true → (driven (drive (run_by r n l es) p) (replicate k turn)).table ≡ run_by r n l es
  -- With turns alone, from a pair of the round on, no message waits after bound × n × (n − 1) turns. With n = 1 none ever waits.
  pub turns : (es : List Event) (p : Place) (k : ℕ) → is_in_round n p ≡ true → rest_bound n (length (run_by r n l es).queue) * round_size n ≤ k
      → queue_empty (driven (drive (run_by r n l es) p) (replicate k turn)).table ≡ true
  pub alone : (es : List Event) → n ≡ 1 → queue_empty (run_by r n l es) ≡ true
  -- so from the first pair on turns_to_rest is the number of turns until no message waits; that it is within the bound it has by its definition
  pub first : (es : List Event) → RestsAfter (drive (run_by r n l es) first_pair) (turns_to_rest (run_by r n l es))
  pub within : (es : List Event) → turns_to_rest (run_by r n l es) ≤ rest_bound n (length (run_by r n l es).queue) * round_size n

-- for which tables, as `ComesToRest` has it
pub record DriverComesToRest : Type 0 where
  pub for_tower : (n : ℕ) → 1 ≤ n → n ≤ 16 → DriverRests TwoPairs n (record { nodes = 16; messages = 64 })
  pub for_stand : (n : ℕ) → 1 ≤ n → n ≤ 4 → DriverRests TwoPairs n (record { nodes = 4; messages = 12 })
  pub any_limits : (n : ℕ) (l : Limits) → l.nodes ≤ 16 → l.messages ≤ 64 → 1 ≤ n → n ≤ l.nodes → DriverRests LeftOut n l
