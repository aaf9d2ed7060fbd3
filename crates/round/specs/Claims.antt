-- What is claimed of the round, of a turn and of schedules (02, T-09). The proofs are in proofs/.
use Rattle.std.specs.Prelude.{ℕ, ◌+◌, ◌-◌, ◌*◌, ◌≤◌, ◌<◌, true, false, ◌⊎◌, ◌≡◌, List, [], ◌∷◌, ◌++◌, length, drop, replicate}
use Rattle.model.specs.Limits.{node_limit}
use Rattle.model.specs.Counts.{count_at, one_more}
use Rattle.model.specs.Node.{is_down}
use Rattle.model.specs.Range.{PairRule, TwoPairs, LeftOut}
use Rattle.model.specs.State.{State, start_by, node_at, waits, oldest, without_oldest, waiting, in_range}
use Rattle.model.specs.Step.{refused, accepted, step, run_from, run_by}
use Rattle.model.specs.Claims.{Accepts, RunHolds}
use Rattle.model.specs.declared.Limits.{Limits}
use Rattle.model.specs.declared.Status.TheVariants.{Normal}
use Rattle.model.specs.declared.Message.{Message}
use Rattle.model.specs.declared.Mark.{Mark}
use Rattle.model.specs.declared.Event.{Event}
use Rattle.model.specs.declared.Event.TheVariants.{Deliver}
use Rattle.round.specs.Order.{pair, is_in_round, round_size, next_pair, later, Before}
use Rattle.round.specs.Turn.{event_of, turn_refused, turn_accepted, turn_at, table_after, done_in}
use Rattle.round.specs.Schedule.{Move, turn, turns, Drive, drive, moved, driven, move_events, events_of, pair_queue, Waits, message_at, out_of, came_in, out_in, came_in_by}
use Rattle.round.specs.declared.Place.{Place}
use Rattle.round.specs.declared.Done.TheVariants.{Nothing, Delivered, Lost}

-- ── the order of the round ──

-- from p on the round comes to q, within its length
pub record ComesUp (n : ℕ) (p q : Place) : Type 0 where
  pub after : ℕ
  pub within : after < round_size n
  pub there : later n after p ≡ q

-- "It goes round the ordered pairs (1,2), (1,3) and so on to (n,n−1), and then from the start.", for every n; for n = 1 there is no pair
pub record RoundOrder : Type 0 where
  -- (1,2) is a pair of the round, and none stands before it
  pub starts : (n : ℕ) → 2 ≤ n → is_in_round n (pair 1 2) ≡ true
  pub none_before : (n : ℕ) (q : Place) → is_in_round n q ≡ true → Before q (pair 1 2) → ⊥
  -- so is (n,n−1), and none stands after it
  pub ends : (n : ℕ) → 2 ≤ n → is_in_round n (pair n (n - 1)) ≡ true
  pub none_after : (n : ℕ) (q : Place) → is_in_round n q ≡ true → Before (pair n (n - 1)) q → ⊥
  -- what comes next is a pair of the round; it stands after this one, and no other is between
  pub goes_on : (n : ℕ) (p : Place) → is_in_round n p ≡ true → is_in_round n (next_pair n p) ≡ true
  pub in_order : (n : ℕ) (p : Place) → is_in_round n p ≡ true → (p ≡ pair n (n - 1) → ⊥) → Before p (next_pair n p)
  pub none_between : (n : ℕ) (p q : Place) → is_in_round n p ≡ true → is_in_round n q ≡ true → (p ≡ pair n (n - 1) → ⊥) → Before p q → Before q (next_pair n p) → ⊥
  -- "and then from the start"
  pub from_the_start : (n : ℕ) → 2 ≤ n → next_pair n (pair n (n - 1)) ≡ pair 1 2
  -- so from any pair on each pair comes up in n × (n − 1) turns, and once (`RoundOfTheCable.places`: a turn is at the next pair)
  pub comes_up : (n : ℕ) (p q : Place) → is_in_round n p ≡ true → is_in_round n q ≡ true → ComesUp n p q
  pub once : (n : ℕ) (p : Place) (j k : ℕ) → is_in_round n p ≡ true → j < round_size n → k < round_size n → later n j p ≡ later n k p → j ≡ k

-- ── a turn ──

-- "a table in range and a pair of the round"
pub record AtPair (s : State) (p : Place) : Type 0 where
  pub in_range_lem : in_range s ≡ true
  pub in_round : is_in_round s.n p ≡ true

-- the table without the oldest message from a to b, which counts as lost; all else of it stays
abbrev pub with_loss : State → ℕ → ℕ → State
with_loss s a b = record {
  rule = s.rule;
  n = s.n;
  limits = s.limits;
  nodes = s.nodes;
  queue = without_oldest a b s.queue;
  sent = s.sent;
  delivered = s.delivered;
  lost = one_more s.lost a b;
}

-- all of a turn, on any table and at any place
pub record TurnRules : Type 0 where
  -- a table that is not in range meets 1, whatever the place
  pub not_in_range : (s : State) (p : Place) → in_range s ≡ false → turn_at s p ≡ turn_refused 1
  -- "With n = 1 a turn does nothing", whatever the place, which stays
  pub alone : (s : State) (p : Place) → in_range s ≡ true → s.n ≡ 1 → turn_at s p ≡ turn_accepted s p Nothing
  -- "else a place in the round that is no such pair meets 7."
  pub no_pair : (s : State) (p : Place) → in_range s ≡ true → (s.n ≡ 1 → ⊥) → is_in_round s.n p ≡ false → turn_at s p ≡ turn_refused 7
  -- and it is refused by nothing else
  pub numbers : (s : State) (p : Place) (r : ℕ) → turn_at s p ≡ turn_refused r → (r ≡ 1) ⊎ (r ≡ 7)
  -- "with no message it does nothing"
  pub no_message_lem : (s : State) (a b : ℕ) → AtPair s (pair a b) → waits a b s.queue ≡ false → turn_at s (pair a b) ≡ turn_accepted s (next_pair s.n (pair a b)) Nothing
  -- "with a Down receiver it loses the oldest"
  pub down : (s : State) (a b : ℕ) → AtPair s (pair a b) → waits a b s.queue ≡ true → is_down (node_at s b).status ≡ true
      → turn_at s (pair a b) ≡ turn_accepted (with_loss s a b) (next_pair s.n (pair a b)) Lost
  -- "else it delivers it."
  pub delivers : (s : State) (a b : ℕ) (u : State) (k : Mark) → AtPair s (pair a b) → step s (Deliver a b) ≡ accepted u k
      → turn_at s (pair a b) ≡ turn_accepted u (next_pair s.n (pair a b)) Delivered
  -- "A delivery that meets 12, 13 or 17 becomes a loss.", and counts as lost alone
  pub becomes_loss : (s : State) (a b r : ℕ) → AtPair s (pair a b) → (r ≡ 12) ⊎ ((r ≡ 13) ⊎ (r ≡ 17)) → step s (Deliver a b) ≡ refused r
      → turn_at s (pair a b) ≡ turn_accepted (with_loss s a b) (next_pair s.n (pair a b)) Lost
  -- there is no other case: the delivery of a waiting message to a node that is not Down is accepted, or meets 12, 13 or 17
  pub no_other : (s : State) (a b r : ℕ) → AtPair s (pair a b) → waits a b s.queue ≡ true → is_down (node_at s b).status ≡ false → step s (Deliver a b) ≡ refused r
      → (r ≡ 12) ⊎ ((r ≡ 13) ⊎ (r ≡ 17))
  -- So a turn at a pair with a waiting message always takes one out, the oldest, and leaves the others of the pair as they were. (What the delivery makes node b send, if anything, goes from b.)
  pub takes_oldest : (s : State) (a b : ℕ) → AtPair s (pair a b) → waits a b s.queue ≡ true
      → pair_queue s.queue a b ≡ oldest a b s.queue ∷ pair_queue (table_after s (turn_at s (pair a b))).queue a b
  -- its event takes one out; and the event of a turn is accepted
  pub takes_one : (s : State) (p : Place) → AtPair s p → waits p.sender p.receiver s.queue ≡ true
      → out_of p.sender p.receiver s (event_of p (done_in (turn_at s p))) ≡ 1
  pub accepts : (s : State) (p : Place) (e : Event) → event_of p (done_in (turn_at s p)) ≡ e ∷ [] → Accepts s e

-- ── schedules ──

-- a turn is its event, if it has one, and a schedule a list of events, from any table and place
pub record ScheduleIsRun : Type 0 where
  pub move : (d : Drive) (m : Move) → (moved d m).table ≡ run_from d.table (move_events d m)
  pub schedule : (d : Drive) (ms : List Move) → (driven d ms).table ≡ run_from d.table (events_of d ms)
  -- and the events of a beginning of a schedule are a beginning of its events
  pub beginning : (d : Drive) (ms ns : List Move) → events_of d (ms ++ ns) ≡ events_of d ms ++ events_of (driven d ms) ns

-- ── one message followed ──

-- Of any list of events, from any table: the messages of a pair leave in the order in which they came. Messages may be equal.
pub record OldestFirst : Type 0 where
  -- of a pair as many wait as T-05 counts, and the first of them is the oldest
  pub size : (q : List Message) (a b : ℕ) → length (pair_queue q a b) ≡ waiting q a b
  pub first : (q : List Message) (a b : ℕ) → message_at q a b 0 ≡ oldest a b q
  -- Of those that waited and those that came in, in this order, as many as went out are gone, from the first on, and the others wait.
  pub queue : (s : State) (es : List Event) (a b : ℕ) → pair_queue (run_from s es).queue a b ≡ drop (out_of a b s es) (pair_queue s.queue a b ++ came_in a b s es)
  -- So one with k older ones is gone where more than k went out. Where not, it waits, with that many fewer older ones, and is the same message: all its seven fields are equal.
  pub same : (s : State) (es : List Event) (a b k : ℕ) → Waits s.queue a b k → out_of a b s es ≤ k
      → Waits (run_from s es).queue a b (k - out_of a b s es) × (message_at (run_from s es).queue a b (k - out_of a b s es) ≡ message_at s.queue a b k)
  -- and how many went out can be read off the table's own counts (T-05)
  pub counted : (s : State) (es : List Event) (a b : ℕ) → 1 ≤ a → a ≤ node_limit → 1 ≤ b → b ≤ node_limit
      → count_at (run_from s es).delivered a b + count_at (run_from s es).lost a b ≡ count_at s.delivered a b + count_at s.lost a b + out_of a b s es

-- ── the claim ──

-- "Proved from a table in range and a pair of the round, where each later turn gets the place that the last turn left, and each turn or event the table left before it": of every
-- schedule ms, with any events between its turns, refused ones too. a, b and k say which message of the table s is meant.
pub record RoundOfTheCable : Type 0 where
  -- "a message with k older ones of its own pair is no longer waiting after (k + 1) × n × (n − 1) turns": more than k messages of its pair went out, from the oldest on;
  pub goes_out : (s : State) (p : Place) (a b k : ℕ) (ms : List Move) → AtPair s p → Waits s.queue a b k
      → (k + 1) * round_size s.n ≤ turns ms → k < out_in a b (drive s p) ms
  -- so all that wait of its pair then stood after it, or came in since, and not all of these need wait
  pub gone : (s : State) (p : Place) (a b k : ℕ) (ms : List Move) → AtPair s p → Waits s.queue a b k → (k + 1) * round_size s.n ≤ turns ms
      → pair_queue (driven (drive s p) ms).table.queue a b
      ≡ drop (out_in a b (drive s p) ms - (k + 1)) (drop (k + 1) (pair_queue s.queue a b) ++ came_in_by a b (drive s p) ms)
  -- and by the table's own counts more than k messages of the pair were delivered or lost since
  pub counted : (s : State) (p : Place) (a b k : ℕ) (ms : List Move) → AtPair s p → Waits s.queue a b k → (k + 1) * round_size s.n ≤ turns ms
      → count_at s.delivered a b + count_at s.lost a b + k < count_at (driven (drive s p) ms).table.delivered a b + count_at (driven (drive s p) ms).table.lost a b
  -- as long as no more than k of its pair went out, it waits and is the same message, field by field
  pub same : (s : State) (p : Place) (a b k : ℕ) (ms : List Move) → Waits s.queue a b k → out_in a b (drive s p) ms ≤ k
      → Waits (driven (drive s p) ms).table.queue a b (k - out_in a b (drive s p) ms)
      × (message_at (driven (drive s p) ms).table.queue a b (k - out_in a b (drive s p) ms) ≡ message_at s.queue a b k)
  -- The number of turns cannot be lower: where the round has just passed the pair of a and b, and no events come between the turns, no more than k messages of the pair go out in
  -- one turn less.
  pub sharp : (s : State) (a b k : ℕ) → AtPair s (pair a b) → out_in a b (drive s (next_pair s.n (pair a b))) (replicate ((k + 1) * round_size s.n - 1) turn) ≤ k
  -- Every later table is in range and every later place a pair of the round, so that no turn is refused and what is said above holds of messages that come in later too; and each turn
  -- is at the pair after that of the last turn.
  pub stays : (s : State) (p : Place) (ms : List Move) → AtPair s p → AtPair (driven (drive s p) ms).table (driven (drive s p) ms).place
  pub places : (s : State) (p : Place) (ms : List Move) → AtPair s p → (driven (drive s p) ms).place ≡ later s.n (turns ms) p

-- ── demand 3 and all else that holds of runs, of the driver's runs ──

-- the table after a schedule from the starting table of n nodes with the limits l, first at the place p, and the events of that schedule
abbrev pub table_by : PairRule → ℕ → Limits → Place → List Move → State
table_by r n l p ms = (driven (drive (start_by r n l) p) ms).table

abbrev pub events_by : PairRule → ℕ → Limits → Place → List Move → List Event
events_by r n l p ms = events_of (drive (start_by r n l) p) ms

-- of every schedule, from any place
pub record DriverHolds (r : PairRule) (n : ℕ) (l : Limits) : Type 0 where
  -- its turns are events of a run: the table after it is that of the run of its events (and those before it, of beginnings of them: `ScheduleIsRun.beginning`)
  pub is_run : (p : Place) (ms : List Move) → table_by r n l p ms ≡ run_by r n l (events_by r n l p ms)
  -- of which, as of every list of events, all this holds: demand 3, where in the list each task comes from, the traffic, full peals (T-10), and the range
  pub holds : RunHolds r n l
  -- So its tables are in range, no turn on them meets 1, and no event 17, which leaves 12 and 13 for a delivery that becomes a loss;
  pub in_range_lem : (p : Place) (ms : List Move) → in_range (table_by r n l p ms) ≡ true
  pub never_one : (p : Place) (ms : List Move) (q : Place) → turn_at (table_by r n l p ms) q ≡ turn_refused 1 → ⊥
  pub never_seventeen : (p : Place) (ms : List Move) (e : Event) → step (table_by r n l p ms) e ≡ refused 17 → ⊥
  -- and nodes that are Normal in them with the same group have the same coordinator and the same task
  pub agree : (p : Place) (ms : List Move) (i j : ℕ) → 1 ≤ i → i ≤ n → 1 ≤ j → j ≤ n
      → (node_at (table_by r n l p ms) i).status ≡ Normal → (node_at (table_by r n l p ms) j).status ≡ Normal
      → (node_at (table_by r n l p ms) i).group.number ≡ (node_at (table_by r n l p ms) j).group.number
      → ((node_at (table_by r n l p ms) i).coordinator ≡ (node_at (table_by r n l p ms) j).coordinator) × ((node_at (table_by r n l p ms) i).task.number ≡ (node_at (table_by r n l p ms) j).task.number)

-- for which tables, as `TowerAndStand` (model/specs/Claims) has it of runs
pub record DriverRuns : Type 0 where
  pub any_limits : (n : ℕ) (l : Limits) → l.nodes ≤ 16 → l.messages ≤ 64 → 1 ≤ n → n ≤ l.nodes → DriverHolds LeftOut n l
  pub for_tower : (n : ℕ) → 1 ≤ n → n ≤ 16 → DriverHolds TwoPairs n (record { nodes = 16; messages = 64 })
  pub for_stand : (n : ℕ) → 1 ≤ n → n ≤ 4 → DriverHolds TwoPairs n (record { nodes = 4; messages = 12 })
