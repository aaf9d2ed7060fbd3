-- The table of document 01 as a state: n nodes, the limits of T-08, the waiting messages in the order sent and the counts of T-05, and beside them whether the rule of the two pairs
-- is left out, which is no part of a table; and what the code's table means as a state.
use Rattle.std.specs.Prelude.{ℕ, zero, suc, ◌+◌, ◌-◌, Bool, true, false, not, ◌&&◌, ◌||◌, List, [], ◌∷◌, eqb, leb, length, get_or, replicate}
use Rattle.model.specs.Pick.{pick}
use Rattle.model.specs.Limits.{node_limit, queue_limit}
use Rattle.model.specs.Counts.{count_places, count_at, one_more, no_counts, one}
use Rattle.model.specs.Range.{PairRule, TwoPairs, pair_rule, is_within_tower, node_in_range, message_in_range, count_in_range}
use Rattle.model.specs.declared.Limits.{Limits}
use Rattle.model.specs.declared.Status.TheVariants.{Down}
use Rattle.model.specs.declared.Activity.TheVariants.{Idle}
use Rattle.model.specs.declared.Node.{Node}
use Rattle.model.specs.declared.Message.{Message}
use Rattle.model.specs.declared.Table.{Table}

pub record State : Type 0 where
  -- T-08: whether its range has the rule of the two pairs. That of every table of the code has it (`view`); no event looks at it otherwise, and none changes it.
  pub rule : PairRule
  pub n : ℕ
  -- T-08: "its two limits are part of the table's starting data"
  pub limits : Limits
  pub nodes : List Node
  pub queue : List Message
  -- T-05: "how many messages were sent, delivered and lost"
  pub sent : List ℕ
  pub delivered : List ℕ
  pub lost : List ℕ

-- "Down and idle, every number 0, every set empty"
abbrev pub starting_node : Node
starting_node = record {
  status = Down;
  counter = 0;
  group = record { number = 0 };
  coordinator = 0;
  task = record { number = 0 };
  members = 0;
  last = record { number = 0 };
  activity = Idle;
}

-- "Starting table: all Down and idle, every number 0, every set empty, no messages." Its starting data are n and, by T-08, the limits.
abbrev pub start_by : PairRule → ℕ → Limits → State
start_by r n l = record { rule = r; n = n; limits = l; nodes = replicate n starting_node; queue = []; sent = no_counts; delivered = no_counts; lost = no_counts }

-- that of the machine
abbrev pub start : ℕ → Limits → State
start n l = start_by TwoPairs n l

-- "n from 1 to 16", and by T-08 to the table's own limit of nodes instead of 16
abbrev pub is_count : ℕ → ℕ → Bool
is_count limit n = leb 1 n && leb n limit

-- 6: "n outside 1 to 16", and by T-08 outside 1 to the table's own limit of nodes
abbrev pub wrong_count : ℕ → ℕ → Bool
wrong_count limit n = not (is_count limit n)

-- the record of node i, where i is 1 to n; place 0 reads node 1's record, as the numbers start at 1
abbrev pub node_at : State → ℕ → Node
node_at s i = get_or s.nodes (i - 1) starting_node

-- a message that is none: no kind, no numbers
abbrev pub no_message : Message
no_message = record {
  sender = 0;
  receiver = 0;
  kind = 0;
  call = record { number = 0 };
  group = record { number = 0 };
  task = record { number = 0 };
  yes = false;
}

-- ── the queue ──

-- a message from a to b
abbrev pub goes : ℕ → ℕ → Message → Bool
goes a b m = eqb m.sender a && eqb m.receiver b

-- whether a message from a to b waits
unfoldable pub waits : ℕ → ℕ → List Message → Bool
waits a b [] = false
waits a b (m ∷ ms) = goes a b m || waits a b ms

-- "the oldest message from a to b"
unfoldable pub oldest : ℕ → ℕ → List Message → Message
oldest a b [] = no_message
oldest a b (m ∷ ms) = pick (goes a b m) m (oldest a b ms)

-- the queue when "that message is taken out"
unfoldable pub without_oldest : ℕ → ℕ → List Message → List Message
without_oldest a b [] = []
without_oldest a b (m ∷ ms) = pick (goes a b m) ms (m ∷ without_oldest a b ms)

-- how many messages of the queue pass a test
unfoldable pub how_many : (Message → Bool) → List Message → ℕ
how_many f [] = 0
how_many f (m ∷ ms) = one (f m) + how_many f ms

-- how many of its messages go from a to b
abbrev pub waiting : List Message → ℕ → ℕ → ℕ
waiting q a b = how_many (goes a b) q

-- its messages counted by pair, where their senders and receivers are 1 to 16
unfoldable pub counts_of : List Message → List ℕ
counts_of [] = no_counts
counts_of (m ∷ ms) = one_more (counts_of ms) m.sender m.receiver

-- a table of n nodes with the limits l, and with messages whose senders and receivers are 1 to 16, in which all that was sent still waits
abbrev pub all_waiting_by : PairRule → ℕ → Limits → List Node → List Message → State
all_waiting_by r n l cs q = record { rule = r; n = n; limits = l; nodes = cs; queue = q; sent = counts_of q; delivered = no_counts; lost = no_counts }

abbrev pub all_waiting : ℕ → Limits → List Node → List Message → State
all_waiting n l cs q = all_waiting_by TwoPairs n l cs q

-- the table with its counts set aside: as if nothing had been delivered or lost
abbrev pub counts_aside : State → State
counts_aside s = all_waiting_by s.rule s.n s.limits s.nodes s.queue

-- ── in range ──

-- f holds of every element with its number, counted from k
unfoldable pub every : {A : Type 0} → (ℕ → A → Bool) → ℕ → List A → Bool
every f k [] = true
every f k (x ∷ xs) = f k x && every f (k + 1) xs

-- f holds of each number from 1 to k
unfoldable pub up_to : ℕ → (ℕ → Bool) → Bool
up_to zero f = true
up_to (suc k) f = up_to k f && f (suc k)

-- T-05: "Sent is delivered plus lost plus those waiting", from a to b
abbrev pub adds_up : State → ℕ → ℕ → Bool
adds_up s a b = eqb (count_at s.sent a b) (count_at s.delivered a b + count_at s.lost a b + waiting s.queue a b)

-- 01: "A table is in range when all numbers are as above ..", of its n nodes and the waiting messages, by the table's own limits l
abbrev pub base_in_range : Limits → ℕ → List Node → List Message → Bool
base_in_range l n cs q =
    is_count l.nodes n
    && eqb (length cs) n
    && leb (length q) l.messages
    && every (node_in_range n) 1 cs
    && every (λ k. message_in_range n) 1 q

-- 16 rows of 16 counts, each of them in range
unfoldable pub counts_in_range : ℕ → List ℕ → Bool
counts_in_range n l = eqb (length l) count_places && every (count_in_range n) 0 l

-- T-05: "A table is in range only if that holds", for a and b from 1 to n (of a and a it says 0 = 0, as no message in range goes there), "a count that stands for no pair of its n cabinets is 0, and no count is above 33,554,430."
unfoldable pub traffic_in_range : State → Bool
traffic_in_range s =
    counts_in_range s.n s.sent
    && counts_in_range s.n s.delivered
    && counts_in_range s.n s.lost
    && up_to s.n (λ a. up_to s.n (λ b. adds_up s a b))

-- in range: by T-08, by 01, and by T-05. The rule of the two pairs is a conjunct by itself. Where it is left out, what is asked of the limits is that they are "not above the
-- tower's"; where it is not, that follows from it.
unfoldable pub in_range : State → Bool
in_range s =
    pair_rule s.rule s.limits
    && (is_within_tower s.limits && (base_in_range s.limits s.n s.nodes s.queue && traffic_in_range s))

-- ── the code's table ──

-- the first k elements of a list; past its end stands d
unfoldable pub first_of : {A : Type 0} → ℕ → A → List A → List A
first_of zero d l = []
first_of (suc k) d [] = d ∷ first_of k d []
first_of (suc k) d (x ∷ l) = x ∷ first_of k d l

-- What a table means: n and its limits, its first n records, its first `waiting` places, and all its counts. Nothing else of it is looked at. Where it says that there are more than it
-- has records or places, n or the number of waiting messages is out of range.
abbrev pub view : Table → State
view t = record {
  rule = TwoPairs;
  n = t.n;
  limits = t.limits;
  nodes = first_of t.n starting_node t.nodes;
  queue = first_of t.waiting no_message t.messages;
  sent = t.sent;
  delivered = t.delivered;
  lost = t.lost;
}

-- The table of a state; whether the rule of the two pairs is left out is not in it. Nothing of it is free: past its n records stands the starting record, and past its waiting messages none.
abbrev pub table_of : State → Table
table_of s = record {
  n = s.n;
  limits = s.limits;
  nodes = first_of node_limit starting_node s.nodes;
  messages = first_of queue_limit no_message s.queue;
  waiting = length s.queue;
  sent = s.sent;
  delivered = s.delivered;
  lost = s.lost;
}
