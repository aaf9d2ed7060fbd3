-- The step: the table of grounds, the effect of an event, and runs.
use Rattle.std.specs.Prelude.{ℕ, ◌-◌, Bool, true, false, not, ◌&&◌, List, [], ◌∷◌, ◌++◌, eqb, ltb, length, set, Option, None, Some}
use Rattle.model.specs.Grounds.{Ground, ground, judged}
use Rattle.model.specs.Limits.{counter_end, call_end, traffic_end}
use Rattle.model.specs.Counts.{count_at, one_more}
use Rattle.model.specs.Node.{is_down, is_idle, is_waiting, is_collecting, has_open_call}
use Rattle.model.specs.Procedures.{stays}
use Rattle.model.specs.React.{leads, react}
use Rattle.model.specs.Range.{PairRule, is_node, is_pair, is_given_task, is_full_peal, is_at_most_half}
use Rattle.model.specs.State.{State, start_by, start, node_at, waits, oldest, without_oldest, counts_aside, in_range}
use Rattle.model.specs.declared.Limits.{Limits}
use Rattle.model.specs.declared.Status.{Status}
use Rattle.model.specs.declared.Activity.{Activity}
use Rattle.model.specs.declared.Node.{Node}
use Rattle.model.specs.declared.Message.{Message}
use Rattle.model.specs.declared.Mark.{Mark}
use Rattle.model.specs.declared.Mark.TheVariants.{Plain, Recovers, Merges}
use Rattle.model.specs.declared.Reaction.{Reaction}
use Rattle.model.specs.declared.Input.{Input}
use Rattle.model.specs.declared.Event.{Event}
use Rattle.model.specs.declared.Event.TheVariants.{Crash, Recover, Check, Timeout, Tick, Expire, Finish, Deliver, Lose}

-- ── what an event is about ──

-- the event's node; "for deliver, the receiver", and for lose too, whose record stays as it is
abbrev pub actor : Event → ℕ
actor (Crash i) = i
actor (Recover i) = i
actor (Check i) = i
actor (Timeout i) = i
actor (Tick i) = i
actor (Expire i) = i
actor (Finish i t) = i
actor (Deliver a b) = b
actor (Lose a b) = b

-- whether it is a lose, of which no node is told anything
abbrev pub is_lose : Event → Bool
is_lose (Crash i) = false
is_lose (Recover i) = false
is_lose (Check i) = false
is_lose (Timeout i) = false
is_lose (Tick i) = false
is_lose (Expire i) = false
is_lose (Finish i t) = false
is_lose (Deliver a b) = false
is_lose (Lose a b) = true

-- what the event's node does, where the event is accepted
unfoldable pub reaction_to : State → Event → Reaction
reaction_to s (Crash i) = react s.n i (node_at s i) Input.Crash
reaction_to s (Recover i) = react s.n i (node_at s i) Input.Recover
reaction_to s (Check i) = react s.n i (node_at s i) Input.Check
reaction_to s (Timeout i) = react s.n i (node_at s i) Input.Timeout
reaction_to s (Tick i) = react s.n i (node_at s i) Input.Tick
reaction_to s (Expire i) = react s.n i (node_at s i) Input.Expire
reaction_to s (Finish i t) = react s.n i (node_at s i) (Input.Finish t)
-- "deliver a b: that message is taken out and acted on"
reaction_to s (Deliver a b) = react s.n b (node_at s b) (Input.Receive (oldest a b s.queue))
-- "lose a b: the oldest message from a to b vanishes"
reaction_to s (Lose a b) = stays (node_at s b)

-- the messages that wait once the event's own is taken out
unfoldable pub remaining : State → Event → List Message
remaining s (Crash i) = s.queue
remaining s (Recover i) = s.queue
remaining s (Check i) = s.queue
remaining s (Timeout i) = s.queue
remaining s (Tick i) = s.queue
remaining s (Expire i) = s.queue
remaining s (Finish i t) = s.queue
remaining s (Deliver a b) = without_oldest a b s.queue
remaining s (Lose a b) = without_oldest a b s.queue

abbrev pub sent : Option Message → List Message
sent None = []
sent (Some m) = m ∷ []

-- T-05: the counts with what is sent, with what the event delivers, and with what it loses
abbrev pub with_sent : List ℕ → Option Message → List ℕ
with_sent l None = l
with_sent l (Some m) = one_more l m.sender m.receiver

abbrev pub with_delivered : List ℕ → Event → List ℕ
with_delivered l (Crash i) = l
with_delivered l (Recover i) = l
with_delivered l (Check i) = l
with_delivered l (Timeout i) = l
with_delivered l (Tick i) = l
with_delivered l (Expire i) = l
with_delivered l (Finish i t) = l
with_delivered l (Deliver a b) = one_more l a b
with_delivered l (Lose a b) = l

abbrev pub with_lost : List ℕ → Event → List ℕ
with_lost l (Crash i) = l
with_lost l (Recover i) = l
with_lost l (Check i) = l
with_lost l (Timeout i) = l
with_lost l (Tick i) = l
with_lost l (Expire i) = l
with_lost l (Finish i t) = l
with_lost l (Deliver a b) = l
with_lost l (Lose a b) = one_more l a b

-- the state after an accepted event: one record stored, the message of a deliver or lose out, at most one message in, and both counted
unfoldable pub effect : State → Event → State
effect s e = record {
  rule = s.rule;
  n = s.n;
  limits = s.limits;
  nodes = set s.nodes (actor e - 1) (reaction_to s e).node;
  queue = remaining s e ++ sent (reaction_to s e).outgoing;
  sent = with_sent s.sent (reaction_to s e).outgoing;
  delivered = with_delivered s.delivered e;
  lost = with_lost s.lost e;
}

-- ── "Where each refusal is met" ──

-- 7: "cabinet outside 1 to n, or sender equals receiver"
abbrev pub wrong_number : ℕ → Event → Bool
wrong_number n (Crash i) = not (is_node n i)
wrong_number n (Recover i) = not (is_node n i)
wrong_number n (Check i) = not (is_node n i)
wrong_number n (Timeout i) = not (is_node n i)
wrong_number n (Tick i) = not (is_node n i)
wrong_number n (Expire i) = not (is_node n i)
wrong_number n (Finish i t) = not (is_node n i)
wrong_number n (Deliver a b) = not (is_pair n a b)
wrong_number n (Lose a b) = not (is_pair n a b)

-- 8: "finish task outside 100 to 65,535"
abbrev pub wrong_task : Event → Bool
wrong_task (Crash i) = false
wrong_task (Recover i) = false
wrong_task (Check i) = false
wrong_task (Timeout i) = false
wrong_task (Tick i) = false
wrong_task (Expire i) = false
wrong_task (Finish i t) = not (is_given_task t.number)
wrong_task (Deliver a b) = false
wrong_task (Lose a b) = false

-- 9: "recover: not Down; all others but lose: cabinet (for deliver, the receiver) Down", by the status of the event's node
abbrev pub wrong_status : Status → Event → Bool
wrong_status s (Crash i) = is_down s
wrong_status s (Recover i) = not (is_down s)
wrong_status s (Check i) = is_down s
wrong_status s (Timeout i) = is_down s
wrong_status s (Tick i) = is_down s
wrong_status s (Expire i) = is_down s
wrong_status s (Finish i t) = is_down s
wrong_status s (Deliver a b) = is_down s
wrong_status s (Lose a b) = false

-- 10: "check, timeout: not idle; tick: not waiting; expire: no open call; finish: not collecting", by the activity of the event's node
abbrev pub wrong_activity : Activity → Event → Bool
wrong_activity a (Crash i) = false
wrong_activity a (Recover i) = false
wrong_activity a (Check i) = not (is_idle a)
wrong_activity a (Timeout i) = not (is_idle a)
wrong_activity a (Tick i) = not (is_waiting a)
wrong_activity a (Expire i) = not (has_open_call a)
wrong_activity a (Finish i t) = not (is_collecting a)
wrong_activity a (Deliver x y) = false
wrong_activity a (Lose x y) = false

-- 18: "check at a cabinet that is not Normal or not its own coordinator", by the record of the event's node
abbrev pub not_coordinator : Node → Event → Bool
not_coordinator c (Crash i) = false
not_coordinator c (Recover i) = false
not_coordinator c (Check i) = not (leads i c)
not_coordinator c (Timeout i) = false
not_coordinator c (Tick i) = false
not_coordinator c (Expire i) = false
not_coordinator c (Finish i t) = false
not_coordinator c (Deliver a b) = false
not_coordinator c (Lose a b) = false

-- 19: "finish with task 100 to 199 when twice the members plus two is at most n", by n and the record of the event's node. In a run its members
-- are those whose acceptance it has received since its merge: "The count is of acceptances: a member that has left since still counts" (PealsByMajority.of_acceptances)
abbrev pub no_majority : ℕ → Node → Event → Bool
no_majority n c (Crash i) = false
no_majority n c (Recover i) = false
no_majority n c (Check i) = false
no_majority n c (Timeout i) = false
no_majority n c (Tick i) = false
no_majority n c (Expire i) = false
no_majority n c (Finish i t) = is_full_peal t.number && is_at_most_half n c.members
no_majority n c (Deliver a b) = false
no_majority n c (Lose a b) = false

-- 11: "deliver, lose: no message from a to b"
abbrev pub none_waits : List Message → Event → Bool
none_waits q (Crash i) = false
none_waits q (Recover i) = false
none_waits q (Check i) = false
none_waits q (Timeout i) = false
none_waits q (Tick i) = false
none_waits q (Expire i) = false
none_waits q (Finish i t) = false
none_waits q (Deliver a b) = not (waits a b q)
none_waits q (Lose a b) = not (waits a b q)

-- 12: "a new group is needed": the node recovers or merges
abbrev pub forms : Mark → Bool
forms Plain = false
forms Recovers = true
forms Merges = true

-- 13: "a call is needed": what is sent is no reply
abbrev pub is_calling : Option Message → Bool
is_calling None = false
is_calling (Some m) = ltb m.kind 6

-- 14: "a message is needed"
abbrev pub is_sending : Option Message → Bool
is_sending None = false
is_sending (Some m) = true

-- 17: "a message must be sent and its pair's sent count is 33,554,430", by the counts of what was sent
abbrev pub pair_at_end : List ℕ → Option Message → Bool
pair_at_end l None = false
pair_at_end l (Some m) = eqb (count_at l m.sender m.receiver) traffic_end

-- the table of grounds of an event, in 01's order, with 02's 17, 18 and 19 in their places; 2 to 6 are the list's, 15 is the listing's, 16 and 22 those of the programs of T-01 and T-12, and 20 and 21 a controller's (T-11)
unfoldable pub grounds : State → Event → List Ground
grounds s e =
    -- "table handed in": "not in range"
    ground 1 (not (in_range s))
    -- "event's numbers"
    ∷ ground 7 (wrong_number s.n e)
    ∷ ground 8 (wrong_task e)
    -- "state"
    ∷ ground 9 (wrong_status (node_at s (actor e)).status e)
    ∷ ground 10 (wrong_activity (node_at s (actor e)).activity e)
    -- T-06: "in the state place directly after 10"
    ∷ ground 18 (not_coordinator (node_at s (actor e)) e)
    -- T-10: "in the state place after 18"
    ∷ ground 19 (no_majority s.n (node_at s (actor e)) e)
    ∷ ground 11 (none_waits s.queue e)
    -- "ends of ranges"
    ∷ ground 12 (forms (reaction_to s e).mark && eqb (node_at s (actor e)).counter counter_end)
    ∷ ground 13 (is_calling (reaction_to s e).outgoing && eqb (node_at s (actor e)).last.number call_end)
    -- "(a delivered one is already out)"; T-08: "Grounds 1, 6 and 14 read the table's own limits."
    ∷ ground 14 (is_sending (reaction_to s e).outgoing && eqb (length (remaining s e)) s.limits.messages)
    -- T-05: "after 14"
    ∷ ground 17 (pair_at_end s.sent (reaction_to s e).outgoing)
    ∷ []

-- ── the step ──

-- an event is refused with a ground's number, or accepted: the state after it, and the mark for the history
pub data Result : Type 0 where
  refused : ℕ → Result
  accepted : State → Mark → Result

-- by the first ground that applies (`judged` of Grounds)
unfoldable pub step : State → Event → Result
step s e = judged refused (accepted (effect s e) (reaction_to s e).mark) (grounds s e)

-- "A refusal returns its number; table .. stay[s] as [it] stood when it was met."
abbrev pub kept : State → Result → State
kept s (refused r) = s
kept s (accepted u k) = u

-- a result with its state changed by f
abbrev pub changed : (State → State) → Result → Result
changed f (refused r) = refused r
changed f (accepted u k) = accepted (f u) k

-- a result with the counts of T-05 set aside
abbrev pub aside : Result → Result
aside x = changed counts_aside x

abbrev pub after : State → Event → State
after s e = kept s (step s e)

-- ── "A run is a list of these nine events, of any length, refused ones included, from the starting table of any n.", and by T-08 of the tower or the stand;
-- with the rule of the two pairs left out, of any limits not above the tower's ──

unfoldable pub run_from : State → List Event → State
run_from s [] = s
run_from s (e ∷ es) = run_from (after s e) es

-- the table after a run, with the rule of the two pairs or without it
abbrev pub run_by : PairRule → ℕ → Limits → List Event → State
run_by r n l es = run_from (start_by r n l) es

-- and of the machine, which keeps it
abbrev pub run : ℕ → Limits → List Event → State
run n l es = run_from (start n l) es
