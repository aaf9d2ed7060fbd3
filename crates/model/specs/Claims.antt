-- What is claimed of the definitions. The proofs are in proofs/.
use Rattle.std.specs.Prelude.{ℕ, ◌+◌, ◌-◌, ◌*◌, ◌^◌, ◌≤◌, ◌<◌, Bool, true, false, not, ◌&&◌, ◌||◌, ◌≡◌, ◌⊎◌, List, [], ◌∷◌, ◌++◌, map, eqb, leb, ltb, length, get_or, set, Option, None, Some}
use Rattle.node_set.specs.NodeSet.{has, with, without, highest, count}
use Rattle.model.specs.Pick.{pick}
use Rattle.model.specs.Limits.{node_limit, counter_end, call_end, traffic_end}
use Rattle.model.specs.Counts.{pair_place, sender_at, receiver_at, count_at, one_more, total}
use Rattle.model.specs.Node.{is_down, is_election, is_normal, is_active, is_idle, is_collecting, group_of, owner_of, next_call, asks, calls, readies, replies}
use Rattle.model.specs.Recovery.{with_status, with_counter, with_group, with_coordinator, with_members, with_task, recovery_records, stopped, recovered}
use Rattle.model.specs.Procedures.{next, invite_next, hand_next, forward_next}
use Rattle.model.specs.React.{checked, expired, resumed}
use Rattle.model.specs.Range.{PairRule, TwoPairs, LeftOut, pair_rule, is_tower_or_stand, is_within_tower, is_node, is_pair, is_given_task, carries_group}
use Rattle.model.specs.State.{State, starting_node, start_by, node_at, goes, waits, oldest, without_oldest, waiting, counts_aside, in_range}
use Rattle.model.specs.Grounds.{Ground, ground, judged, NoneApplies, leaving_out}
use Rattle.model.specs.Step.{actor, reaction_to, remaining, sent, with_sent, with_delivered, with_lost, effect, forms, grounds, Result, refused, accepted, step, changed, aside, after, run_by, run}
use Rattle.model.specs.Traffic.{sends, delivers, loses, tally, sent_in, delivered_in, lost_in, sends_any, delivers_any, loses_any}
use Rattle.model.specs.History.{NotFormed, NoTask, Task, newest, coming, history_by, history}
use Rattle.model.specs.Answers.{result_number}
use Rattle.model.specs.declared.Limits.{Limits}
use Rattle.model.specs.declared.Status.{Status}
use Rattle.model.specs.declared.Status.TheVariants.{Election, Reorganization, Normal}
use Rattle.model.specs.declared.Activity.{Activity}
use Rattle.model.specs.declared.Activity.TheVariants.{Idle, Asking, Waiting, Inviting, Collecting, Handing, Contacting, Forwarding, Accepting}
use Rattle.model.specs.declared.Node.{Node}
use Rattle.model.specs.declared.CallNo.{CallNo}
use Rattle.model.specs.declared.GroupNo.{GroupNo}
use Rattle.model.specs.declared.TaskNo.{TaskNo}
use Rattle.model.specs.declared.Message.{Message}
use Rattle.model.specs.declared.Mark.{Mark}
use Rattle.model.specs.declared.Mark.TheVariants.{Plain, Recovers}
use Rattle.model.specs.declared.Event.{Event}
use Rattle.model.specs.declared.Event.TheVariants.{Crash, Recover, Check, Timeout, Tick, Expire, Finish, Deliver, Lose}

-- ── demand 3 ──

-- no message of the queue holds group g
abbrev pub Unsent : ℕ → List Message → Type 0
Unsent g [] = Unit {0}
Unsent g (m ∷ ms) = (m.group.number ≡ g → ⊥) × Unsent g ms

-- the table does not hold g "as a group number, in a cabinet (Down ones too) or a waiting message"
pub record Lacks (s : State) (g : ℕ) : Type 0 where
  pub in_nodes : (j : ℕ) → 1 ≤ j → j ≤ s.n → (node_at s j).group.number ≡ g → ⊥
  pub in_messages : Unsent g s.queue

-- P holds of the group of each message that carries one
abbrev pub EachGroup : (ℕ → Type 0) → List Message → Type 0
EachGroup P [] = Unit {0}
EachGroup P (m ∷ ms) = (carries_group m.kind ≡ true → P m.group.number) × EachGroup P ms

-- Demand 3 ("What a run fixes", and the agreement of groups that it is for), of every list of events from the starting table of n nodes with the limits l, over the steps
-- with or without the rule of the two pairs. `es` is a beginning of the list, `fs` what comes next, and `e` an event after them that is accepted with the mark k and leaves
-- the table u. It is proved for n up to 16 and all l; `TowerAndStand` below says for which of them a table starts.
pub record RunFixes (r : PairRule) (n : ℕ) (l : Limits) : Type 0 where
  -- two nodes in Reorganization or Normal with the same group have the same coordinator (002, Assertion 3 a)
  pub same_coordinator : (es : List Event) (i j : ℕ) → 1 ≤ i → i ≤ n → 1 ≤ j → j ≤ n
      → is_active (node_at (run_by r n l es) i).status ≡ true → is_active (node_at (run_by r n l es) j).status ≡ true
      → (node_at (run_by r n l es) i).group.number ≡ (node_at (run_by r n l es) j).group.number
      → (node_at (run_by r n l es) i).coordinator ≡ (node_at (run_by r n l es) j).coordinator
  -- and two Normal ones the same task (002, Assertion 3 b)
  pub same_task : (es : List Event) (i j : ℕ) → 1 ≤ i → i ≤ n → 1 ≤ j → j ≤ n
      → (node_at (run_by r n l es) i).status ≡ Normal → (node_at (run_by r n l es) j).status ≡ Normal
      → (node_at (run_by r n l es) i).group.number ≡ (node_at (run_by r n l es) j).group.number
      → (node_at (run_by r n l es) i).task.number ≡ (node_at (run_by r n l es) j).task.number
  -- "The book's task is the one the list fixed": a Normal node's task, in any table of the run, is the task that the whole list's history has for its group
  pub fixed_task : (es fs : List Event) (i : ℕ) → 1 ≤ i → i ≤ n → (node_at (run_by r n l es) i).status ≡ Normal
      → (history_by r n l (es ++ fs)).entry (node_at (run_by r n l es) i).group.number ≡ Task (node_at (run_by r n l es) i).task.number
  -- "A new group gets the book's number"
  pub numbered : (es : List Event) (e : Event) (u : State) (k : Mark) → step (run_by r n l es) e ≡ accepted u k → forms k ≡ true
      → (node_at u (actor e)).group.number ≡ coming (history_by r n l es) (actor e)
  -- "and no table from the starting one to the one just before that event holds it": `es` is any beginning of the list before e
  pub fresh : (es fs : List Event) (e : Event) (u : State) (k : Mark) → step (run_by r n l (es ++ fs)) e ≡ accepted u k → forms k ≡ true
      → Lacks (run_by r n l es) (coming (history_by r n l (es ++ fs)) (actor e))
  -- and no other group is new: where no group is formed, the table before held each node's group, in a node or a message
  pub borrowed : (es : List Event) (e : Event) (u : State) (k : Mark) → step (run_by r n l es) e ≡ accepted u k → forms k ≡ false
      → (j : ℕ) → 1 ≤ j → j ≤ n → Lacks (run_by r n l es) (node_at u j).group.number → ⊥
  -- and where a message carries a group that the table before did not hold, it is the one that the event forms
  pub borrowed_messages : (es : List Event) (e : Event) (u : State) (k : Mark) → step (run_by r n l es) e ≡ accepted u k
      → EachGroup (λ g. Lacks (run_by r n l es) g → (forms k ≡ true) × (g ≡ coming (history_by r n l es) (actor e))) u.queue
  -- "no group ever gets a second task": a group that is formed was not formed before, and a group that gets its task by a finish has none
  pub formed_once : (es : List Event) (e : Event) (u : State) (k : Mark) → step (run_by r n l es) e ≡ accepted u k → forms k ≡ true
      → (history_by r n l es).entry (coming (history_by r n l es) (actor e)) ≡ NotFormed
  pub given_once : (es : List Event) (i : ℕ) (t : TaskNo) (u : State) (k : Mark) → step (run_by r n l es) (Finish i t) ≡ accepted u k
      → (history_by r n l es).entry (newest (history_by r n l es) i) ≡ NoTask
  -- "the group that i formed last" is the one that the table has for i
  pub own_group : (es : List Event) (i : ℕ) (t : TaskNo) (u : State) (k : Mark) → step (run_by r n l es) (Finish i t) ≡ accepted u k
      → (node_at (run_by r n l es) i).group.number ≡ newest (history_by r n l es) i
  -- and a task once given stays
  pub lasts : (es fs : List Event) (g t : ℕ) → (history_by r n l es).entry g ≡ Task t → (history_by r n l (es ++ fs)).entry g ≡ Task t

-- ── demand 3 by the list itself: where in it a task comes from ──

-- after the events es, e is a recovery that forms the group g, and t is the solo task
pub record Recovering (r : PairRule) (n : ℕ) (l : Limits) (es : List Event) (e : Event) (g t : ℕ) : Type 0 where
  pub table : State
  pub recovers : step (run_by r n l es) e ≡ accepted table Recovers
  pub group : (node_at table (actor e)).group.number ≡ g
  pub solo : actor e ≡ t

-- after the events es, e is an accepted finish of a node in the group g, with the task t
pub record Finishing (r : PairRule) (n : ℕ) (l : Limits) (es : List Event) (e : Event) (g t : ℕ) : Type 0 where
  pub node : ℕ
  pub task : TaskNo
  pub table : State
  pub event : e ≡ Finish node task
  pub finishes : step (run_by r n l es) e ≡ accepted table Plain
  pub group : (node_at (run_by r n l es) node).group.number ≡ g
  pub number : task.number ≡ t

-- an event of the list es fixes t as the task of g
pub record Fixes (r : PairRule) (n : ℕ) (l : Limits) (es : List Event) (g t : ℕ) : Type 0 where
  pub before : List Event
  pub event : Event
  pub behind : List Event
  pub whole : es ≡ before ++ (event ∷ behind)
  pub how : Recovering r n l before event g t ⊎ Finishing r n l before event g t

pub record TaskFromList (r : PairRule) (n : ℕ) (l : Limits) : Type 0 where
  -- a Normal node's task is the solo task of a recovery in the list that formed its group, or else the task of an accepted finish in the list for that group
  pub task : (es : List Event) (i : ℕ) → 1 ≤ i → i ≤ n → (node_at (run_by r n l es) i).status ≡ Normal
      → Fixes r n l es (node_at (run_by r n l es) i).group.number (node_at (run_by r n l es) i).task.number
  -- the history's tasks are those that an event of the list fixes, and no other
  pub entry_fixed : (es : List Event) (g t : ℕ) → (history_by r n l es).entry g ≡ Task t → Fixes r n l es g t
  pub fixed_entry : (es : List Event) (g t : ℕ) → Fixes r n l es g t → (history_by r n l es).entry g ≡ Task t
  -- and there is one such event only
  pub one : (es : List Event) (g t u : ℕ) (a : Fixes r n l es g t) (b : Fixes r n l es g u) → a.before ≡ b.before
  pub same : (es : List Event) (g t u : ℕ) → Fixes r n l es g t → Fixes r n l es g u → t ≡ u

-- ── the range ──

-- what may start a table: "limits not above the tower's", which are one of the two pairs unless that rule is left out, and n from 1 to the limit of nodes
pub record MayStart (r : PairRule) (n : ℕ) (l : Limits) : Type 0 where
  pub within : is_within_tower l ≡ true
  pub pair : pair_rule r l ≡ true
  pub low : 1 ≤ n
  pub high : n ≤ l.nodes

pub record StaysInRange : Type 0 where
  -- the starting table is in range
  pub starts : (r : PairRule) (n : ℕ) (l : Limits) → MayStart r n l → in_range (start_by r n l) ≡ true
  -- an accepted event leaves a table in range (one that is not in range meets ground 1)
  pub keeps : (s : State) (e : Event) (u : State) (k : Mark) → step s e ≡ accepted u k → in_range u ≡ true
  -- so every table of a run is in range, and no run meets ground 1
  pub runs : (r : PairRule) (n : ℕ) (l : Limits) → MayStart r n l → (es : List Event) → in_range (run_by r n l es) ≡ true
  pub never_one : (r : PairRule) (n : ℕ) (l : Limits) → MayStart r n l → (es : List Event) (e : Event) → step (run_by r n l es) e ≡ refused 1 → ⊥

-- ── the traffic (T-05) ──

-- of every list of events from the starting table of n nodes with the limits l
pub record TrafficAgrees (r : PairRule) (n : ℕ) (l : Limits) : Type 0 where
  -- "The records equal the counts taken from the accepted events of the run", each of the 16 rows of 16
  pub sent_counted : (es : List Event) (a b : ℕ) → 1 ≤ a → a ≤ node_limit → 1 ≤ b → b ≤ node_limit → count_at (run_by r n l es).sent a b ≡ sent_in r n l es a b
  pub delivered_counted : (es : List Event) (a b : ℕ) → 1 ≤ a → a ≤ node_limit → 1 ≤ b → b ≤ node_limit → count_at (run_by r n l es).delivered a b ≡ delivered_in r n l es a b
  pub lost_counted : (es : List Event) (a b : ℕ) → 1 ≤ a → a ≤ node_limit → 1 ≤ b → b ≤ node_limit → count_at (run_by r n l es).lost a b ≡ lost_in r n l es a b
  -- so a total is how many messages the accepted events sent, and how many accepted deliver and lose events there are
  pub sent_total : (es : List Event) → total (run_by r n l es).sent ≡ tally sends_any (start_by r n l) es
  pub delivered_total : (es : List Event) → total (run_by r n l es).delivered ≡ tally delivers_any (start_by r n l) es
  pub lost_total : (es : List Event) → total (run_by r n l es).lost ≡ tally loses_any (start_by r n l) es
  -- "Sent is delivered plus lost plus those waiting, for each pair."
  pub adds_up : (es : List Event) (a b : ℕ) → 1 ≤ a → a ≤ n → 1 ≤ b → b ≤ n
      → count_at (run_by r n l es).sent a b ≡ count_at (run_by r n l es).delivered a b + count_at (run_by r n l es).lost a b + waiting (run_by r n l es).queue a b
  -- "From the starting table no event ever meets the new ground"
  pub never_seventeen : (es : List Event) (e : Event) → step (run_by r n l es) e ≡ refused 17 → ⊥

-- ── T-10: full peals in a run. 02's numbers are written out, so that the claims can be read without Limits and Range ──

-- "Tasks 100 to 199 are full peals"
abbrev pub FullPeal : ℕ → Type 0
FullPeal t = (100 ≤ t) × (t ≤ 199)

-- "the coordinator and its members together are more than half of n", by the record of the node that is told to finish: it counts itself and each node of its member set. In a
-- run a node that collects is its own coordinator (PealsByMajority.by_coordinator).
abbrev pub MoreThanHalf : ℕ → Node → Type 0
MoreThanHalf n c = n < 2 * (1 + count c.members)

-- 01: "4: if in Election, its own coordinator and in that group, the sender joins the members.": the delivery of the oldest message from a to b is such an acceptance
abbrev pub is_acceptance : State → ℕ → ℕ → Bool
is_acceptance s a b =
    eqb (oldest a b s.queue).kind 4
    && (is_election (node_at s b).status && eqb (node_at s b).coordinator b && eqb (node_at s b).group.number (oldest a b s.queue).group.number)

-- the set m, and the sender where the event is an acceptance
abbrev pub with_acceptance : State → Event → ℕ → ℕ
with_acceptance s (Crash i) m = m
with_acceptance s (Recover i) m = m
with_acceptance s (Check i) m = m
with_acceptance s (Timeout i) m = m
with_acceptance s (Tick i) m = m
with_acceptance s (Expire i) m = m
with_acceptance s (Finish i t) m = m
with_acceptance s (Deliver a b) m = pick (is_acceptance s a b) (with m a) m
with_acceptance s (Lose a b) m = m

-- the nodes whose acceptances node i has counted, m before the event e: none where i forms a group in it, and else its sender too where it is an
-- acceptance that i takes
abbrev pub counted_next : ℕ → State → ℕ → Event → Result → ℕ
counted_next i s m e (refused r) = m
counted_next i s m e (accepted u k) = pick (eqb (actor e) i) (pick (forms k) 0 (with_acceptance s e m)) m

-- fed the events as the history is
unfoldable pub acceptances_from : ℕ → State → ℕ → List Event → ℕ
acceptances_from i s m [] = m
acceptances_from i s m (e ∷ es) = acceptances_from i (after s e) (counted_next i s m e (step s e)) es

abbrev pub acceptances : PairRule → ℕ → Limits → List Event → ℕ → ℕ
acceptances r n l es i = acceptances_from i (start_by r n l) 0 es

-- after a beginning of the list es, a finish with the task t by the coordinator of the group g is accepted; just before it, that node counts more than half of n
pub record PealStarted (r : PairRule) (n : ℕ) (l : Limits) (es : List Event) (g t : ℕ) : Type 0 where
  pub before : List Event
  pub node : ℕ
  pub task : TaskNo
  pub behind : List Event
  pub table : State
  pub whole : es ≡ before ++ (Finish node task ∷ behind)
  pub number : task.number ≡ t
  pub finishes : step (run_by r n l before) (Finish node task) ≡ accepted table Plain
  pub group : (node_at (run_by r n l before) node).group.number ≡ g
  pub coordinator : (node_at (run_by r n l before) node).coordinator ≡ node
  pub majority : MoreThanHalf n (node_at (run_by r n l before) node)

-- node k is counted by node i in the table s: it is i itself, or in its member set
abbrev pub IsCountedBy : State → ℕ → ℕ → Type 0
IsCountedBy s i k = (k ≡ i) ⊎ (has (node_at s i).members k ≡ true)

-- a node that is counted by i in s and by j in u
pub record CountedByBoth (n : ℕ) (s : State) (i : ℕ) (u : State) (j : ℕ) : Type 0 where
  pub node : ℕ
  pub low : 1 ≤ node
  pub high : node ≤ n
  pub first : IsCountedBy s i node
  pub second : IsCountedBy u j node

-- Of every list of events from the starting table of n nodes with the limits l. "the smaller part of a split tower should not start one": what is claimed is that whoever
-- starts one counts more than half of n, and so that two coordinators which start one count a common node. Not claimed is that no two start one: "The count is of
-- acceptances: a member that has left since still counts, so nothing is said about two coordinators that both counted it." (`counted_twice` of Cases is a run in which two do.)
-- It is proved for n up to 16 and all l.
pub record PealsByMajority (r : PairRule) (n : ℕ) (l : Limits) : Type 0 where
  -- "A finish with such a task passes only if the coordinator and its members together are more than half of n.": at each event of the list
  pub only_if : (es : List Event) (i : ℕ) (t : TaskNo) (u : State) (k : Mark) → step (run_by r n l es) (Finish i t) ≡ accepted u k → FullPeal t.number
      → MoreThanHalf n (node_at (run_by r n l es) i)
  -- and a node that can be told to finish, as it collects, is its own coordinator: so is one that is refused with 19
  pub by_coordinator : (es : List Event) (i : ℕ) → 1 ≤ i → i ≤ n → is_down (node_at (run_by r n l es) i).status ≡ false → is_collecting (node_at (run_by r n l es) i).activity ≡ true
      → (node_at (run_by r n l es) i).coordinator ≡ i
  -- a Normal node whose task is a full peal has it from such a finish in the list, for its group
  pub normal : (es : List Event) (i : ℕ) → 1 ≤ i → i ≤ n → (node_at (run_by r n l es) i).status ≡ Normal → FullPeal (node_at (run_by r n l es) i).task.number
      → PealStarted r n l es (node_at (run_by r n l es) i).group.number (node_at (run_by r n l es) i).task.number
  -- and so has every group for which the history has such a task
  pub entered : (es : List Event) (g t : ℕ) → (history_by r n l es).entry g ≡ Task t → FullPeal t → PealStarted r n l es g t
  -- two full peals that are accepted, in whatever places of lists, have a node that is counted for both
  pub share : (es fs : List Event) (i j : ℕ) (t v : TaskNo) (x y : State) (k m : Mark) → step (run_by r n l es) (Finish i t) ≡ accepted x k → FullPeal t.number
      → step (run_by r n l fs) (Finish j v) ≡ accepted y m → FullPeal v.number → CountedByBoth n (run_by r n l es) i (run_by r n l fs) j
  -- "The count is of acceptances": a node's member set is that of the nodes whose Accept it took since it last formed a group, whatever they did
  -- later
  pub of_acceptances : (es : List Event) (i : ℕ) → 1 ≤ i → i ≤ n → (node_at (run_by r n l es) i).members ≡ acceptances r n l es i

-- ── T-08: for which tables this is claimed ──

-- every run from the starting table of n nodes with the limits l: demand 3, where in the list each task comes from, the traffic, full peals (T-10), and the range
pub record RunHolds (r : PairRule) (n : ℕ) (l : Limits) : Type 0 where
  pub fixes : RunFixes r n l
  pub from_list : TaskFromList r n l
  pub traffic : TrafficAgrees r n l
  pub peals : PealsByMajority r n l
  pub in_range_lem : (es : List Event) → in_range (run_by r n l es) ≡ true
  pub never_one : (es : List Event) (e : Event) → step (run_by r n l es) e ≡ refused 1 → ⊥
  -- "its two limits are part of the table's starting data": no event changes them
  pub same_limits : (es : List Event) → (run_by r n l es).limits ≡ l

-- the table with the rule of the two pairs left out
abbrev pub left_out : State → State
left_out s = record { rule = LeftOut; n = s.n; limits = s.limits; nodes = s.nodes; queue = s.queue; sent = s.sent; delivered = s.delivered; lost = s.lost }

pub record TowerAndStand : Type 0 where
  -- "It is shown over the steps for any limits not above the tower's, with the rule of the two pairs left out."
  pub any_limits : (n : ℕ) (l : Limits) → l.nodes ≤ 16 → l.messages ≤ 64 → 1 ≤ n → n ≤ l.nodes → RunHolds LeftOut n l
  -- "Demand 3 now speaks of both": "The tower keeps 16 and 64.", and "Our practice stand has four cabinets and memory for 12 waiting messages." The numbers are written out
  -- here, so that the claim can be read without a definition of limits.
  pub for_tower : (n : ℕ) → 1 ≤ n → n ≤ 16 → RunHolds TwoPairs n (record { nodes = 16; messages = 64 })
  pub for_stand : (n : ℕ) → 1 ≤ n → n ≤ 4 → RunHolds TwoPairs n (record { nodes = 4; messages = 12 })
  -- what is shown without the rule is shown of the machine's own steps: where the limits are one of the two pairs, each event does the same with the rule and without it, and
  -- so do lists of events
  pub same_step : (s : State) (e : Event) → is_tower_or_stand s.limits ≡ true → step (left_out s) e ≡ changed left_out (step s e)
  pub same_run : (n : ℕ) (l : Limits) (es : List Event) → is_tower_or_stand l ≡ true → run_by LeftOut n l es ≡ left_out (run n l es)
  pub same_history : (n : ℕ) (l : Limits) (es : List Event) → is_tower_or_stand l ≡ true → history_by LeftOut n l es ≡ history n l es
  -- "no other pair is allowed": the table of the machine with other limits is not in range, and every event on it is refused with 1
  pub no_other : (s : State) → s.rule ≡ TwoPairs → is_tower_or_stand s.limits ≡ false → in_range s ≡ false
  pub no_other_step : (s : State) (e : Event) → s.rule ≡ TwoPairs → is_tower_or_stand s.limits ≡ false → step s e ≡ refused 1

-- of every table in range, and of every accepted event on any table; a and b are any of the 16 rows and columns
pub record TrafficRules : Type 0 where
  -- each place is that of one row and column
  pub place_row : (a b : ℕ) → 1 ≤ a → a ≤ node_limit → 1 ≤ b → b ≤ node_limit → (sender_at (pair_place a b) ≡ a) × (receiver_at (pair_place a b) ≡ b)
  pub row_place : (k : ℕ) → pair_place (sender_at k) (receiver_at k) ≡ k
  -- "no count is above 33,554,430"
  pub bounded : (s : State) → in_range s ≡ true → (a b : ℕ) → 1 ≤ a → a ≤ node_limit → 1 ≤ b → b ≤ node_limit
      → (count_at s.sent a b ≤ traffic_end) × (count_at s.delivered a b ≤ traffic_end) × (count_at s.lost a b ≤ traffic_end)
  -- "a count that stands for no pair of its n cabinets is 0"
  pub no_pair : (s : State) → in_range s ≡ true → (a b : ℕ) → 1 ≤ a → a ≤ node_limit → 1 ≤ b → b ≤ node_limit → is_pair s.n a b ≡ false
      → (count_at s.sent a b ≡ 0) × (count_at s.delivered a b ≡ 0) × (count_at s.lost a b ≡ 0)
  -- "Sent is delivered plus lost plus those waiting, for each pair. A table is in range only if that holds"
  pub sums : (s : State) → in_range s ≡ true → (a b : ℕ) → 1 ≤ a → a ≤ s.n → 1 ≤ b → b ≤ s.n
      → count_at s.sent a b ≡ count_at s.delivered a b + count_at s.lost a b + waiting s.queue a b
  -- what an accepted event counts
  pub sent_more : (s : State) (e : Event) (u : State) (k : Mark) → step s e ≡ accepted u k → (a b : ℕ) → 1 ≤ a → a ≤ node_limit → 1 ≤ b → b ≤ node_limit
      → count_at u.sent a b ≡ count_at s.sent a b + sends a b s e
  pub delivered_more : (s : State) (e : Event) (u : State) (k : Mark) → step s e ≡ accepted u k → (a b : ℕ) → 1 ≤ a → a ≤ node_limit → 1 ≤ b → b ≤ node_limit
      → count_at u.delivered a b ≡ count_at s.delivered a b + delivers a b s e
  pub lost_more : (s : State) (e : Event) (u : State) (k : Mark) → step s e ≡ accepted u k → (a b : ℕ) → 1 ≤ a → a ≤ node_limit → 1 ≤ b → b ≤ node_limit
      → count_at u.lost a b ≡ count_at s.lost a b + loses a b s e

-- no count of the list is at its end
abbrev pub BelowEnd : List ℕ → Type 0
BelowEnd l = (k : ℕ) → get_or l k 0 < traffic_end

-- 1 and 17 aside, the counts decide nothing: from a table in range in which no count of what was sent is at its end, the answer and all of the table after it but the
-- counts are the same as if nothing had been delivered or lost
abbrev pub CountsDecideNothing : Type 0
CountsDecideNothing = (s : State) (e : Event) → in_range s ≡ true → BelowEnd s.sent → aside (step s e) ≡ aside (step (counts_aside s) e)

-- ── refusals ──

-- the event is accepted
pub record Accepts (s : State) (e : Event) : Type 0 where
  pub state : State
  pub mark : Mark
  pub is : step s e ≡ accepted state mark

-- the ground of number r applies, and none before it in the list does
pub record FirstApplies (gs : List Ground) (r : ℕ) : Type 0 where
  pub before : List Ground
  pub behind : List Ground
  pub whole : gs ≡ before ++ (ground r true ∷ behind)
  pub none_before : NoneApplies before

pub record RefusesByGround : Type 0 where
  -- the order of the grounds: 01's, with 18 "directly after 10" (T-06), 19 "after 18" (T-10) and 17 "after 14" (T-05)
  pub order : (s : State) (e : Event) → map (λ g. g.number) (grounds s e) ≡ 1 ∷ 7 ∷ 8 ∷ 9 ∷ 10 ∷ 18 ∷ 19 ∷ 11 ∷ 12 ∷ 13 ∷ 14 ∷ 17 ∷ []
  -- "the first that applies is given, and none without its ground", over the table of grounds: a refusal's number is that of the first ground that applies
  pub first : (s : State) (e : Event) (r : ℕ) → step s e ≡ refused r → FirstApplies (grounds s e) r
  pub first_given : (s : State) (e : Event) (r : ℕ) → FirstApplies (grounds s e) r → step s e ≡ refused r
  -- and an event is accepted exactly where none applies
  pub none : (s : State) (e : Event) (u : State) (k : Mark) → step s e ≡ accepted u k → NoneApplies (grounds s e)
  pub none_accepts : (s : State) (e : Event) → NoneApplies (grounds s e) → Accepts s e
  -- a refusal's number is that of a ground of events: 1, 7 to 14 or 17 to 19
  pub numbers : (s : State) (e : Event) (r : ℕ) → step s e ≡ refused r → (r ≡ 1) ⊎ (((7 ≤ r) × (r ≤ 14)) ⊎ ((17 ≤ r) × (r ≤ 19)))
  -- so none has number 0, and a result of number 0 is an accepted event
  pub never_zero : (s : State) (e : Event) → step s e ≡ refused 0 → ⊥
  pub zero_accepts : (s : State) (e : Event) → result_number (step s e) ≡ 0 → Accepts s e
  -- "(a delivered one is already out)": no delivery meets 14
  pub delivery_never_full : (s : State) (a b : ℕ) → step s (Deliver a b) ≡ refused 14 → ⊥

-- ── how little a step changes ──

-- r is the queue q without its oldest message from a to b
pub record WithoutOldest (a b : ℕ) (q r : List Message) : Type 0 where
  pub before : List Message
  pub taken : Message
  pub behind : List Message
  pub whole : q ≡ before ++ (taken ∷ behind)
  pub left : r ≡ before ++ behind
  pub goes_there : goes a b taken ≡ true
  pub none_older : waits a b before ≡ false
  pub oldest_is : oldest a b q ≡ taken

-- deliver and lose take one message out, the other events none
abbrev pub TakesOut : List Message → Event → List Message → Type 0
TakesOut q (Crash i) r = r ≡ q
TakesOut q (Recover i) r = r ≡ q
TakesOut q (Check i) r = r ≡ q
TakesOut q (Timeout i) r = r ≡ q
TakesOut q (Tick i) r = r ≡ q
TakesOut q (Expire i) r = r ≡ q
TakesOut q (Finish i t) r = r ≡ q
TakesOut q (Deliver a b) r = WithoutOldest a b q r
TakesOut q (Lose a b) r = WithoutOldest a b q r

-- from s to u: one record at most, at most one message out, and at most one in, behind the others; and of the counts that of what was sent, delivered or lost
pub record ChangesLittle (s : State) (e : Event) (u : State) : Type 0 where
  pub same_n : u.n ≡ s.n
  pub same_rule : u.rule ≡ s.rule
  pub same_limits : u.limits ≡ s.limits
  pub same_length : length u.nodes ≡ length s.nodes
  pub others_kept : (j : ℕ) → 1 ≤ j → (j ≡ actor e → ⊥) → node_at u j ≡ node_at s j
  pub one_out : TakesOut s.queue e (remaining s e)
  pub one_in : u.queue ≡ remaining s e ++ sent (reaction_to s e).outgoing
  pub few : length u.queue ≤ length s.queue + 1
  pub sent_counts : u.sent ≡ with_sent s.sent (reaction_to s e).outgoing
  pub delivered_counts : u.delivered ≡ with_delivered s.delivered e
  pub lost_counts : u.lost ≡ with_lost s.lost e

pub record StepIsLocal : Type 0 where
  pub refused_nothing : (s : State) (e : Event) (r : ℕ) → step s e ≡ refused r → after s e ≡ s
  -- 01: "7 to 14 skip the event", 02, T-06: "Like 17 and any later ground of an event, it skips the event.": a run goes on as if a refused event were not in its list
  pub refused_skips : (n : ℕ) (l : Limits) (es : List Event) (e : Event) (fs : List Event) (r : ℕ) → step (run n l es) e ≡ refused r → run n l (es ++ (e ∷ fs)) ≡ run n l (es ++ fs)
  pub accepted_little : (s : State) (e : Event) (u : State) (k : Mark) → step s e ≡ accepted u k → ChangesLittle s e u

-- ── 02, T-02: higher numbers first ──

-- a message goes out, to node j
abbrev pub Sends : ℕ → Option Message → Type 0
Sends j None = ⊥
Sends j (Some m) = m.receiver ≡ j

-- a message goes out, to a node of the set s, and no node of s is above that one
abbrev pub SendsHighest : ℕ → Option Message → Type 0
SendsHighest s None = ⊥
SendsHighest s (Some m) = (has s m.receiver ≡ true) × ((k : ℕ) → has s k ≡ true → k ≤ m.receiver)

-- a message goes out, to a node above j other than i, and not to one above k
abbrev pub SendsUpward : ℕ → ℕ → ℕ → Option Message → Type 0
SendsUpward i j k None = ⊥
SendsUpward i j k (Some m) = (j < m.receiver) × (m.receiver ≤ k) × (m.receiver ≡ i → ⊥)

-- "whom now", of an inviting, handing or forwarding node; 0 for the others
abbrev pub whom_now : Activity → ℕ
whom_now Idle = 0
whom_now (Asking asked found) = 0
whom_now (Waiting ticks found) = 0
whom_now (Inviting found former now) = now
whom_now Collecting = 0
whom_now (Handing rest now) = now
whom_now Contacting = 0
whom_now (Forwarding rest now caller call) = now
whom_now (Accepting caller call) = 0

-- "whom still", of an inviting, handing or forwarding node: of the two sets of an inviting one the first, those found. None for the others.
abbrev pub whom_still : Activity → ℕ
whom_still Idle = 0
whom_still (Asking asked found) = 0
whom_still (Waiting ticks found) = 0
whom_still (Inviting found former now) = found
whom_still Collecting = 0
whom_still (Handing rest now) = rest
whom_still Contacting = 0
whom_still (Forwarding rest now caller call) = rest
whom_still (Accepting caller call) = 0

-- the other set of an inviting node, those set aside, whom it invites when none of those found is left. None for the others.
abbrev pub whom_aside : Activity → ℕ
whom_aside Idle = 0
whom_aside (Asking asked found) = 0
whom_aside (Waiting ticks found) = 0
whom_aside (Inviting found former now) = former
whom_aside Collecting = 0
whom_aside (Handing rest now) = 0
whom_aside Contacting = 0
whom_aside (Forwarding rest now caller call) = 0
whom_aside (Accepting caller call) = 0

-- each node of the set s is below j
abbrev pub Below : ℕ → ℕ → Type 0
Below s j = (k : ℕ) → has s k ≡ true → k < j

-- an event made of its node's activity a another one, b, and sent o
pub record Picked (a b : Activity) (o : Option Message) : Type 0 where
  -- if it calls one of a set now, the message goes to that one
  pub sends : 0 < whom_now b → Sends (whom_now b) o
  -- and those of the same set whom it is still to call are below; of an inviting node, those found
  pub below : Below (whom_still b) (whom_now b)
  -- and those set aside, where it was inviting and none of those found was left
  pub below_aside : (former was : ℕ) → a ≡ Inviting 0 former was → Below (whom_aside b) (whom_now b)

-- the event's node neither crashes nor recovers in it and, as it is not Normal, acts on no invitation
pub record Undisturbed (s : State) (e : Event) : Type 0 where
  pub not_down : is_down (node_at (after s e) (actor e)).status ≡ false
  pub no_recovery : (reaction_to s e).mark ≡ Recovers → ⊥
  pub not_normal : is_normal (node_at s (actor e)).status ≡ false

pub record CallOrder : Type 0 where
  -- "Whoever picks the next cabinet from a set shall now pick the highest, in inviting": from those found, and when none of them is left, from those set aside
  pub invites_found : (i : ℕ) (c : Node) (k : Mark) (found former : ℕ) → 0 < found → found < 2 ^ 16 → SendsHighest found (invite_next i c k found former).outgoing
  pub invites_aside : (i : ℕ) (c : Node) (k : Mark) (former : ℕ) → 0 < former → former < 2 ^ 16 → SendsHighest former (invite_next i c k 0 former).outgoing
  -- "forwarding"
  pub forwards : (i : ℕ) (c : Node) (rest caller : ℕ) (call : CallNo) → 0 < rest → rest < 2 ^ 16 → SendsHighest rest (forward_next i c rest caller call).outgoing
  -- "and handing."
  pub hands : (i : ℕ) (c : Node) (rest : ℕ) → 0 < rest → rest < 2 ^ 16 → SendsHighest rest (hand_next i c rest).outgoing
  -- "Asking still goes from 1 up.": of the others that are left, the lowest is asked; at a check all are left, and then those above the one that was asked, whether
  -- its call expires or is answered
  pub asks_first : (n i : ℕ) (c : Node) (k : ℕ) → 1 < n → 1 ≤ k → k ≤ n → (k ≡ i → ⊥) → SendsUpward i 0 k (checked n i c).outgoing
  pub asks_expired : (n i : ℕ) (c : Node) (asked found k : ℕ) → asked < k → k ≤ n → (k ≡ i → ⊥) → SendsUpward i asked k (expired n i c (Asking asked found)).outgoing
  pub asks_answered : (n i : ℕ) (c : Node) (y : Bool) (asked found k : ℕ) → asked < k → k ≤ n → (k ≡ i → ⊥)
      → SendsUpward i asked k (resumed n i c y (Asking asked found)).outgoing
  -- any event on any table leaves its node's activity as it was, or picks so
  pub steps : (s : State) (e : Event) → ((node_at (after s e) (actor e)).activity ≡ (node_at s (actor e)).activity)
      ⊎ Picked (node_at s (actor e)).activity (node_at (after s e) (actor e)).activity (reaction_to s e).outgoing
  -- and nobody is passed over ("each member", "the cabinets found"): whom the node was still to call, it calls now or is still to call
  pub each : (s : State) (e : Event) → Undisturbed s e → (j : ℕ) → 1 ≤ j → has (whom_still (node_at s (actor e)).activity) j ≡ true
      → (whom_now (node_at (after s e) (actor e)).activity ≡ j) ⊎ (has (whom_still (node_at (after s e) (actor e)).activity) j ≡ true)
  -- "then those set aside": not before those found
  pub each_aside : (s : State) (e : Event) → Undisturbed s e → (j : ℕ) → 1 ≤ j → has (whom_aside (node_at s (actor e)).activity) j ≡ true
      → ((whom_still (node_at s (actor e)).activity ≡ 0) × (whom_now (node_at (after s e) (actor e)).activity ≡ j))
      ⊎ (has (whom_aside (node_at (after s e) (actor e)).activity) j ≡ true)
  -- in every table of a run, those of the same set whom a node is still to call are below the one that it calls now; of an inviting node, those found
  pub runs : (n : ℕ) (l : Limits) (es : List Event) (i : ℕ) → Below (whom_still (node_at (run n l es) i).activity) (whom_now (node_at (run n l es) i).activity)

-- ── 02, T-03: an invitation that arrives twice ──

-- the delivery from a to b brings an invitation to b: the table is in range, b is not Down, and the oldest message from a to b is of kind 3 (where none waits,
-- `oldest` has kind 0)
pub record InvitationReaches (s : State) (a b : ℕ) : Type 0 where
  pub in_range_lem : in_range s ≡ true
  pub not_down : is_down (node_at s b).status ≡ false
  pub kind : (oldest a b s.queue).kind ≡ 3

-- b owns the group of that message; b holds it
abbrev pub Owns : State → ℕ → ℕ → Type 0
Owns s a b = owner_of (oldest a b s.queue).group.number ≡ b

abbrev pub Holds : State → ℕ → ℕ → Type 0
Holds s a b = (node_at s b).group.number ≡ (oldest a b s.queue).group.number

-- none of the three conditions for a plain reply holds
pub record NoPlainReply (s : State) (a b : ℕ) : Type 0 where
  pub normal : is_normal (node_at s b).status ≡ true
  pub not_owned : Owns s a b → ⊥
  pub not_held : Holds s a b → ⊥

-- "a plain reply and changes nothing else": all records are as they were; the oldest message from a to b is out, and behind the others is one reply from b to a,
-- yes, with the number of the call; since T-05 both are counted
abbrev pub with_plain_reply : State → ℕ → ℕ → State
with_plain_reply s a b = record {
  rule = s.rule;
  n = s.n;
  limits = s.limits;
  nodes = s.nodes;
  queue = without_oldest a b s.queue ++ (replies b a (oldest a b s.queue).call true ∷ []);
  sent = one_more s.sent b a;
  delivered = one_more s.delivered a b;
  lost = s.lost;
}

-- the oldest message from a to b was an invitation, and b acted on it: b is in Election in the new group, with its owner as coordinator, the last call number plus
-- one and the activity x; counter, task and members are kept; that message is out, b's call m is behind the others, and both are counted
abbrev pub with_call : State → ℕ → ℕ → Activity → Message → State
with_call s a b x m = record {
  rule = s.rule;
  n = s.n;
  limits = s.limits;
  nodes = set s.nodes (b - 1)
      (record {
        status = Election;
        counter = (node_at s b).counter;
        group = (oldest a b s.queue).group;
        coordinator = owner_of (oldest a b s.queue).group.number;
        task = (node_at s b).task;
        members = (node_at s b).members;
        last = next_call (node_at s b);
        activity = x;
      });
  queue = without_oldest a b s.queue ++ (m ∷ []);
  sent = one_more s.sent m.sender m.receiver;
  delivered = one_more s.delivered a b;
  lost = s.lost;
}

-- T-05: the count of what a sent to b is not at its end, so that another message does not meet 17
abbrev pub MaySend : State → ℕ → ℕ → Type 0
MaySend s a b = count_at s.sent a b ≡ traffic_end → ⊥

-- The delivery of an invitation to a node that is not Down, in every table in range: all of 01's kind 3, with T-03. (To a Down one it meets 9.)
pub record InvitationRules : Type 0 where
  -- 01: "3: if not Normal"
  pub not_normal : (s : State) (a b : ℕ) → InvitationReaches s a b → MaySend s b a → is_normal (node_at s b).status ≡ false → step s (Deliver a b) ≡ accepted (with_plain_reply s a b) Plain
  -- "or it owns that group"
  pub owned : (s : State) (a b : ℕ) → InvitationReaches s a b → MaySend s b a → Owns s a b → step s (Deliver a b) ≡ accepted (with_plain_reply s a b) Plain
  -- 02: "an invitation to the group a cabinet already holds": whatever its record holds beside that
  pub held : (s : State) (a b : ℕ) → InvitationReaches s a b → MaySend s b a → Holds s a b → step s (Deliver a b) ≡ accepted (with_plain_reply s a b) Plain
  -- 01: "Otherwise .. If it was its own coordinator, it forwards the invitation to each member": to the first of them
  pub forwards : (s : State) (a b : ℕ) → InvitationReaches s a b → MaySend s b (next (node_at s b).members) → NoPlainReply s a b → (node_at s b).last.number < call_end
      → (node_at s b).coordinator ≡ b → 0 < (node_at s b).members
      → step s (Deliver a b)
      ≡ accepted (with_call s a b
      (Forwarding (without (node_at s b).members (next (node_at s b).members)) (next (node_at s b).members) a (oldest a b s.queue).call)
      (calls b 3 (next (node_at s b).members) (next_call (node_at s b)) (oldest a b s.queue).group)) Plain
  -- "then it calls Accept on the new coordinator": at once where another leads it, or where it has no member
  pub accepts : (s : State) (a b : ℕ) → InvitationReaches s a b → MaySend s b (owner_of (oldest a b s.queue).group.number) → NoPlainReply s a b → (node_at s b).last.number < call_end
      → ((node_at s b).coordinator ≡ b → (node_at s b).members ≡ 0)
      → step s (Deliver a b)
      ≡ accepted (with_call s a b (Accepting a (oldest a b s.queue).call)
      (calls b 4 (owner_of (oldest a b s.queue).group.number) (next_call (node_at s b)) (oldest a b s.queue).group)) Plain
  -- 13: "a call is needed, last call number 16,777,215"
  pub calls_end : (s : State) (a b : ℕ) → InvitationReaches s a b → NoPlainReply s a b → (node_at s b).last.number ≡ call_end → step s (Deliver a b) ≡ refused 13
  -- 17: "a message must be sent and its pair's sent count is 33,554,430", of the plain reply on each of the three conditions, and of the call
  pub not_normal_end : (s : State) (a b : ℕ) → InvitationReaches s a b → is_normal (node_at s b).status ≡ false → count_at s.sent b a ≡ traffic_end → step s (Deliver a b) ≡ refused 17
  pub owned_end : (s : State) (a b : ℕ) → InvitationReaches s a b → Owns s a b → count_at s.sent b a ≡ traffic_end → step s (Deliver a b) ≡ refused 17
  pub held_end : (s : State) (a b : ℕ) → InvitationReaches s a b → Holds s a b → count_at s.sent b a ≡ traffic_end → step s (Deliver a b) ≡ refused 17
  pub forwards_end : (s : State) (a b : ℕ) → InvitationReaches s a b → NoPlainReply s a b → (node_at s b).last.number < call_end
      → (node_at s b).coordinator ≡ b → 0 < (node_at s b).members → count_at s.sent b (next (node_at s b).members) ≡ traffic_end → step s (Deliver a b) ≡ refused 17
  pub accepts_end : (s : State) (a b : ℕ) → InvitationReaches s a b → NoPlainReply s a b → (node_at s b).last.number < call_end
      → ((node_at s b).coordinator ≡ b → (node_at s b).members ≡ 0) → count_at s.sent b (owner_of (oldest a b s.queue).group.number) ≡ traffic_end
      → step s (Deliver a b) ≡ refused 17
  -- so in every run, where 17 is never met: an invitation to the group that a node holds, where the node is not Down
  pub runs : (n : ℕ) (l : Limits) (es : List Event) (a b : ℕ)
      → is_down (node_at (run n l es) b).status ≡ false → (oldest a b (run n l es).queue).kind ≡ 3 → Holds (run n l es) a b
      → run n l (es ++ (Deliver a b ∷ [])) ≡ with_plain_reply (run n l es) a b

-- ── 02, T-04: recovery as the paper prints it ──

-- the record x with these values in the fields that a recovery sets, in the order of its assignments; the last call number and the activity are x's
abbrev pub record_with : Node → Status → ℕ → GroupNo → ℕ → ℕ → TaskNo → Node
record_with x status counter group coordinator members task = record {
  status = status;
  counter = counter;
  group = group;
  coordinator = coordinator;
  task = task;
  members = members;
  last = x.last;
  activity = x.activity;
}

-- the group that node i forms when it recovers from the record x, and its solo task
abbrev pub recovered_group : ℕ → Node → GroupNo
recovered_group i x = record { number = group_of (x.counter + 1) i }

abbrev pub solo_task : ℕ → TaskNo
solo_task i = record { number = i }

-- the grounds that recover i can meet, in the order of the table of grounds
abbrev pub recovery_grounds : State → ℕ → List Ground
recovery_grounds s i =
    -- "not in range"
    ground 1 (not (in_range s))
    -- "cabinet outside 1 to n"
    ∷ ground 7 (not (is_node s.n i))
    -- "recover: not Down"
    ∷ ground 9 (not (is_down (node_at s i).status))
    -- "a new group is needed, counter 1,048,575"
    ∷ ground 12 (eqb (node_at s i).counter counter_end)
    ∷ []

-- "Handing, accepting, contacting: it recovers and nothing further of the procedure runs": whether an expire ends in a recovery
abbrev pub recovers_at_expire : Activity → Bool
recovers_at_expire Idle = false
recovers_at_expire (Asking asked found) = false
recovers_at_expire (Waiting ticks found) = false
recovers_at_expire (Inviting found former now) = false
recovers_at_expire Collecting = false
recovers_at_expire (Handing rest now) = true
recovers_at_expire Contacting = true
recovers_at_expire (Forwarding rest now caller call) = false
recovers_at_expire (Accepting caller call) = true

-- the k-th of a recovery's records, counted from 1
abbrev pub record_after : ℕ → List Node → Node
record_after k l = get_or l (k - 1) starting_node

pub record RecoveryRules : Type 0 where
  -- the eight records, field by field: status, counter, group, coordinator, members, task. "each sets that field alone in the one before", and the first in x.
  pub written_out : (i : ℕ) (x : Node) → recovery_records i x
      ≡ record_with x Election x.counter x.group x.coordinator x.members x.task
      ∷ record_with x Election (x.counter + 1) x.group x.coordinator x.members x.task
      ∷ record_with x Election (x.counter + 1) (recovered_group i x) x.coordinator x.members x.task
      ∷ record_with x Election (x.counter + 1) (recovered_group i x) i x.members x.task
      ∷ record_with x Election (x.counter + 1) (recovered_group i x) i 0 x.task
      ∷ record_with x Reorganization (x.counter + 1) (recovered_group i x) i 0 x.task
      ∷ record_with x Reorganization (x.counter + 1) (recovered_group i x) i 0 (solo_task i)
      ∷ record_with x Normal (x.counter + 1) (recovered_group i x) i 0 (solo_task i)
      ∷ []
  -- "CALL STOP" sets the activity alone
  pub stop_alone : (x : Node) → stopped x
      ≡ record { status = x.status; counter = x.counter; group = x.group; coordinator = x.coordinator; task = x.task; members = x.members; last = x.last; activity = Idle }
  -- the recovery with all nine statements of the paper in their places, from the inside out: Election, CALL STOP, counter and so on; the values are x's
  pub as_printed : (i : ℕ) (x : Node) → recovered i x
      ≡ with_status
      (with_task
      (with_status
      (with_members (with_coordinator (with_group (with_counter (stopped (with_status x Election)) (x.counter + 1)) (recovered_group i x)) i) 0)
      Reorganization)
      (solo_task i))
      Normal
  -- the record that a recovery leaves, in 01's words: "counter plus one, group from it, coordinator i, members empty, task i, Normal, idle". So it was defined before T-04.
  pub same_record : (i : ℕ) (x : Node) → recovered i x
      ≡ record { status = Normal; counter = x.counter + 1; group = recovered_group i x; coordinator = i; task = solo_task i; members = 0; last = x.last; activity = Idle }
  -- "The table after it is the same as before.": after every event in which a node recovers its record is that one, nothing is sent, and all else stays; the message of a
  -- delivery is out and counted
  pub same_table : (s : State) (e : Event) (u : State) → step s e ≡ accepted u Recovers
      → u ≡ record {
        rule = s.rule;
        n = s.n;
        limits = s.limits;
        nodes = set s.nodes (actor e - 1) (recovered (actor e) (node_at s (actor e)));
        queue = remaining s e;
        sent = s.sent;
        delivered = with_delivered s.delivered e;
        lost = with_lost s.lost e;
      }
  -- and it recovers where it did: by recover i (`refused_by`), when the call of a handing, accepting or contacting node expires, and by a no to a contacting one
  pub at_expire : (s : State) (i : ℕ) (u : State) (k : Mark) → recovers_at_expire (node_at s i).activity ≡ true → step s (Expire i) ≡ accepted u k → k ≡ Recovers
  pub at_no : (s : State) (a b : ℕ) (u : State) (k : Mark) → (node_at s b).activity ≡ Contacting → (oldest a b s.queue).kind ≡ 6
      → (oldest a b s.queue).call.number ≡ (node_at s b).last.number → (oldest a b s.queue).yes ≡ false → step s (Deliver a b) ≡ accepted u k → k ≡ Recovers
  -- "is refused as it is": recover i is refused by 1, 7, 9 and 12, in this order, and by nothing else
  pub refused_by : (s : State) (i : ℕ) → step s (Recover i) ≡ judged refused (accepted (effect s (Recover i)) Recovers) (recovery_grounds s i)
  -- "and the last is the one recover i leaves": of the record in the table, as it stands
  pub last_record : (s : State) (i : ℕ) (u : State) (k : Mark) → step s (Recover i) ≡ accepted u k → record_after 8 (recovery_records i (node_at s i)) ≡ node_at u i
  -- and the same of every recovery, of the stopped node
  pub every_recovery : (s : State) (e : Event) (u : State) → step s e ≡ accepted u Recovers
      → record_after 8 (recovery_records (actor e) (stopped (node_at s (actor e)))) ≡ node_at u (actor e)

-- ── 02, T-06: checks only by a coordinator ──

-- the other node that node i asks first: "it asks every other cabinet in turn", from 1 up
abbrev pub first_other : ℕ → ℕ
first_other i = pick (eqb i 1) 2 1

-- the grounds that check i can meet, in the order of the table of grounds
abbrev pub check_grounds : State → ℕ → List Ground
check_grounds s i =
    -- "not in range"
    ground 1 (not (in_range s))
    -- "cabinet outside 1 to n"
    ∷ ground 7 (not (is_node s.n i))
    -- "all others but lose: cabinet .. Down"
    ∷ ground 9 (is_down (node_at s i).status)
    -- "check, timeout: not idle"
    ∷ ground 10 (not (is_idle (node_at s i).activity))
    -- 02: "check at a cabinet that is not Normal or not its own coordinator, in the state place directly after 10"
    ∷ ground 18 (not (is_normal (node_at s i).status) || not (eqb (node_at s i).coordinator i))
    -- a call and a message are needed, but not with n = 1: "a call is needed, last call number 16,777,215"
    ∷ ground 13 (ltb 1 s.n && eqb (node_at s i).last.number call_end)
    -- "a message is needed, 64 wait"; by T-08, as many as the table's own limit says
    ∷ ground 14 (ltb 1 s.n && eqb (length s.queue) s.limits.messages)
    -- T-05: "a message must be sent and its pair's sent count is 33,554,430"
    ∷ ground 17 (ltb 1 s.n && eqb (count_at s.sent i (first_other i)) traffic_end)
    ∷ []

-- "it asks every other cabinet in turn with kind 1": node i asks the first, in a new call, and has found none yet; the question is behind the other messages, and counted
abbrev pub with_question : State → ℕ → State
with_question s i = record {
  rule = s.rule;
  n = s.n;
  limits = s.limits;
  nodes = set s.nodes (i - 1)
      (record {
        status = (node_at s i).status;
        counter = (node_at s i).counter;
        group = (node_at s i).group;
        coordinator = (node_at s i).coordinator;
        task = (node_at s i).task;
        members = (node_at s i).members;
        last = next_call (node_at s i);
        activity = Asking (first_other i) 0;
      });
  queue = s.queue ++ (asks i (first_other i) (next_call (node_at s i)) ∷ []);
  sent = one_more s.sent i (first_other i);
  delivered = s.delivered;
  lost = s.lost;
}

-- what check i leaves where it is accepted: "With n = 1 such a check still passes without effect."
abbrev pub with_check : State → ℕ → State
with_check s i = pick (ltb 1 s.n) (with_question s i) s

-- check i meets none of 1, 7, 9 and 10: the table is in range, and i is a node that is not Down, and idle
pub record CheckReaches (s : State) (i : ℕ) : Type 0 where
  pub in_range_lem : in_range s ≡ true
  pub number : is_node s.n i ≡ true
  pub not_down : is_down (node_at s i).status ≡ false
  pub idle : is_idle (node_at s i).activity ≡ true

-- node i is not Normal, or not its own coordinator
abbrev pub DoesNotLead : State → ℕ → Type 0
DoesNotLead s i = ((node_at s i).status ≡ Normal → ⊥) ⊎ ((node_at s i).coordinator ≡ i → ⊥)

pub record CheckRules : Type 0 where
  -- all of check i on any table, as one equation: it is refused by these grounds, in this order, and by nothing else; and what it leaves
  pub checks : (s : State) (i : ℕ) → step s (Check i) ≡ judged refused (accepted (with_check s i) Plain) (check_grounds s i)
  -- so an accepted one leaves this
  pub leaves : (s : State) (i : ℕ) (u : State) (k : Mark) → step s (Check i) ≡ accepted u k → u ≡ with_check s i
  -- "A check shall be turned away unless the cabinet is Normal and its own coordinator."
  pub turned_away : (s : State) (i : ℕ) → CheckReaches s i → DoesNotLead s i → step s (Check i) ≡ refused 18
  pub passes : (s : State) (i : ℕ) (u : State) (k : Mark) → step s (Check i) ≡ accepted u k → ((node_at s i).status ≡ Normal) × ((node_at s i).coordinator ≡ i)
  -- "unless": such a check asks, where 13, 14 and 17 do not apply
  pub asks : (s : State) (i : ℕ) → CheckReaches s i → 1 < s.n → (node_at s i).status ≡ Normal → (node_at s i).coordinator ≡ i
      → (node_at s i).last.number < call_end → length s.queue < s.limits.messages → MaySend s i (first_other i) → step s (Check i) ≡ accepted (with_question s i) Plain
  -- "With n = 1 such a check still passes without effect."
  pub one : (s : State) (i : ℕ) → CheckReaches s i → s.n ≡ 1 → (node_at s i).status ≡ Normal → (node_at s i).coordinator ≡ i → step s (Check i) ≡ accepted s Plain
  -- "Checks: 18, check at a cabinet that is not Normal or not its own coordinator": no other event meets it, and no other check
  pub eighteen : (s : State) (e : Event) → step s e ≡ refused 18
      → (e ≡ Check (actor e)) × CheckReaches s (actor e) × DoesNotLead s (actor e)
  -- "sent check events to members": in a run it is met at members alone. Another is the coordinator of the cabinet, which is in Reorganization or Normal
  pub members_only : (n : ℕ) (l : Limits) (es : List Event) (i : ℕ) → step (run n l es) (Check i) ≡ refused 18
      → ((node_at (run n l es) i).coordinator ≡ i → ⊥) × (((node_at (run n l es) i).status ≡ Reorganization) ⊎ ((node_at (run n l es) i).status ≡ Normal))
  -- "The lists of T-01 are too short to meet this": they have at most seven events, and none of the first seven of a run meets it (that they "stay the same" is said of
  -- the lists themselves, by short_lists_text)
  pub not_early : (n : ℕ) (l : Limits) (es : List Event) (e : Event) → length es ≤ 6 → step (run n l es) e ≡ refused 18 → ⊥

-- ── 02, T-10: full peal only by a majority ──

-- the grounds that finish i with task t can meet, in the order of the table of grounds
abbrev pub finish_grounds : State → ℕ → TaskNo → List Ground
finish_grounds s i t =
    -- "not in range"
    ground 1 (not (in_range s))
    -- "cabinet outside 1 to n"
    ∷ ground 7 (not (is_node s.n i))
    -- "finish task outside 100 to 65,535"
    ∷ ground 8 (not (leb 100 t.number && leb t.number 65535))
    -- "all others but lose: cabinet .. Down"
    ∷ ground 9 (is_down (node_at s i).status)
    -- "finish: not collecting"
    ∷ ground 10 (not (is_collecting (node_at s i).activity))
    -- 02: "finish with task 100 to 199 when twice the members plus two is at most n, in the state place after 18"
    ∷ ground 19 (leb 100 t.number && leb t.number 199 && leb (2 * count (node_at s i).members + 2) s.n)
    -- a call and a message are needed where there is a member: "a call is needed, last call number 16,777,215"
    ∷ ground 13 (not (eqb (node_at s i).members 0) && eqb (node_at s i).last.number call_end)
    -- "a message is needed, 64 wait"; by T-08, as many as the table's own limit says
    ∷ ground 14 (not (eqb (node_at s i).members 0) && eqb (length s.queue) s.limits.messages)
    -- T-05: "a message must be sent and its pair's sent count is 33,554,430"
    ∷ ground 17 (not (eqb (node_at s i).members 0) && eqb (count_at s.sent i (highest (node_at s i).members)) traffic_end)
    ∷ []

-- "finish i with task t: Reorganization, task t. It hands Ready to each member": to the highest first (T-02), in a new call; the message is behind the others, and counted
abbrev pub with_ready : State → ℕ → TaskNo → State
with_ready s i t = record {
  rule = s.rule;
  n = s.n;
  limits = s.limits;
  nodes = set s.nodes (i - 1)
      (record {
        status = Reorganization;
        counter = (node_at s i).counter;
        group = (node_at s i).group;
        coordinator = (node_at s i).coordinator;
        task = t;
        members = (node_at s i).members;
        last = next_call (node_at s i);
        activity = Handing (without (node_at s i).members (highest (node_at s i).members)) (highest (node_at s i).members);
      });
  queue = s.queue ++ (readies i (highest (node_at s i).members) (next_call (node_at s i)) (node_at s i).group t ∷ []);
  sent = one_more s.sent i (highest (node_at s i).members);
  delivered = s.delivered;
  lost = s.lost;
}

-- "or with none, Normal and idle"
abbrev pub with_no_member : State → ℕ → TaskNo → State
with_no_member s i t = record {
  rule = s.rule;
  n = s.n;
  limits = s.limits;
  nodes = set s.nodes (i - 1)
      (record {
        status = Normal;
        counter = (node_at s i).counter;
        group = (node_at s i).group;
        coordinator = (node_at s i).coordinator;
        task = t;
        members = (node_at s i).members;
        last = (node_at s i).last;
        activity = Idle;
      });
  queue = s.queue;
  sent = s.sent;
  delivered = s.delivered;
  lost = s.lost;
}

-- what finish i with task t leaves where it is accepted
abbrev pub with_finish : State → ℕ → TaskNo → State
with_finish s i t = pick (eqb (node_at s i).members 0) (with_no_member s i t) (with_ready s i t)

-- finish i with task t meets none of 1, 7, 8, 9 and 10: the table is in range, i is a node that is not Down, and collecting, and t is 100 to 65,535
pub record FinishReaches (s : State) (i : ℕ) (t : TaskNo) : Type 0 where
  pub in_range_lem : in_range s ≡ true
  pub number : is_node s.n i ≡ true
  pub given : is_given_task t.number ≡ true
  pub not_down : is_down (node_at s i).status ≡ false
  pub collects : is_collecting (node_at s i).activity ≡ true

-- finish i with a full peal t reaches 19, and node i and its members together are not more than half of n
pub record WithoutMajority (s : State) (i : ℕ) (t : TaskNo) : Type 0 where
  pub reaches : FinishReaches s i t
  pub full_peal : FullPeal t.number
  pub no_majority_lem : MoreThanHalf s.n (node_at s i) → ⊥

-- the event is such a finish
pub record MeetsNineteen (s : State) (e : Event) : Type 0 where
  pub node : ℕ
  pub task : TaskNo
  pub event : e ≡ Finish node task
  pub is : WithoutMajority s node task

-- node i needs no call, as it has no member, or may make one: 13, 14 and 17 do not apply
abbrev pub MayHand : State → ℕ → Type 0
MayHand s i =
    ((node_at s i).members ≡ 0)
    ⊎ (((node_at s i).last.number < call_end) × (length s.queue < s.limits.messages) × MaySend s i (highest (node_at s i).members))

-- the step by the table of grounds without 19. It is the step as it was before T-10, which changed nothing else; that is no claim, as the former definitions are gone
abbrev pub step_without_nineteen : State → Event → Result
step_without_nineteen s e = judged refused (accepted (effect s e) (reaction_to s e).mark) (leaving_out 19 (grounds s e))

pub record MajorityRules : Type 0 where
  -- all of finish i with task t on any table, as one equation: it is refused by these grounds, in this order, and by nothing else; and what it leaves
  pub finishes : (s : State) (i : ℕ) (t : TaskNo) → step s (Finish i t) ≡ judged refused (accepted (with_finish s i t) Plain) (finish_grounds s i t)
  -- so an accepted one leaves this
  pub leaves : (s : State) (i : ℕ) (t : TaskNo) (u : State) (k : Mark) → step s (Finish i t) ≡ accepted u k → u ≡ with_finish s i t
  -- "A finish with such a task passes only if the coordinator and its members together are more than half of n."
  pub only_if : (s : State) (i : ℕ) (t : TaskNo) (u : State) (k : Mark) → step s (Finish i t) ≡ accepted u k → FullPeal t.number → MoreThanHalf s.n (node_at s i)
  -- where they are not, and it reaches 19, it is refused with that
  pub turned_away : (s : State) (i : ℕ) (t : TaskNo) → WithoutMajority s i t → step s (Finish i t) ≡ refused 19
  -- "Checks: 19, finish with task 100 to 199 when ..": no other event meets it, and no other finish
  pub nineteen : (s : State) (e : Event) → step s e ≡ refused 19 → MeetsNineteen s e
  pub nineteen_finish : (s : State) (i : ℕ) (t : TaskNo) → step s (Finish i t) ≡ refused 19 → WithoutMajority s i t
  -- "twice the members plus two is at most n" says the same as that the coordinator and its members are not more than half of n
  pub at_most : (n : ℕ) (c : Node) → 2 * count c.members + 2 ≤ n → MoreThanHalf n c → ⊥
  pub else_more : (n : ℕ) (c : Node) → (2 * count c.members + 2 ≤ n → ⊥) → MoreThanHalf n c
  -- with more than half of n, or with another task, it passes where 13, 14 and 17 do not apply
  pub passes : (s : State) (i : ℕ) (t : TaskNo) → FinishReaches s i t → (FullPeal t.number → MoreThanHalf s.n (node_at s i)) → MayHand s i
      → step s (Finish i t) ≡ accepted (with_finish s i t) Plain
  -- "Other tasks pass as before."
  pub other_tasks : (s : State) (i : ℕ) (t : TaskNo) → (FullPeal t.number → ⊥) → step s (Finish i t) ≡ step_without_nineteen s (Finish i t)
  -- and so does every event that is not a finish of which 19 speaks: it is refused as without 19, or accepted and does the same
  pub as_before : (s : State) (e : Event) → (MeetsNineteen s e → ⊥) → step s e ≡ step_without_nineteen s e
  -- with n = 1 the coordinator alone is more than half
  pub one : (s : State) (e : Event) → s.n ≡ 1 → step s e ≡ refused 19 → ⊥
  -- none of the first six events of a run meets it
  pub not_early : (n : ℕ) (l : Limits) (es : List Event) (e : Event) → length es ≤ 5 → step (run n l es) e ≡ refused 19 → ⊥
  -- two full peals that are accepted, in whatever tables of n nodes, have a node that is counted for both. Not claimed is that there are not two such: PealsByMajority
  pub share : (s u : State) (i j : ℕ) (t v : TaskNo) (x y : State) (k m : Mark) → s.n ≡ u.n → step s (Finish i t) ≡ accepted x k → FullPeal t.number
      → step u (Finish j v) ≡ accepted y m → FullPeal v.number → CountedByBoth s.n s i u j
