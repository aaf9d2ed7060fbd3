-- What is claimed of the tables that the code returns: they are those of the model's run, and demand 3, whole, T-05 and T-10 hold of them, in the tower and on the stand; of a starting
-- table; and of the records of a recovery. The proofs are in proofs/Runs, proofs/Beginning and proofs/Recovering.
use Rattle.std.specs.Prelude.{ℕ, ◌+◌, ◌≤◌, Bool, true, false, ◌≡◌, List, ◌++◌, replicate, Err}
use Rattle.model.specs.Limits.{node_limit, tower, stand}
use Rattle.model.specs.Counts.{count_at, total}
use Rattle.model.specs.Recovery.{recovery_records}
use Rattle.model.specs.Range.{TwoPairs}
use Rattle.model.specs.State.{State, starting_node, start, node_at, waiting, in_range, view}
use Rattle.model.specs.Step.{actor, reaction_to, forms, accepted, step, run_from, run}
use Rattle.model.specs.History.{NotFormed, NoTask, Task, newest, coming, history}
use Rattle.model.specs.Traffic.{tally, sent_in, delivered_in, lost_in, sends_any, delivers_any, loses_any}
use Rattle.model.specs.Node.{is_down, is_active, is_collecting}
use Rattle.model.specs.Claims.{Lacks, Fixes, FullPeal, MoreThanHalf, acceptances, PealStarted, CountedByBoth, MayStart, EachGroup, record_after}
use Rattle.model.specs.declared.Limits.{Limits}
use Rattle.model.specs.declared.Status.TheVariants.{Normal}
use Rattle.model.specs.declared.TaskNo.{TaskNo}
use Rattle.model.specs.declared.Mark.{Mark}
use Rattle.model.specs.declared.Event.{Event}
use Rattle.model.specs.declared.Event.TheVariants.{Recover, Finish}
use Rattle.model.specs.declared.Table.{Table}
use Rattle.model.specs.declared.Outcome.{Outcome}
use Rattle.model.specs.Answers.{Accepted}
use Rattle.model.specs.declared.Refusal.TheVariants.{NotInRange, SentAtEnd}
use Rattle.model.specs.Answers.{Started}
use Rattle.machine.specs.declared.Start.{Start}
use Rattle.machine.specs.declared.RecoveryAnswer.{RecoveryAnswer}
use Rattle.machine.specs.Stepped.{Stepped, begun_number, Begun, RecoveryAnswered}

-- Of any outcome that meets `Stepped`, what `step` and `apply` promise: the code answers Accepted exactly where the model accepts.
pub record AcceptedAlike : Type 0 where
  -- and then the table, as `view` takes it, and the mark are the model's
  pub model_accepts : {t : Table} {e : Event} {r : Outcome} → Stepped t e r → r.answer ≡ Accepted → step (view t) e ≡ accepted (view r.table) (reaction_to (view t) e).mark
  pub code_accepts : {t : Table} {e : Event} {r : Outcome} → Stepped t e r → (u : State) (k : Mark) → step (view t) e ≡ accepted u k → r.answer ≡ Accepted

-- Of any two outcomes that meet `Stepped` for the same table and event: one answer meets it, and one table as `view` takes it; after a refusal, one table with all
-- its places. What an accepted event leaves past the n records and the waiting messages is free.
pub record SteppedAlike : Type 0 where
  pub answer : {t : Table} {e : Event} {r q : Outcome} → Stepped t e r → Stepped t e q → r.answer ≡ q.answer
  pub table : {t : Table} {e : Event} {r q : Outcome} → Stepped t e r → Stepped t e q → view r.table ≡ view q.table
  pub same : {t : Table} {e : Event} {r q : Outcome} → Stepped t e r → Stepped t e q → (r.answer ≡ Accepted → ⊥) → r.table ≡ q.table

-- What e's node does on the table t, if e is accepted, forms a group: it recovers or merges. Of a refused event it says nothing: where it is used, the answer is
-- Accepted.
abbrev pub is_forming : Table → Event → Bool
is_forming t e = forms (reaction_to (view t) e).mark

-- how the code led from a table by events to a table: `Folded` for the step by value
abbrev pub Chain : Type 1
Chain = Table → List Event → Table → Type 0

-- the code led from what `starting` returned for n and the limits l, by the events es, to the table t
pub record Reached (chain : Chain) (n : ℕ) (l : Limits) (es : List Event) (t : Table) : Type 0 where
  pub first : Start
  pub begun : Begun n l first
  pub led : chain first.table es t

-- the tables that the code returned, one after another, are those of the model's run
pub record CodeRuns (chain : Chain) : Type 0 where
  -- from any table
  pub from_any : (t : Table) (es : List Event) (u : Table) → chain t es u → view u ≡ run_from (view t) es
  -- from the starting one
  pub from_start : (n : ℕ) (l : Limits) (es : List Event) (t : Table) → Reached chain n l es t → view t ≡ run n l es
  -- and so they are in range, from a starting table of the tower or of the stand (T-08)
  pub in_range_lem : (n : ℕ) (l : Limits) → MayStart TwoPairs n l → (es : List Event) (t : Table) → Reached chain n l es t → in_range (view t) ≡ true

-- Demand 3 of the tables that the code returned: each field but the last is that of `RunFixes` (model/specs/Claims), of them, and the last is that of
-- `TaskFromList`. t is any table that events led to; u is the one on which e is answered with r, and accepted; in `fresh`, fs led from t to u.
pub record CodeFixes (chain : Chain) (n : ℕ) (l : Limits) : Type 0 where
  -- two nodes in Reorganization or Normal with the same group have the same coordinator
  pub same_coordinator : {es : List Event} {t : Table} → Reached chain n l es t → (i j : ℕ) → 1 ≤ i → i ≤ n → 1 ≤ j → j ≤ n
      → is_active (node_at (view t) i).status ≡ true → is_active (node_at (view t) j).status ≡ true
      → (node_at (view t) i).group.number ≡ (node_at (view t) j).group.number
      → (node_at (view t) i).coordinator ≡ (node_at (view t) j).coordinator
  -- "The book's task is the one the list fixed": a Normal node's task, in any table of the chain, is the task that the whole list's history has for its group
  pub fixed_task : {es : List Event} {t : Table} → Reached chain n l es t → (fs : List Event) (i : ℕ) → 1 ≤ i → i ≤ n → (node_at (view t) i).status ≡ Normal
      → (history n l (es ++ fs)).entry (node_at (view t) i).group.number ≡ Task (node_at (view t) i).task.number
  -- so two Normal nodes with the same group have the same task
  pub same_task : {es : List Event} {t : Table} → Reached chain n l es t → (i j : ℕ) → 1 ≤ i → i ≤ n → 1 ≤ j → j ≤ n
      → (node_at (view t) i).status ≡ Normal → (node_at (view t) j).status ≡ Normal
      → (node_at (view t) i).group.number ≡ (node_at (view t) j).group.number
      → (node_at (view t) i).task.number ≡ (node_at (view t) j).task.number
  -- "A new group gets the book's number"
  pub numbered : {es : List Event} {u : Table} {e : Event} {r : Outcome} → Reached chain n l es u → Stepped u e r → r.answer ≡ Accepted → is_forming u e ≡ true
      → (node_at (view r.table) (actor e)).group.number ≡ coming (history n l es) (actor e)
  -- "and no table from the starting one to the one just before that event holds it"
  pub fresh : {es fs : List Event} {t u : Table} {e : Event} {r : Outcome} → Reached chain n l es t → chain t fs u → Stepped u e r → r.answer ≡ Accepted → is_forming u e ≡ true
      → Lacks (view t) (coming (history n l (es ++ fs)) (actor e))
  -- and no other group is new: where no group is formed, the table before held each node's group, in a node or a message
  pub borrowed : {es : List Event} {u : Table} {e : Event} {r : Outcome} → Reached chain n l es u → Stepped u e r → r.answer ≡ Accepted → is_forming u e ≡ false
      → (j : ℕ) → 1 ≤ j → j ≤ n → Lacks (view u) (node_at (view r.table) j).group.number → ⊥
  -- and where a message carries a group that the table before did not hold, it is the one that the event forms
  pub borrowed_messages : {es : List Event} {u : Table} {e : Event} {r : Outcome} → Reached chain n l es u → Stepped u e r → r.answer ≡ Accepted
      → EachGroup (λ g. Lacks (view u) g → (is_forming u e ≡ true) × (g ≡ coming (history n l es) (actor e))) (view r.table).queue
  -- "no group ever gets a second task": a group that is formed was not formed before, and a group that gets its task by a finish has none
  pub formed_once : {es : List Event} {u : Table} {e : Event} {r : Outcome} → Reached chain n l es u → Stepped u e r → r.answer ≡ Accepted → is_forming u e ≡ true
      → (history n l es).entry (coming (history n l es) (actor e)) ≡ NotFormed
  pub given_once : {es : List Event} {u : Table} {i : ℕ} {x : TaskNo} {r : Outcome} → Reached chain n l es u → Stepped u (Finish i x) r → r.answer ≡ Accepted
      → (history n l es).entry (newest (history n l es) i) ≡ NoTask
  -- "the group that i formed last" is the one that the table has for i
  pub own_group : {es : List Event} {u : Table} {i : ℕ} {x : TaskNo} {r : Outcome} → Reached chain n l es u → Stepped u (Finish i x) r → r.answer ≡ Accepted
      → (node_at (view u) i).group.number ≡ newest (history n l es) i
  -- and a task once given stays, whatever events come next
  pub lasts : (es fs : List Event) (g x : ℕ) → (history n l es).entry g ≡ Task x → (history n l (es ++ fs)).entry g ≡ Task x
  -- without the history: a Normal node's task is the solo task of a recovery in the list that formed its group, or else the task of an accepted finish in the
  -- list for that group. That there is one such event only is said of the list alone, by `TaskFromList`.
  pub from_list : {es : List Event} {t : Table} → Reached chain n l es t → (i : ℕ) → 1 ≤ i → i ≤ n → (node_at (view t) i).status ≡ Normal
      → Fixes TwoPairs n l es (node_at (view t) i).group.number (node_at (view t) i).task.number

-- ── 02, T-05: traffic totals ──

-- T-05 of the tables that the code returned: each field is that of `TrafficAgrees` (model/specs/Claims), of them. t is any table that events led to; u is the one on
-- which e is answered with r.
pub record CodeTraffic (chain : Chain) (n : ℕ) (l : Limits) : Type 0 where
  -- "The records equal the counts taken from the accepted events of the run."
  pub sent_counted : {es : List Event} {t : Table} → Reached chain n l es t → (a b : ℕ) → 1 ≤ a → a ≤ node_limit → 1 ≤ b → b ≤ node_limit → count_at t.sent a b ≡ sent_in TwoPairs n l es a b
  pub delivered_counted : {es : List Event} {t : Table} → Reached chain n l es t → (a b : ℕ) → 1 ≤ a → a ≤ node_limit → 1 ≤ b → b ≤ node_limit
      → count_at t.delivered a b ≡ delivered_in TwoPairs n l es a b
  pub lost_counted : {es : List Event} {t : Table} → Reached chain n l es t → (a b : ℕ) → 1 ≤ a → a ≤ node_limit → 1 ≤ b → b ≤ node_limit → count_at t.lost a b ≡ lost_in TwoPairs n l es a b
  -- so the totals are those of the list
  pub sent_total : {es : List Event} {t : Table} → Reached chain n l es t → total t.sent ≡ tally sends_any (start n l) es
  pub delivered_total : {es : List Event} {t : Table} → Reached chain n l es t → total t.delivered ≡ tally delivers_any (start n l) es
  pub lost_total : {es : List Event} {t : Table} → Reached chain n l es t → total t.lost ≡ tally loses_any (start n l) es
  -- "Sent is delivered plus lost plus those waiting, for each pair."
  pub adds_up : {es : List Event} {t : Table} → Reached chain n l es t → (a b : ℕ) → 1 ≤ a → a ≤ n → 1 ≤ b → b ≤ n
      → count_at t.sent a b ≡ count_at t.delivered a b + count_at t.lost a b + waiting (view t).queue a b
  -- "From the starting table no event ever meets the new ground"
  pub never_seventeen : {es : List Event} {u : Table} {e : Event} {r : Outcome} → Reached chain n l es u → Stepped u e r → r.answer ≡ Err SentAtEnd → ⊥

-- ── 02, T-10: full peal only by a majority ──

-- T-10 of the tables that the code returned: each field is that of `PealsByMajority` (model/specs/Claims), of them. Not claimed, as there: that no two coordinators start a
-- full peal; two that both counted a node may. It is proved for n up to 16 and all l.
pub record CodePeals (chain : Chain) (n : ℕ) (l : Limits) : Type 0 where
  -- "A finish with such a task passes only if the coordinator and its members together are more than half of n."
  pub only_if : {es : List Event} {u : Table} {i : ℕ} {x : TaskNo} {r : Outcome} → Reached chain n l es u → Stepped u (Finish i x) r → r.answer ≡ Accepted
      → FullPeal x.number → MoreThanHalf n (node_at (view u) i)
  -- and a node that collects is its own coordinator
  pub by_coordinator : {es : List Event} {t : Table} → Reached chain n l es t → (i : ℕ) → 1 ≤ i → i ≤ n → is_down (node_at (view t) i).status ≡ false
      → is_collecting (node_at (view t) i).activity ≡ true → (node_at (view t) i).coordinator ≡ i
  -- a Normal node whose task is a full peal has it from such a finish in the list, for its group
  pub normal : {es : List Event} {t : Table} → Reached chain n l es t → (i : ℕ) → 1 ≤ i → i ≤ n → (node_at (view t) i).status ≡ Normal → FullPeal (node_at (view t) i).task.number
      → PealStarted TwoPairs n l es (node_at (view t) i).group.number (node_at (view t) i).task.number
  -- (`PealsByMajority.entered` is said of the list alone.) Two full peals that are accepted, on whatever tables the code was led to, have a node that is counted for both
  pub share : {es fs : List Event} {t u : Table} {i j : ℕ} {x y : TaskNo} {r q : Outcome} → Reached chain n l es t → Reached chain n l fs u
      → Stepped t (Finish i x) r → r.answer ≡ Accepted → FullPeal x.number → Stepped u (Finish j y) q → q.answer ≡ Accepted → FullPeal y.number
      → CountedByBoth n (view t) i (view u) j
  -- "The count is of acceptances": a node's member set is that of the nodes whose Accept it took since it last formed a group
  pub of_acceptances : {es : List Event} {t : Table} → Reached chain n l es t → (i : ℕ) → 1 ≤ i → i ≤ n → (node_at (view t) i).members ≡ acceptances TwoPairs n l es i

-- ── 02, T-08: for which tables this is claimed ──

-- of the tables that the code returned, from the starting one of n nodes with the limits l
pub record CodeHolds (chain : Chain) (n : ℕ) (l : Limits) : Type 0 where
  pub fixes : CodeFixes chain n l
  pub traffic : CodeTraffic chain n l
  pub peals : CodePeals chain n l
  -- they are in range, no event on them is answered with 1, and they have those limits
  pub in_range_lem : {es : List Event} {t : Table} → Reached chain n l es t → in_range (view t) ≡ true
  pub never_one : {es : List Event} {u : Table} {e : Event} {r : Outcome} → Reached chain n l es u → Stepped u e r → r.answer ≡ Err NotInRange → ⊥
  pub same_limits : {es : List Event} {t : Table} → Reached chain n l es t → t.limits ≡ l

-- "Demand 3 now speaks of both", as `TowerAndStand` (model/specs/Claims) has it of the definitions
pub record CodeTowerAndStand (chain : Chain) : Type 0 where
  pub for_tower : (n : ℕ) → 1 ≤ n → n ≤ tower.nodes → CodeHolds chain n tower
  pub for_stand : (n : ℕ) → 1 ≤ n → n ≤ stand.nodes → CodeHolds chain n stand

-- Of any answer that meets `Begun`, what `starting` promises: the table is started exactly where it is in range.
pub record StartedAlike : Type 0 where
  pub in_range_lem : {n : ℕ} {l : Limits} {r : Start} → Begun n l r → r.answer ≡ Started → in_range (view r.table) ≡ true
  pub started : {n : ℕ} {l : Limits} {r : Start} → Begun n l r → in_range (view r.table) ≡ true → r.answer ≡ Started

-- single starting data: each limit of nodes, and 1 before 6
pub record StartCases : Type 0 where
  pub tower_none : begun_number 0 tower ≡ 6
  pub tower_last : begun_number 16 tower ≡ 0
  pub tower_high : begun_number 17 tower ≡ 6
  pub stand_none : begun_number 0 stand ≡ 6
  pub stand_last : begun_number 4 stand ≡ 0
  pub stand_high : begun_number 5 stand ≡ 6
  pub tower_five : begun_number 5 tower ≡ 0
  pub swapped : begun_number 3 (record { nodes = 12; messages = 4 }) ≡ 1
  pub swapped_none : begun_number 0 (record { nodes = 12; messages = 4 }) ≡ 1
  pub tower_nodes : begun_number 2 (record { nodes = 16; messages = 12 }) ≡ 1
  pub stand_nodes : begun_number 2 (record { nodes = 4; messages = 64 }) ≡ 1
  pub none : begun_number 0 (record { nodes = 0; messages = 0 }) ≡ 1

-- ── 02, T-04: recovery as the paper prints it ──

-- Of any answer q that meets `RecoveryAnswered`, what `recovery` promises for the table t and node i: it agrees with any outcome r that meets `Stepped` for recover i on the
-- same table, and nothing of it is free.
pub record RecoveryAlike : Type 0 where
  -- "is refused as it is"
  pub answer : {t : Table} {i : ℕ} {r : Outcome} {q : RecoveryAnswer} → Stepped t (Recover i) r → RecoveryAnswered t i q → q.answer ≡ r.answer
  -- "and answers the eight records of cabinet i"
  pub records : {t : Table} {i : ℕ} {q : RecoveryAnswer} → RecoveryAnswered t i q → q.answer ≡ Accepted → q.records ≡ recovery_records i (node_at (view t) i)
  -- "and the last is the one recover i leaves"
  pub last_record : {t : Table} {i : ℕ} {r : Outcome} {q : RecoveryAnswer} → Stepped t (Recover i) r → RecoveryAnswered t i q → q.answer ≡ Accepted
      → record_after 8 q.records ≡ node_at (view r.table) i
  -- beside a refusal stand eight starting records
  pub refused_records : {t : Table} {i : ℕ} {q : RecoveryAnswer} → RecoveryAnswered t i q → (q.answer ≡ Accepted → ⊥) → q.records ≡ replicate 8 starting_node
  -- one answer meets the promise, with one list of records
  pub same_answer : {t : Table} {i : ℕ} {p q : RecoveryAnswer} → RecoveryAnswered t i p → RecoveryAnswered t i q → p.answer ≡ q.answer
  pub same_records : {t : Table} {i : ℕ} {p q : RecoveryAnswer} → RecoveryAnswered t i p → RecoveryAnswered t i q → p.records ≡ q.records
