-- "Try these impostors", "Wrong turnings in this protocol" and 02's T-02 to T-06, T-08 and T-10: what no machine does that meets `Stepped`, or `RecoveryAnswered`, or `Begun` (mutant: 01's impostor). A machine is here
-- whatever answers an event e on a table t with an outcome r, as a function f from tables and events does with f t e; nothing is asked of how it comes to r, so it may also
-- remember. Each field takes as little of the mutant's behaviour as shuts it out: one event, and one thing that is wrong then. The proofs are in proofs/Mutants.
use Rattle.std.specs.Prelude.{ℕ, ◌+◌, ◌*◌, ◌≤◌, ◌<◌, Bool, true, false, not, ◌||◌, ◌≡◌, List, [], ◌∷◌, ◌++◌, map, eqb, ltb, length, replicate, None, Some, Err}
use Rattle.node_set.specs.NodeSet.{has, count}
use Rattle.model.specs.Limits.{node_limit, tower, counter_end, call_end, traffic_end}
use Rattle.model.specs.Counts.{count_at, one_more}
use Rattle.model.specs.Node.{is_down, is_normal, has_open_call, group_of, replies, is_active}
use Rattle.model.specs.Range.{TwoPairs, is_tower_or_stand, is_node}
use Rattle.model.specs.State.{State, wrong_count, node_at, waits, oldest, all_waiting, traffic_in_range, in_range, view, table_of}
use Rattle.model.specs.Step.{actor, reaction_to, remaining, grounds}
use Rattle.model.specs.Answers.{answer_number}
use Rattle.model.specs.Claims.{Lacks, MayStart, FirstApplies, whom_now, whom_still, whom_aside, InvitationReaches, Owns, Holds, with_plain_reply, MaySend, recovers_at_expire, record_after, first_other, with_check, CheckReaches, DoesNotLead, FullPeal, MoreThanHalf, with_finish, FinishReaches, WithoutMajority, MayHand}
use Rattle.model.specs.Cases.{set_of, none, node, invited_once}
use Rattle.model.specs.declared.Limits.{Limits}
use Rattle.model.specs.declared.Mark.TheVariants.{Merges}
use Rattle.model.specs.declared.Status.TheVariants.{Election, Reorganization, Normal}
use Rattle.model.specs.declared.Activity.{Activity}
use Rattle.model.specs.declared.Activity.TheVariants.{Idle, Asking, Waiting, Inviting, Collecting, Handing, Contacting, Forwarding, Accepting}
use Rattle.model.specs.declared.TaskNo.{TaskNo}
use Rattle.model.specs.declared.Message.{Message}
use Rattle.model.specs.declared.Table.{Table}
use Rattle.model.specs.declared.Event.{Event}
use Rattle.model.specs.declared.Event.TheVariants.{Crash, Recover, Check, Timeout, Tick, Expire, Finish, Deliver, Lose}
use Rattle.model.specs.declared.Outcome.{Outcome}
use Rattle.model.specs.Answers.{Accepted}
use Rattle.model.specs.declared.Refusal.TheVariants.{NotInRange, NotCoordinator, NoMajority, QueueFull, SentAtEnd}
use Rattle.model.specs.Answers.{Started}
use Rattle.model.specs.declared.StartRefusal.TheVariants.{WrongLimits, WrongCount}
use Rattle.machine.specs.declared.Start.{Start}
use Rattle.machine.specs.declared.RecoveryAnswer.{RecoveryAnswer}
use Rattle.machine.specs.Stepped.{Stepped, starting_table, Begun, RecoveryAnswered}
use Rattle.machine.specs.Folded.{Folded}
use Rattle.machine.specs.Parts.{takes}
use Rattle.machine.specs.Claims.{is_forming, Reached}

-- ── tables to try them on ──

-- node 1 leads node 2, has found node 3, and merges at the next tick
abbrev pub merging_table : State
merging_table =
    all_waiting 3 tower
    (node Normal 2 32 1 100 (set_of (2 ∷ [])) 5 (Waiting 1 (set_of (3 ∷ []))) ∷ node Normal 1 32 1 100 none 2 Idle ∷ node Normal 1 18 3 3 none 0 Idle ∷ [])
    []

-- node 3 hands Ready to node 2, and node 1 is still to get it
abbrev pub handing_table : State
handing_table =
    all_waiting 3 tower
    (node Reorganization 1 50 3 1 none 2 Idle
    ∷ node Reorganization 1 50 3 2 none 2 Idle
    ∷ node Reorganization 3 50 3 100 (set_of (1 ∷ 2 ∷ [])) 5 (Handing (set_of (1 ∷ [])) 2)
    ∷ [])
    []

-- an invitation to node 2, into node 1's group 32, that says the task 200 too
abbrev pub tasked_invitation : Message
tasked_invitation = record {
  sender = 1;
  receiver = 2;
  kind = 3;
  call = record { number = 3 };
  group = record { number = 32 };
  task = record { number = 200 };
  yes = false;
}

-- node 2 leads its group 33, with node 1 in its members; node 1 has left it for its own group 32, and invites node 2
abbrev pub invited_table : State
invited_table =
    all_waiting 2 tower
    (node Normal 2 32 1 1 none 3 Idle ∷ node Normal 2 33 2 100 (set_of (1 ∷ [])) 2 Idle ∷ [])
    (tasked_invitation ∷ [])

-- node 1 asks node 2 by its call 5, and the messages q wait
abbrev pub asking_table : List Message → State
asking_table q =
    all_waiting 3 tower
    (node Normal 1 16 1 1 none 5 (Asking 2 none) ∷ node Normal 1 17 2 2 none 0 Idle ∷ node Normal 1 18 3 3 none 0 Idle ∷ [])
    q

-- ── tests ──

-- whom an inviting node invites: now, or still
abbrev pub invites : Activity → ℕ → Bool
invites Idle j = false
invites (Asking asked found) j = false
invites (Waiting ticks found) j = false
invites (Inviting found former now) j = eqb now j || has found j || has former j
invites Collecting j = false
invites (Handing rest now) j = false
invites Contacting j = false
invites (Forwarding rest now caller call) j = false
invites (Accepting caller call) j = false

-- Where an accepted event changes nothing: "check i: .. with n = 1, nothing changes", "timeout i: if its own coordinator, nothing changes".
abbrev pub may_rest : State → Event → Bool
may_rest s (Crash i) = false
may_rest s (Recover i) = false
may_rest s (Check i) = not (ltb 1 s.n)
may_rest s (Timeout i) = eqb (node_at s i).coordinator i
may_rest s (Tick i) = false
may_rest s (Expire i) = false
may_rest s (Finish i t) = false
may_rest s (Deliver a b) = false
may_rest s (Lose a b) = false

-- ── the impostors ──

-- on the table t, no machine turns e away, and none leaves nodes and messages as they are, whatever it answers and counts
pub record Moves (t : Table) (e : Event) : Type 0 where
  pub not_away : {r : Outcome} → Stepped t e r → (r.answer ≡ Accepted → ⊥) → ⊥
  pub not_same : {r : Outcome} → Stepped t e r → (view r.table).nodes ≡ (view t).nodes → (view r.table).queue ≡ (view t).queue → ⊥

pub record NoMutant : Type 0 where
  -- "a machine that turns every event away", "one that returns the same table always": not at the first event, where it is a recovery
  pub first_moves : (n i : ℕ) (l : Limits) → MayStart TwoPairs n l → 1 ≤ i → i ≤ n → Moves (starting_table n l) (Recover i)
  -- "one that answers 'accepted' and moves nothing": not at any event on any table, but where 01 says, and T-06 leaves it so, that nothing changes
  pub accepted_still : (t : Table) (e : Event) {r : Outcome} → may_rest (view t) e ≡ false → Stepped t e r → r.answer ≡ Accepted
      → (view r.table).nodes ≡ (view t).nodes → (view r.table).queue ≡ (view t).queue → ⊥
  -- "one that works on the first event and then idles": in every table in range, whatever came before it, a node that is up can crash, and one that is Down can
  -- recover until its counter is at its end
  pub crash_moves : (t : Table) (i : ℕ) → in_range (view t) ≡ true → 1 ≤ i → i ≤ t.n → is_down (node_at (view t) i).status ≡ false → Moves t (Crash i)
  pub recovery_moves : (t : Table) (i : ℕ) → in_range (view t) ≡ true → 1 ≤ i → i ≤ t.n → is_down (node_at (view t) i).status ≡ true
      → ((node_at (view t) i).counter ≡ counter_end → ⊥) → Moves t (Recover i)
  -- so at the second event, and so after any events
  pub second_moves : {r : Outcome} → Stepped (starting_table 2 tower) (Recover 1) r → Moves r.table (Recover 2)
  pub late_crash_moves : (n : ℕ) (l : Limits) → MayStart TwoPairs n l → {es : List Event} {t : Table} → Reached Folded n l es t
      → (i : ℕ) → 1 ≤ i → i ≤ n → is_down (node_at (view t) i).status ≡ false → Moves t (Crash i)
  pub late_recovery_moves : (n : ℕ) (l : Limits) → MayStart TwoPairs n l → {es : List Event} {t : Table} → Reached Folded n l es t
      → (i : ℕ) → 1 ≤ i → i ≤ n → is_down (node_at (view t) i).status ≡ true → ((node_at (view t) i).counter ≡ counter_end → ⊥) → Moves t (Recover i)
  -- nor one that accepts every event: a node that is Down does not crash
  pub accepts_all : {r : Outcome} → Stepped (starting_table 2 tower) (Crash 1) r → r.answer ≡ Accepted → ⊥
  -- "one that cries 12, 13 or 14 at the first event": at any first event, for any n and limits
  pub no_cry : (n : ℕ) (l : Limits) (e : Event) {r : Outcome} → Stepped (starting_table n l) e r → 12 ≤ answer_number r.answer → ⊥
  -- nor one that delivers a message that does not wait, or that finds the queue full for the reply to a delivery ("a delivered one is already out")
  pub delivers_none : (t : Table) (a b : ℕ) {r : Outcome} → waits a b (view t).queue ≡ false → Stepped t (Deliver a b) r → r.answer ≡ Accepted → ⊥
  pub delivery_full : (t : Table) (a b : ℕ) {r : Outcome} → Stepped t (Deliver a b) r → r.answer ≡ Err QueueFull → ⊥

-- ── the wrong turnings ──

pub record NoWrongTurning : Type 0 where
  -- "Clearing the counter at a crash": in no table
  pub clears_counter : (t : Table) (i : ℕ) {r : Outcome} → Stepped t (Crash i) r → ((node_at (view r.table) i).counter ≡ (node_at (view t) i).counter → ⊥) → ⊥
  -- ": an old group number returns": in no run; of the group that e's node forms, accepted on the table u, no table t before holds the number
  pub group_returns : (n : ℕ) (l : Limits) → n ≤ node_limit → {es fs : List Event} {t u : Table} → Reached Folded n l es t → Folded t fs u
      → {e : Event} {r : Outcome} → Stepped u e r → r.answer ≡ Accepted → is_forming u e ≡ true
      → (Lacks (view t) (node_at (view r.table) (actor e)).group.number → ⊥) → ⊥
  -- for one: group 16, which node 1 had first
  pub returns_one : {u : Table} → Folded (starting_table 2 tower) (Recover 1 ∷ Crash 1 ∷ Recover 1 ∷ []) u → (node_at (view u) 1).group.number ≡ 16 → ⊥
  -- "Emptying members before they are set aside: old members get no invitation": where a node merges, at any accepted event in any table, each old member j is
  -- among those it invites
  pub empties_members : (t : Table) (e : Event) (j : ℕ) → (reaction_to (view t) e).mark ≡ Merges → 1 ≤ j → has (node_at (view t) (actor e)).members j ≡ true
      → {r : Outcome} → Stepped t e r → r.answer ≡ Accepted → invites (node_at (view r.table) (actor e)).activity j ≡ false → ⊥
  -- so where it merges at its last tick
  pub empties_last_tick : (t : Table) (i j found : ℕ) → (node_at (view t) i).activity ≡ Waiting 1 found → 1 ≤ j → has (node_at (view t) i).members j ≡ true
      → {r : Outcome} → Stepped t (Tick i) r → r.answer ≡ Accepted → invites (node_at (view r.table) i).activity j ≡ false → ⊥
  -- for one: node 2, by node 1
  pub empties_one : {r : Outcome} → Stepped (table_of merging_table) (Tick 1) r → invites (node_at (view r.table) 1).activity 2 ≡ false → ⊥
  -- "Taking the task with the invitation": whoever gets an invitation keeps its task, in every table; and after it, it is in Reorganization or Normal only where
  -- nothing of it changed
  pub takes_task : (t : Table) (a b : ℕ) → (oldest a b (view t).queue).kind ≡ 3 → {r : Outcome} → Stepped t (Deliver a b) r
      → ((node_at (view r.table) b).task ≡ (node_at (view t) b).task → ⊥) → ⊥
  pub active_early : (t : Table) (a b : ℕ) → (oldest a b (view t).queue).kind ≡ 3 → {r : Outcome} → Stepped t (Deliver a b) r
      → is_active (node_at (view r.table) b).status ≡ true → (node_at (view r.table) b ≡ node_at (view t) b → ⊥) → ⊥
  -- for one: node 2 keeps its task 100, though the invitation says 200, and is not Normal in the new group
  pub takes_one : {r : Outcome} → Stepped (table_of invited_table) (Deliver 1 2) r → ((node_at (view r.table) 2).task.number ≡ 100 → ⊥) → ⊥
  pub active_one : {r : Outcome} → Stepped (table_of invited_table) (Deliver 1 2) r → is_active (node_at (view r.table) 2).status ≡ true → ⊥
  -- "Sending Ready on after a recovery, under the new group": when the call of a handing node expires, or of an accepting or contacting one, nothing is sent, in
  -- any table
  pub hands_on : (t : Table) (i : ℕ) → recovers_at_expire (node_at (view t) i).activity ≡ true → {r : Outcome} → Stepped t (Expire i) r → ((view r.table).queue ≡ (view t).queue → ⊥) → ⊥
  -- nor later: it is idle then
  pub hands_later : (t : Table) (i : ℕ) → recovers_at_expire (node_at (view t) i).activity ≡ true → {r : Outcome} → Stepped t (Expire i) r → r.answer ≡ Accepted
      → ((node_at (view r.table) i).activity ≡ Idle → ⊥) → ⊥
  -- for one: node 3
  pub hands_one : {r : Outcome} → Stepped (table_of handing_table) (Expire 3) r → ((node_at (view r.table) 3).activity ≡ Idle → ⊥) → ⊥
  -- "Matching a reply by its sender instead of its call number": a reply with another number than the last call's changes nothing of the node, in every table
  pub takes_older : (t : Table) (a b : ℕ) → (oldest a b (view t).queue).kind ≡ 6 → ((oldest a b (view t).queue).call.number ≡ (node_at (view t) b).last.number → ⊥)
      → {r : Outcome} → Stepped t (Deliver a b) r → (node_at (view r.table) b ≡ node_at (view t) b → ⊥) → ⊥
  -- for one (K9): an older reply of the very node asked
  pub older_one : {r : Outcome} → Stepped (table_of (asking_table (replies 2 1 (record { number = 4 }) true ∷ []))) (Deliver 2 1) r
      → (node_at (view r.table) 1 ≡ node_at (asking_table []) 1 → ⊥) → ⊥
  -- and a reply with the open call's number is taken, whoever sent it, in every table: something of the node changes
  pub drops_other : (t : Table) (a b : ℕ) → (oldest a b (view t).queue).kind ≡ 6 → (oldest a b (view t).queue).call.number ≡ (node_at (view t) b).last.number
      → has_open_call (node_at (view t) b).activity ≡ true → {r : Outcome} → Stepped t (Deliver a b) r → r.answer ≡ Accepted
      → node_at (view r.table) b ≡ node_at (view t) b → ⊥
  -- and what it changes is the same whoever sent it: node b, the same in the tables t and u, gets the same reply from a in t and from d in u
  pub by_sender : (t u : Table) (a b d : ℕ) → t.n ≡ u.n → node_at (view t) b ≡ node_at (view u) b
      → (oldest a b (view t).queue).kind ≡ 6 → (oldest d b (view u).queue).kind ≡ 6
      → (oldest a b (view t).queue).call.number ≡ (oldest d b (view u).queue).call.number → (oldest a b (view t).queue).yes ≡ (oldest d b (view u).queue).yes
      → {r q : Outcome} → Stepped t (Deliver a b) r → r.answer ≡ Accepted → Stepped u (Deliver d b) q → q.answer ≡ Accepted
      → (node_at (view r.table) b ≡ node_at (view q.table) b → ⊥) → ⊥
  -- for one: node 3's reply to the call on which node 2 is asked
  pub other_one : {r : Outcome} → Stepped (table_of (asking_table (replies 3 1 (record { number = 5 }) true ∷ []))) (Deliver 3 1) r
      → (node_at (view r.table) 1).activity ≡ Asking 2 none → ⊥

-- ── 02, T-02: higher numbers first ──

-- node 3 collects, with the members 1 and 2
abbrev pub collecting_table : State
collecting_table =
    all_waiting 3 tower
    (node Reorganization 1 50 3 1 none 2 Idle ∷ node Reorganization 1 50 3 2 none 2 Idle ∷ node Election 3 50 3 3 (set_of (1 ∷ 2 ∷ [])) 5 Collecting ∷ [])
    []

-- "Whoever picks the next cabinet from a set shall now pick the highest, in inviting, forwarding and handing." An event that leaves the activity of its node as it was
-- picks nobody.
pub record NoLowerFirst : Type 0 where
  -- after no event on any table does a node call one, while that one or a higher one, j, of the same set is still to be called; of an inviting node: of those found
  pub lower_first : (t : Table) (e : Event) (j : ℕ) {r : Outcome} → Stepped t e r
      → ((node_at (view r.table) (actor e)).activity ≡ (node_at (view t) (actor e)).activity → ⊥)
      → has (whom_still (node_at (view r.table) (actor e)).activity) j ≡ true → whom_now (node_at (view r.table) (actor e)).activity ≤ j → ⊥
  -- nor of those set aside, where it was inviting and none of those found was left
  pub lower_aside : (t : Table) (e : Event) (j former was : ℕ) {r : Outcome} → Stepped t e r
      → ((node_at (view r.table) (actor e)).activity ≡ (node_at (view t) (actor e)).activity → ⊥) → (node_at (view t) (actor e)).activity ≡ Inviting none former was
      → has (whom_aside (node_at (view r.table) (actor e)).activity) j ≡ true → whom_now (node_at (view r.table) (actor e)).activity ≤ j → ⊥
  -- nor is the message, m, sent to another than the one whom the node then calls
  pub sends_elsewhere : (t : Table) (e : Event) (m : Message) {r : Outcome} → Stepped t e r
      → ((node_at (view r.table) (actor e)).activity ≡ (node_at (view t) (actor e)).activity → ⊥) → 1 ≤ whom_now (node_at (view r.table) (actor e)).activity
      → (view r.table).queue ≡ remaining (view t) e ++ (m ∷ []) → (m.receiver ≡ whom_now (node_at (view r.table) (actor e)).activity → ⊥) → ⊥
  -- for one: node 3 does not hand Ready to 1 first
  pub hands_lowest : {r : Outcome} → Stepped (table_of collecting_table) (Finish 3 (record { number = 100 })) r → (node_at (view r.table) 3).activity ≡ Handing (set_of (2 ∷ [])) 1 → ⊥
  -- in no table that the code reached from the starting one does a node call one while that one or a higher one of the same set is still to be called
  pub lower_in_runs : (n : ℕ) (l : Limits) {es : List Event} {t : Table} → Reached Folded n l es t → (i j : ℕ)
      → has (whom_still (node_at (view t) i).activity) j ≡ true → whom_now (node_at (view t) i).activity ≤ j → ⊥

-- ── 02, T-03: an invitation that arrives twice ──

-- "From now on an invitation to the group a cabinet already holds gets a plain reply and changes nothing else."
pub record NoJoiningAgain : Type 0 where
  -- at its delivery no machine changes a record, of the receiver or of another, in any table
  pub changes_records : (t : Table) (a b : ℕ) → (oldest a b (view t).queue).kind ≡ 3 → Holds (view t) a b
      → {r : Outcome} → Stepped t (Deliver a b) r → ((view r.table).nodes ≡ (view t).nodes → ⊥) → ⊥
  -- where the table is in range and the receiver not Down, no machine refuses it (T-05: where the count of the reply's pair is not at its end)
  pub refuses : (t : Table) (a b : ℕ) → InvitationReaches (view t) a b → MaySend (view t) b a → Holds (view t) a b
      → {r : Outcome} → Stepped t (Deliver a b) r → (r.answer ≡ Accepted → ⊥) → ⊥
  -- nor leaves other messages than `with_plain_reply` has
  pub other_messages : (t : Table) (a b : ℕ) → InvitationReaches (view t) a b → MaySend (view t) b a → Holds (view t) a b
      → {r : Outcome} → Stepped t (Deliver a b) r → ((view r.table).queue ≡ (with_plain_reply (view t) a b).queue → ⊥) → ⊥
  -- the opposite mistake: after an accepted delivery of an invitation to a group that the receiver neither owns nor holds, be it of the same coordinator, no machine has
  -- it Normal
  pub stays_normal : (t : Table) (a b : ℕ) → (oldest a b (view t).queue).kind ≡ 3 → (Owns (view t) a b → ⊥) → (Holds (view t) a b → ⊥)
      → {r : Outcome} → Stepped t (Deliver a b) r → r.answer ≡ Accepted → is_normal (node_at (view r.table) b).status ≡ true → ⊥
  -- for one: 02's story. The invitation that came late had "put it back into Reorganization"; now node 1 is Normal after it.
  pub leaves_normal : {u : Table} → Folded (starting_table 3 tower) (invited_once ++ (Deliver 2 1 ∷ [])) u → ((node_at (view u) 1).status ≡ Normal → ⊥) → ⊥

-- ── 02, T-04: recovery as the paper prints it ──

-- A machine is here whatever answers a table t and a number i with q. In the fields up to `normal_early` q is accepted.
pub record NoOtherRecovery : Type 0 where
  -- one that sets all fields at once, and answers the same record eight times
  pub at_once : {t : Table} {i : ℕ} {q : RecoveryAnswer} → RecoveryAnswered t i q → q.answer ≡ Accepted → record_after 1 q.records ≡ record_after 8 q.records → ⊥
  -- one that sets what no assignment sets: not each of the eight records has the last call number, or the activity, of the node's record
  pub sets_last : {t : Table} {i : ℕ} {q : RecoveryAnswer} → RecoveryAnswered t i q → q.answer ≡ Accepted
      → (map (λ c. c.last) q.records ≡ replicate 8 (node_at (view t) i).last → ⊥) → ⊥
  pub sets_activity : {t : Table} {i : ℕ} {q : RecoveryAnswer} → RecoveryAnswered t i q → q.answer ≡ Accepted
      → (map (λ c. c.activity) q.records ≡ replicate 8 (node_at (view t) i).activity → ⊥) → ⊥
  -- one that passes Election over, or counts with it
  pub no_election : {t : Table} {i : ℕ} {q : RecoveryAnswer} → RecoveryAnswered t i q → q.answer ≡ Accepted
      → ((record_after 1 q.records).status ≡ Election → ⊥) → ⊥
  pub counts_early : {t : Table} {i : ℕ} {q : RecoveryAnswer} → RecoveryAnswered t i q → q.answer ≡ Accepted
      → ((record_after 1 q.records).counter ≡ (node_at (view t) i).counter → ⊥) → ⊥
  -- one that forms the group before it counts, or of the counter before
  pub group_early : {t : Table} {i : ℕ} {q : RecoveryAnswer} → RecoveryAnswered t i q → q.answer ≡ Accepted
      → ((record_after 2 q.records).group ≡ (node_at (view t) i).group → ⊥) → ⊥
  pub group_before : {t : Table} {i : ℕ} {q : RecoveryAnswer} → RecoveryAnswered t i q → q.answer ≡ Accepted
      → ((record_after 3 q.records).group.number ≡ group_of ((node_at (view t) i).counter + 1) i → ⊥) → ⊥
  -- one that makes itself the coordinator before its group is new, or empties its members before it is the coordinator
  pub leads_early : {t : Table} {i : ℕ} {q : RecoveryAnswer} → RecoveryAnswered t i q → q.answer ≡ Accepted
      → ((record_after 3 q.records).coordinator ≡ (node_at (view t) i).coordinator → ⊥) → ⊥
  pub empties_early : {t : Table} {i : ℕ} {q : RecoveryAnswer} → RecoveryAnswered t i q → q.answer ≡ Accepted
      → ((record_after 4 q.records).members ≡ (node_at (view t) i).members → ⊥) → ⊥
  -- one that turns to Reorganization before its members are emptied, takes the task before it, passes it over, or is Normal without the task
  pub reorganizes_early : {t : Table} {i : ℕ} {q : RecoveryAnswer} → RecoveryAnswered t i q → q.answer ≡ Accepted → (record_after 5 q.records).status ≡ Reorganization → ⊥
  pub task_early : {t : Table} {i : ℕ} {q : RecoveryAnswer} → RecoveryAnswered t i q → q.answer ≡ Accepted
      → ((record_after 6 q.records).task ≡ (node_at (view t) i).task → ⊥) → ⊥
  pub no_reorganization : {t : Table} {i : ℕ} {q : RecoveryAnswer} → RecoveryAnswered t i q → q.answer ≡ Accepted
      → ((record_after 6 q.records).status ≡ Reorganization → ⊥) → ⊥
  pub normal_early : {t : Table} {i : ℕ} {q : RecoveryAnswer} → RecoveryAnswered t i q → q.answer ≡ Accepted → (record_after 7 q.records).status ≡ Normal → ⊥
  -- one that turns a node away which can recover
  pub turns_away : {t : Table} {i : ℕ} {q : RecoveryAnswer} → in_range (view t) ≡ true → 1 ≤ i → i ≤ t.n → is_down (node_at (view t) i).status ≡ true
      → ((node_at (view t) i).counter ≡ counter_end → ⊥) → RecoveryAnswered t i q → (q.answer ≡ Accepted → ⊥) → ⊥
  -- one that answers records where it must not: the table is not in range, i is no node, it is not Down, or its counter is at its end
  pub not_in_range : {t : Table} {i : ℕ} {q : RecoveryAnswer} → in_range (view t) ≡ false → RecoveryAnswered t i q → q.answer ≡ Accepted → ⊥
  pub no_node : {t : Table} {i : ℕ} {q : RecoveryAnswer} → is_node t.n i ≡ false → RecoveryAnswered t i q → q.answer ≡ Accepted → ⊥
  pub not_down : {t : Table} {i : ℕ} {q : RecoveryAnswer} → is_down (node_at (view t) i).status ≡ false → RecoveryAnswered t i q → q.answer ≡ Accepted → ⊥
  pub at_end : {t : Table} {i : ℕ} {q : RecoveryAnswer} → (node_at (view t) i).counter ≡ counter_end → RecoveryAnswered t i q → q.answer ≡ Accepted → ⊥

-- ── 02, T-05: traffic totals ──

-- No machine that meets `Stepped` is:
pub record NoOtherCounts : Type 0 where
  -- one that counts a refused event
  pub counts_refused : {t : Table} {e : Event} {r : Outcome} → Stepped t e r → (r.answer ≡ Accepted → ⊥)
      → ((r.table.sent ≡ t.sent) × (r.table.delivered ≡ t.delivered) × (r.table.lost ≡ t.lost) → ⊥) → ⊥
  -- a loss as a delivery, a delivery as a loss, or a loss as something sent
  pub lost_as_delivered : {t : Table} {a b : ℕ} {r : Outcome} → Stepped t (Lose a b) r → (r.table.delivered ≡ t.delivered → ⊥) → ⊥
  pub delivered_as_lost : {t : Table} {a b : ℕ} {r : Outcome} → Stepped t (Deliver a b) r → (r.table.lost ≡ t.lost → ⊥) → ⊥
  pub lost_as_sent : {t : Table} {a b : ℕ} {r : Outcome} → Stepped t (Lose a b) r → (r.table.sent ≡ t.sent → ⊥) → ⊥
  -- another event as a delivery or a loss
  pub others_counted : {t : Table} {e : Event} {r : Outcome} → takes e ≡ false → Stepped t e r → ((r.table.delivered ≡ t.delivered) × (r.table.lost ≡ t.lost) → ⊥) → ⊥
  -- an accepted deliver or lose not at all, or in another pair than its own
  pub delivery_uncounted : {t : Table} {a b : ℕ} {r : Outcome} → Stepped t (Deliver a b) r → r.answer ≡ Accepted
      → (r.table.delivered ≡ one_more t.delivered a b → ⊥) → ⊥
  pub loss_uncounted : {t : Table} {a b : ℕ} {r : Outcome} → Stepped t (Lose a b) r → r.answer ≡ Accepted → (r.table.lost ≡ one_more t.lost a b → ⊥) → ⊥
  -- a message that is sent not at all, or in another pair than its own
  pub sent_uncounted : {t : Table} {e : Event} {r : Outcome} (m : Message) → Stepped t e r → r.answer ≡ Accepted → (reaction_to (view t) e).outgoing ≡ Some m
      → (r.table.sent ≡ one_more t.sent m.sender m.receiver → ⊥) → ⊥
  -- and where none is sent, one all the same
  pub none_sent : {t : Table} {e : Event} {r : Outcome} → Stepped t e r → (reaction_to (view t) e).outgoing ≡ None → (r.table.sent ≡ t.sent → ⊥) → ⊥
  -- one that sends a message of a pair whose count is at its end
  pub past_end : {t : Table} {e : Event} {r : Outcome} (m : Message) → Stepped t e r → (reaction_to (view t) e).outgoing ≡ Some m
      → count_at t.sent m.sender m.receiver ≡ traffic_end → r.answer ≡ Accepted → ⊥
  -- one that gives 17 where nothing is sent, or another pair's count, or none, is at its end
  pub seventeen_unsent : {t : Table} {e : Event} {r : Outcome} → Stepped t e r → (reaction_to (view t) e).outgoing ≡ None → r.answer ≡ Err SentAtEnd → ⊥
  pub seventeen_early : {t : Table} {e : Event} {r : Outcome} (m : Message) → Stepped t e r → (reaction_to (view t) e).outgoing ≡ Some m
      → (count_at t.sent m.sender m.receiver ≡ traffic_end → ⊥) → r.answer ≡ Err SentAtEnd → ⊥
  -- or where another ground applies first
  pub seventeen_first : {t : Table} {e : Event} {r : Outcome} (k : ℕ) → FirstApplies (grounds (view t) e) k → (k ≡ 17 → ⊥) → Stepped t e r → r.answer ≡ Err SentAtEnd → ⊥
  -- one that takes a table whose counts are not in range
  pub takes_wrong_counts : {t : Table} {e : Event} {r : Outcome} → traffic_in_range (view t) ≡ false → Stepped t e r → (r.answer ≡ Err NotInRange → ⊥) → ⊥

-- ── 02, T-06: checks only by a coordinator ──

-- No machine that meets `Stepped` is:
pub record NoOtherChecks : Type 0 where
  -- one that lets the check of a node pass which is not Normal, or not its own coordinator: 01's own, which answered accepted and changed nothing, for one
  pub passes : {t : Table} {i : ℕ} {r : Outcome} → DoesNotLead (view t) i → Stepped t (Check i) r → r.answer ≡ Accepted → ⊥
  -- or changes something at it
  pub changes : {t : Table} {i : ℕ} {r : Outcome} → DoesNotLead (view t) i → Stepped t (Check i) r → (r.table ≡ t → ⊥) → ⊥
  -- or gives it another number, where the table is in range and i a node that is idle and not Down
  pub other_number : {t : Table} {i : ℕ} {r : Outcome} → DoesNotLead (view t) i → CheckReaches (view t) i → Stepped t (Check i) r → (r.answer ≡ Err NotCoordinator → ⊥) → ⊥
  -- one that gives 18 to another event
  pub other_event : {t : Table} {e : Event} {r : Outcome} → Stepped t e r → (e ≡ Check (actor e) → ⊥) → r.answer ≡ Err NotCoordinator → ⊥
  -- or before 1, 7, 9 or 10, or to a coordinator
  pub too_soon : {t : Table} {i : ℕ} {r : Outcome} → (CheckReaches (view t) i → ⊥) → Stepped t (Check i) r → r.answer ≡ Err NotCoordinator → ⊥
  pub to_coordinator : {t : Table} {i : ℕ} {r : Outcome} → (node_at (view t) i).status ≡ Normal → (node_at (view t) i).coordinator ≡ i
      → Stepped t (Check i) r → r.answer ≡ Err NotCoordinator → ⊥
  -- one that turns the check of a coordinator away, where 13, 14 and 17 do not apply
  pub turns_away : {t : Table} {i : ℕ} {r : Outcome} → 1 < t.n → CheckReaches (view t) i → (node_at (view t) i).status ≡ Normal → (node_at (view t) i).coordinator ≡ i
      → (node_at (view t) i).last.number < call_end → t.waiting < t.limits.messages → MaySend (view t) i (first_other i) → Stepped t (Check i) r → (r.answer ≡ Accepted → ⊥) → ⊥
  -- one that lets a check pass and asks another cabinet, or not at all, or changes anything else
  pub asks_otherwise : {t : Table} {i : ℕ} {r : Outcome} → Stepped t (Check i) r → r.answer ≡ Accepted → (view r.table ≡ with_check (view t) i → ⊥) → ⊥
  -- one that with n = 1 turns away the check of a coordinator, or does something at any check
  pub one_away : {t : Table} {i : ℕ} {r : Outcome} → t.n ≡ 1 → CheckReaches (view t) i → (node_at (view t) i).status ≡ Normal → (node_at (view t) i).coordinator ≡ i
      → Stepped t (Check i) r → (r.answer ≡ Accepted → ⊥) → ⊥
  pub one_changes : {t : Table} {i : ℕ} {r : Outcome} → t.n ≡ 1 → Stepped t (Check i) r → (view r.table ≡ view t → ⊥) → ⊥
  -- one that gives 18 to one of the first seven events from the starting table
  pub early : (n : ℕ) (l : Limits) {es : List Event} {t : Table} {e : Event} {r : Outcome} → Reached Folded n l es t → length es ≤ 6 → Stepped t e r → r.answer ≡ Err NotCoordinator → ⊥

-- ── 02, T-10: full peal only by a majority ──

-- No machine that meets `Stepped` is one of these. (A machine that lets two coordinators start a full peal which both counted a node is not among them: 02 says nothing of that.)
pub record NoOtherPeals : Type 0 where
  -- one that lets a full peal pass where node i and its members together are not more than half of n
  pub passes : {t : Table} {i : ℕ} {x : TaskNo} {r : Outcome} → FullPeal x.number → (MoreThanHalf t.n (node_at (view t) i) → ⊥) → Stepped t (Finish i x) r → r.answer ≡ Accepted → ⊥
  -- or changes something at it
  pub changes : {t : Table} {i : ℕ} {x : TaskNo} {r : Outcome} → FullPeal x.number → (MoreThanHalf t.n (node_at (view t) i) → ⊥) → Stepped t (Finish i x) r → (r.table ≡ t → ⊥) → ⊥
  -- or gives it another number, where the table is in range and i a node that collects: 13, 14 or 17 before 19, say
  pub other_number : {t : Table} {i : ℕ} {x : TaskNo} {r : Outcome} → WithoutMajority (view t) i x → Stepped t (Finish i x) r → (r.answer ≡ Err NoMajority → ⊥) → ⊥
  -- one that lets it pass where they are just half of n: "less than" read for "at most"
  pub passes_half : {t : Table} {i : ℕ} {x : TaskNo} {r : Outcome} → FullPeal x.number → 2 * (1 + count (node_at (view t) i).members) ≡ t.n → Stepped t (Finish i x) r → r.answer ≡ Accepted → ⊥
  -- one that gives 19 to another event
  pub other_event : {t : Table} {e : Event} {r : Outcome} → Stepped t e r → ((i : ℕ) (x : TaskNo) → e ≡ Finish i x → ⊥) → r.answer ≡ Err NoMajority → ⊥
  -- or with another task
  pub other_task : {t : Table} {i : ℕ} {x : TaskNo} {r : Outcome} → (FullPeal x.number → ⊥) → Stepped t (Finish i x) r → r.answer ≡ Err NoMajority → ⊥
  -- or before 1, 7, 8, 9 or 10
  pub too_soon : {t : Table} {i : ℕ} {x : TaskNo} {r : Outcome} → (FinishReaches (view t) i x → ⊥) → Stepped t (Finish i x) r → r.answer ≡ Err NoMajority → ⊥
  -- or where node i and its members are more than half of n: one that leaves node i itself out of the count, say
  pub to_majority : {t : Table} {i : ℕ} {x : TaskNo} {r : Outcome} → MoreThanHalf t.n (node_at (view t) i) → Stepped t (Finish i x) r → r.answer ≡ Err NoMajority → ⊥
  -- or with n = 1
  pub to_one : {t : Table} {e : Event} {r : Outcome} → t.n ≡ 1 → Stepped t e r → r.answer ≡ Err NoMajority → ⊥
  -- or to one of the first six events from the starting table
  pub early : (n : ℕ) (l : Limits) {es : List Event} {t : Table} {e : Event} {r : Outcome} → Reached Folded n l es t → length es ≤ 5 → Stepped t e r → r.answer ≡ Err NoMajority → ⊥
  -- "a member that has left since still counts": one for which 19 depends on anything but n, the task and node i's own record, on what the members do now, say, or on the
  -- limits. u is another table in range with the same n and the same record of i
  pub looks_further : {t u : Table} {i : ℕ} {x : TaskNo} {r q : Outcome} → t.n ≡ u.n → node_at (view t) i ≡ node_at (view u) i → in_range (view u) ≡ true
      → Stepped t (Finish i x) r → r.answer ≡ Err NoMajority → Stepped u (Finish i x) q → (q.answer ≡ Err NoMajority → ⊥) → ⊥
  -- one that turns away a finish with more than half of n, or with another task, where 13, 14 and 17 do not apply
  pub turns_away : {t : Table} {i : ℕ} {x : TaskNo} {r : Outcome} → FinishReaches (view t) i x → (FullPeal x.number → MoreThanHalf t.n (node_at (view t) i)) → MayHand (view t) i
      → Stepped t (Finish i x) r → (r.answer ≡ Accepted → ⊥) → ⊥
  -- one that lets a finish pass and does anything else
  pub finishes_otherwise : {t : Table} {i : ℕ} {x : TaskNo} {r : Outcome} → Stepped t (Finish i x) r → r.answer ≡ Accepted → (view r.table ≡ with_finish (view t) i x → ⊥) → ⊥

-- ── 02, T-08: a practice stand ──

-- "Grounds 1, 6 and 14 read the table's own limits.": no machine that meets `Stepped`, or `Begun`, is
pub record NoOtherLimits : Type 0 where
  -- one that finds the queue full where fewer wait than the table's own limit says
  pub early_full : {t : Table} {e : Event} {r : Outcome} → Stepped t e r → r.answer ≡ Err QueueFull → (t.waiting ≡ t.limits.messages → ⊥) → ⊥
  -- one that accepts an event though more wait after it than that limit
  pub over_full : {t : Table} {e : Event} {r : Outcome} → Stepped t e r → r.answer ≡ Accepted → t.limits.messages < r.table.waiting → ⊥
  -- one that takes a table with another pair of limits, with more nodes than its own limit or with more messages; each is refused with 1
  pub other_pair : {t : Table} {e : Event} {r : Outcome} → Stepped t e r → is_tower_or_stand t.limits ≡ false → (r.answer ≡ Err NotInRange → ⊥) → ⊥
  pub many_nodes : {t : Table} {e : Event} {r : Outcome} → Stepped t e r → t.limits.nodes < t.n → (r.answer ≡ Err NotInRange → ⊥) → ⊥
  pub many_messages : {t : Table} {e : Event} {r : Outcome} → Stepped t e r → t.limits.messages < t.waiting → (r.answer ≡ Err NotInRange → ⊥) → ⊥
  -- one that changes the limits
  pub changes_limits : {t : Table} {e : Event} {r : Outcome} → Stepped t e r → (r.table.limits ≡ t.limits → ⊥) → ⊥
  -- one that starts a table of another pair, or of more nodes than the pair allows, or turns away one that may start
  pub starts_other : {n : ℕ} {l : Limits} {r : Start} → Begun n l r → is_tower_or_stand l ≡ false → (r.answer ≡ Err WrongLimits → ⊥) → ⊥
  pub starts_wrong : {n : ℕ} {l : Limits} {r : Start} → Begun n l r → is_tower_or_stand l ≡ true → wrong_count l.nodes n ≡ true → (r.answer ≡ Err WrongCount → ⊥) → ⊥
  pub starts_none : {n : ℕ} {l : Limits} {r : Start} → Begun n l r → MayStart TwoPairs n l → (r.answer ≡ Started → ⊥) → ⊥
