-- What is claimed of controllers (02, T-11): that n of them over one queue answer as the whole table does, and so that demand 3 holds of every run of them; and of one by itself. The proofs are in
-- proofs/Alike, proofs/Runs, proofs/Holds, proofs/Outcomes and proofs/Alone.
use Rattle.std.specs.Prelude.{ℕ, ◌≤◌, Bool, true, false, not, ◌&&◌, ◌≡◌, ◌⊎◌, List, [], ◌∷◌, ◌++◌, map, length, take}
use Rattle.model.specs.Pick.{pick}
use Rattle.model.specs.Node.{is_active}
use Rattle.model.specs.Range.{PairRule, LeftOut, is_node, carries_group, node_in_range}
use Rattle.model.specs.State.{State, node_at, waits, oldest, in_range}
use Rattle.model.specs.Step as table
use Rattle.model.specs.Step.{actor, is_lose, reaction_to, effect, forms, step}
use Rattle.model.specs.History.{History, NotFormed, NoTask, Task, newest, coming, history_by}
use Rattle.model.specs.Answers.{answer_number, is_accepted}
use Rattle.model.specs.Limits.{node_limit}
use Rattle.model.specs.Grounds.{NoneApplies}
use Rattle.model.specs.Claims.{MayStart, FullPeal, MoreThanHalf, FirstApplies}
use Rattle.model.specs.declared.Limits.{Limits}
use Rattle.model.specs.declared.Status.TheVariants.{Normal}
use Rattle.model.specs.declared.TaskNo.{TaskNo}
use Rattle.model.specs.declared.Node.{Node}
use Rattle.model.specs.declared.Event.{Event}
use Rattle.model.specs.declared.Event.TheVariants.{Crash, Recover, Check, Timeout, Tick, Expire, Finish, Deliver, Lose}
use Rattle.message_fields.specs.Fields.{fields, message_in, is_message}
use Rattle.controller.specs.declared.LocalEvent.{LocalEvent}
use Rattle.controller.specs.declared.ControllerOutcome.{ControllerOutcome}
use Rattle.controller.specs.Controller as controller
use Rattle.controller.specs.Controller.{Incoming, event, message, as_event, reaction_in, sent_bytes, in_range_for, controller_grounds, controller_step}
use Rattle.controller.specs.Stepped.{ControllerStepped}
use Rattle.controller.specs.Network.{Network, record_at, start_network, network_of, oldest_in, Result, refused, accepted, Controllers, step_by, run_by, network_step, network_run}

-- ── the theorem: "From any table in range, running n of these over one message queue answers as the whole table does, event by event" ──

-- a result of the whole table, as one of the network: the same number, or the same records and messages
abbrev pub result_of : table.Result → Result
result_of (table.refused r) = refused r
result_of (table.accepted u k) = accepted (network_of u)

-- "apart from lose, deliver with nothing waiting": these events are the queue's alone
abbrev pub belongs_to_queue : State → Event → Bool
belongs_to_queue s (Crash i) = false
belongs_to_queue s (Recover i) = false
belongs_to_queue s (Check i) = false
belongs_to_queue s (Timeout i) = false
belongs_to_queue s (Tick i) = false
belongs_to_queue s (Expire i) = false
belongs_to_queue s (Finish i t) = false
belongs_to_queue s (Deliver a b) = not (waits a b s.queue)
belongs_to_queue s (Lose a b) = true

-- what the controller of an event's node is told, where `o a b` are the bytes of the oldest message from a to b
abbrev pub incoming_of : (ℕ → ℕ → List ℕ) → Event → Incoming
incoming_of o (Crash i) = event (LocalEvent.Crash i)
incoming_of o (Recover i) = event (LocalEvent.Recover i)
incoming_of o (Check i) = event (LocalEvent.Check i)
incoming_of o (Timeout i) = event (LocalEvent.Timeout i)
incoming_of o (Tick i) = event (LocalEvent.Tick i)
incoming_of o (Expire i) = event (LocalEvent.Expire i)
incoming_of o (Finish i t) = event (LocalEvent.Finish i t)
incoming_of o (Deliver a b) = message (o a b)
incoming_of o (Lose a b) = message (o a b)

-- from the table s: the event, or the bytes of the message that is delivered; lose tells no controller anything, and no claim depends on what stands for it here
abbrev pub incoming_at : State → Event → Incoming
incoming_at s e = incoming_of (λ a b. fields (oldest a b s.queue)) e

-- and what it answers
abbrev pub answer_at : State → Event → controller.Result
answer_at s e = controller_step s.n (actor e) (node_at s (actor e)) (incoming_at s e)

pub record AnswersAsTable : Type 0 where
  -- The answer is the table's, and so are the records and messages after it. 14 is the queue's, and the network's queue answers it where the table does. 17 is by the table's counts, which a network
  -- does not have; no run of the table meets it (TrafficAgrees.never_seventeen of crate model).
  pub same : (s : State) (e : Event) → in_range s ≡ true → belongs_to_queue s e ≡ false → (step s e ≡ table.refused 17 → ⊥) → network_step (network_of s) e ≡ result_of (step s e)
  -- "grounds 14 and 17, which belong to the queue": the controller itself accepts there, and gives what the node does
  pub queue_grounds : (s : State) (e : Event) → in_range s ≡ true → (step s e ≡ table.refused 14) ⊎ (step s e ≡ table.refused 17)
      → answer_at s e ≡ controller.accepted (reaction_to s e).node (sent_bytes (reaction_to s e).outgoing)
  -- and so the network goes on where the table meets 17
  pub seventeen : (s : State) (e : Event) → in_range s ≡ true → step s e ≡ table.refused 17 → network_step (network_of s) e ≡ accepted (network_of (effect s e))
  -- lose takes the oldest message out of the queue, as out of the table
  pub lose : (s : State) (a b : ℕ) → in_range s ≡ true → waits a b s.queue ≡ true → network_step (network_of s) (Lose a b) ≡ result_of (step s (Lose a b))
  -- deliver and lose with nothing waiting are refused by both: by the queue with 11, by the table with 7, 9 or 11
  pub none_waits_lem : (s : State) (a b : ℕ) → in_range s ≡ true → waits a b s.queue ≡ false
      → (network_step (network_of s) (Deliver a b) ≡ refused 11) × (network_step (network_of s) (Lose a b) ≡ refused 11)
  pub none_waits_deliver : (s : State) (a b : ℕ) → in_range s ≡ true → waits a b s.queue ≡ false → (step s (Deliver a b) ≡ table.refused 7) ⊎ ((step s (Deliver a b) ≡ table.refused 9) ⊎ (step s (Deliver a b) ≡ table.refused 11))
  pub none_waits_lose : (s : State) (a b : ℕ) → in_range s ≡ true → waits a b s.queue ≡ false → (step s (Lose a b) ≡ table.refused 7) ⊎ (step s (Lose a b) ≡ table.refused 11)
  -- an event of a node that is none of the n is refused with 7 by each of the n controllers, whichever is told of it
  pub no_node : (s : State) (e : LocalEvent) (j : ℕ) → in_range s ≡ true → is_node s.n (actor (as_event e)) ≡ false → 1 ≤ j → j ≤ s.n → controller_step s.n j (node_at s j) (event e) ≡ controller.refused 7

-- no event of the list meets 17, from the table s
abbrev pub NeverSeventeen : State → List Event → Type 0
NeverSeventeen s [] = Unit {0}
NeverSeventeen s (e ∷ es) = (step s e ≡ table.refused 17 → ⊥) × NeverSeventeen (table.after s e) es

-- Every list of events leads to the same records and messages. 01: "A power cut is a crash event and a lost message a lose event; either may stand anywhere in the list"; events that are refused too.
pub record RunsAsTable : Type 0 where
  -- from any table in range
  pub from_any : (s : State) (es : List Event) → in_range s ≡ true → NeverSeventeen s es → run_by controller_step (network_of s) es ≡ network_of (table.run_from s es)
  -- from the start, where no event meets 17
  pub runs : (r : PairRule) (n : ℕ) (l : Limits) → MayStart r n l → (es : List Event) → network_run n l.messages es ≡ network_of (table.run_by r n l es)
  -- and the answers on the way are the table's too, but for the number of a refusal where nothing waits
  pub answers : (r : PairRule) (n : ℕ) (l : Limits) → MayStart r n l → (es : List Event) (e : Event) → belongs_to_queue (table.run_by r n l es) e ≡ false
      → network_step (network_run n l.messages es) e ≡ result_of (step (table.run_by r n l es) e)

-- ── demand 3 of every run of n controllers over such a queue ──

-- Whether the event's node forms a group in it: by the definition of what a node does, with the record that its controller keeps and what it is told. It stands for the mark of a step of the table (`forms`).
abbrev pub forms_at : Network → Event → Bool
forms_at w e = not (is_lose e) && forms (reaction_in w.n (actor e) (record_at w (actor e)) (incoming_of (λ a b. oldest_in a b w.queue) e)).mark

-- P holds of the group of each message that carries one
abbrev pub EachGroupIn : (ℕ → Type 0) → List (List ℕ) → Type 0
EachGroupIn P [] = Unit {0}
EachGroupIn P (l ∷ q) = (carries_group (message_in l).kind ≡ true → P (message_in l).group.number) × EachGroupIn P q

-- no waiting message holds group g; that of a message which carries none is read as 0, as it stands in every table of a run
abbrev pub UnsentIn : ℕ → List (List ℕ) → Type 0
UnsentIn g [] = Unit {0}
UnsentIn g (l ∷ q) = ((message_in l).group.number ≡ g → ⊥) × UnsentIn g q

-- the network does not hold g "as a group number, in a cabinet (Down ones too) or a waiting message": `Lacks` of crate model, of records and bytes
pub record LacksIn (w : Network) (g : ℕ) : Type 0 where
  pub in_records : (j : ℕ) → 1 ≤ j → j ≤ w.n → (record_at w j).group.number ≡ g → ⊥
  pub in_messages : UnsentIn g w.queue

-- The history (01: book) of a list, "fed n and the events alone", and by T-08 "the limits too": it is that of the definitions of 01 and has no network in it. The limit of nodes is 16, as a controller's: of a run
-- it decides nothing, since it stands in ground 1 alone.
abbrev pub history_of : ℕ → ℕ → List Event → History
history_of n limit es = history_by LeftOut n (record { nodes = node_limit; messages = limit }) es

-- Demand 3 of every run of n controllers that answer as f does, over a queue of `limit` messages. Each field but the last is that of `RunFixes` (model/specs/Claims), of the records that the controllers keep and the
-- bytes that wait, and the last is `PealsByMajority.only_if`. es is a beginning of the list, fs what comes next, and e an event after them that is accepted and leaves the network u.
pub record NetworkFixes (f : Controllers) (n limit : ℕ) : Type 0 where
  -- two nodes in Reorganization or Normal with the same group have the same coordinator
  pub same_coordinator : (es : List Event) (i j : ℕ) → 1 ≤ i → i ≤ n → 1 ≤ j → j ≤ n
      → is_active (record_at (run_by f (start_network n limit) es) i).status ≡ true → is_active (record_at (run_by f (start_network n limit) es) j).status ≡ true
      → (record_at (run_by f (start_network n limit) es) i).group.number ≡ (record_at (run_by f (start_network n limit) es) j).group.number
      → (record_at (run_by f (start_network n limit) es) i).coordinator ≡ (record_at (run_by f (start_network n limit) es) j).coordinator
  -- and two Normal ones the same task
  pub same_task : (es : List Event) (i j : ℕ) → 1 ≤ i → i ≤ n → 1 ≤ j → j ≤ n
      → (record_at (run_by f (start_network n limit) es) i).status ≡ Normal → (record_at (run_by f (start_network n limit) es) j).status ≡ Normal
      → (record_at (run_by f (start_network n limit) es) i).group.number ≡ (record_at (run_by f (start_network n limit) es) j).group.number
      → (record_at (run_by f (start_network n limit) es) i).task.number ≡ (record_at (run_by f (start_network n limit) es) j).task.number
  -- "The book's task is the one the list fixed"
  pub fixed_task : (es fs : List Event) (i : ℕ) → 1 ≤ i → i ≤ n → (record_at (run_by f (start_network n limit) es) i).status ≡ Normal
      → (history_of n limit (es ++ fs)).entry (record_at (run_by f (start_network n limit) es) i).group.number ≡ Task (record_at (run_by f (start_network n limit) es) i).task.number
  -- "A new group gets the book's number"
  pub numbered : (es : List Event) (e : Event) (u : Network) → step_by f (run_by f (start_network n limit) es) e ≡ accepted u → forms_at (run_by f (start_network n limit) es) e ≡ true
      → (record_at u (actor e)).group.number ≡ coming (history_of n limit es) (actor e)
  -- "and no table from the starting one to the one just before that event holds it as a group number, in a cabinet (Down ones too) or a waiting message": no record and no bytes on the cable
  pub fresh : (es fs : List Event) (e : Event) (u : Network) → step_by f (run_by f (start_network n limit) (es ++ fs)) e ≡ accepted u → forms_at (run_by f (start_network n limit) (es ++ fs)) e ≡ true
      → LacksIn (run_by f (start_network n limit) es) (coming (history_of n limit (es ++ fs)) (actor e))
  -- and no other group is new, in a record
  pub borrowed : (es : List Event) (e : Event) (u : Network) → step_by f (run_by f (start_network n limit) es) e ≡ accepted u → forms_at (run_by f (start_network n limit) es) e ≡ false
      → (j : ℕ) → 1 ≤ j → j ≤ n → LacksIn (run_by f (start_network n limit) es) (record_at u j).group.number → ⊥
  -- or in a message
  pub borrowed_messages : (es : List Event) (e : Event) (u : Network) → step_by f (run_by f (start_network n limit) es) e ≡ accepted u
      → EachGroupIn (λ g. LacksIn (run_by f (start_network n limit) es) g → (forms_at (run_by f (start_network n limit) es) e ≡ true) × (g ≡ coming (history_of n limit es) (actor e))) u.queue
  -- "no group ever gets a second task"
  pub formed_once : (es : List Event) (e : Event) (u : Network) → step_by f (run_by f (start_network n limit) es) e ≡ accepted u → forms_at (run_by f (start_network n limit) es) e ≡ true
      → (history_of n limit es).entry (coming (history_of n limit es) (actor e)) ≡ NotFormed
  pub given_once : (es : List Event) (i : ℕ) (t : TaskNo) (u : Network) → step_by f (run_by f (start_network n limit) es) (Finish i t) ≡ accepted u
      → (history_of n limit es).entry (newest (history_of n limit es) i) ≡ NoTask
  -- "the group that i formed last" is the one that controller i has
  pub own_group : (es : List Event) (i : ℕ) (t : TaskNo) (u : Network) → step_by f (run_by f (start_network n limit) es) (Finish i t) ≡ accepted u
      → (record_at (run_by f (start_network n limit) es) i).group.number ≡ newest (history_of n limit es) i
  -- and a task once given stays
  pub lasts : (es fs : List Event) (g t : ℕ) → (history_of n limit es).entry g ≡ Task t → (history_of n limit (es ++ fs)).entry g ≡ Task t
  -- T-10: a full peal is started only by a node that, with its members, is more than half of n
  pub by_majority : (es : List Event) (i : ℕ) (t : TaskNo) (u : Network) → step_by f (run_by f (start_network n limit) es) (Finish i t) ≡ accepted u → FullPeal t.number
      → MoreThanHalf n (record_at (run_by f (start_network n limit) es) i)

-- each of them is the bytes of a message among n nodes
abbrev pub EachMessage : ℕ → List (List ℕ) → Type 0
EachMessage n [] = Unit {0}
EachMessage n (l ∷ q) = (is_message n l ≡ true) × EachMessage n q

-- In every run there are n records, each in range; no more messages wait than may, and their bytes are messages; and no event meets 1, 20 or 21.
pub record NetworkInRange (f : Controllers) (n limit : ℕ) : Type 0 where
  pub same_n : (es : List Event) → (run_by f (start_network n limit) es).n ≡ n
  pub same_limit : (es : List Event) → (run_by f (start_network n limit) es).limit ≡ limit
  pub as_many : (es : List Event) → length (run_by f (start_network n limit) es).nodes ≡ n
  pub records : (es : List Event) (i : ℕ) → 1 ≤ i → i ≤ n → node_in_range n i (record_at (run_by f (start_network n limit) es) i) ≡ true
  pub room : (es : List Event) → length (run_by f (start_network n limit) es).queue ≤ limit
  pub messages : (es : List Event) → EachMessage n (run_by f (start_network n limit) es).queue
  pub never : (es : List Event) (e : Event) (r : ℕ) → step_by f (run_by f (start_network n limit) es) e ≡ refused r → (r ≡ 1 → ⊥) × ((r ≡ 20 → ⊥) × (r ≡ 21 → ⊥))

-- ── of the code ──

-- what an outcome of the code is as a result
unfoldable pub result_by : ControllerOutcome → controller.Result
result_by r = pick (is_accepted r.answer) (controller.accepted r.node (take r.packet.length r.packet.bytes)) (controller.refused (answer_number r.answer))

-- what controllers give out, for any numbers and bytes
abbrev pub Outcomes : Type 0
Outcomes = ℕ → ℕ → Node → Incoming → ControllerOutcome

-- Each outcome meets the promise of the code's functions. These are such outcomes for arguments that fit their words; for any other argument let g be `some` of ControllersHold.
abbrev pub MeetsPromise : Outcomes → Type 0
MeetsPromise g = (n i : ℕ) (c : Node) (x : Incoming) → ControllerStepped n i c x (g n i c x)

abbrev pub answers_of : Outcomes → Controllers
answers_of g n i c x = result_by (g n i c x)

-- The corollary. For n from 1 to 16 and a queue of up to 64 messages, demand 3 holds of every run of n controllers over it.
pub record ControllersHold : Type 0 where
  -- of the definitions
  pub fixes : (n limit : ℕ) → 1 ≤ n → n ≤ 16 → limit ≤ 64 → NetworkFixes controller_step n limit
  pub in_range_lem : (n limit : ℕ) → 1 ≤ n → n ≤ 16 → limit ≤ 64 → NetworkInRange controller_step n limit
  -- and of any controllers that meet the promise of the code
  pub code_fixes : (g : Outcomes) → MeetsPromise g → (n limit : ℕ) → 1 ≤ n → n ≤ 16 → limit ≤ 64 → NetworkFixes (answers_of g) n limit
  pub code_in_range : (g : Outcomes) → MeetsPromise g → (n limit : ℕ) → 1 ≤ n → n ≤ 16 → limit ≤ 64 → NetworkInRange (answers_of g) n limit
  -- an outcome that meets the promise is the definition's result: nothing of it is free
  pub stepped : (n i : ℕ) (c : Node) (x : Incoming) (r : ControllerOutcome) → ControllerStepped n i c x r → result_by r ≡ controller_step n i c x
  -- and there are such outcomes
  pub some : Outcomes
  pub some_meets : MeetsPromise some

-- ── one controller by itself, for any n, own number, record, and event or bytes ──
pub record ControllerRefuses : Type 0 where
  -- the order of the grounds: "20 .. 21 .. both after 8 and before 9"
  pub order : (n i : ℕ) (c : Node) (x : Incoming) → map (λ g. g.number) (controller_grounds n i c x) ≡ 1 ∷ 7 ∷ 8 ∷ 20 ∷ 21 ∷ 9 ∷ 10 ∷ 18 ∷ 19 ∷ 12 ∷ 13 ∷ []
  -- 01: "the first that applies is given, and none without its ground": a refusal's number is that of the first ground that applies
  pub first : (n i : ℕ) (c : Node) (x : Incoming) (r : ℕ) → controller_step n i c x ≡ controller.refused r → FirstApplies (controller_grounds n i c x) r
  pub first_given : (n i : ℕ) (c : Node) (x : Incoming) (r : ℕ) → FirstApplies (controller_grounds n i c x) r → controller_step n i c x ≡ controller.refused r
  -- and what none applies to is accepted
  pub none_accepts : (n i : ℕ) (c : Node) (x : Incoming) → NoneApplies (controller_grounds n i c x)
      → controller_step n i c x ≡ controller.accepted (reaction_in n i c x).node (sent_bytes (reaction_in n i c x).outgoing)
  -- so no controller answers 11, 14 or 17, nor 0
  pub never_queues : (n i : ℕ) (c : Node) (x : Incoming) (r : ℕ) → controller_step n i c x ≡ controller.refused r → (r ≡ 11 → ⊥) × ((r ≡ 14 → ⊥) × ((r ≡ 17 → ⊥) × (r ≡ 0 → ⊥)))

-- what is accepted leaves a record in range for the same n and own number, so that it can be handed in again, and sends nothing, or the bytes of a message of its own
pub record ControllerStaysInRange : Type 0 where
  pub record_after : (n i : ℕ) (c : Node) (x : Incoming) (d : Node) (l : List ℕ) → controller_step n i c x ≡ controller.accepted d l → in_range_for n i d ≡ true
  pub message_after : (n i : ℕ) (c : Node) (x : Incoming) (d : Node) (l : List ℕ) → controller_step n i c x ≡ controller.accepted d l
      → (l ≡ []) ⊎ ((is_message n l ≡ true) × ((message_in l).sender ≡ i))
