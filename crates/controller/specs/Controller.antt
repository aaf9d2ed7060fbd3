-- One node's share of the machine (02, T-11: "The controller in the cabinet"). "It takes n, its own number, its own record and one event other than deliver and lose or one incoming message, and gives
-- the new record and at most one outgoing message." "The result depends on nothing but those four things": `controller_step` is a function of them, and the code promises
-- what it gives (ControllerStepped). What n of them over one queue of messages do is in Network.
use Rattle.std.specs.Prelude.{ℕ, Bool, false, not, ◌&&◌, List, [], ◌∷◌, eqb, Option, None, Some}
use Rattle.model.specs.Limits.{node_limit, counter_end, call_end}
use Rattle.model.specs.Grounds.{Ground, ground, judged}
use Rattle.model.specs.React.{react}
use Rattle.model.specs.Range.{is_node, node_in_range}
use Rattle.model.specs.State.{is_count}
use Rattle.model.specs.Step.{actor, wrong_number, wrong_task, wrong_status, wrong_activity, not_coordinator, no_majority, forms, is_calling}
use Rattle.model.specs.declared.Node.{Node}
use Rattle.model.specs.declared.Message.{Message}
use Rattle.model.specs.declared.Reaction.{Reaction}
use Rattle.model.specs.declared.Input.{Input}
use Rattle.model.specs.declared.Event.{Event}
use Rattle.message_fields.specs.Fields.{fields, message_in, is_message}
use Rattle.controller.specs.declared.LocalEvent.{LocalEvent}
use Rattle.controller.specs.declared.LocalEvent.TheVariants.{Crash, Recover, Check, Timeout, Tick, Expire, Finish}

-- ── what a controller is told ──

-- "one event other than deliver and lose or one incoming message", in bytes
pub data Incoming : Type 0 where
  event : LocalEvent → Incoming
  message : List ℕ → Incoming

-- such an event as one of 01's nine
abbrev pub as_event : LocalEvent → Event
as_event (Crash i) = Event.Crash i
as_event (Recover i) = Event.Recover i
as_event (Check i) = Event.Check i
as_event (Timeout i) = Event.Timeout i
as_event (Tick i) = Event.Tick i
as_event (Expire i) = Event.Expire i
as_event (Finish i t) = Event.Finish i t

-- what the table would be told: the event, or that the message is delivered
abbrev pub event_of : Incoming → Event
event_of (event e) = as_event e
event_of (message l) = Event.Deliver (message_in l).sender (message_in l).receiver

-- what the node is told
abbrev pub input_of : LocalEvent → Input
input_of (Crash i) = Input.Crash
input_of (Recover i) = Input.Recover
input_of (Check i) = Input.Check
input_of (Timeout i) = Input.Timeout
input_of (Tick i) = Input.Tick
input_of (Expire i) = Input.Expire
input_of (Finish i t) = Input.Finish t

abbrev pub input_in : Incoming → Input
input_in (event e) = input_of e
input_in (message l) = Input.Receive (message_in l)

-- ── what node i of n, with the record c, does with it: the local step of the whole machine ──
unfoldable pub reaction_in : ℕ → ℕ → Node → Incoming → Reaction
reaction_in n i c x = react n i c (input_in x)

-- "at most one outgoing message", in bytes; none where nothing is sent
abbrev pub sent_bytes : Option Message → List ℕ
sent_bytes None = []
sent_bytes (Some m) = fields m

-- ── the grounds: "Checks: 20, a message's bytes are not of that form, hold a number out of range or have the same sender and receiver; 21, it or the event is for another cabinet; both after 8
-- and before 9." ──

-- 1: "An n or own number out of range, or a record not in range for that n, meets 1." n is 1 to 16, whatever limits a table would have.
abbrev pub in_range_for : ℕ → ℕ → Node → Bool
in_range_for n i c = is_count node_limit n && (is_node n i && node_in_range n i c)

-- 7 and 8 are grounds of an event's numbers
abbrev pub wrong_number_in : ℕ → Incoming → Bool
wrong_number_in n (event e) = wrong_number n (as_event e)
wrong_number_in n (message l) = false

abbrev pub wrong_task_in : Incoming → Bool
wrong_task_in (event e) = wrong_task (as_event e)
wrong_task_in (message l) = false

-- 20 is one of a message
abbrev pub wrong_message : ℕ → Incoming → Bool
wrong_message n (event e) = false
wrong_message n (message l) = not (is_message n l)

-- 21: "it or the event is for another cabinet"
abbrev pub is_for_other : ℕ → Incoming → Bool
is_for_other i x = not (eqb (actor (event_of x)) i)

-- The table of grounds of controller i of n, with the record c. 9, 10, 18, 19, 12 and 13 are those of the whole machine, of this node; 11, of "deliver with nothing waiting", and "grounds 14 and 17 .. belong to the queue".
unfoldable pub controller_grounds : ℕ → ℕ → Node → Incoming → List Ground
controller_grounds n i c x =
    ground 1 (not (in_range_for n i c))
    ∷ ground 7 (wrong_number_in n x)
    ∷ ground 8 (wrong_task_in x)
    ∷ ground 20 (wrong_message n x)
    ∷ ground 21 (is_for_other i x)
    ∷ ground 9 (wrong_status c.status (event_of x))
    ∷ ground 10 (wrong_activity c.activity (event_of x))
    ∷ ground 18 (not_coordinator c (event_of x))
    ∷ ground 19 (no_majority n c (event_of x))
    ∷ ground 12 (forms (reaction_in n i c x).mark && eqb c.counter counter_end)
    ∷ ground 13 (is_calling (reaction_in n i c x).outgoing && eqb c.last.number call_end)
    ∷ []

-- ── the step ──

-- refused with a ground's number; or accepted: "the new record and at most one outgoing message"
pub data Result : Type 0 where
  refused : ℕ → Result
  accepted : Node → List ℕ → Result

-- by the first ground that applies
unfoldable pub controller_step : ℕ → ℕ → Node → Incoming → Result
controller_step n i c x = judged refused (accepted (reaction_in n i c x).node (sent_bytes (reaction_in n i c x).outgoing)) (controller_grounds n i c x)

-- its number, 0 where it is accepted; the record after it, which a refusal leaves as it was; the bytes that are sent, none by a refusal
abbrev pub result_number : Result → ℕ
result_number (refused r) = r
result_number (accepted d l) = 0

abbrev pub node_after : Node → Result → Node
node_after c (refused r) = c
node_after c (accepted d l) = d

abbrev pub sent_in : Result → List ℕ
sent_in (refused r) = []
sent_in (accepted d l) = l
