-- What the inner functions compute: parts of the model's step, over one node, one message and numbers, or over the table's arrays.
use Rattle.std.specs.Prelude.{Result, Ok, Err, IfOk, ℕ, suc, ◌+◌, ◌-◌, ◌*◌, ◌%◌, ◌≤◌, ◌<◌, ◌≡◌, ◌⊎◌, Bool, true, false, not, ◌&&◌, List, [], ◌∷◌, ◌++◌, eqb, leb, ltb, length, take, drop, set, get_or, Option, None, Some}
use Rattle.model.specs.Pick.{pick}
use Rattle.model.specs.Limits.{node_limit, traffic_end}
use Rattle.model.specs.Procedures.{stays}
use Rattle.model.specs.React.{react}
use Rattle.model.specs.Range.{is_tower_or_stand}
use Rattle.model.specs.State.{State, wrong_count, goes}
use Rattle.model.specs.Answers.{refusal_number}
use Rattle.model.specs.Grounds.{Ground, ground, first}
use Rattle.model.specs.Step.{actor, is_sending, pair_at_end, sent}
use Rattle.model.specs.declared.Limits.{Limits}
use Rattle.model.specs.declared.Node.{Node}
use Rattle.model.specs.declared.Message.{Message}
use Rattle.model.specs.declared.Reaction.{Reaction}
use Rattle.model.specs.declared.Input.{Input}
use Rattle.node_step.specs.Fits.{Fits}
use Rattle.node_step.specs.Grounds.{number_grounds, node_grounds, own_end_grounds}
use Rattle.model.specs.declared.Refusal.{Refusal}
use Rattle.model.specs.declared.Event.{Event}
use Rattle.model.specs.declared.Event.TheVariants.{Crash, Recover, Check, Timeout, Tick, Expire, Finish, Deliver, Lose}

-- ── the queue by places ──

-- where the oldest message from a to b stands, or the queue's length
unfoldable pub place : ℕ → ℕ → List Message → ℕ
place a b [] = 0
place a b (m ∷ ms) = pick (goes a b m) 0 (suc (place a b ms))

-- a list without its element at k
abbrev pub without : {A : Type 0} → ℕ → List A → List A
without k q = take k q ++ drop (k + 1) q

-- whether the event takes a message out, and from whom
abbrev pub takes : Event → Bool
takes (Crash i) = false
takes (Recover i) = false
takes (Check i) = false
takes (Timeout i) = false
takes (Tick i) = false
takes (Expire i) = false
takes (Finish i t) = false
takes (Deliver a b) = true
takes (Lose a b) = true

abbrev pub sender : Event → ℕ
sender (Crash i) = 0
sender (Recover i) = 0
sender (Check i) = 0
sender (Timeout i) = 0
sender (Tick i) = 0
sender (Expire i) = 0
sender (Finish i t) = 0
sender (Deliver a b) = a
sender (Lose a b) = a

-- where the event's message stands; the queue's length for an event that takes none
abbrev pub place_for : List Message → Event → ℕ
place_for q (Crash i) = length q
place_for q (Recover i) = length q
place_for q (Check i) = length q
place_for q (Timeout i) = length q
place_for q (Tick i) = length q
place_for q (Expire i) = length q
place_for q (Finish i t) = length q
place_for q (Deliver a b) = place a b q
place_for q (Lose a b) = place a b q

-- ── the counts by places (T-05): each event raises one count of each kind, by 1 or by 0 ──

-- the place of the count from a to b, where both are 1 to 16; one of the 256 for any numbers
abbrev pub place_of : ℕ → ℕ → ℕ
place_of a b = (a + 15) % 16 * 16 + (b + 15) % 16

-- of what was sent: where, and by how much
abbrev pub sent_place : Option Message → ℕ
sent_place None = 0
sent_place (Some m) = place_of m.sender m.receiver

abbrev pub sent_by : Option Message → ℕ
sent_by None = 0
sent_by (Some m) = 1

-- of what was delivered and lost
abbrev pub moved_place : Event → ℕ
moved_place e = place_of (sender e) (actor e)

abbrev pub delivered_by : Event → ℕ
delivered_by (Crash i) = 0
delivered_by (Recover i) = 0
delivered_by (Check i) = 0
delivered_by (Timeout i) = 0
delivered_by (Tick i) = 0
delivered_by (Expire i) = 0
delivered_by (Finish i t) = 0
delivered_by (Deliver a b) = 1
delivered_by (Lose a b) = 0

abbrev pub lost_by : Event → ℕ
lost_by (Crash i) = 0
lost_by (Recover i) = 0
lost_by (Check i) = 0
lost_by (Timeout i) = 0
lost_by (Tick i) = 0
lost_by (Expire i) = 0
lost_by (Finish i t) = 0
lost_by (Deliver a b) = 0
lost_by (Lose a b) = 1

-- counts with the one at place p raised by k
abbrev pub raised : List ℕ → ℕ → ℕ → List ℕ
raised l p k = set l p (get_or l p 0 + k)

-- no count is above the end
abbrev pub Small : List ℕ → Type 0
Small l = (p : ℕ) → get_or l p 0 ≤ traffic_end

-- the state after the event e with the reaction r: r's record stored at place `at`, the message at place k out, what is sent in, and both counted
abbrev pub stored : State → Event → ℕ → ℕ → Reaction → State
stored s e k at r = record {
  rule = s.rule;
  n = s.n;
  limits = s.limits;
  nodes = set s.nodes at r.node;
  queue = without k s.queue ++ sent r.outgoing;
  sent = raised s.sent (sent_place r.outgoing) (sent_by r.outgoing);
  delivered = raised s.delivered (moved_place e) (delivered_by e);
  lost = raised s.lost (moved_place e) (lost_by e);
}

-- w messages wait, and one of them, at k, goes out; or none, where k is w
abbrev pub Left : ℕ → ℕ → ℕ → Type 0
Left w k left = ((k < w) × (left + 1 ≡ w)) ⊎ ((k ≡ w) × (left ≡ w))

-- there is a place for what is sent
abbrev pub Room : Option Message → ℕ → Type 0
Room None left = Unit {0}
Room (Some m) left = left < 64

-- ── the range ──

-- of n and the number of waiting messages, by limits that are one of the two pairs (T-08)
abbrev pub within_limits : Limits → ℕ → ℕ → Bool
within_limits l n waiting = is_tower_or_stand l && not (wrong_count l.nodes n) && leb waiting l.messages

-- ── the grounds but 1, in four groups: `number_grounds` of node_step, and three ──

-- by the state; found: a message for the event waits
abbrev pub state_grounds : ℕ → Node → Event → Bool → List Ground
state_grounds n c e found = node_grounds n c e ++ (ground 11 (takes e && not found) ∷ [])

-- by the ends of the ranges, 17 apart; left: how many messages wait once the event's own is out, and limit: how many may
abbrev pub end_grounds : Node → Reaction → ℕ → ℕ → List Ground
end_grounds c r left limit = own_end_grounds c r ++ (ground 14 (is_sending r.outgoing && eqb left limit) ∷ [])

-- 17, behind all others, by the counts of what was sent
abbrev pub last_grounds : List ℕ → Option Message → List Ground
last_grounds l o = ground 17 (pair_at_end l o) ∷ []

-- the same by the count x of the pair
abbrev pub sent_at_end : Option Message → ℕ → Bool
sent_at_end o x = is_sending o && eqb x traffic_end

abbrev pub sent_grounds : List ℕ → Option Message → List Ground
sent_grounds l o = ground 17 (sent_at_end o (get_or l (sent_place o) 0)) ∷ []

-- ── the reaction to an event, of the node's record c and the message m ──
abbrev pub reacts_to : ℕ → Node → Message → Event → Reaction
reacts_to n c m (Crash i) = react n i c Input.Crash
reacts_to n c m (Recover i) = react n i c Input.Recover
reacts_to n c m (Check i) = react n i c Input.Check
reacts_to n c m (Timeout i) = react n i c Input.Timeout
reacts_to n c m (Tick i) = react n i c Input.Tick
reacts_to n c m (Expire i) = react n i c Input.Expire
reacts_to n c m (Finish i t) = react n i c (Input.Finish t)
reacts_to n c m (Deliver a b) = react n b c (Input.Receive m)
reacts_to n c m (Lose a b) = stays c

-- the same in two parts: what the node is told, and (`is_lose` of crate model) whether it is told nothing
abbrev pub input_of : Message → Event → Input
input_of m (Crash i) = Input.Crash
input_of m (Recover i) = Input.Recover
input_of m (Check i) = Input.Check
input_of m (Timeout i) = Input.Timeout
input_of m (Tick i) = Input.Tick
input_of m (Expire i) = Input.Expire
input_of m (Finish i t) = Input.Finish t
input_of m (Deliver a b) = Input.Receive m
input_of m (Lose a b) = Input.Receive m

-- the message's sender can be put into a set, where the event acts on the message
abbrev pub FitsMessage : Message → Event → Type 0
FitsMessage m (Crash i) = Unit {0}
FitsMessage m (Recover i) = Unit {0}
FitsMessage m (Check i) = Unit {0}
FitsMessage m (Timeout i) = Unit {0}
FitsMessage m (Tick i) = Unit {0}
FitsMessage m (Expire i) = Unit {0}
FitsMessage m (Finish i t) = Unit {0}
FitsMessage m (Deliver a b) = (1 ≤ m.sender) × (m.sender ≤ node_limit)
FitsMessage m (Lose a b) = Unit {0}

-- ── the judgement of an event, by the node's record c, the message m at place k, how many wait and how many may ──

-- how many wait once the event's own message is out
abbrev pub left_of : ℕ → ℕ → ℕ
left_of waiting k = pick (ltb k waiting) (waiting - 1) waiting

-- those that `judge` goes by: all but 1 and 17
abbrev pub judged_grounds : ℕ → ℕ → ℕ → ℕ → Node → Message → Event → List Ground
judged_grounds n limit waiting k c m e = number_grounds n e ++ (state_grounds n c e (ltb k waiting) ++ end_grounds c (reacts_to n c m e) (left_of waiting k) limit)

-- what the judgement needs where the grounds before it are clear
pub record Judging (n waiting k : ℕ) (c : Node) (m : Message) (e : Event) : Type 0 where
  pub node : first (number_grounds n e) ≡ 0 → Fits (actor e) c
  pub message : first (number_grounds n e) ≡ 0 → first (state_grounds n c e (ltb k waiting)) ≡ 0 → FitsMessage m e

-- the number of a judgement: 0 where none of them applies
abbrev pub judged_number : Result Reaction Refusal → ℕ
judged_number (Ok r) = 0
judged_number (Err g) = refusal_number g

pub record Judged (n limit waiting k : ℕ) (c : Node) (m : Message) (e : Event) (v : Result Reaction Refusal) : Type 0 where
  -- the number of the first of them that applies, or 0
  pub answer : judged_number v ≡ first (judged_grounds n limit waiting k c m e)
  -- what the node does, where none applies
  pub reaction : IfOk v (λ r. r ≡ reacts_to n c m e)

-- those and 17 behind them, by l, the counts of what was sent
abbrev pub all_grounds : ℕ → ℕ → ℕ → ℕ → Node → Message → Event → List ℕ → List Ground
all_grounds n limit waiting k c m e l = judged_grounds n limit waiting k c m e ++ sent_grounds l (reacts_to n c m e).outgoing

pub record JudgedAll (n limit waiting k : ℕ) (c : Node) (m : Message) (e : Event) (l : List ℕ) (v : Result Reaction Refusal) : Type 0 where
  -- the number of the first of them that applies, or 0
  pub answer : judged_number v ≡ first (all_grounds n limit waiting k c m e l)
  -- what the node does, where none applies
  pub reaction : IfOk v (λ r. r ≡ reacts_to n c m e)
