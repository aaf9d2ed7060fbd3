-- 02, T-09: turns, with other events between them; and one message followed through them.
use Rattle.std.specs.Prelude.{ℕ, ◌+◌, ◌<◌, List, [], ◌∷◌, ◌++◌, get_or}
use Rattle.model.specs.Pick.{pick}
use Rattle.model.specs.State.{State, no_message, goes, waiting}
use Rattle.model.specs.Step.{reaction_to, sent, Result, refused, accepted, step, after}
use Rattle.model.specs.Traffic.{delivers, loses, tally}
use Rattle.model.specs.declared.Message.{Message}
use Rattle.model.specs.declared.Event.{Event}
use Rattle.round.specs.Turn.{turn_at, table_after, place_after, done_in, event_of}
use Rattle.round.specs.declared.Place.{Place}

-- ── schedules: "Other events may come between turns." ──

pub data Move : Type 0 where
  turn : Move
  event : Event → Move

-- how many turns a schedule has
unfoldable pub turns : List Move → ℕ
turns [] = 0
turns (turn ∷ ms) = 1 + turns ms
turns (event e ∷ ms) = turns ms

-- the table, and the place of the next turn
pub record Drive : Type 0 where
  pub table : State
  pub place : Place

abbrev pub drive : State → Place → Drive
drive s p = record { table = s; place = p }

-- "each later turn gets the place that the last turn left, and each turn or event the table left before it"; a refusal leaves both as they were
abbrev pub moved : Drive → Move → Drive
moved d turn = drive (table_after d.table (turn_at d.table d.place)) (place_after d.place (turn_at d.table d.place))
moved d (event e) = drive (after d.table e) d.place

unfoldable pub driven : Drive → List Move → Drive
driven d [] = d
driven d (m ∷ ms) = driven (moved d m) ms

-- the events of a move, one or none
abbrev pub move_events : Drive → Move → List Event
move_events d turn = event_of d.place (done_in (turn_at d.table d.place))
move_events d (event e) = e ∷ []

-- and of a schedule: those that its turns chose, and those between, in their order
unfoldable pub events_of : Drive → List Move → List Event
events_of d [] = []
events_of d (m ∷ ms) = move_events d m ++ events_of (moved d m) ms

-- ── one message followed ──
-- Messages may be equal, so one is known by its pair and by how many older ones of its own pair wait. An accepted deliver or lose of the pair takes the oldest of them out, so
-- that the message has one older one less, or goes itself; nothing else changes how many it has. So it is gone as soon as more messages of its pair have gone out than it had older ones.

-- the messages from a to b that wait, oldest first
unfoldable pub pair_queue : List Message → ℕ → ℕ → List Message
pair_queue [] a b = []
pair_queue (m ∷ ms) a b = pick (goes a b m) (m ∷ pair_queue ms a b) (pair_queue ms a b)

-- a message with k older ones of its pair waits: more than k of the pair do
abbrev pub Waits : List Message → ℕ → ℕ → ℕ → Type 0
Waits q a b k = k < waiting q a b

-- that message
abbrev pub message_at : List Message → ℕ → ℕ → ℕ → Message
message_at q a b k = get_or (pair_queue q a b) k no_message

-- how many messages from a to b an event takes out, where it is accepted: 1 for a deliver a b and for a lose a b, else 0
abbrev pub takes : ℕ → ℕ → State → Event → ℕ
takes a b s e = delivers a b s e + loses a b s e

-- how many the accepted events of a list take out, from the table s
abbrev pub out_of : ℕ → ℕ → State → List Event → ℕ
out_of a b s es = tally (takes a b) s es

-- what an event puts behind the waiting messages
abbrev pub comes_in : State → Event → Result → List Message
comes_in s e (refused r) = []
comes_in s e (accepted u k) = sent (reaction_to s e).outgoing

-- the messages from a to b that come in by the events of a list, in their order
unfoldable pub came_in : ℕ → ℕ → State → List Event → List Message
came_in a b s [] = []
came_in a b s (e ∷ es) = pair_queue (comes_in s e (step s e)) a b ++ came_in a b (after s e) es

-- how many messages from a to b go out in a schedule: by turns, and by events between them
abbrev pub out_in : ℕ → ℕ → Drive → List Move → ℕ
out_in a b d ms = out_of a b d.table (events_of d ms)

-- and those that come in, in their order
abbrev pub came_in_by : ℕ → ℕ → Drive → List Move → List Message
came_in_by a b d ms = came_in a b d.table (events_of d ms)
