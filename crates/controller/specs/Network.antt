-- n controllers over one queue of messages in bytes (02, T-11: "running n of these over one message queue"). The controllers keep the records, the queue keeps the bytes that were sent, and nobody has a table.
-- What is claimed of them is in Claims.
use Rattle.std.specs.Prelude.{ℕ, ◌-◌, Bool, false, ◌&&◌, ◌||◌, List, [], ◌∷◌, ◌++◌, map, eqb, length, get_or, set, replicate}
use Rattle.model.specs.Pick.{pick}
use Rattle.model.specs.Range.{is_node}
use Rattle.model.specs.State.{State, starting_node}
use Rattle.model.specs.declared.Node.{Node}
use Rattle.model.specs.declared.Event.{Event}
use Rattle.model.specs.declared.Event.TheVariants.{Crash, Recover, Check, Timeout, Tick, Expire, Finish, Deliver, Lose}
use Rattle.message_fields.specs.Fields.{fields}
use Rattle.controller.specs.declared.LocalEvent.{LocalEvent}
use Rattle.controller.specs.Controller as controller
use Rattle.controller.specs.Controller.{Incoming, event, message, controller_step}

pub record Network : Type 0 where
  pub n : ℕ
  -- how many messages may wait in the queue
  pub limit : ℕ
  -- the record of controller i at place i - 1
  pub nodes : List Node
  -- the messages in bytes, in the order sent
  pub queue : List (List ℕ)

-- the record of controller i
abbrev pub record_at : Network → ℕ → Node
record_at w i = get_or w.nodes (i - 1) starting_node

-- at the start all nodes are Down and idle, every number is 0 and every set empty, and no message waits
abbrev pub start_network : ℕ → ℕ → Network
start_network n limit = record { n = n; limit = limit; nodes = replicate n starting_node; queue = [] }

-- the network that has the records and messages of a table, each message in its bytes
abbrev pub network_of : State → Network
network_of s = record { n = s.n; limit = s.limits.messages; nodes = s.nodes; queue = map fields s.queue }

-- ── the queue: it reads no more of a message than its sender and its receiver, the first two bytes of the first field's contents ──

abbrev pub goes_bytes : ℕ → ℕ → List ℕ → Bool
goes_bytes a b l = eqb (get_or l 3 0) a && eqb (get_or l 4 0) b

-- whether a message from a to b waits
unfoldable pub waits_in : ℕ → ℕ → List (List ℕ) → Bool
waits_in a b [] = false
waits_in a b (l ∷ q) = goes_bytes a b l || waits_in a b q

-- the oldest message from a to b
unfoldable pub oldest_in : ℕ → ℕ → List (List ℕ) → List ℕ
oldest_in a b [] = []
oldest_in a b (l ∷ q) = pick (goes_bytes a b l) l (oldest_in a b q)

-- the queue without it
unfoldable pub without_in : ℕ → ℕ → List (List ℕ) → List (List ℕ)
without_in a b [] = []
without_in a b (l ∷ q) = pick (goes_bytes a b l) q (l ∷ without_in a b q)

-- what a controller sends, as the queue gets it: one message, or none where there are no bytes
abbrev pub as_queued : List ℕ → List (List ℕ)
as_queued [] = []
as_queued (b ∷ l) = (b ∷ l) ∷ []

-- ── one event ──

-- refused, by a controller or by the queue, or accepted
pub data Result : Type 0 where
  refused : ℕ → Result
  accepted : Network → Result

-- controller i keeps the record c, and what it sends goes behind the messages q
abbrev pub stored : Network → ℕ → List (List ℕ) → Node → List ℕ → Network
stored w i q c l = record { n = w.n; limit = w.limit; nodes = set w.nodes (i - 1) c; queue = q ++ as_queued l }

-- a message is sent, and so many wait as may
abbrev pub is_full : ℕ → List (List ℕ) → List (List ℕ) → Bool
is_full limit q [] = false
is_full limit q (l ∷ ls) = eqb (length q) limit

-- What controller i answers, with the messages q waiting: its refusal; the queue's own, 14, where there is no room for what it sends, and then it keeps the record that it had; or the network with both
abbrev pub answered_by : Network → ℕ → List (List ℕ) → controller.Result → Result
answered_by w i q (controller.refused r) = refused r
answered_by w i q (controller.accepted c l) = pick (is_full w.limit q (as_queued l)) (refused 14) (accepted (stored w i q c l))

-- The controller that is told of an event of node i: its own; and where there is no such node, any of them, so the first, which refuses it with 7.
abbrev pub controller_for : ℕ → ℕ → ℕ
controller_for n i = pick (is_node n i) i 1

-- what controllers answer
abbrev pub Controllers : Type 0
Controllers = ℕ → ℕ → Node → Incoming → controller.Result

-- an event of node i, at its controller
abbrev pub at_controller : Controllers → Network → ℕ → LocalEvent → Result
at_controller f w i e = answered_by w (controller_for w.n i) w.queue (f w.n (controller_for w.n i) (record_at w (controller_for w.n i)) (event e))

-- Deliver takes the oldest message from a to b out of the queue and hands its bytes to controller b; where that refuses them, they wait as before. Lose takes it out. Where none waits, the queue
-- refuses both with 11. All other events go to a controller.
unfoldable pub step_by : Controllers → Network → Event → Result
step_by f w (Crash i) = at_controller f w i (LocalEvent.Crash i)
step_by f w (Recover i) = at_controller f w i (LocalEvent.Recover i)
step_by f w (Check i) = at_controller f w i (LocalEvent.Check i)
step_by f w (Timeout i) = at_controller f w i (LocalEvent.Timeout i)
step_by f w (Tick i) = at_controller f w i (LocalEvent.Tick i)
step_by f w (Expire i) = at_controller f w i (LocalEvent.Expire i)
step_by f w (Finish i t) = at_controller f w i (LocalEvent.Finish i t)
step_by f w (Deliver a b) =
    pick (waits_in a b w.queue)
    (answered_by w b (without_in a b w.queue) (f w.n b (record_at w b) (message (oldest_in a b w.queue))))
    (refused 11)
step_by f w (Lose a b) =
    pick (waits_in a b w.queue)
    (accepted (record { n = w.n; limit = w.limit; nodes = w.nodes; queue = without_in a b w.queue }))
    (refused 11)

-- the network after it: a refusal leaves all as it was
abbrev pub network_after : Network → Result → Network
network_after w (refused r) = w
network_after w (accepted u) = u

unfoldable pub run_by : Controllers → Network → List Event → Network
run_by f w [] = w
run_by f w (e ∷ es) = run_by f (network_after w (step_by f w e)) es

-- ── the controllers of the definitions ──
abbrev pub network_step : Network → Event → Result
network_step w e = step_by controller_step w e

-- the network after a list of events from the start, with n controllers and room for `limit` messages
abbrev pub network_run : ℕ → ℕ → List Event → Network
network_run n limit es = run_by controller_step (start_network n limit) es
