-- n controllers over one queue answer as the whole table does, event by event: the claims `AnswersAsTable`.
use Prim.Native.Nat.{ℕ, ◌≤◌}
use native.Mathlib.Omega.{arith}
use mathlib.Core.Bool.{Bool, true, false, not, ◌&&◌, true≢false}
use mathlib.Core.Path.{◌≡◌, refl, sym, ◌∙◌, ap}
use mathlib.Core.Logic.{◌⊎◌, inl, inr, ⊎_elim}
use mathlib.Core.List.{List, [], ◌∷◌, map, append-nil}
use lib.Dec.{eqb, leb}
use lib.ListN.{length}
use lib.Seq.{set-get_or}
use borrow.Author.Tests.{eqb-true, eq-eqb, le-leb, leb-true, not-false}
use Rattle.model.specs.Pick.{pick, pick_true, pick_false}
use Rattle.model.specs.Limits.{counter_end, call_end}
use Rattle.model.specs.Grounds.{Ground, ground, judged, NoneApplies}
use Rattle.model.specs.Node.{is_down}
use Rattle.model.specs.Range.{is_node, is_pair, message_in_range}
use Rattle.model.specs.React.{react}
use Rattle.model.specs.State.{State, node_at, waits, oldest, without_oldest, in_range}
use Rattle.model.specs.Step as table
use Rattle.model.specs.Step.{actor, reaction_to, remaining, sent, effect, wrong_number, wrong_task, wrong_status, wrong_activity, not_coordinator, no_majority, none_waits, forms, is_calling, is_sending, pair_at_end, grounds, step}
use Rattle.model.proofs.Grounds.{judged_map, judged_none, judged_same}
use Rattle.model.proofs.Judged.{met, passed, ended_clear}
use Rattle.model.proofs.Lists.{map_append}
use Rattle.model.proofs.Local.{both_left, both_right}
use Rattle.model.proofs.Range.{is_other_lem}
use Rattle.model.proofs.Fields.{message_facts, in_range_node, in_range_size, in_range_queue, in_range_oldest, oldest_goes}
use Rattle.model.specs.declared.Message.{Message}
use Rattle.std.specs.Prelude.{Option, None, Some}
use Rattle.model.specs.declared.Input.TheVariants.{Receive}
use Rattle.model.specs.declared.Event.{Event}
use Rattle.message_fields.specs.Fields.{fields, message_in, carried}
use Rattle.message_fields.proofs.RoundTrip.{widths, message_back, fields_message}
use Rattle.controller.specs.declared.LocalEvent.{LocalEvent}
use Rattle.controller.specs.declared.LocalEvent.TheVariants.{Crash, Recover, Check, Timeout, Tick, Expire, Finish}
use Rattle.controller.specs.Controller as controller
use Rattle.controller.specs.Controller.{Incoming, event, message, as_event, event_of, input_of, reaction_in, sent_bytes, in_range_for, wrong_number_in, wrong_task_in, wrong_message, is_for_other, controller_grounds, controller_step}
use Rattle.controller.specs.Network.{Controllers, at_controller, Network, network_of, waits_in, without_in, refused, accepted, stored, answered_by, step_by, network_step}
use Rattle.controller.specs.Claims.{result_of, belongs_to_queue, incoming_at, answer_at, AnswersAsTable}
use Rattle.controller.proofs.Queue.{waits_bytes, oldest_bytes, without_bytes, queued_sent, full_is}
use Rattle.controller.proofs.Carried.{react_carried}

-- the record of a node of a table in range is in range for its controller
pub node_range : (s : State) (i : ℕ) → in_range s ≡ true → 1 ≤ i → i ≤ s.n → in_range_for s.n i (node_at s i) ≡ true
node_range s i ok l h =
    let z = in_range_size s ok in
    rw (le-leb 1 s.n z.0, le-leb s.n 16 z.1, le-leb 1 i l, le-leb i s.n h) (in_range_node s i ok l h)

-- ── an event of the table, and what its node's controller is told ──
pub record SameEvent (s : State) (e : Event) (x : Incoming) : Type 0 where
  pub range : in_range_for s.n (actor e) (node_at s (actor e)) ≡ true
  pub numbers : wrong_number_in s.n x ≡ wrong_number s.n e
  pub tasks : wrong_task_in x ≡ wrong_task e
  pub form : wrong_message s.n x ≡ false
  pub own : is_for_other (actor e) x ≡ false
  pub status : wrong_status (node_at s (actor e)).status (event_of x) ≡ wrong_status (node_at s (actor e)).status e
  pub activity : wrong_activity (node_at s (actor e)).activity (event_of x) ≡ wrong_activity (node_at s (actor e)).activity e
  pub coordinator : not_coordinator (node_at s (actor e)) (event_of x) ≡ not_coordinator (node_at s (actor e)) e
  pub majority : no_majority s.n (node_at s (actor e)) (event_of x) ≡ no_majority s.n (node_at s (actor e)) e
  pub found : none_waits s.queue e ≡ false
  pub reacts : reaction_in s.n (actor e) (node_at s (actor e)) x ≡ reaction_to s e

module _ (s : State) (e : Event) where
  -- the grounds that both have
  abbrev shared : List Ground
  shared =
      ground 7 (wrong_number s.n e)
      ∷ ground 8 (wrong_task e)
      ∷ ground 9 (wrong_status (node_at s (actor e)).status e)
      ∷ ground 10 (wrong_activity (node_at s (actor e)).activity e)
      ∷ ground 18 (not_coordinator (node_at s (actor e)) e)
      ∷ ground 19 (no_majority s.n (node_at s (actor e)) e)
      ∷ ground 12 (forms (reaction_to s e).mark && eqb (node_at s (actor e)).counter counter_end)
      ∷ ground 13 (is_calling (reaction_to s e).outgoing && eqb (node_at s (actor e)).last.number call_end)
      ∷ []

  -- what the node does, and what the queue then says
  abbrev acts : controller.Result
  acts = controller.accepted (reaction_to s e).node (sent_bytes (reaction_to s e).outgoing)

  abbrev full : Bool
  full = is_sending (reaction_to s e).outgoing && eqb (length (remaining s e)) s.limits.messages

  abbrev ended : table.Result
  ended = pick (pair_at_end s.sent (reaction_to s e).outgoing) (table.refused 17) (table.accepted (effect s e) (reaction_to s e).mark)

  abbrev queued : table.Result
  queued = pick full (table.refused 14) ended

  module _ (x : Incoming) (ok : in_range s ≡ true) (h : SameEvent s e x) where
    pub controller_is : controller_step s.n (actor e) (node_at s (actor e)) x ≡ judged controller.refused acts shared
    unfolding controller_step controller_grounds judged pick
    controller_is = rw (h.range, h.numbers, h.tasks, h.form, h.own, h.status, h.activity, h.coordinator, h.majority, h.reacts)

    table_is : step s e ≡ judged table.refused queued shared
    unfolding step grounds judged pick
    table_is = rw (ok, h.found)

    -- the network with the controller's record and message is that of the table after the event
    stored_is : stored (network_of s) (actor e) (map fields (remaining s e)) (reaction_to s e).node (sent_bytes (reaction_to s e).outgoing) ≡ network_of (effect s e)
    unfolding effect
    stored_is = rw (map_append fields (remaining s e) (sent (reaction_to s e).outgoing), queued_sent (reaction_to s e).outgoing)

    module _ (free : step s e ≡ table.refused 17 → ⊥) where
      behind : NoneApplies shared → answered_by (network_of s) (actor e) (map fields (remaining s e)) acts ≡ result_of queued
      behind none = rw (full_is s.limits.messages (remaining s e) (reaction_to s e).outgoing) (by full refl (pair_at_end s.sent (reaction_to s e).outgoing) refl)
        where
          reached : step s e ≡ queued
          reached = table_is ∙ judged_none table.refused queued shared none

          by : (t : Bool) → full ≡ t → (z : Bool) → pair_at_end s.sent (reaction_to s e).outgoing ≡ z
              → pick t (refused 14) (accepted (stored (network_of s) (actor e) (map fields (remaining s e)) (reaction_to s e).node (sent_bytes (reaction_to s e).outgoing)))
              ≡ result_of (pick t (table.refused 14) (pick z (table.refused 17) (table.accepted (effect s e) (reaction_to s e).mark)))
          by true f z p = rw (pick_true, pick_true)
          by false f true p = absurd (free (reached ∙ rw (f, p, pick_false, pick_true)))
          by false f false p = rw (pick_false, pick_false, pick_false) (ap accepted stored_is)

      pub alike : answered_by (network_of s) (actor e) (map fields (remaining s e)) (controller_step s.n (actor e) (node_at s (actor e)) x) ≡ result_of (step s e)
      alike =
          rw (controller_is, table_is, judged_map (answered_by (network_of s) (actor e) (map fields (remaining s e))) controller.refused acts shared, judged_map result_of table.refused queued shared)
          (judged_same refused _ _ shared behind)

    -- 14 and 17 are behind all grounds of a controller
    pub accepts : (NoneApplies shared) → controller_step s.n (actor e) (node_at s (actor e)) x ≡ acts
    accepts none = controller_is ∙ judged_none controller.refused acts shared none

-- ── the events other than deliver and lose ──
number_is : (n : ℕ) (e : LocalEvent) → wrong_number n (as_event e) ≡ not (is_node n (actor (as_event e)))
number_is n (Crash i) = refl
number_is n (Recover i) = refl
number_is n (Check i) = refl
number_is n (Timeout i) = refl
number_is n (Tick i) = refl
number_is n (Expire i) = refl
number_is n (Finish i t) = refl

local_found : (q : List Message) (e : LocalEvent) → none_waits q (as_event e) ≡ false
local_found q (Crash i) = refl
local_found q (Recover i) = refl
local_found q (Check i) = refl
local_found q (Timeout i) = refl
local_found q (Tick i) = refl
local_found q (Expire i) = refl
local_found q (Finish i t) = refl

local_remaining : (s : State) (e : LocalEvent) → remaining s (as_event e) ≡ s.queue
unfolding remaining
local_remaining s (Crash i) = refl
local_remaining s (Recover i) = refl
local_remaining s (Check i) = refl
local_remaining s (Timeout i) = refl
local_remaining s (Tick i) = refl
local_remaining s (Expire i) = refl
local_remaining s (Finish i t) = refl

local_reacts : (s : State) (e : LocalEvent) → react s.n (actor (as_event e)) (node_at s (actor (as_event e))) (input_of e) ≡ reaction_to s (as_event e)
unfolding reaction_to
local_reacts s (Crash i) = refl
local_reacts s (Recover i) = refl
local_reacts s (Check i) = refl
local_reacts s (Timeout i) = refl
local_reacts s (Tick i) = refl
local_reacts s (Expire i) = refl
local_reacts s (Finish i t) = refl

pub local_step : (f : Controllers) (w : Network) (e : LocalEvent) → step_by f w (as_event e) ≡ at_controller f w (actor (as_event e)) e
unfolding step_by
local_step f w (Crash i) = refl
local_step f w (Recover i) = refl
local_step f w (Check i) = refl
local_step f w (Timeout i) = refl
local_step f w (Tick i) = refl
local_step f w (Expire i) = refl
local_step f w (Finish i t) = refl

local_incoming : (s : State) (e : LocalEvent) → incoming_at s (as_event e) ≡ event e
local_incoming s (Crash i) = refl
local_incoming s (Recover i) = refl
local_incoming s (Check i) = refl
local_incoming s (Timeout i) = refl
local_incoming s (Tick i) = refl
local_incoming s (Expire i) = refl
local_incoming s (Finish i t) = refl

module _ (s : State) (e : LocalEvent) (ok : in_range s ≡ true) where
  local_same : is_node s.n (actor (as_event e)) ≡ true → SameEvent s (as_event e) (event e)
  unfolding reaction_in
  local_same h =
      let i = actor (as_event e) in
      record {
        range = node_range s i ok (leb-true 1 i (both_left (leb 1 i) (leb i s.n) h)) (leb-true i s.n (both_right (leb 1 i) (leb i s.n) h));
        numbers = refl;
        tasks = refl;
        form = refl;
        own = rw (eq-eqb i i refl);
        status = refl;
        activity = refl;
        coordinator = refl;
        majority = refl;
        found = local_found s.queue e;
        reacts = local_reacts s e;
      }

  -- an event of no node
  table_seven : is_node s.n (actor (as_event e)) ≡ false → step s (as_event e) ≡ table.refused 7
  unfolding step grounds judged pick
  table_seven h = rw (ok, number_is s.n e, h)

  controller_seven : is_node s.n (actor (as_event e)) ≡ false → (j : ℕ) → 1 ≤ j → j ≤ s.n → controller_step s.n j (node_at s j) (event e) ≡ controller.refused 7
  unfolding controller_step controller_grounds judged pick
  controller_seven h j l u = rw (node_range s j ok l u, number_is s.n e, h)

  local_network : is_node s.n (actor (as_event e)) ≡ true
      → network_step (network_of s) (as_event e) ≡ answered_by (network_of s) (actor (as_event e)) (map fields (remaining s (as_event e))) (controller_step s.n (actor (as_event e)) (node_at s (actor (as_event e))) (event e))
  local_network h =
      local_step controller_step (network_of s) e
      ∙ rw (h, pick_true)
      (ap (λ (q : List Message). answered_by (network_of s) (actor (as_event e)) (map fields q) (controller_step s.n (actor (as_event e)) (node_at s (actor (as_event e))) (event e))) (sym (local_remaining s e)))

  local_alike : (step s (as_event e) ≡ table.refused 17 → ⊥) → network_step (network_of s) (as_event e) ≡ result_of (step s (as_event e))
  local_alike free = by (is_node s.n (actor (as_event e))) refl
    where
      by : (t : Bool) → is_node s.n (actor (as_event e)) ≡ t → network_step (network_of s) (as_event e) ≡ result_of (step s (as_event e))
      by true h = local_network h ∙ alike s (as_event e) (event e) ok (local_same h) free
      by false h = local_step controller_step (network_of s) e ∙ rw (h, pick_false, table_seven h, controller_seven h 1 (omega arith) (in_range_size s ok).0)

-- ── deliver and lose with a message waiting ──
pair_of : (n : ℕ) (m : Message) → message_in_range n m ≡ true → {a b : ℕ} → m.sender ≡ a → m.receiver ≡ b → is_pair n a b ≡ true
pair_of n m r e f =
    let x = message_facts n m r in
    rw (← e, ← f, le-leb 1 m.sender x.sender.low, le-leb m.sender n x.sender.high) (is_other_lem n m.sender m.receiver x.receiver)

module _ (s : State) (a b : ℕ) (ok : in_range s ≡ true) (w : waits a b s.queue ≡ true) where
  abbrev first : Message
  first = oldest a b s.queue

  small : s.n ≤ 16
  small = (in_range_size s ok).1

  range : message_in_range s.n first ≡ true
  range = in_range_oldest s a b ok w

  from : first.sender ≡ a
  from = eqb-true first.sender a (both_left (eqb first.sender a) _ (oldest_goes a b s.queue w))

  to : first.receiver ≡ b
  to = eqb-true first.receiver b (both_right (eqb first.sender a) _ (oldest_goes a b s.queue w))

  pair : is_pair s.n a b ≡ true
  pair = pair_of s.n first range from to

  back : message_in (fields first) ≡ carried first
  back = message_back first (widths s.n first small range)

  read_receiver : (message_in (fields first)).receiver ≡ b
  unfolding carried
  read_receiver = ap (λ (m : Message). m.receiver) back ∙ to

  pub deliver_reacts : react s.n b (node_at s b) (Receive (message_in (fields first))) ≡ reaction_to s (Event.Deliver a b)
  unfolding reaction_to
  deliver_reacts = rw back (react_carried s.n b (node_at s b) first)

  deliver_same : SameEvent s (Event.Deliver a b) (message (fields first))
  unfolding reaction_in
  deliver_same =
      let x = (message_facts s.n first range).receiver in
      record {
        range = node_range s b ok (omega (arith, x.low, to)) (omega (arith, x.high, to));
        numbers = rw pair;
        tasks = refl;
        form = rw (fields_message s.n first small range);
        own = rw (eq-eqb (message_in (fields first)).receiver b read_receiver);
        status = refl;
        activity = refl;
        coordinator = refl;
        majority = refl;
        found = rw w;
        reacts = deliver_reacts;
      }

  -- the queue in bytes
  waiting_bytes : waits_in a b (map fields s.queue) ≡ true
  waiting_bytes = waits_bytes s.n small a b 1 s.queue (in_range_queue s ok) ∙ w

  without : without_in a b (map fields s.queue) ≡ map fields (without_oldest a b s.queue)
  without = without_bytes s.n small a b 1 s.queue (in_range_queue s ok)

  deliver_remaining : remaining s (Event.Deliver a b) ≡ without_oldest a b s.queue
  unfolding remaining
  deliver_remaining = refl

  deliver_network : network_step (network_of s) (Event.Deliver a b) ≡ answered_by (network_of s) b (map fields (remaining s (Event.Deliver a b))) (controller_step s.n b (node_at s b) (message (fields first)))
  unfolding step_by
  deliver_network =
      rw (waiting_bytes, pick_true, without, oldest_bytes s.n small a b 1 s.queue (in_range_queue s ok) w)
      (ap (λ (q : List Message). answered_by (network_of s) b (map fields q) (controller_step s.n b (node_at s b) (message (fields first)))) (sym deliver_remaining))

  deliver_alike : (step s (Event.Deliver a b) ≡ table.refused 17 → ⊥) → network_step (network_of s) (Event.Deliver a b) ≡ result_of (step s (Event.Deliver a b))
  deliver_alike free = deliver_network ∙ alike s (Event.Deliver a b) (message (fields first)) ok deliver_same free

  lose_is : step s (Event.Lose a b) ≡ table.accepted (effect s (Event.Lose a b)) (reaction_to s (Event.Lose a b)).mark
  unfolding step grounds reaction_to judged pick
  lose_is = rw (ok, pair, w)

  lose_alike : network_step (network_of s) (Event.Lose a b) ≡ result_of (step s (Event.Lose a b))
  unfolding step_by effect remaining reaction_to
  lose_alike = rw (waiting_bytes, pick_true, without, lose_is, append-nil, set-get_or)

-- ── deliver and lose with nothing waiting ──
module _ (s : State) (a b : ℕ) (ok : in_range s ≡ true) (w : waits a b s.queue ≡ false) where
  none_bytes : waits_in a b (map fields s.queue) ≡ false
  none_bytes = waits_bytes s.n (in_range_size s ok).1 a b 1 s.queue (in_range_queue s ok) ∙ w

  none_deliver : network_step (network_of s) (Event.Deliver a b) ≡ refused 11
  unfolding step_by
  none_deliver = rw (none_bytes, pick_false)

  none_lose : network_step (network_of s) (Event.Lose a b) ≡ refused 11
  unfolding step_by
  none_lose = rw (none_bytes, pick_false)

  table_deliver : (step s (Event.Deliver a b) ≡ table.refused 7) ⊎ ((step s (Event.Deliver a b) ≡ table.refused 9) ⊎ (step s (Event.Deliver a b) ≡ table.refused 11))
  unfolding step grounds judged pick
  table_deliver = by (is_pair s.n a b) refl (is_down (node_at s b).status) refl
    where
      by : (p : Bool) → is_pair s.n a b ≡ p → (d : Bool) → is_down (node_at s b).status ≡ d
          → (step s (Event.Deliver a b) ≡ table.refused 7) ⊎ ((step s (Event.Deliver a b) ≡ table.refused 9) ⊎ (step s (Event.Deliver a b) ≡ table.refused 11))
      by false p d q = inl (rw (ok, p))
      by true p true q = inr (inl (rw (ok, p, q)))
      by true p false q = inr (inr (rw (ok, p, q, w)))

  table_lose : (step s (Event.Lose a b) ≡ table.refused 7) ⊎ (step s (Event.Lose a b) ≡ table.refused 11)
  unfolding step grounds judged pick
  table_lose = by (is_pair s.n a b) refl
    where
      by : (p : Bool) → is_pair s.n a b ≡ p → (step s (Event.Lose a b) ≡ table.refused 7) ⊎ (step s (Event.Lose a b) ≡ table.refused 11)
      by false p = inl (rw (ok, p))
      by true p = inr (rw (ok, p, w))

-- ── all events ──
module _ (s : State) (ok : in_range s ≡ true) where
  pub same : (e : Event) → belongs_to_queue s e ≡ false → (step s e ≡ table.refused 17 → ⊥) → network_step (network_of s) e ≡ result_of (step s e)
  same (Event.Crash i) q = local_alike s (Crash i) ok
  same (Event.Recover i) q = local_alike s (Recover i) ok
  same (Event.Check i) q = local_alike s (Check i) ok
  same (Event.Timeout i) q = local_alike s (Timeout i) ok
  same (Event.Tick i) q = local_alike s (Tick i) ok
  same (Event.Expire i) q = local_alike s (Expire i) ok
  same (Event.Finish i t) q = local_alike s (Finish i t) ok
  same (Event.Deliver a b) q = deliver_alike s a b ok (not-false (waits a b s.queue) q)
  same (Event.Lose a b) q = absurd (true≢false q)

  -- what the controller of the event's node is told
  same_local : (e : LocalEvent) → wrong_number s.n (as_event e) ≡ false → SameEvent s (as_event e) (incoming_at s (as_event e))
  same_local e h = rw (local_incoming s e) (local_same s e ok (not-false (is_node s.n (actor (as_event e))) (sym (number_is s.n e) ∙ h)))

  -- where its numbers are right and a message waits for it
  same_event_lem : (e : Event) → wrong_number s.n e ≡ false → none_waits s.queue e ≡ false → is_sending (reaction_to s e).outgoing ≡ true → SameEvent s e (incoming_at s e)
  unfolding reaction_to
  same_event_lem (Event.Crash i) h w o = same_local (Crash i) h
  same_event_lem (Event.Recover i) h w o = same_local (Recover i) h
  same_event_lem (Event.Check i) h w o = same_local (Check i) h
  same_event_lem (Event.Timeout i) h w o = same_local (Timeout i) h
  same_event_lem (Event.Tick i) h w o = same_local (Tick i) h
  same_event_lem (Event.Expire i) h w o = same_local (Expire i) h
  same_event_lem (Event.Finish i t) h w o = same_local (Finish i t) h
  same_event_lem (Event.Deliver a b) h w o = deliver_same s a b ok (not-false (waits a b s.queue) w)
  same_event_lem (Event.Lose a b) h w o = absurd (true≢false (sym o))

  -- 14 and 17 are met behind all others, and where a message is sent
  record Behind (e : Event) : Type 0 where
    none : NoneApplies (shared s e)
    number : wrong_number s.n e ≡ false
    found : none_waits s.queue e ≡ false
    sends : is_sending (reaction_to s e).outgoing ≡ true

  at_fourteen : (e : Event) → step s e ≡ table.refused 14 → Behind e
  unfolding grounds pick
  at_fourteen e q =
      record {
        none = (passed s e 7 14 refl q, (passed s e 8 14 refl q, (passed s e 9 14 refl q, (passed s e 10 14 refl q, (passed s e 18 14 refl q, (passed s e 19 14 refl q, (passed s e 12 14 refl q, (passed s e 13 14 refl q, tt))))))));
        number = passed s e 7 14 refl q;
        found = passed s e 11 14 refl q;
        sends = both_left (is_sending (reaction_to s e).outgoing) _ (met s e 14 refl q);
      }

  end_sends : (l : List ℕ) (o : Option Message) → pair_at_end l o ≡ true → is_sending o ≡ true
  end_sends l None h = h
  end_sends l (Some m) h = refl

  at_seventeen : (e : Event) → step s e ≡ table.refused 17 → Behind e
  unfolding grounds pick
  at_seventeen e q =
      record {
        none = (passed s e 7 17 refl q, (passed s e 8 17 refl q, (passed s e 9 17 refl q, (passed s e 10 17 refl q, (passed s e 18 17 refl q, (passed s e 19 17 refl q, (passed s e 12 17 refl q, (passed s e 13 17 refl q, tt))))))));
        number = passed s e 7 17 refl q;
        found = passed s e 11 17 refl q;
        sends = end_sends s.sent (reaction_to s e).outgoing (met s e 17 refl q);
      }

  accepts_behind : (e : Event) → Behind e → answer_at s e ≡ acts s e
  accepts_behind e b = accepts s e (incoming_at s e) ok (same_event_lem e b.number b.found b.sends) b.none

  -- the network's step by the answer of the event's controller
  network_local : (e : LocalEvent) → wrong_number s.n (as_event e) ≡ false → network_step (network_of s) (as_event e) ≡ answered_by (network_of s) (actor (as_event e)) (map fields (remaining s (as_event e))) (answer_at s (as_event e))
  network_local e h = rw (local_incoming s e) (local_network s e ok (not-false (is_node s.n (actor (as_event e))) (sym (number_is s.n e) ∙ h)))

  network_is : (e : Event) → wrong_number s.n e ≡ false → none_waits s.queue e ≡ false → is_sending (reaction_to s e).outgoing ≡ true
      → network_step (network_of s) e ≡ answered_by (network_of s) (actor e) (map fields (remaining s e)) (answer_at s e)
  unfolding reaction_to
  network_is (Event.Crash i) h w o = network_local (Crash i) h
  network_is (Event.Recover i) h w o = network_local (Recover i) h
  network_is (Event.Check i) h w o = network_local (Check i) h
  network_is (Event.Timeout i) h w o = network_local (Timeout i) h
  network_is (Event.Tick i) h w o = network_local (Tick i) h
  network_is (Event.Expire i) h w o = network_local (Expire i) h
  network_is (Event.Finish i t) h w o = network_local (Finish i t) h
  network_is (Event.Deliver a b) h w o = deliver_network s a b ok (not-false (waits a b s.queue) w)
  network_is (Event.Lose a b) h w o = absurd (true≢false (sym o))

  -- 17 is met where 14 is not
  goes_on : (e : Event) → step s e ≡ table.refused 17 → network_step (network_of s) e ≡ accepted (network_of (effect s e))
  goes_on e q =
      let b = at_seventeen e q in
      network_is e b.number b.found b.sends
      ∙ rw (accepts_behind e b, full_is s.limits.messages (remaining s e) (reaction_to s e).outgoing, (ended_clear s e q).room, pick_false)
      (ap accepted (stored_is s e (incoming_at s e) ok (same_event_lem e b.number b.found b.sends)))

pub answers_as_table : AnswersAsTable
answers_as_table =
    record {
      same = λ s e ok. same s ok e;
      queue_grounds = λ s e ok. ⊎_elim (λ q. accepts_behind s ok e (at_fourteen s ok e q)) (λ q. accepts_behind s ok e (at_seventeen s ok e q));
      seventeen = λ s e ok. goes_on s ok e;
      lose = λ s a b ok w. lose_alike s a b ok w;
      none_waits_lem = λ s a b ok w. (none_deliver s a b ok w, none_lose s a b ok w);
      none_waits_deliver = λ s a b ok w. table_deliver s a b ok w;
      none_waits_lose = λ s a b ok w. table_lose s a b ok w;
      no_node = λ s e j ok h l u. controller_seven s e ok h j l u;
    }
