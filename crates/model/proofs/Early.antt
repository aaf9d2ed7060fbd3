-- No event among the first seven of a run meets 18 (02, T-06), and none among the first six meets 19 (T-10): what nodes and messages can be after k events, for k up to 6.
-- One lemma a procedure.
-- A message takes a recovery and a check; a reply takes a second recovery and a delivery more; an invitation, or a node that has found another, the delivery of a reply more; and
-- a node that acts on an invitation its delivery more, which makes six. A node that collects takes six too, as it has invited another. Up to there, of the nodes that are not Down only those that are Normal and
-- their own coordinators are idle.
use Prim.Native.Nat.{ℕ, ◌+◌, ◌-◌, ◌≤◌}
use native.Mathlib.Omega.{arith}
use mathlib.Core.Bool.{Bool, true, false, true≢false}
use mathlib.Core.Logic.{◌⊎◌, inl, inr, ⊎_elim}
use mathlib.Core.Path.{◌≡◌, refl, sym, ◌∙◌, ap, subst}
use mathlib.Core.List.{List, [], ◌∷◌}
use lib.Dec.{eqb}
use lib.ListN.{length, get_or-replicate}
use borrow.Author.Tests.{not-false, eqb-true, eqb-false, eq-eqb}
use Rattle.node_set.specs.NodeSet.{with}
use Rattle.model.specs.Pick.{pick, by_test}
use Rattle.model.specs.Node.{is_down, is_normal, is_idle, is_collecting, tasked, merged, invited, joined}
use Rattle.model.specs.Procedures.{stays, answers, recovers, invite_next, merges, hand_next, finishes, forward_next, asked_all, ask_at, ask_after}
use Rattle.model.specs.React.{leads, checked, timed_out, ticked, expired, resumed, on_are_you_coordinator, on_are_you_there, on_invitation, on_accept, on_ready, on_reply, received, react}
use Rattle.model.specs.Range.{is_node}
use Rattle.model.specs.State.{State, starting_node, start, node_at, goes, waits, oldest}
use Rattle.model.specs.Step.{run_from, actor, reaction_to, remaining, sent, effect, Result, kept, after, run}
use Rattle.model.proofs.Judged.{Clear, by_step}
use Rattle.model.proofs.Local.{both_left, both_right}
use Rattle.model.proofs.Numbers.{actor_in}
use Rattle.model.proofs.Fields.{otherwise, other_is, oldest_goes, other_record, each_record}
use Rattle.model.proofs.Whole.{All, all_map, all_append, all_without}
use Rattle.model.specs.declared.Limits.{Limits}
use Rattle.model.specs.declared.Status.TheVariants.{Reorganization, Normal}
use Rattle.model.specs.declared.Activity.{Activity}
use Rattle.model.specs.declared.Activity.TheVariants.{Idle, Asking, Waiting, Inviting, Collecting, Handing, Contacting, Forwarding, Accepting}
use Rattle.model.specs.declared.Node.{Node}
use Rattle.model.specs.declared.CallNo.{CallNo}
use Rattle.model.specs.declared.TaskNo.{TaskNo}
use Rattle.model.specs.declared.Message.{Message}
use Rattle.std.specs.Prelude.{Option, None, Some}
use Rattle.model.specs.declared.Mark.{Mark}
use Rattle.model.specs.declared.Mark.TheVariants.{Plain, Merges}
use Rattle.model.specs.declared.Reaction.{Reaction}
use Rattle.model.specs.declared.Event.{Event}
use Rattle.model.specs.declared.Event.TheVariants.{Crash, Recover, Check, Timeout, Tick, Expire, Finish, Deliver, Lose}

-- ── after k events ──

-- node i, not Down, with the record c and the activity a
abbrev Runs : ℕ → ℕ → Node → Activity → Type 0
Runs k i c Idle = (leads i c ≡ true) × (1 ≤ k)
Runs k i c (Asking asked found) = (leads i c ≡ true) × (2 ≤ k) × ((found ≡ 0) ⊎ (5 ≤ k))
Runs k i c (Waiting ticks found) = (leads i c ≡ true) × (5 ≤ k)
Runs k i c (Inviting found former now) = (c.coordinator ≡ i) × (5 ≤ k)
Runs k i c Collecting = (c.coordinator ≡ i) × (6 ≤ k)
Runs k i c (Handing rest now) = (c.coordinator ≡ i) × (5 ≤ k)
Runs k i c Contacting = ⊥
Runs k i c (Forwarding rest now caller call) = 6 ≤ k
Runs k i c (Accepting caller call) = 6 ≤ k

abbrev NodeAfter : ℕ → ℕ → Node → Type 0
NodeAfter k i c = (is_down c.status ≡ true) ⊎ Runs k i c c.activity

-- a message that waits
record MessageAfter (k : ℕ) (m : Message) : Type 0 where
  pub any : 2 ≤ k
  pub invitation : m.kind ≡ 3 → 5 ≤ k
  pub reply : m.kind ≡ 6 → 4 ≤ k

-- what node i sends
abbrev OutgoingAfter : ℕ → ℕ → Option Message → Type 0
OutgoingAfter k i None = Unit {0}
OutgoingAfter k i (Some m) = (m.sender ≡ i) × MessageAfter k m

record ReactionAfter (k i : ℕ) (r : Reaction) : Type 0 where
  pub node : NodeAfter k i r.node
  pub outgoing : OutgoingAfter k i r.outgoing

-- ── one event more ──
runs_some : (k i : ℕ) (c : Node) (a : Activity) → Runs k i c a → 1 ≤ k
runs_some k i c Idle x = x.1
runs_some k i c (Asking j f) x = omega (arith, x.1)
runs_some k i c (Waiting t f) x = omega (arith, x.1)
runs_some k i c (Inviting f o w) x = omega (arith, x.1)
runs_some k i c Collecting x = omega (arith, x.1)
runs_some k i c (Handing r w) x = omega (arith, x.1)
runs_some k i c Contacting x = absurd x
runs_some k i c (Forwarding r w a l) x = omega (arith, x)
runs_some k i c (Accepting a l) x = omega (arith, x)

runs_more : (k i : ℕ) (c : Node) (a : Activity) → Runs k i c a → Runs (k + 1) i c a
runs_more k i c Idle x = (x.0, omega (arith, x.1))
runs_more k i c (Asking j f) x = (x.0, omega (arith, x.1), ⊎_elim (λ z. inl z) (λ h. inr (omega (arith, h))) x.2)
runs_more k i c (Waiting t f) x = (x.0, omega (arith, x.1))
runs_more k i c (Inviting f o w) x = (x.0, omega (arith, x.1))
runs_more k i c Collecting x = (x.0, omega (arith, x.1))
runs_more k i c (Handing r w) x = (x.0, omega (arith, x.1))
runs_more k i c Contacting x = absurd x
runs_more k i c (Forwarding r w a l) x = omega (arith, x)
runs_more k i c (Accepting a l) x = omega (arith, x)

-- whoever is idle, and not Down, leads
idle_leads : (k i : ℕ) (c : Node) (a : Activity) → is_idle a ≡ true → Runs k i c a → (leads i c ≡ true) × (1 ≤ k)
idle_leads k i c Idle q x = x
idle_leads k i c (Asking j f) q x = absurd (true≢false (sym q))
idle_leads k i c (Waiting t f) q x = absurd (true≢false (sym q))
idle_leads k i c (Inviting f o w) q x = absurd (true≢false (sym q))
idle_leads k i c Collecting q x = absurd (true≢false (sym q))
idle_leads k i c (Handing r w) q x = absurd (true≢false (sym q))
idle_leads k i c Contacting q x = absurd (true≢false (sym q))
idle_leads k i c (Forwarding r w a l) q x = absurd (true≢false (sym q))
idle_leads k i c (Accepting a l) q x = absurd (true≢false (sym q))

-- another record of the same node
runs_same : (k i : ℕ) (c d : Node) (a : Activity) → (leads i c ≡ true → leads i d ≡ true) → (c.coordinator ≡ i → d.coordinator ≡ i) → Runs k i c a → Runs k i d a
runs_same k i c d Idle f g x = (f x.0, x.1)
runs_same k i c d (Asking j v) f g x = (f x.0, x.1, x.2)
runs_same k i c d (Waiting t v) f g x = (f x.0, x.1)
runs_same k i c d (Inviting v o w) f g x = (g x.0, x.1)
runs_same k i c d Collecting f g x = (g x.0, x.1)
runs_same k i c d (Handing r w) f g x = (g x.0, x.1)
runs_same k i c d Contacting f g x = x
runs_same k i c d (Forwarding r w a l) f g x = x
runs_same k i c d (Accepting a l) f g x = x

node_more : (k i : ℕ) (c : Node) → NodeAfter k i c → NodeAfter (k + 1) i c
node_more k i c x = ⊎_elim (λ d. inl d) (λ r. inr (runs_more k i c c.activity r)) x

message_more : (k : ℕ) (m : Message) → MessageAfter k m → MessageAfter (k + 1) m
message_more k m x = record { any = omega (arith, x.any); invitation = λ e. omega (arith, x.invitation e); reply = λ e. omega (arith, x.reply e) }

-- ── messages by their kinds: a call that is no invitation, an invitation, a reply ──

plain_call : (k : ℕ) (m : Message) → 2 ≤ k → (m.kind ≡ 3 → ⊥) → (m.kind ≡ 6 → ⊥) → MessageAfter k m
plain_call k m h a b = record { any = h; invitation = λ e. absurd (a e); reply = λ e. absurd (b e) }

some_call : (k : ℕ) (m : Message) → 5 ≤ k → MessageAfter k m
some_call k m h = record { any = omega arith; invitation = λ _. h; reply = λ _. omega arith }

some_reply : (k : ℕ) (m : Message) → 4 ≤ k → (m.kind ≡ 3 → ⊥) → MessageAfter k m
some_reply k m h a = record { any = omega arith; invitation = λ e. absurd (a e); reply = λ _. h }

-- ── the procedures, which leave what can be after k events ──
module _ (k i : ℕ) where
  abbrev P : Reaction → Type 0
  P r = ReactionAfter k i r

  own_leads : (c : Node) → c.coordinator ≡ i → eqb c.coordinator i ≡ true
  own_leads c e = eq-eqb c.coordinator i e

  recovered_after : (c : Node) → 1 ≤ k → P (recovers i c)
  recovered_after c h = record { node = inr (eq-eqb i i refl, h); outgoing = tt }

  -- where f is empty, one event more has gone by, so that it may collect
  invite_after : (c : Node) (mk : Mark) (f o : ℕ) → c.coordinator ≡ i → 5 ≤ k → (f ≡ 0 → 6 ≤ k) → P (invite_next i c mk f o)
  unfolding invite_next
  invite_after c mk f o e h g =
      by_test P
      (λ _. record { node = inr (e, h); outgoing = (refl, some_call k _ h) })
      (λ q. by_test P
      (λ _. record { node = inr (e, h); outgoing = (refl, some_call k _ h) })
      (λ _. record { node = inr (e, g (eqb-true f 0 (not-false _ q))); outgoing = tt }))

  merges_after : (c : Node) (f : ℕ) → 5 ≤ k → (f ≡ 0 → 6 ≤ k) → P (merges i c f)
  unfolding merges
  merges_after c f h g = invite_after (merged i c) Merges f c.members refl h g

  hand_after : (c : Node) (r : ℕ) → c.coordinator ≡ i → 5 ≤ k → P (hand_next i c r)
  unfolding hand_next
  hand_after c r e h =
      by_test P
      (λ _. record { node = inr (own_leads c e, omega arith); outgoing = tt })
      (λ _. record { node = inr (e, h); outgoing = (refl, some_call k _ h) })

  forward_after : (c : Node) (r a : ℕ) (l : CallNo) → 6 ≤ k → P (forward_next i c r a l)
  unfolding forward_next
  forward_after c r a l h =
      by_test P
      (λ _. record { node = inr h; outgoing = (refl, some_call k _ (omega arith)) })
      (λ _. record { node = inr h; outgoing = (refl, some_call k _ (omega arith)) })

  asked_after : (c : Node) (f : ℕ) → leads i c ≡ true → 2 ≤ k → (f ≡ 0) ⊎ (5 ≤ k) → P (asked_all i c f)
  unfolding asked_all
  asked_after c f e h z =
      by_test P
      (λ _. record { node = inr (e, omega arith); outgoing = tt })
      (λ q. let g : 5 ≤ k = ⊎_elim (λ y. absurd (eqb-false f 0 q y)) (λ y. y) z in
      by_test P (λ _. record { node = inr (e, g); outgoing = tt }) (λ _. merges_after c f g (λ y. absurd (eqb-false f 0 q y))))

  ask_at_after : (n : ℕ) (c : Node) (j f : ℕ) → leads i c ≡ true → 2 ≤ k → (f ≡ 0) ⊎ (5 ≤ k) → P (ask_at n i c j f)
  unfolding ask_at
  ask_at_after n c j f e h z =
      by_test P
      (λ _. record { node = inr (e, h, z); outgoing = (refl, plain_call k _ h (λ q. omega (arith, q)) (λ q. omega (arith, q))) })
      (λ _. asked_after c f e h z)

  ask_after_after : (n : ℕ) (c : Node) (j f : ℕ) → leads i c ≡ true → 2 ≤ k → (f ≡ 0) ⊎ (5 ≤ k) → P (ask_after n i c j f)
  unfolding ask_after
  ask_after_after n c j f e h z = by_test P (λ _. ask_at_after n c (j + 2) f e h z) (λ _. ask_at_after n c (j + 1) f e h z)

-- ── one event more, up to six ──
module _ (k n i : ℕ) (c : Node) (few : k ≤ 5) where
  abbrev Q : Reaction → Type 0
  Q r = ReactionAfter (k + 1) i r

  -- the record stays
  kept_after : NodeAfter k i c → Q (stays c)
  kept_after x = record { node = node_more k i c x; outgoing = tt }

  -- a reply, and the record d
  answers_after : (d : Node) (m : Message) (y : Bool) → 3 ≤ k → NodeAfter k i d → Q (answers i d m y)
  answers_after d m y h x = record { node = node_more k i d x; outgoing = (refl, some_reply (k + 1) _ (omega arith) (λ q. omega (arith, q))) }

  own : leads i c ≡ true → eqb c.coordinator i ≡ true
  own e = both_right (is_normal c.status) (eqb c.coordinator i) e

  ticked_after : (a : Activity) → Runs k i c a → NodeAfter k i c → Q (ticked i c a)
  unfolding ticked
  ticked_after Idle x y = kept_after y
  ticked_after (Asking j f) x y = kept_after y
  ticked_after (Waiting t f) x y =
      by_test Q (λ _. merges_after (k + 1) i c f (omega (arith, x.1)) (λ _. omega (arith, x.1))) (λ _. record { node = inr (x.0, omega (arith, x.1)); outgoing = tt })
  ticked_after (Inviting f o w) x y = kept_after y
  ticked_after Collecting x y = kept_after y
  ticked_after (Handing r w) x y = kept_after y
  ticked_after Contacting x y = kept_after y
  ticked_after (Forwarding r w a l) x y = kept_after y
  ticked_after (Accepting a l) x y = kept_after y

  expired_after : (a : Activity) → Runs k i c a → NodeAfter k i c → Q (expired n i c a)
  unfolding expired
  expired_after Idle x y = kept_after y
  expired_after (Asking j f) x y = ask_after_after (k + 1) i n c j f x.0 (omega (arith, x.1)) (⊎_elim (λ z. inl z) (λ h. inr (omega (arith, h))) x.2)
  expired_after (Waiting t f) x y = kept_after y
  expired_after (Inviting f o w) x y = invite_after (k + 1) i c Plain f o x.0 (omega (arith, x.1)) (λ _. omega (arith, x.1))
  expired_after Collecting x y = kept_after y
  expired_after (Handing r w) x y = recovered_after (k + 1) i c (omega arith)
  expired_after Contacting x y = absurd x
  expired_after (Forwarding r w a l) x y = absurd (omega (arith, x, few))
  expired_after (Accepting a l) x y = absurd (omega (arith, x, few))

  -- the open call is answered: a reply waited, so there were four events
  resumed_after : (v : Bool) (a : Activity) → 4 ≤ k → Runs k i c a → NodeAfter k i c → Q (resumed n i c v a)
  unfolding resumed
  resumed_after v Idle h x y = kept_after y
  resumed_after v (Asking j f) h x y = ask_after_after (k + 1) i n c j (pick v (with f j) f) x.0 (omega arith) (inr (omega arith))
  resumed_after v (Waiting t f) h x y = kept_after y
  resumed_after v (Inviting f o w) h x y = invite_after (k + 1) i c Plain f o x.0 (omega arith) (λ _. omega (arith, x.1))
  resumed_after v Collecting h x y = kept_after y
  resumed_after v (Handing r w) h x y = hand_after (k + 1) i c r x.0 (omega arith)
  resumed_after v Contacting h x y = absurd x
  resumed_after v (Forwarding r w a l) h x y = absurd (omega (arith, x, few))
  resumed_after v (Accepting a l) h x y = absurd (omega (arith, x, few))

  -- on delivery: a message waited for a running node that did not send it, so there were three events
  received_after : (m : Message) → 3 ≤ k → MessageAfter k m → Runs k i c c.activity → Q (received n i c m)
  unfolding received on_are_you_coordinator on_are_you_there on_invitation on_accept on_ready on_reply
  received_after m h w x =
      by_test Q (λ _. answers_after c m _ h y)
      (λ _. by_test Q (λ _. answers_after c m _ h y)
      (λ _. by_test Q
      (λ q. by_test Q (λ _. answers_after c m true h y) (λ _. forward_after (k + 1) i (invited c m.group) _ m.sender m.call (omega (arith, w.invitation (eqb-true m.kind 3 q)))))
      (λ _. by_test Q (λ _. answers_after _ m true h (by_test (NodeAfter k i) (λ _. inr (runs_same k i c (joined c m.sender) c.activity (λ e. e) (λ e. e) x)) (λ _. y)))
      (λ _. by_test Q (λ _. answers_after _ m true h (by_test (NodeAfter k i) (λ _. inr (runs_same k i c (tasked c Normal m.task) c.activity own (λ e. e) x)) (λ _. y)))
      (λ _. by_test Q
      (λ q. by_test Q (λ _. resumed_after m.yes c.activity (w.reply (eqb-true m.kind 6 q)) x y) (λ _. kept_after y))
      (λ _. kept_after y))))))
    where
      y : NodeAfter k i c
      y = inr x

  -- an idle node checks, or has a timeout
  checked_after : is_idle c.activity ≡ true → Runs k i c c.activity → Q (checked n i c)
  unfolding checked
  checked_after q x =
      let y = idle_leads k i c c.activity q x in
      by_test Q (λ _. ask_after_after (k + 1) i n c 0 0 y.0 (omega (arith, y.1)) (inl refl)) (λ _. kept_after (inr x))

  timed_after : is_idle c.activity ≡ true → Runs k i c c.activity → Q (timed_out i c)
  unfolding timed_out
  timed_after q x = by_test Q (λ _. kept_after (inr x)) (λ f. absurd (true≢false (sym (own (idle_leads k i c c.activity q x).0) ∙ f)))

  -- a collecting node finishes
  finished_after : (t : TaskNo) (a : Activity) → is_collecting a ≡ true → Runs k i c a → Q (finishes i c t)
  unfolding finishes
  finished_after t Collecting q x = hand_after (k + 1) i (tasked c Reorganization t) c.members x.0 (omega (arith, x.1))
  finished_after t Idle q x = absurd (true≢false (sym q))
  finished_after t (Asking j f) q x = absurd (true≢false (sym q))
  finished_after t (Waiting u f) q x = absurd (true≢false (sym q))
  finished_after t (Inviting f o w) q x = absurd (true≢false (sym q))
  finished_after t (Handing r w) q x = absurd (true≢false (sym q))
  finished_after t Contacting q x = absurd (true≢false (sym q))
  finished_after t (Forwarding r w a l) q x = absurd (true≢false (sym q))
  finished_after t (Accepting a l) q x = absurd (true≢false (sym q))

-- ── the table after k events ──
record TableAfter (k : ℕ) (s : State) : Type 0 where
  pub nodes : (i : ℕ) → 1 ≤ i → i ≤ s.n → NodeAfter k i (node_at s i)
  pub messages : All (MessageAfter k) s.queue
  -- two nodes run: two recoveries
  pub two : (i j : ℕ) → 1 ≤ i → i ≤ s.n → 1 ≤ j → j ≤ s.n → (i ≡ j → ⊥) → is_down (node_at s i).status ≡ false → is_down (node_at s j).status ≡ false → 2 ≤ k
  -- a message waits, and a node runs that did not send it: two recoveries and a check
  pub crossing : (j : ℕ) → 1 ≤ j → j ≤ s.n → is_down (node_at s j).status ≡ false → All (λ m. (m.sender ≡ j → ⊥) → 3 ≤ k) s.queue

running : (k i : ℕ) (c : Node) → NodeAfter k i c → is_down c.status ≡ false → Runs k i c c.activity
running k i c x d = ⊎_elim (λ z. absurd (true≢false (sym z ∙ d))) (λ r. r) x

table_more : (k : ℕ) (s : State) → TableAfter k s → TableAfter (k + 1) s
table_more k s x =
    record {
      nodes = λ i l h. node_more k i (node_at s i) (x.nodes i l h);
      messages = all_map (message_more k) s.queue x.messages;
      two = λ i j l h m u d a b. omega (arith, x.two i j l h m u d a b);
      crossing = λ j l h d. all_map (λ m f e. omega (arith, f e)) s.queue (x.crossing j l h d);
    }

waiting_oldest : (P : Message → Type 0) (a b : ℕ) (q : List Message) → waits a b q ≡ true → All P q → P (oldest a b q)
unfolding waits oldest
waiting_oldest P a b [] w h = absurd (true≢false (sym w))
waiting_oldest P a b (m ∷ ms) w h = by_test P (λ _. h.0) (λ t. waiting_oldest P a b ms (otherwise (goes a b m) _ t w) h.1)

remaining_all : (P : Message → Type 0) (s : State) (e : Event) → All P s.queue → All P (remaining s e)
unfolding remaining
remaining_all P s (Crash i) h = h
remaining_all P s (Recover i) h = h
remaining_all P s (Check i) h = h
remaining_all P s (Timeout i) h = h
remaining_all P s (Tick i) h = h
remaining_all P s (Expire i) h = h
remaining_all P s (Finish i t) h = h
remaining_all P s (Deliver a b) h = all_without P a b s.queue h
remaining_all P s (Lose a b) h = all_without P a b s.queue h

module _ (k : ℕ) (s : State) (few : k ≤ 5) (x : TableAfter k s) where
  -- what an accepted event's node does; and it runs, or sends nothing
  record EventAfter (e : Event) : Type 0 where
    pub reaction : ReactionAfter (k + 1) (actor e) (reaction_to s e)
    pub runs : ((reaction_to s e).outgoing ≡ None) ⊎ (is_down (node_at s (actor e)).status ≡ false)

  here : (e : Event) → Clear s e → NodeAfter k (actor e) (node_at s (actor e))
  here e c = let p = actor_in s.n e c.number in x.nodes (actor e) p.0 p.1

  awake : (e : Event) → Clear s e → is_down (node_at s (actor e)).status ≡ false → Runs k (actor e) (node_at s (actor e)) (node_at s (actor e)).activity
  awake e c d = running k (actor e) (node_at s (actor e)) (here e c) d

  event_after : (e : Event) → Clear s e → EventAfter e
  unfolding reaction_to react
  event_after (Crash i) c = record { reaction = record { node = inl refl; outgoing = tt }; runs = inl refl }
  event_after (Recover i) c = record { reaction = recovered_after (k + 1) i (node_at s i) (omega arith); runs = inl refl }
  event_after (Check i) c =
      record {
        reaction = checked_after k s.n i (node_at s i) few (not-false _ c.activity) (awake (Check i) c c.status);
        runs = inr c.status;
      }
  event_after (Timeout i) c =
      record {
        reaction = timed_after k s.n i (node_at s i) few (not-false _ c.activity) (awake (Timeout i) c c.status);
        runs = inr c.status;
      }
  event_after (Tick i) c =
      record { reaction = ticked_after k s.n i (node_at s i) few (node_at s i).activity (awake (Tick i) c c.status) (here (Tick i) c); runs = inr c.status }
  event_after (Expire i) c =
      record { reaction = expired_after k s.n i (node_at s i) few (node_at s i).activity (awake (Expire i) c c.status) (here (Expire i) c); runs = inr c.status }
  event_after (Finish i t) c =
      record {
        reaction = finished_after k s.n i (node_at s i) few t (node_at s i).activity (not-false _ c.activity) (awake (Finish i t) c c.status);
        runs = inr c.status;
      }
  event_after (Deliver a b) c =
      record {
        reaction = received_after k s.n b (node_at s b) few (oldest a b s.queue) crossed (waiting_oldest (MessageAfter k) a b s.queue w x.messages) (awake (Deliver a b) c c.status);
        runs = inr c.status;
      }
    where
      w : waits a b s.queue ≡ true
      w = not-false _ c.waiting

      from : (oldest a b s.queue).sender ≡ a
      from = eqb-true _ a (both_left (eqb (oldest a b s.queue).sender a) _ (oldest_goes a b s.queue w))

      apart : a ≡ b → ⊥
      apart q = (other_is s.n a b (both_right (is_node s.n a) _ (not-false _ c.number))).other (sym q)

      crossed : 3 ≤ k
      crossed =
          let p = actor_in s.n (Deliver a b) c.number in
          waiting_oldest (λ m. (m.sender ≡ b → ⊥) → 3 ≤ k) a b s.queue w (x.crossing b p.0 p.1 c.status) (λ q. apart (sym from ∙ q))
  event_after (Lose a b) c = record { reaction = record { node = node_more k b (node_at s b) (here (Lose a b) c); outgoing = tt }; runs = inl refl }

  module _ (e : Event) (c : Clear s e) where
    -- one that ran before
    ran : (j : ℕ) → 1 ≤ j → j ≤ s.n → (j ≡ actor e → ⊥) → is_down (node_at (effect s e) j).status ≡ false → is_down (node_at s j).status ≡ false
    ran j l h d q = sym (ap (λ (y : Node). is_down y.status) (other_record s e c j l d)) ∙ q

    some_ran : (j : ℕ) → 1 ≤ j → j ≤ s.n → (j ≡ actor e → ⊥) → is_down (node_at (effect s e) j).status ≡ false → 1 ≤ k
    some_ran j l h d q = runs_some k j (node_at s j) (node_at s j).activity (running k j (node_at s j) (x.nodes j l h) (ran j l h d q))

    sent_after : (o : Option Message) → OutgoingAfter (k + 1) (actor e) o → All (MessageAfter (k + 1)) (sent o)
    sent_after None y = tt
    sent_after (Some m) y = (y.1, tt)

    two_after : (i j : ℕ) → 1 ≤ i → i ≤ s.n → 1 ≤ j → j ≤ s.n → (i ≡ j → ⊥) → is_down (node_at (effect s e) i).status ≡ false → is_down (node_at (effect s e) j).status ≡ false → 2 ≤ k + 1
    two_after i j l h m u d a b = by (eqb i (actor e)) refl
      where
        by : (t : Bool) → eqb i (actor e) ≡ t → 2 ≤ k + 1
        by true q = omega (arith, some_ran j m u (λ z. d (eqb-true i (actor e) q ∙ sym z)) b)
        by false q = omega (arith, some_ran i l h (eqb-false i (actor e) q) a)

    crossing_sent : (j : ℕ) → 1 ≤ j → j ≤ s.n → is_down (node_at (effect s e) j).status ≡ false → (o : Option Message) → OutgoingAfter (k + 1) (actor e) o
        → (o ≡ None) ⊎ (is_down (node_at s (actor e)).status ≡ false) → All (λ m. (m.sender ≡ j → ⊥) → 3 ≤ k + 1) (sent o)
    crossing_sent j l h d None y r = tt
    crossing_sent j l h d (Some m) y r = ((λ f. omega (arith, both f)), tt)
      where
        both : (m.sender ≡ j → ⊥) → 2 ≤ k
        both f =
            let z : j ≡ actor e → ⊥ = λ q. f (y.0 ∙ sym q) in
            let p = actor_in s.n e c.number in
            ⊎_elim (λ q. absurd (let v : ◌≡◌ {A = ℕ} 0 1 = cc in omega arith)) (λ q. x.two j (actor e) l h p.0 p.1 z (ran j l h z d) q) r

    effect_after : TableAfter (k + 1) (effect s e)
    unfolding effect
    effect_after =
        record {
          nodes = each_record (NodeAfter (k + 1)) s e c (event_after e c).reaction.node (λ j l h. node_more k j (node_at s j) (x.nodes j l h));
          messages = all_append (MessageAfter (k + 1)) (remaining s e) (sent (reaction_to s e).outgoing)
              (all_map (message_more k) (remaining s e) (remaining_all (MessageAfter k) s e x.messages))
              (sent_after (reaction_to s e).outgoing (event_after e c).reaction.outgoing);
          two = two_after;
          crossing = λ j l h d.
              all_append (Crosses j) (remaining s e) (sent (reaction_to s e).outgoing)
              (all_map {P = MessageAfter k} {Q = Crosses j} (λ m y _. omega (arith, y.any)) (remaining s e) (remaining_all (MessageAfter k) s e x.messages))
              (crossing_sent j l h d (reaction_to s e).outgoing (event_after e c).reaction.outgoing (event_after e c).runs);
        }
      where
        Crosses : ℕ → Message → Type 0
        Crosses j m = (m.sender ≡ j → ⊥) → 3 ≤ k + 1

-- ── runs of up to six events ──
after_more : (k : ℕ) (s : State) (e : Event) → k ≤ 5 → TableAfter k s → TableAfter (k + 1) (after s e)
after_more k s e few x = by_step (λ (r : Result). TableAfter (k + 1) (kept s r)) s e (λ _. table_more k s x) (λ c _. effect_after k s few x e c)

run_after : (k : ℕ) (s : State) (es : List Event) → k + length es ≤ 6 → TableAfter k s → TableAfter (k + length es) (run_from s es)
unfolding run_from
run_after k s [] h x = subst (λ (j : ℕ). TableAfter j s) (omega arith) x
run_after k s (e ∷ es) h x =
    subst (λ (j : ℕ). TableAfter j (run_from (after s e) es)) (omega arith) (run_after (k + 1) (after s e) es (omega arith) (after_more k s e (omega arith) x))

start_after : (n : ℕ) (lim : Limits) → TableAfter 0 (start n lim)
start_after n lim =
    record {
      nodes = λ i l h. inl (down i l h);
      messages = tt;
      two = λ i j l h m u d a b. absurd (true≢false (sym (down i l h) ∙ a));
      crossing = λ j l h d. tt;
    }
  where
    down : (i : ℕ) → 1 ≤ i → i ≤ n → is_down (node_at (start n lim) i).status ≡ true
    down i l h = ap (λ (c : Node). is_down c.status) (get_or-replicate n (i - 1) starting_node starting_node (omega arith))

-- after at most six events whoever is idle, and not Down, is Normal and its own coordinator
pub early_leads : (n : ℕ) (lim : Limits) (es : List Event) → length es ≤ 6 → (i : ℕ) → 1 ≤ i → i ≤ (run n lim es).n → is_down (node_at (run n lim es) i).status ≡ false → is_idle (node_at (run n lim es) i).activity ≡ true
    → leads i (node_at (run n lim es) i) ≡ true
early_leads n lim es few i l h d q =
    let x = run_after 0 (start n lim) es (omega (arith, few)) (start_after n lim) in
    (idle_leads _ i (node_at (run n lim es) i) (node_at (run n lim es) i).activity q (running _ i (node_at (run n lim es) i) (x.nodes i l h) d)).0

-- after at most five events nobody that runs collects
collects_late : (k i : ℕ) (c : Node) (a : Activity) → is_collecting a ≡ true → Runs k i c a → 6 ≤ k
collects_late k i c Collecting q x = x.1
collects_late k i c Idle q x = absurd (true≢false (sym q))
collects_late k i c (Asking j f) q x = absurd (true≢false (sym q))
collects_late k i c (Waiting t f) q x = absurd (true≢false (sym q))
collects_late k i c (Inviting f o w) q x = absurd (true≢false (sym q))
collects_late k i c (Handing r w) q x = absurd (true≢false (sym q))
collects_late k i c Contacting q x = absurd (true≢false (sym q))
collects_late k i c (Forwarding r w a l) q x = absurd (true≢false (sym q))
collects_late k i c (Accepting a l) q x = absurd (true≢false (sym q))

pub early_collects : (n : ℕ) (lim : Limits) (es : List Event) → length es ≤ 5 → (i : ℕ) → 1 ≤ i → i ≤ (run n lim es).n → is_down (node_at (run n lim es) i).status ≡ false → is_collecting (node_at (run n lim es) i).activity ≡ true → ⊥
early_collects n lim es few i l h d q =
    let x = run_after 0 (start n lim) es (omega (arith, few)) (start_after n lim) in
    omega (arith, few, collects_late _ i (node_at (run n lim es) i) (node_at (run n lim es) i).activity q (running _ i (node_at (run n lim es) i) (x.nodes i l h) d))
