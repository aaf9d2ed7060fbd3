-- The activity of every node of a run suits its status and its coordinator: one lemma a procedure.
use Prim.Native.Nat.{ℕ, ◌+◌, ◌-◌, ◌≤◌}
use native.Mathlib.Omega.{arith}
use mathlib.Core.Bool.{Bool, true, true≢false}
use mathlib.Core.Path.{◌≡◌, refl, sym, subst}
use mathlib.Core.List.{List, [], ◌∷◌}
use borrow.Author.Tests.{not-false, eqb-false, leb-true, le-leb}
use Rattle.node_set.specs.NodeSet.{with, within, highest}
use Rattle.node_set.proofs.Laws.{empty_within, highest_in, with_within}
use Rattle.model.specs.Pick.{pick, by_test}
use Rattle.model.specs.Node.{is_election, is_reorganization, is_active, merged, tasked, invited}
use Rattle.model.specs.Procedures.{invite_next, merges, hand_next, finishes, forward_next, asked_all, ask_at, ask_after}
use Rattle.model.specs.React.{leads, checked, timed_out, ticked, expired, resumed, on_are_you_coordinator, on_are_you_there, on_invitation, on_accept, on_ready, on_reply, received, react}
use Rattle.model.specs.Range.{PairRule}
use Rattle.model.specs.State.{State, starting_node, start_by, node_at, oldest, in_range}
use Rattle.model.specs.Step.{actor, reaction_to, effect, kept, after, run_from, run_by}
use Rattle.rest_bound.specs.Potential.{suits, node_suits, suited}
use Rattle.model.proofs.Judged.{Clear, by_step}
use Rattle.model.proofs.Local.{both_left, both_right}
use Rattle.model.proofs.Numbers.{actor_in}
use Rattle.model.proofs.Fields.{Busy, NodeFacts, node_facts, every_at, in_range_size, in_range_node}
use Rattle.model.proofs.Range.{both, Numbered}
use Rattle.model.proofs.InRange.{every_set, every_replicate}
use Rattle.model.specs.declared.Limits.{Limits}
use Rattle.model.specs.declared.Status.{Status}
use Rattle.model.specs.declared.Status.TheVariants.{Down, Election, Reorganization, Normal}
use Rattle.model.specs.declared.Activity.{Activity}
use Rattle.model.specs.declared.Activity.TheVariants.{Idle, Asking, Waiting, Inviting, Collecting, Handing, Contacting, Forwarding, Accepting}
use Rattle.model.specs.declared.Node.{Node}
use Rattle.model.specs.declared.CallNo.{CallNo}
use Rattle.model.specs.declared.Message.{Message}
use Rattle.model.specs.declared.Mark.{Mark}
use Rattle.model.specs.declared.Reaction.{Reaction}
use Rattle.model.specs.declared.Event.{Event}
use Rattle.model.specs.declared.Event.TheVariants.{Crash, Recover, Check, Timeout, Tick, Expire, Finish, Deliver, Lose}

abbrev Suited : ℕ → ℕ → Reaction → Type 0
Suited n i r = node_suits n i r.node ≡ true

-- nothing suits Reorganization that does not suit Normal
normal_suits : (n i o : ℕ) (s : Status) (a : Activity) → is_reorganization s ≡ true → suits n i s o a ≡ true → suits n i Normal o a ≡ true
normal_suits n i o Down a e h = absurd (true≢false (sym e))
normal_suits n i o Election a e h = absurd (true≢false (sym e))
normal_suits n i o Normal a e h = absurd (true≢false (sym e))
normal_suits n i o Reorganization Idle e h = refl
normal_suits n i o Reorganization (Asking a f) e h = absurd (true≢false (sym h))
normal_suits n i o Reorganization (Waiting k f) e h = absurd (true≢false (sym h))
normal_suits n i o Reorganization (Inviting f m w) e h = absurd (true≢false (sym h))
normal_suits n i o Reorganization Collecting e h = absurd (true≢false (sym h))
normal_suits n i o Reorganization (Handing r w) e h = refl
normal_suits n i o Reorganization Contacting e h = refl
normal_suits n i o Reorganization (Forwarding r w a k) e h = refl
normal_suits n i o Reorganization (Accepting a k) e h = refl

module _ (n i : ℕ) (c : Node) where
  invite_next_suits : (k : Mark) (f o : ℕ) → is_election c.status ≡ true → Suited n i (invite_next i c k f o)
  unfolding invite_next
  invite_next_suits k f o e = by_test (Suited n i) (λ _. e) (λ _. by_test (Suited n i) (λ _. e) (λ _. e))

  hand_next_suits : (r : ℕ) → is_active c.status ≡ true → Suited n i (hand_next i c r)
  unfolding hand_next
  hand_next_suits r e = by_test (Suited n i) (λ _. refl) (λ _. e)

  forward_next_suits : (r a : ℕ) (k : CallNo) → Suited n i (forward_next i c r a k)
  unfolding forward_next
  forward_next_suits r a k = by_test (Suited n i) (λ _. refl) (λ _. refl)

merges_suits : (n i : ℕ) (c : Node) (f : ℕ) → Suited n i (merges i c f)
unfolding merges
merges_suits n i c f = invite_next_suits n i (merged i c) _ f c.members refl

module _ {n i : ℕ} (p : Numbered n i) (c : Node) where
  asked_all_suits : (f : ℕ) → within n f ≡ true → leads i c ≡ true → Suited n i (asked_all i c f)
  unfolding asked_all
  asked_all_suits f w h =
      by_test (Suited n i) (λ _. refl)
      (λ e. by_test (Suited n i)
      (λ _.
      let d = eqb-false f 0 e in
      both (leads i c) _ h (le-leb (highest f - i) (n - 1) (omega (arith, (highest_in n f p.small w (omega arith)).1, p.low))))
      (λ _. merges_suits n i c f))

  ask_at_suits : (j f : ℕ) → within n f ≡ true → leads i c ≡ true → Suited n i (ask_at n i c j f)
  unfolding ask_at
  ask_at_suits j f w h = by_test (Suited n i) (λ _. h) (λ _. asked_all_suits f w h)

  ask_after_suits : (j f : ℕ) → within n f ≡ true → leads i c ≡ true → Suited n i (ask_after n i c j f)
  unfolding ask_after
  ask_after_suits j f w h = by_test (Suited n i) (λ _. ask_at_suits (j + 2) f w h) (λ _. ask_at_suits (j + 1) f w h)

  module _ (ok : node_suits n i c ≡ true) where
    -- ground 18: who is not refused there leads
    checked_suits : leads i c ≡ true → Suited n i (checked n i c)
    unfolding checked
    checked_suits h = by_test (Suited n i) (λ _. ask_after_suits 0 0 (empty_within n) h) (λ _. ok)

    timed_out_suits : Suited n i (timed_out i c)
    unfolding timed_out
    timed_out_suits = by_test (Suited n i) (λ _. ok) (λ _. refl)

    ticked_suits : (a : Activity) → suits n i c.status c.coordinator a ≡ true → Suited n i (ticked i c a)
    unfolding ticked
    ticked_suits Idle h = ok
    ticked_suits (Asking a f) h = ok
    ticked_suits (Waiting k f) h =
        by_test (Suited n i) (λ _. merges_suits n i c f)
        (λ _. both (leads i c) _ (both_left (leads i c) _ h)
        (le-leb (k - 1) (n - 1) (omega (arith, leb-true k (n - 1) (both_right (leads i c) _ h)))))
    ticked_suits (Inviting f o w) h = ok
    ticked_suits Collecting h = ok
    ticked_suits (Handing r w) h = ok
    ticked_suits Contacting h = ok
    ticked_suits (Forwarding r w a k) h = ok
    ticked_suits (Accepting a k) h = ok

    expired_suits : (a : Activity) → suits n i c.status c.coordinator a ≡ true → Busy n i c.group.number c.task.number a → Suited n i (expired n i c a)
    unfolding expired
    expired_suits Idle h b = ok
    expired_suits (Asking a f) h b = ask_after_suits a f b.1.inside h
    expired_suits (Waiting k f) h b = ok
    expired_suits (Inviting f o w) h b = invite_next_suits n i c _ f o h
    expired_suits Collecting h b = ok
    expired_suits (Handing r w) h b = refl
    expired_suits Contacting h b = refl
    expired_suits (Forwarding r w a k) h b = forward_next_suits n i c r a k
    expired_suits (Accepting a k) h b = refl

    resumed_suits : (y : Bool) (a : Activity) → suits n i c.status c.coordinator a ≡ true → Busy n i c.group.number c.task.number a → Suited n i (resumed n i c y a)
    unfolding resumed
    resumed_suits y Idle h b = ok
    resumed_suits y (Asking a f) h b =
        ask_after_suits a (pick y (with f a) f)
        (by_test (λ s. within n s ≡ true) (λ _. with_within n f a b.1.inside b.0.low b.0.high) (λ _. b.1.inside)) h
    resumed_suits y (Waiting k f) h b = ok
    resumed_suits y (Inviting f o w) h b = invite_next_suits n i c _ f o h
    resumed_suits y Collecting h b = ok
    resumed_suits y (Handing r w) h b = hand_next_suits n i c r h
    resumed_suits y Contacting h b = by_test (Suited n i) (λ _. refl) (λ _. refl)
    resumed_suits y (Forwarding r w a k) h b = forward_next_suits n i c r a k
    resumed_suits y (Accepting a k) h b = refl

    module _ (busy : Busy n i c.group.number c.task.number c.activity) where
      received_suits : (m : Message) → Suited n i (received n i c m)
      unfolding received on_are_you_coordinator on_are_you_there on_invitation on_accept on_ready on_reply
      received_suits m =
          by_test (Suited n i) (λ _. ok)
          (λ _. by_test (Suited n i) (λ _. ok)
          (λ _. by_test (Suited n i) (λ _. by_test (Suited n i) (λ _. ok) (λ _. forward_next_suits n i (invited c m.group) _ m.sender m.call))
          (λ _. by_test (Suited n i) (λ _. by_test (λ (d : Node). node_suits n i d ≡ true) (λ _. ok) (λ _. ok))
          (λ _. by_test (Suited n i)
          (λ _. by_test (λ (d : Node). node_suits n i d ≡ true) (λ e. normal_suits n i c.coordinator c.status c.activity (both_left (is_reorganization c.status) _ e) ok) (λ _. ok))
          (λ _. by_test (Suited n i) (λ _. by_test (Suited n i) (λ _. resumed_suits m.yes c.activity ok busy) (λ _. ok)) (λ _. ok))))))

-- ── tables ──

-- a node of a table suits
pub node_suits_lem : (s : State) (j : ℕ) → in_range s ≡ true → suited s ≡ true → 1 ≤ j → j ≤ s.n → node_suits s.n j (node_at s j) ≡ true
unfolding suited
node_suits_lem s j r ok l h =
    subst (λ (k : ℕ). node_suits s.n k (node_at s j) ≡ true) (omega arith)
    (every_at (node_suits s.n) 1 s.nodes (j - 1) starting_node ok (omega (arith, (in_range_size s r).2)))

-- the node of an accepted event, and what the event makes of it
pub place : (s : State) (e : Event) → Clear s e → Numbered s.n (actor e)
place s e c = let x = actor_in s.n e c.number in record { low = x.0; high = x.1; small = (in_range_size s c.in_range_lem).1 }

pub facts : (s : State) (e : Event) → Clear s e → NodeFacts s.n (actor e) (node_at s (actor e))
facts s e c = let p = place s e c in node_facts s.n (actor e) (node_at s (actor e)) (in_range_node s (actor e) c.in_range_lem p.low p.high)

module _ (s : State) (ok : suited s ≡ true) where
  pub here_suits : (e : Event) → Clear s e → node_suits s.n (actor e) (node_at s (actor e)) ≡ true
  here_suits e c = let p = place s e c in node_suits_lem s (actor e) c.in_range_lem ok p.low p.high

  event_suits : (e : Event) → Clear s e → Suited s.n (actor e) (reaction_to s e)
  unfolding reaction_to react finishes
  event_suits (Crash i) c = refl
  event_suits (Recover i) c = refl
  event_suits (Check i) c = checked_suits (place s (Check i) c) (node_at s i) (here_suits (Check i) c) (not-false _ c.coordinator)
  event_suits (Timeout i) c = timed_out_suits (place s (Timeout i) c) (node_at s i) (here_suits (Timeout i) c)
  event_suits (Tick i) c = let h = here_suits (Tick i) c in ticked_suits (place s (Tick i) c) (node_at s i) h (node_at s i).activity h
  event_suits (Expire i) c = let h = here_suits (Expire i) c in expired_suits (place s (Expire i) c) (node_at s i) h (node_at s i).activity h (facts s (Expire i) c).activity
  event_suits (Finish i t) c = hand_next_suits s.n i (tasked (node_at s i) Reorganization t) (node_at s i).members refl
  event_suits (Deliver a b) c = received_suits (place s (Deliver a b) c) (node_at s b) (here_suits (Deliver a b) c) (facts s (Deliver a b) c).activity (oldest a b s.queue)
  event_suits (Lose a b) c = here_suits (Lose a b) c

  pub effect_suits : (e : Event) → Clear s e → suited (effect s e) ≡ true
  unfolding effect suited
  effect_suits e c =
      every_set (node_suits s.n) 1 s.nodes (actor e - 1) (reaction_to s e).node ok
      (subst (λ (j : ℕ). node_suits s.n j (reaction_to s e).node ≡ true) (omega (arith, (place s e c).low)) (event_suits e c))

  pub step_suits : (e : Event) → suited (after s e) ≡ true
  step_suits e = by_step (λ r. suited (kept s r) ≡ true) s e (λ _. ok) (λ c _. effect_suits e c)

pub run_suits : (s : State) (es : List Event) → suited s ≡ true → suited (run_from s es) ≡ true
unfolding run_from
run_suits s [] ok = ok
run_suits s (e ∷ es) ok = run_suits (after s e) es (step_suits s ok e)

pub runs_suit : (r : PairRule) (n : ℕ) (lim : Limits) (es : List Event) → suited (run_by r n lim es) ≡ true
unfolding suited
runs_suit r n lim es = run_suits (start_by r n lim) es (every_replicate (node_suits n) 1 n starting_node (λ j. refl))
