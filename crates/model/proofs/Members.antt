-- In a run a node that is idle and not Down is Normal, or it is in Reorganization and another is its coordinator; so 18 is met at members alone (02, T-06). One lemma a procedure.
use Prim.Native.Nat.{ℕ, ◌+◌, ◌-◌, ◌≤◌}
use native.Mathlib.Omega.{arith}
use mathlib.Core.Bool.{Bool, true, false, true≢false}
use mathlib.Core.Logic.{◌⊎◌, inl, inr, ⊎_elim}
use mathlib.Core.Path.{◌≡◌, refl, sym, ◌∙◌, ap, subst}
use mathlib.Core.List.{List, [], ◌∷◌}
use lib.ListN.{get_or-replicate}
use borrow.Author.Tests.{not-false, eqb-false}
use Rattle.node_set.specs.NodeSet.{with}
use Rattle.model.specs.Pick.{pick, by_test}
use Rattle.model.specs.Node.{is_down, is_normal, is_idle, owner_of, merged, tasked, invited}
use Rattle.model.specs.Procedures.{stays, invite_next, merges, hand_next, finishes, forward_next, asked_all, ask_at, ask_after}
use Rattle.model.specs.React.{leads, checked, timed_out, ticked, expired, resumed, on_are_you_coordinator, on_are_you_there, on_invitation, on_accept, on_ready, on_reply, received, react}
use Rattle.model.specs.State.{State, starting_node, start, node_at, oldest}
use Rattle.model.specs.Step.{run_from, actor, reaction_to, effect, Result, kept, after, run}
use Rattle.model.proofs.Judged.{Clear, by_step}
use Rattle.model.proofs.Local.{both_left}
use Rattle.model.proofs.Numbers.{actor_in}
use Rattle.model.proofs.Fields.{Busy, node_facts, in_range_node, each_record}
use Rattle.model.specs.declared.Limits.{Limits}
use Rattle.model.specs.declared.Status.{Status}
use Rattle.model.specs.declared.Status.TheVariants.{Reorganization, Normal}
use Rattle.model.specs.declared.Activity.{Activity}
use Rattle.model.specs.declared.Activity.TheVariants.{Idle, Asking, Waiting, Inviting, Collecting, Handing, Contacting, Forwarding, Accepting}
use Rattle.model.specs.declared.Node.{Node}
use Rattle.model.specs.declared.CallNo.{CallNo}
use Rattle.model.specs.declared.Message.{Message}
use Rattle.model.specs.declared.Mark.{Mark}
use Rattle.model.specs.declared.Mark.TheVariants.{Plain, Merges}
use Rattle.model.specs.declared.Reaction.{Reaction}
use Rattle.model.specs.declared.Event.{Event}
use Rattle.model.specs.declared.Event.TheVariants.{Crash, Recover, Check, Timeout, Tick, Expire, Finish, Deliver, Lose}

-- node i, not Down, with the status s, the coordinator o and this activity
abbrev Rests : ℕ → Status → ℕ → Activity → Type 0
Rests i s o Idle = (s ≡ Normal) ⊎ ((s ≡ Reorganization) × (o ≡ i → ⊥))
Rests i s o (Asking asked found) = s ≡ Normal
Rests i s o (Waiting ticks found) = s ≡ Normal
Rests i s o (Inviting found former now) = Unit {0}
Rests i s o Collecting = Unit {0}
Rests i s o (Handing rest now) = Unit {0}
Rests i s o Contacting = ((s ≡ Normal) ⊎ (s ≡ Reorganization)) × (o ≡ i → ⊥)
Rests i s o (Forwarding rest now caller call) = Unit {0}
Rests i s o (Accepting caller call) = Unit {0}

abbrev pub NodeRests : ℕ → Node → Type 0
NodeRests i c = (is_down c.status ≡ true) ⊎ Rests i c.status c.coordinator c.activity

-- a node that is idle
pub idle_rests : (i : ℕ) (s : Status) (o : ℕ) (a : Activity) → is_idle a ≡ true → Rests i s o a → (s ≡ Normal) ⊎ ((s ≡ Reorganization) × (o ≡ i → ⊥))
idle_rests i s o Idle q x = x
idle_rests i s o (Asking j f) q x = absurd (true≢false (sym q))
idle_rests i s o (Waiting t f) q x = absurd (true≢false (sym q))
idle_rests i s o (Inviting f p w) q x = absurd (true≢false (sym q))
idle_rests i s o Collecting q x = absurd (true≢false (sym q))
idle_rests i s o (Handing r w) q x = absurd (true≢false (sym q))
idle_rests i s o Contacting q x = absurd (true≢false (sym q))
idle_rests i s o (Forwarding r w a l) q x = absurd (true≢false (sym q))
idle_rests i s o (Accepting a l) q x = absurd (true≢false (sym q))

-- its task comes, and it is Normal
ready_rests : (i : ℕ) (s : Status) (o : ℕ) (a : Activity) → Rests i s o a → Rests i Normal o a
ready_rests i s o Idle x = inl refl
ready_rests i s o (Asking j f) x = refl
ready_rests i s o (Waiting t f) x = refl
ready_rests i s o (Inviting f p w) x = tt
ready_rests i s o Collecting x = tt
ready_rests i s o (Handing r w) x = tt
ready_rests i s o Contacting x = (inl refl, x.1)
ready_rests i s o (Forwarding r w a l) x = tt
ready_rests i s o (Accepting a l) x = tt

-- ── the procedures ──
module _ (n i : ℕ) (c : Node) where
  abbrev P : Reaction → Type 0
  P r = NodeRests i r.node

  invites : (d : Node) (mk : Mark) (f o : ℕ) → P (invite_next i d mk f o)
  unfolding invite_next
  invites d mk f o = by_test P (λ _. inr tt) (λ _. by_test P (λ _. inr tt) (λ _. inr tt))

  hands : (d : Node) (r : ℕ) → P (hand_next i d r)
  unfolding hand_next
  hands d r = by_test P (λ _. inr (inl refl)) (λ _. inr tt)

  forwards : (d : Node) (r a : ℕ) (l : CallNo) → P (forward_next i d r a l)
  unfolding forward_next
  forwards d r a l = by_test P (λ _. inr tt) (λ _. inr tt)

  asks : (j f : ℕ) → c.status ≡ Normal → P (ask_after n i c j f)
  unfolding ask_after ask_at asked_all merges
  asks j f e = by_test P (λ _. at (j + 2)) (λ _. at (j + 1))
    where
      at : (k : ℕ) → P (ask_at n i c k f)
      at k = by_test P (λ _. inr e) (λ _. by_test P (λ _. inr (inl e)) (λ _. by_test P (λ _. inr e) (λ _. invites (merged i c) Merges f c.members)))

  -- what it needs of an accepting node: another is its coordinator
  abbrev Elsewhere : Activity → Type 0
  Elsewhere Idle = Unit {0}
  Elsewhere (Asking asked found) = Unit {0}
  Elsewhere (Waiting ticks found) = Unit {0}
  Elsewhere (Inviting found former now) = Unit {0}
  Elsewhere Collecting = Unit {0}
  Elsewhere (Handing rest now) = Unit {0}
  Elsewhere Contacting = Unit {0}
  Elsewhere (Forwarding rest now caller call) = Unit {0}
  Elsewhere (Accepting caller call) = c.coordinator ≡ i → ⊥

  module _ (x : Rests i c.status c.coordinator c.activity) where
    kept_rests : P (stays c)
    kept_rests = inr x

    ticks : (a : Activity) → Rests i c.status c.coordinator a → P (ticked i c a)
    unfolding ticked merges
    ticks Idle y = kept_rests
    ticks (Asking j f) y = kept_rests
    ticks (Waiting t f) y = by_test P (λ _. invites (merged i c) Merges f c.members) (λ _. inr y)
    ticks (Inviting f o w) y = kept_rests
    ticks Collecting y = kept_rests
    ticks (Handing r w) y = kept_rests
    ticks Contacting y = kept_rests
    ticks (Forwarding r w a l) y = kept_rests
    ticks (Accepting a l) y = kept_rests

    expires : (a : Activity) → Rests i c.status c.coordinator a → P (expired n i c a)
    unfolding expired
    expires Idle y = kept_rests
    expires (Asking j f) y = asks j f y
    expires (Waiting t f) y = kept_rests
    expires (Inviting f o w) y = invites c Plain f o
    expires Collecting y = kept_rests
    expires (Handing r w) y = inr (inl refl)
    expires Contacting y = inr (inl refl)
    expires (Forwarding r w a l) y = forwards c r a l
    expires (Accepting a l) y = inr (inl refl)

    resumes : (v : Bool) (a : Activity) → Elsewhere a → Rests i c.status c.coordinator a → P (resumed n i c v a)
    unfolding resumed
    resumes v Idle d y = kept_rests
    resumes v (Asking j f) d y = asks j (pick v (with f j) f) y
    resumes v (Waiting t f) d y = kept_rests
    resumes v (Inviting f o w) d y = invites c Plain f o
    resumes v Collecting d y = kept_rests
    resumes v (Handing r w) d y = hands c r
    resumes v Contacting d y = by_test P (λ _. inr (⊎_elim (λ e. inl e) (λ e. inr (e, y.1)) y.0)) (λ _. inr (inl refl))
    resumes v (Forwarding r w a l) d y = forwards c r a l
    resumes v (Accepting a l) d y = inr (inr (refl, d))

    receives : (m : Message) → Elsewhere c.activity → P (received n i c m)
    unfolding received on_are_you_coordinator on_are_you_there on_invitation on_accept on_ready on_reply
    receives m d =
        by_test P (λ _. kept_rests)
        (λ _. by_test P (λ _. kept_rests)
        (λ _. by_test P (λ _. by_test P (λ _. kept_rests) (λ _. forwards (invited c m.group) _ m.sender m.call))
        (λ _. by_test P (λ _. by_test (NodeRests i) (λ _. inr x) (λ _. inr x))
        (λ _. by_test P (λ _. by_test (NodeRests i) (λ _. inr (ready_rests i c.status c.coordinator c.activity x)) (λ _. inr x))
        (λ _. by_test P (λ _. by_test P (λ _. resumes m.yes c.activity d x) (λ _. kept_rests)) (λ _. kept_rests))))))

    checks : leads i c ≡ true → is_idle c.activity ≡ true → P (checked n i c)
    unfolding checked
    checks e q =
        by_test P
        (λ _. asks 0 0
        (⊎_elim (λ s. s) (λ s. absurd (true≢false (sym (both_left (is_normal c.status) _ e) ∙ ap is_normal s.0))) (idle_rests i c.status c.coordinator c.activity q x)))
        (λ _. kept_rests)

    times_out : is_idle c.activity ≡ true → P (timed_out i c)
    unfolding timed_out
    times_out q =
        by_test P (λ _. kept_rests)
        (λ e. inr (⊎_elim (λ s. inl s) (λ s. inr s.0) (idle_rests i c.status c.coordinator c.activity q x), eqb-false c.coordinator i e))

-- ── an event ──
abbrev AllRest : State → Type 0
AllRest s = (i : ℕ) → 1 ≤ i → i ≤ s.n → NodeRests i (node_at s i)

module _ (s : State) (x : AllRest s) where
  here : (e : Event) → Clear s e → NodeRests (actor e) (node_at s (actor e))
  here e c = let p = actor_in s.n e c.number in x (actor e) p.0 p.1

  up : (e : Event) → Clear s e → is_down (node_at s (actor e)).status ≡ false → Rests (actor e) (node_at s (actor e)).status (node_at s (actor e)).coordinator (node_at s (actor e)).activity
  up e c d = ⊎_elim (λ z. absurd (true≢false (sym z ∙ d))) (λ y. y) (here e c)

  event_rests : (e : Event) → Clear s e → NodeRests (actor e) (reaction_to s e).node
  unfolding reaction_to react finishes
  event_rests (Crash i) c = inl refl
  event_rests (Recover i) c = inr (inl refl)
  event_rests (Check i) c = checks s.n i (node_at s i) (up (Check i) c c.status) (not-false _ c.coordinator) (not-false _ c.activity)
  event_rests (Timeout i) c = times_out s.n i (node_at s i) (up (Timeout i) c c.status) (not-false _ c.activity)
  event_rests (Tick i) c = let y = up (Tick i) c c.status in ticks s.n i (node_at s i) y (node_at s i).activity y
  event_rests (Expire i) c = let y = up (Expire i) c c.status in expires s.n i (node_at s i) y (node_at s i).activity y
  event_rests (Finish i t) c = hands s.n i (node_at s i) (tasked (node_at s i) Reorganization t) (node_at s i).members
  event_rests (Deliver a b) c = receives s.n b (node_at s b) (up (Deliver a b) c c.status) (oldest a b s.queue) (away (node_at s b).activity refl)
    where
      -- "a forwarding or accepting cabinet isn't that owner", who is its coordinator
      away : (z : Activity) → (node_at s b).activity ≡ z → Elsewhere s.n b (node_at s b) z
      away Idle q = tt
      away (Asking j f) q = tt
      away (Waiting t f) q = tt
      away (Inviting f o w) q = tt
      away Collecting q = tt
      away (Handing r w) q = tt
      away Contacting q = tt
      away (Forwarding r w j l) q = tt
      away (Accepting j l) q =
          let p = actor_in s.n (Deliver a b) c.number in
          let f = node_facts s.n b (node_at s b) (in_range_node s b c.in_range_lem p.0 p.1) in
          λ h. accepting j l q f.activity (f.led c.status ∙ h)
        where
          accepting : (j : ℕ) (l : CallNo) → (node_at s b).activity ≡ Accepting j l → Busy s.n b (node_at s b).group.number (node_at s b).task.number (node_at s b).activity → owner_of (node_at s b).group.number ≡ b → ⊥
          accepting j l q y = (subst (Busy s.n b (node_at s b).group.number (node_at s b).task.number) q y).2
  event_rests (Lose a b) c = here (Lose a b) c

  effect_rests : (e : Event) → Clear s e → AllRest (effect s e)
  unfolding effect
  effect_rests e c = each_record NodeRests s e c (event_rests e c) x

-- ── runs ──
from_rest : (s : State) (es : List Event) → AllRest s → AllRest (run_from s es)
unfolding run_from
from_rest s [] x = x
from_rest s (e ∷ es) x = from_rest (after s e) es (by_step (λ (r : Result). AllRest (kept s r)) s e (λ _. x) (λ c _. effect_rests s x e c))

pub run_rests : (n : ℕ) (lim : Limits) (es : List Event) → AllRest (run n lim es)
run_rests n lim es = from_rest (start n lim) es (λ i l h. inl (ap (λ (c : Node). is_down c.status) (get_or-replicate n (i - 1) starting_node starting_node (omega arith))))
