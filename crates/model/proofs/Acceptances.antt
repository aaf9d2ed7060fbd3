-- A node's member set is that of the nodes whose acceptances it has counted since it last formed a group (02, T-10). One lemma a procedure.
use Prim.Native.Nat.{ℕ, ◌+◌, ◌-◌, ◌≤◌}
use native.Mathlib.Omega.{arith}
use mathlib.Core.Bool.{Bool, true, false, ◌&&◌}
use mathlib.Core.Path.{◌≡◌, refl, sym, ◌∙◌, ap, subst}
use mathlib.Core.List.{List, [], ◌∷◌}
use lib.Dec.{eqb}
use lib.ListN.{get_or-replicate}
use borrow.Author.Tests.{not-false, eqb-true, eqb-false, eq-eqb}
use Rattle.node_set.specs.NodeSet.{with}
use Rattle.model.specs.Pick.{pick, pick_true, pick_false, by_test}
use Rattle.model.specs.Node.{is_election, tasked, invited}
use Rattle.model.specs.Procedures.{stays, recovers, invite_next, merges, hand_next, finishes, forward_next, asked_all, ask_at, ask_after}
use Rattle.model.specs.React.{checked, timed_out, ticked, expired, resumed, on_are_you_coordinator, on_are_you_there, on_invitation, on_accept, on_ready, on_reply, received, react}
use Rattle.model.specs.Range.{PairRule}
use Rattle.model.specs.State.{State, starting_node, start_by, node_at, oldest}
use Rattle.model.specs.Step.{run_from, actor, reaction_to, effect, forms, Result, step, kept, after, run_by}
use Rattle.model.specs.Claims.{is_acceptance, with_acceptance, counted_next, acceptances_from, acceptances}
use Rattle.model.proofs.Judged.{Clear, by_step}
use Rattle.model.proofs.Local.{both_left}
use Rattle.model.proofs.Fields.{oldest_goes, own_record, other_record}
use Rattle.model.specs.declared.Limits.{Limits}
use Rattle.model.specs.declared.Status.TheVariants.{Reorganization}
use Rattle.model.specs.declared.Activity.{Activity}
use Rattle.model.specs.declared.Activity.TheVariants.{Idle, Asking, Waiting, Inviting, Collecting, Handing, Contacting, Forwarding, Accepting}
use Rattle.model.specs.declared.Node.{Node}
use Rattle.model.specs.declared.CallNo.{CallNo}
use Rattle.model.specs.declared.TaskNo.{TaskNo}
use Rattle.model.specs.declared.Message.{Message}
use Rattle.model.specs.declared.Mark.TheVariants.{Plain}
use Rattle.model.specs.declared.Reaction.{Reaction}
use Rattle.model.specs.declared.Event.{Event}
use Rattle.model.specs.declared.Event.TheVariants.{Crash, Recover, Check, Timeout, Tick, Expire, Finish, Deliver, Lose}

-- ── the procedures: a node that forms a group has no member then, and any other keeps its members ──
record MembersAfter (c : Node) (r : Reaction) : Type 0 where
  pub is : r.node.members ≡ pick (forms r.mark) 0 c.members

-- by the mark: none is formed, or one is
plain : (c : Node) (r : Reaction) → forms r.mark ≡ false → r.node.members ≡ c.members → MembersAfter c r
unfolding pick
plain c r f e = record { is = e ∙ ap (λ (t : Bool). pick t 0 c.members) (sym f) }

formed : (c : Node) (r : Reaction) → forms r.mark ≡ true → r.node.members ≡ 0 → MembersAfter c r
unfolding pick
formed c r f e = record { is = e ∙ ap (λ (t : Bool). pick t 0 c.members) (sym f) }

module _ (n i : ℕ) (c : Node) where
  abbrev P : Reaction → Type 0
  P r = MembersAfter c r

  kept_members : P (stays c)
  kept_members = plain c _ refl refl

  recovering : P (recovers i c)
  recovering = formed c _ refl refl

  invites : (f o : ℕ) → P (invite_next i c Plain f o)
  unfolding invite_next
  invites f o = by_test P (λ _. plain c _ refl refl) (λ _. by_test P (λ _. plain c _ refl refl) (λ _. plain c _ refl refl))

  merging : (f : ℕ) → P (merges i c f)
  unfolding merges invite_next
  merging f = by_test P (λ _. formed c _ refl refl) (λ _. by_test P (λ _. formed c _ refl refl) (λ _. formed c _ refl refl))

  hands : (d : Node) (r : ℕ) → d.members ≡ c.members → P (hand_next i d r)
  unfolding hand_next
  hands d r e = by_test P (λ _. plain c _ refl e) (λ _. plain c _ refl e)

  forwards : (d : Node) (r a : ℕ) (l : CallNo) → d.members ≡ c.members → P (forward_next i d r a l)
  unfolding forward_next
  forwards d r a l e = by_test P (λ _. plain c _ refl e) (λ _. plain c _ refl e)

  asks : (j f : ℕ) → P (ask_after n i c j f)
  unfolding ask_after ask_at asked_all
  asks j f = by_test P (λ _. at (j + 2)) (λ _. at (j + 1))
    where
      at : (k : ℕ) → P (ask_at n i c k f)
      at k =
          by_test P (λ _. plain c _ refl refl)
          (λ _. by_test P (λ _. plain c _ refl refl) (λ _. by_test P (λ _. plain c _ refl refl) (λ _. merging f)))

  checking : P (checked n i c)
  unfolding checked
  checking = by_test P (λ _. asks 0 0) (λ _. kept_members)

  timing : P (timed_out i c)
  unfolding timed_out
  timing = by_test P (λ _. kept_members) (λ _. plain c _ refl refl)

  ticking : (a : Activity) → P (ticked i c a)
  unfolding ticked
  ticking Idle = kept_members
  ticking (Asking j f) = kept_members
  ticking (Waiting t f) = by_test P (λ _. merging f) (λ _. plain c _ refl refl)
  ticking (Inviting f o w) = kept_members
  ticking Collecting = kept_members
  ticking (Handing r w) = kept_members
  ticking Contacting = kept_members
  ticking (Forwarding r w a l) = kept_members
  ticking (Accepting a l) = kept_members

  expiring : (a : Activity) → P (expired n i c a)
  unfolding expired
  expiring Idle = kept_members
  expiring (Asking j f) = asks j f
  expiring (Waiting t f) = kept_members
  expiring (Inviting f o w) = invites f o
  expiring Collecting = kept_members
  expiring (Handing r w) = recovering
  expiring Contacting = recovering
  expiring (Forwarding r w a l) = forwards c r a l refl
  expiring (Accepting a l) = recovering

  resuming : (v : Bool) (a : Activity) → P (resumed n i c v a)
  unfolding resumed
  resuming v Idle = kept_members
  resuming v (Asking j f) = asks j (pick v (with f j) f)
  resuming v (Waiting t f) = kept_members
  resuming v (Inviting f o w) = invites f o
  resuming v Collecting = kept_members
  resuming v (Handing r w) = hands c r refl
  resuming v Contacting = by_test P (λ _. plain c _ refl refl) (λ _. recovering)
  resuming v (Forwarding r w a l) = forwards c r a l refl
  resuming v (Accepting a l) = plain c _ refl refl

  finishing : (t : TaskNo) → P (finishes i c t)
  unfolding finishes
  finishing t = hands (tasked c Reorganization t) c.members refl

-- ── the delivery of a message: its sender joins where it is an acceptance ──
module _ (n i : ℕ) (c : Node) (m : Message) where
  -- the node takes the Accept
  abbrev takes : Bool
  takes = is_election c.status && eqb c.coordinator i && eqb c.group.number m.group.number

  record MembersDelivered (r : Reaction) : Type 0 where
    pub is : r.node.members ≡ pick (forms r.mark) 0 (pick (eqb m.kind 4 && takes) (with c.members m.sender) c.members)

  -- another kind
  other_kind : (r : Reaction) → eqb m.kind 4 ≡ false → MembersAfter c r → MembersDelivered r
  unfolding pick
  other_kind r q x = record { is = x.is ∙ ap (λ (t : Bool). pick (forms r.mark) 0 (pick (t && takes) (with c.members m.sender) c.members)) (sym q) }

  kind_is : (k : ℕ) → eqb m.kind k ≡ true → eqb m.kind 4 ≡ eqb k 4
  kind_is k q = ap (λ (x : ℕ). eqb x 4) (eqb-true m.kind k q)

  joining : eqb m.kind 4 ≡ true → MembersDelivered (on_accept i c m)
  unfolding on_accept pick
  joining q = by takes refl
    where
      by : (t : Bool) → takes ≡ t → MembersDelivered (on_accept i c m)
      by true e = record { is = rw (e, q) refl }
      by false e = record { is = rw (e, q) refl }

  delivered : MembersDelivered (received n i c m)
  unfolding received on_are_you_coordinator on_are_you_there on_invitation on_ready on_reply
  delivered =
      by_test D (λ q. other_kind _ (kind_is 1 q) (plain c _ refl refl))
      (λ _. by_test D (λ q. other_kind _ (kind_is 2 q) (plain c _ refl refl))
      (λ _. by_test D
      (λ q. other_kind _ (kind_is 3 q) (by_test (MembersAfter c) (λ _. plain c _ refl refl) (λ _. forwards n i c (invited c m.group) _ m.sender m.call refl)))
      (λ _. by_test D joining
      (λ q. by_test D
      (λ _. other_kind _ q (plain c _ refl (by_test (λ (d : Node). d.members ≡ c.members) (λ _. refl) (λ _. refl))))
      (λ _. by_test D
      (λ _. other_kind _ q (by_test (MembersAfter c) (λ _. resuming n i c m.yes c.activity) (λ _. kept_members n i c)))
      (λ _. other_kind _ q (kept_members n i c)))))))
    where
      D : Reaction → Type 0
      D r = MembersDelivered r

-- ── one event ──
event_members : (s : State) (e : Event) → Clear s e → (reaction_to s e).node.members ≡ pick (forms (reaction_to s e).mark) 0 (with_acceptance s e (node_at s (actor e)).members)
unfolding reaction_to react
event_members s (Crash i) c = (plain (node_at s i) (reaction_to s (Crash i)) refl refl).is
event_members s (Recover i) c = (recovering s.n i (node_at s i)).is
event_members s (Check i) c = (checking s.n i (node_at s i)).is
event_members s (Timeout i) c = (timing s.n i (node_at s i)).is
event_members s (Tick i) c = (ticking s.n i (node_at s i) (node_at s i).activity).is
event_members s (Expire i) c = (expiring s.n i (node_at s i) (node_at s i).activity).is
event_members s (Finish i t) c = (finishing s.n i (node_at s i) t).is
event_members s (Deliver a b) c =
    (delivered s.n b (node_at s b) (oldest a b s.queue)).is
    ∙ ap (λ (x : ℕ). pick (forms (received s.n b (node_at s b) (oldest a b s.queue)).mark) 0 (pick (is_acceptance s a b) (with (node_at s b).members x) (node_at s b).members)) from
  where
    from : (oldest a b s.queue).sender ≡ a
    from = eqb-true _ a (both_left (eqb (oldest a b s.queue).sender a) _ (oldest_goes a b s.queue (not-false _ c.waiting)))
event_members s (Lose a b) c = (kept_members s.n b (node_at s b)).is

-- of node i
next_members : (s : State) (e : Event) (i : ℕ) → 1 ≤ i → (node_at (after s e) i).members ≡ counted_next i s (node_at s i).members e (step s e)
next_members s e i low =
    by_step (λ (r : Result). (node_at (kept s r) i).members ≡ counted_next i s (node_at s i).members e r) s e (λ _. refl) (λ c _. by c (eqb (actor e) i) refl)
  where
    by : Clear s e → (t : Bool) → eqb (actor e) i ≡ t
        → (node_at (effect s e) i).members ≡ pick (eqb (actor e) i) (pick (forms (reaction_to s e).mark) 0 (with_acceptance s e (node_at s i).members)) (node_at s i).members
    by c true q =
        let z = eqb-true (actor e) i q in
        subst (λ (j : ℕ). (node_at (effect s e) j).members ≡ pick (eqb (actor e) j) (pick (forms (reaction_to s e).mark) 0 (with_acceptance s e (node_at s j).members)) (node_at s j).members) z
        (ap (λ (d : Node). d.members) (own_record s e c)
        ∙ event_members s e c
        ∙ sym (pick_true _ _)
        ∙ ap (λ (t : Bool). pick t (pick (forms (reaction_to s e).mark) 0 (with_acceptance s e (node_at s (actor e)).members)) (node_at s (actor e)).members) (sym (eq-eqb (actor e) (actor e) refl)))
    by c false q =
        ap (λ (d : Node). d.members) (other_record s e c i low (λ z. eqb-false (actor e) i q (sym z)))
        ∙ sym (pick_false _ _)
        ∙ ap (λ (t : Bool). pick t (pick (forms (reaction_to s e).mark) 0 (with_acceptance s e (node_at s i).members)) (node_at s i).members) (sym q)

-- ── a run ──
from_table : (i : ℕ) → 1 ≤ i → (s : State) (es : List Event) → (node_at (run_from s es) i).members ≡ acceptances_from i s (node_at s i).members es
unfolding run_from acceptances_from
from_table i low s [] = refl
from_table i low s (e ∷ es) = from_table i low (after s e) es ∙ ap (λ (m : ℕ). acceptances_from i (after s e) m es) (next_members s e i low)

pub of_acceptances : (rule : PairRule) (n : ℕ) (lim : Limits) (es : List Event) (i : ℕ) → 1 ≤ i → i ≤ n → (node_at (run_by rule n lim es) i).members ≡ acceptances rule n lim es i
of_acceptances rule n lim es i low high =
    from_table i low (start_by rule n lim) es
    ∙ ap (λ (c : Node). acceptances_from i (start_by rule n lim) c.members es) (get_or-replicate n (i - 1) starting_node starting_node (omega arith))
