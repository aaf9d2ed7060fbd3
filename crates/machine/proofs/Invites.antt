-- Where a node merges, whatever the event, each old member is among those it invites.
use Prim.Native.Nat.{ℕ, ◌+◌, ◌≤◌}
use native.Mathlib.Omega.{arith}
use mathlib.Core.Bool.{Bool, true, false, ◌||◌, true≢false}
use mathlib.Core.Path.{◌≡◌, refl, sym, ◌∙◌, ap}
use mathlib.Core.Logic.{⊎_elim}
use lib.Dec.{eqb}
use borrow.Author.Tests.{not-false, eqb-true, eq-eqb}
use Rattle.node_set.specs.NodeSet.{has, within, without}
use Rattle.node_set.proofs.Laws.{empty_lacks}
use Rattle.model.specs.Pick.{by_test}
use Rattle.model.specs.Procedures.{reaction, next, invite_next, merges, hand_next, finishes, forward_next, asked_all, ask_at, ask_after}
use Rattle.model.specs.React.{checked, timed_out, ticked, expired, resumed, on_are_you_coordinator, on_are_you_there, on_invitation, on_accept, on_ready, on_reply, received, react}
use Rattle.model.specs.State.{State, node_at}
use Rattle.model.specs.Step.{actor, reaction_to}
use Rattle.model.proofs.Next.{next_or_left}
use Rattle.model.proofs.Judged.{Clear, by_reaction}
use Rattle.model.proofs.Numbers.{actor_in}
use Rattle.model.proofs.Fields.{in_range_size, in_range_node, node_facts}
use Rattle.model.specs.declared.Activity.{Activity}
use Rattle.model.specs.declared.Activity.TheVariants.{Idle, Asking, Waiting, Inviting, Collecting, Handing, Contacting, Forwarding, Accepting}
use Rattle.model.specs.declared.Node.{Node}
use Rattle.model.specs.declared.CallNo.{CallNo}
use Rattle.model.specs.declared.Message.{Message}
use Rattle.std.specs.Prelude.{Option}
use Rattle.model.specs.declared.Mark.{Mark}
use Rattle.model.specs.declared.Mark.TheVariants.{Plain, Recovers, Merges}
use Rattle.model.specs.declared.Reaction.{Reaction}
use Rattle.model.specs.declared.Input.{Input}
use Rattle.model.specs.declared.Event.{Event}
use Rattle.machine.specs.Mutants.{invites}

-- where r is a merge, it invites each member of m
pub record Invites (m : ℕ) (r : Reaction) : Type 0 where
  pub members : r.mark ≡ Merges → (j : ℕ) → 1 ≤ j → has m j ≡ true → invites r.node.activity j ≡ true

-- two reactions that are no merge
plain : {m : ℕ} {c : Node} {o : Option Message} → Invites m (reaction c o Plain)
plain = record { members = λ e. let z : ◌≡◌ {A = ℕ} 0 1 = cc in absurd (omega arith) }

recovery : {m : ℕ} {c : Node} {o : Option Message} → Invites m (reaction c o Recovers)
recovery = record { members = λ e. let z : ◌≡◌ {A = ℕ} 0 1 = cc in absurd (omega arith) }

or_right : (x y z : Bool) → z ≡ true → (x || y || z) ≡ true
or_right true true z e = refl
or_right true false z e = refl
or_right false true z e = refl
or_right false false z e = e

or_left : (x y z : Bool) → x ≡ true → (x || y || z) ≡ true
or_left true true z e = refl
or_left true false z e = refl
or_left false y z e = absurd (true≢false (sym e))

-- ── a merge ──

-- j is a member of o, which is a set of nodes of 1 to n
module _ (n o j : ℕ) (small : n ≤ 16) (inside : within n o ≡ true) (low : 1 ≤ j) (member : has o j ≡ true) where
  some : o ≡ 0 → ⊥
  some e = true≢false (sym member ∙ ap (λ (s : ℕ). has s j) e ∙ empty_lacks j)

  -- it is next, or among those left
  called : (eqb (next o) j || has 0 j || has (without o (next o)) j) ≡ true
  called =
      ⊎_elim (λ e. or_left (eqb (next o) j) (has 0 j) (has (without o (next o)) j) (eq-eqb (next o) j e))
      (λ h. or_right (eqb (next o) j) (has 0 j) (has (without o (next o)) j) h) (next_or_left n o j small inside low member)

  invite_old : (i : ℕ) (c : Node) (k : Mark) (found : ℕ) → invites (invite_next i c k found o).node.activity j ≡ true
  unfolding invite_next
  invite_old i c k found =
      by_test P (λ _. or_right (eqb (next found) j) (has (without found (next found)) j) (has o j) member)
      (λ _. by_test P (λ _. called) (λ q. absurd (some (eqb-true o 0 (not-false _ q)))))
    where
      P : Reaction → Type 0
      P r = invites r.node.activity j ≡ true

-- ── what a node does ──

module _ (n i : ℕ) (c : Node) (small : n ≤ 16) (inside : within n c.members ≡ true) where
  merge : (f : ℕ) → Invites c.members (merges i c f)
  unfolding merges
  merge f = record { members = λ e j low m. invite_old n c.members j small inside low m i _ Merges f }

  invite : (f o : ℕ) → Invites c.members (invite_next i c Plain f o)
  unfolding invite_next
  invite f o = by_test (Invites c.members) (λ _. plain) (λ _. by_test (Invites c.members) (λ _. plain) (λ _. plain))

  hand : (d : Node) (r : ℕ) → Invites c.members (hand_next i d r)
  unfolding hand_next
  hand d r = by_test (Invites c.members) (λ _. plain) (λ _. plain)

  forward : (d : Node) (r a : ℕ) (k : CallNo) → Invites c.members (forward_next i d r a k)
  unfolding forward_next
  forward d r a k = by_test (Invites c.members) (λ _. plain) (λ _. plain)

  ask : (j f : ℕ) → Invites c.members (ask_after n i c j f)
  unfolding asked_all ask_at ask_after
  ask j f = by_test (Invites c.members) (λ _. at (j + 2)) (λ _. at (j + 1))
    where
      all : Invites c.members (asked_all i c f)
      all = by_test (Invites c.members) (λ _. plain) (λ _. by_test (Invites c.members) (λ _. plain) (λ _. merge f))

      at : (x : ℕ) → Invites c.members (ask_at n i c x f)
      at x = by_test (Invites c.members) (λ _. plain) (λ _. all)

  tick : (a : Activity) → Invites c.members (ticked i c a)
  unfolding ticked
  tick Idle = plain
  tick (Asking j f) = plain
  tick (Waiting k f) = by_test (Invites c.members) (λ _. merge f) (λ _. plain)
  tick (Inviting f o w) = plain
  tick Collecting = plain
  tick (Handing r w) = plain
  tick Contacting = plain
  tick (Forwarding r w a k) = plain
  tick (Accepting a k) = plain

  expire : (a : Activity) → Invites c.members (expired n i c a)
  unfolding expired
  expire Idle = plain
  expire (Asking j f) = ask j f
  expire (Waiting k f) = plain
  expire (Inviting f o w) = invite f o
  expire Collecting = plain
  expire (Handing r w) = recovery
  expire Contacting = recovery
  expire (Forwarding r w a k) = forward c r a k
  expire (Accepting a k) = recovery

  resume : (y : Bool) (a : Activity) → Invites c.members (resumed n i c y a)
  unfolding resumed
  resume y Idle = plain
  resume y (Asking j f) = ask j _
  resume y (Waiting k f) = plain
  resume y (Inviting f o w) = invite f o
  resume y Collecting = plain
  resume y (Handing r w) = hand c r
  resume y Contacting = by_test (Invites c.members) (λ _. plain) (λ _. recovery)
  resume y (Forwarding r w a k) = forward c r a k
  resume y (Accepting a k) = plain

  receive : (m : Message) → Invites c.members (received n i c m)
  unfolding received on_are_you_coordinator on_are_you_there on_invitation on_accept on_ready on_reply
  receive m =
      by_test (Invites c.members) (λ _. plain)
      (λ _. by_test (Invites c.members) (λ _. plain)
      (λ _. by_test (Invites c.members) (λ _. by_test (Invites c.members) (λ _. plain) (λ _. forward _ _ m.sender m.call))
      (λ _. by_test (Invites c.members) (λ _. plain)
      (λ _. by_test (Invites c.members) (λ _. plain)
      (λ _. by_test (Invites c.members) (λ _. by_test (Invites c.members) (λ _. resume m.yes c.activity) (λ _. plain))
      (λ _. plain))))))

  reacts : (x : Input) → Invites c.members (react n i c x)
  unfolding react checked timed_out finishes
  reacts Input.Crash = plain
  reacts Input.Recover = recovery
  reacts Input.Check = by_test (Invites c.members) (λ _. ask 0 0) (λ _. plain)
  reacts Input.Timeout = by_test (Invites c.members) (λ _. plain) (λ _. plain)
  reacts Input.Tick = tick c.activity
  reacts Input.Expire = expire c.activity
  reacts (Input.Finish t) = hand _ c.members
  reacts (Input.Receive m) = receive m

pub event_invites : (s : State) (e : Event) → Clear s e → Invites (node_at s (actor e)).members (reaction_to s e)
event_invites s e c =
    let k = actor_in s.n e c.number in
    let x = node_facts s.n (actor e) (node_at s (actor e)) (in_range_node s (actor e) c.in_range_lem k.0 k.1) in
    by_reaction (Invites (node_at s (actor e)).members) s e c
    (λ y _. reacts s.n (actor e) (node_at s (actor e)) (in_range_size s c.in_range_lem).1 x.members.inside y) plain
