-- An event changes the record of its node, and of the one that it calls, and no other.
use Prim.Native.Nat.{ℕ, zero, suc, ◌-◌, ◌≤◌}
use native.Mathlib.Omega.{arith}
use mathlib.Core.Bool.{false, true≢false}
use mathlib.Core.Path.{◌≡◌, refl, ◌∙◌, ap}
use mathlib.Core.List.{List}
use lib.Seq.{get_or-set_other, set-get_or}
use Rattle.model.specs.Pick.{pick_false, by_test}
use Rattle.bully_model.specs.Calls.{callee, called}
use Rattle.bully_model.specs.State.{State, starting_node, node_at, stored}
use Rattle.bully_model.specs.Step.{call, go_on, effect, actor}
use Rattle.bully_model.specs.Claims.{called_by, changes_called, StepIsLocal}
use Rattle.bully_model.proofs.Judged.{Clear, accepted_is}
use Rattle.bully_model.proofs.InRange.{runner}
use Rattle.bully_model.specs.declared.Place.{Place}
use Rattle.bully_model.specs.declared.Place.TheVariants.{Idle, Asking, Halting, Announcing, Point, Handing, Checking, Contacting}
use Rattle.bully_model.specs.declared.Node.{Node}
use Rattle.bully_model.specs.declared.Event.{Event}
use Rattle.bully_model.specs.declared.Event.TheVariants.{Crash, Recover, Check, Timeout, GoOn, Finish}

-- a record stored for node i leaves the others
pub stored_other : (s : State) (i : ℕ) (c : Node) (j : ℕ) → 1 ≤ i → (j ≡ i → ⊥) → node_at (stored s i c) j ≡ node_at s j
stored_other s i c zero l n = refl
stored_other s i c (suc j) l n = get_or-set_other s.nodes (i - 1) j c starting_node (λ e. n (omega arith))

go_on_nodes : (s : State) (i : ℕ) → (go_on s i (node_at s i) (node_at s i).place).n ≡ s.n
unfolding go_on call
go_on_nodes s i = by_test (λ (u : State). u.n ≡ s.n) (λ _. refl) (λ _. refl)

effect_nodes : (s : State) (e : Event) → (effect s e).n ≡ s.n
unfolding effect
effect_nodes s (Crash i) = refl
effect_nodes s (Recover i) = refl
effect_nodes s (Check i) = refl
effect_nodes s (Timeout i) = refl
effect_nodes s (GoOn i) = go_on_nodes s i
effect_nodes s (Finish i t) = refl

go_on_others : (s : State) (i j : ℕ) → 1 ≤ i → (j ≡ i → ⊥) → (j ≡ callee (node_at s i) (node_at s i).place → ⊥) → node_at (go_on s i (node_at s i) (node_at s i).place) j ≡ node_at s j
unfolding go_on call
go_on_others s i j l n m =
    by_test (λ (u : State). node_at u j ≡ node_at s j)
    (λ r. stored_other (stored s to _) i _ j l n ∙ stored_other s to _ j (runner s to r) m)
    (λ _. stored_other s i _ j l n)
  where
    to : ℕ
    to = callee (node_at s i) (node_at s i).place

-- a call that times out leaves the others
go_on_timed_out : (s : State) (i j : ℕ) → 1 ≤ i → (j ≡ i → ⊥) → (node_at s (callee (node_at s i) (node_at s i).place)).runs ≡ false → node_at (go_on s i (node_at s i) (node_at s i).place) j ≡ node_at s j
unfolding go_on call
go_on_timed_out s i j l n q = rw (q, pick_false) (stored_other s i _ j l n)

-- and so does one that only asks
called_asked : (i : ℕ) (c : Node) (p : Place) (d : Node) → changes_called p ≡ false → called i c p d ≡ d
unfolding called
called_asked i c Idle d e = refl
called_asked i c (Asking j) d e = refl
called_asked i c (Halting j) d e = absurd (true≢false e)
called_asked i c (Announcing still j) d e = absurd (true≢false e)
called_asked i c Point d e = refl
called_asked i c (Handing still j) d e = absurd (true≢false e)
called_asked i c (Checking j) d e = refl
called_asked i c Contacting d e = refl

-- a record stored as it was
stored_same : (s : State) (i : ℕ) → 1 ≤ i → stored s i (node_at s i) ≡ s
stored_same s zero l = absurd (omega arith)
stored_same s (suc i) l =
    let e : suc i - 1 ≡ i = omega arith in
    ap (λ (cs : List Node). record { n = s.n; nodes = cs }) (rw e (set-get_or s.nodes i starting_node))

go_on_asked : (s : State) (i j : ℕ) → 1 ≤ i → (j ≡ i → ⊥) → changes_called (node_at s i).place ≡ false → node_at (go_on s i (node_at s i) (node_at s i).place) j ≡ node_at s j
unfolding go_on call
go_on_asked s i j l n a =
    by_test (λ (u : State). node_at u j ≡ node_at s j)
    (λ r. stored_other (stored s to _) i _ j l n ∙ ap (λ (d : Node). node_at (stored s to d) j) (called_asked i (node_at s i) (node_at s i).place (node_at s to) a) ∙ ap (λ (v : State). node_at v j) (stored_same s to (runner s to r)))
    (λ _. stored_other s i _ j l n)
  where
    to : ℕ
    to = callee (node_at s i) (node_at s i).place

effect_others : (s : State) (e : Event) → Clear s e → (j : ℕ) → (j ≡ actor e → ⊥) → (j ≡ called_by s e → ⊥) → node_at (effect s e) j ≡ node_at s j
unfolding effect
effect_others s (Crash i) c j n m = stored_other s i _ j c.low n
effect_others s (Recover i) c j n m = stored_other s i _ j c.low n
effect_others s (Check i) c j n m = stored_other s i _ j c.low n
effect_others s (Timeout i) c j n m = stored_other s i _ j c.low n
effect_others s (GoOn i) c j n m = go_on_others s i j c.low n m
effect_others s (Finish i t) c j n m = stored_other s i _ j c.low n

effect_timed_out : (s : State) (e : Event) → Clear s e → (node_at s (called_by s e)).runs ≡ false → (j : ℕ) → (j ≡ actor e → ⊥) → node_at (effect s e) j ≡ node_at s j
unfolding effect
effect_timed_out s (Crash i) c q j n = stored_other s i _ j c.low n
effect_timed_out s (Recover i) c q j n = stored_other s i _ j c.low n
effect_timed_out s (Check i) c q j n = stored_other s i _ j c.low n
effect_timed_out s (Timeout i) c q j n = stored_other s i _ j c.low n
effect_timed_out s (GoOn i) c q j n = go_on_timed_out s i j c.low n q
effect_timed_out s (Finish i t) c q j n = stored_other s i _ j c.low n

effect_asked : (s : State) (e : Event) → Clear s e → changes_called (node_at s (actor e)).place ≡ false → (j : ℕ) → (j ≡ actor e → ⊥) → node_at (effect s e) j ≡ node_at s j
unfolding effect
effect_asked s (Crash i) c a j n = stored_other s i _ j c.low n
effect_asked s (Recover i) c a j n = stored_other s i _ j c.low n
effect_asked s (Check i) c a j n = stored_other s i _ j c.low n
effect_asked s (Timeout i) c a j n = stored_other s i _ j c.low n
effect_asked s (GoOn i) c a j n = go_on_asked s i j c.low n a
effect_asked s (Finish i t) c a j n = stored_other s i _ j c.low n

pub step_is_local : StepIsLocal
step_is_local =
    record {
      nodes = λ s e u q. ap (λ (v : State). v.n) (accepted_is s e u q).state ∙ effect_nodes s e;
      others = λ s e u q j n m.
          let a = accepted_is s e u q in
          ap (λ (v : State). node_at v j) a.state ∙ effect_others s e a.clear j n m;
      timed_out_lem = λ s e u q r j n.
          let a = accepted_is s e u q in
          ap (λ (v : State). node_at v j) a.state ∙ effect_timed_out s e a.clear r j n;
      asked = λ s e u q k j n.
          let a = accepted_is s e u q in
          ap (λ (v : State). node_at v j) a.state ∙ effect_asked s e a.clear k j n;
    }
