-- The invariant of a table beside its history, and how it passes from one history to a larger one. All of it speaks of one record or one message and the history.
use Prim.Native.Nat.{ℕ, ◌+◌, ◌<◌, ◌≤◌}
use native.Mathlib.Omega.{arith}
use native.Mathlib.Nat.{le_trans, le_refl}
use mathlib.Core.Bool.{Bool, true, false}
use mathlib.Core.Path.{◌≡◌, refl, sym, ◌∙◌, ap}
use lib.Dec.{eqb}
use borrow.Author.Tests.{eqb-true, eq-eqb, ne_eqb}
use Rattle.model.specs.Pick.{pick_true, pick_false, by_test}
use Rattle.model.specs.Node.{owner_of, counter_of, group_of}
use Rattle.model.specs.History.{Entry, NotFormed, NoTask, Task, History, updated, newest, coming, formed, marked}
use Rattle.model.specs.declared.Status.{Status}
use Rattle.model.specs.declared.Status.TheVariants.{Down, Election, Reorganization, Normal}
use Rattle.model.specs.declared.Activity.{Activity}
use Rattle.model.specs.declared.Activity.TheVariants.{Idle, Asking, Waiting, Inviting, Collecting, Handing, Contacting, Forwarding, Accepting}
use Rattle.model.specs.declared.Node.{Node}
use Rattle.model.specs.declared.Message.{Message}
use Rattle.std.specs.Prelude.{Option, None, Some}
use Rattle.model.specs.declared.Mark.{Mark}
use Rattle.model.specs.declared.Mark.TheVariants.{Plain, Recovers, Merges}
use Rattle.model.specs.declared.Reaction.{Reaction}

-- ── update of a function at a number ──
pub updated_same {ℓ} : {A : Type ℓ} (f : ℕ → A) (i : ℕ) (a : A) → updated f i a i ≡ a
unfolding updated
updated_same f i a = rw (eq-eqb i i refl, pick_true)

pub updated_other {ℓ} : {A : Type ℓ} (f : ℕ → A) (i : ℕ) (a : A) (j : ℕ) → (j ≡ i → ⊥) → updated f i a j ≡ f j
unfolding updated
updated_other f i a j h = rw (ne_eqb j i h, pick_false)

-- ── the invariant ──

-- a number of a node
pub record NodeNumber (i : ℕ) : Type 0 where
  pub low : 1 ≤ i
  pub high : i ≤ 16

-- what a node's activity promises of its group
pub data Phase : Type 0 where
  Free Gathers Hands : Phase

abbrev pub phase : Activity → Phase
phase Idle = Free
phase (Asking asked found) = Free
phase (Waiting ticks found) = Free
phase (Inviting found former now) = Gathers
phase Collecting = Gathers
phase (Handing rest now) = Hands
phase Contacting = Free
phase (Forwarding rest now caller call) = Free
phase (Accepting caller call) = Free

-- node i's group g is the one it formed last, and the history has no task for it
pub record Gathering (h : History) (i g : ℕ) : Type 0 where
  pub own : g ≡ newest h i
  pub undecided : h.entry (newest h i) ≡ NoTask

-- the history's task of group g is t
abbrev pub Fixed : History → ℕ → ℕ → Type 0
Fixed h g t = h.entry g ≡ Task t

abbrev pub PhaseOk : History → ℕ → ℕ → ℕ → Phase → Type 0
PhaseOk h i g t Free = Unit {0}
PhaseOk h i g t Gathers = Gathering h i g
PhaseOk h i g t Hands = Fixed h g t

abbrev pub Led : ℕ → ℕ → Status → Type 0
Led o g Down = Unit {0}
Led o g Election = o ≡ owner_of g
Led o g Reorganization = o ≡ owner_of g
Led o g Normal = o ≡ owner_of g

abbrev pub Settled : History → ℕ → ℕ → Status → Type 0
Settled h g t Down = Unit {0}
Settled h g t Election = Unit {0}
Settled h g t Reorganization = Unit {0}
Settled h g t Normal = Fixed h g t

-- group g is not past its owner's count
abbrev pub Counted : History → ℕ → Type 0
Counted h g = counter_of g ≤ h.count (owner_of g)

pub record NodeOk (h : History) (i : ℕ) (c : Node) : Type 0 where
  pub counter : h.count i ≡ c.counter
  pub counted : Counted h c.group.number
  pub led : Led c.coordinator c.group.number c.status
  pub settled : Settled h c.group.number c.task.number c.status
  pub busy : PhaseOk h i c.group.number c.task.number (phase c.activity)

abbrev pub When : Bool → Type 0 → Type 0
When true X = X
When false X = Unit {0}

pub record MessageOk (h : History) (m : Message) : Type 0 where
  pub counted : Counted h m.group.number
  pub ready : When (eqb m.kind 5) (Fixed h m.group.number m.task.number)

-- groups past their owner's count are not formed
pub record HistoryOk (h : History) : Type 0 where
  pub ahead : (g : ℕ) → h.count (owner_of g) < counter_of g → h.entry g ≡ NotFormed

abbrev pub OutgoingOk : History → Option Message → Type 0
OutgoingOk h None = Unit {0}
OutgoingOk h (Some m) = MessageOk h m

-- what a mark says: g is the node's group after the step
abbrev pub MarkOk : History → ℕ → ℕ → Mark → Type 0
MarkOk h i g Plain = Unit {0}
MarkOk h i g Recovers = g ≡ coming h i
MarkOk h i g Merges = g ≡ coming h i

-- what a reaction of node i owes
pub record ReactionOk (h : History) (i : ℕ) (r : Reaction) : Type 0 where
  pub mark : MarkOk h i r.node.group.number r.mark
  pub node : NodeOk (marked h i r.mark) i r.node
  pub outgoing : OutgoingOk (marked h i r.mark) r.outgoing

-- ── larger histories ──

-- the history after a step of node i
pub record Extends (i : ℕ) (h d : History) : Type 0 where
  pub more : (j : ℕ) → h.count j ≤ d.count j
  pub other : (j : ℕ) → (j ≡ i → ⊥) → d.count j ≡ h.count j
  pub lasts : (g t : ℕ) → Fixed h g t → Fixed d g t
  pub apart : (g : ℕ) → (owner_of g ≡ i → ⊥) → d.entry g ≡ h.entry g

pub extends_refl : (i : ℕ) (h : History) → Extends i h h
extends_refl i h = record { more = λ j. le_refl _; other = λ j q. refl; lasts = λ g t e. e; apart = λ g q. refl }

pub extends_trans : {i : ℕ} {h d f : History} → Extends i h d → Extends i d f → Extends i h f
extends_trans x y =
    record {
      more = λ j. le_trans (x.more j) (y.more j);
      other = λ j q. y.other j q ∙ x.other j q;
      lasts = λ g t e. y.lasts g t (x.lasts g t e);
      apart = λ g q. y.apart g q ∙ x.apart g q;
    }

pub owner_of_lem : (k i : ℕ) → NodeNumber i → owner_of (group_of k i) ≡ i
owner_of_lem k i s = omega arith

pub counter_of_lem : (k i : ℕ) → NodeNumber i → counter_of (group_of k i) ≡ k
counter_of_lem k i s = omega arith

pub message_extends : {i : ℕ} {h d : History} (m : Message) → Extends i h d → MessageOk h m → MessageOk d m
message_extends {h = h} {d = d} m x ok =
    record {
      counted = le_trans ok.counted (x.more (owner_of m.group.number));
      ready = grown (eqb m.kind 5) ok.ready;
    }
  where
    grown : (t : Bool) → When t (Fixed h m.group.number m.task.number) → When t (Fixed d m.group.number m.task.number)
    grown true e = x.lasts m.group.number m.task.number e
    grown false e = tt

pub node_extends : {i : ℕ} {h d : History} (j : ℕ) (c : Node) → NodeNumber j → (j ≡ i → ⊥) → Extends i h d → NodeOk h j c → NodeOk d j c
node_extends {i} {h} {d} j c s q x ok =
    record {
      counter = x.other j q ∙ ok.counter;
      counted = le_trans ok.counted (x.more (owner_of c.group.number));
      led = ok.led;
      settled = still c.status ok.settled;
      busy = going_on (phase c.activity) ok.busy;
    }
  where
    same : newest d j ≡ newest h j
    same = ap (λ k. group_of k j) (x.other j q)

    still : (a : Status) → Settled h c.group.number c.task.number a → Settled d c.group.number c.task.number a
    still Down e = tt
    still Election e = tt
    still Reorganization e = tt
    still Normal e = x.lasts c.group.number c.task.number e

    going_on : (p : Phase) → PhaseOk h j c.group.number c.task.number p → PhaseOk d j c.group.number c.task.number p
    going_on Free e = tt
    going_on Gathers e =
        record {
          own = e.own ∙ sym same;
          undecided = rw same (x.apart (newest h j) (λ z. q (sym (owner_of_lem (h.count j) j s) ∙ z)) ∙ e.undecided);
        }
    going_on Hands e = x.lasts c.group.number c.task.number e

-- two entries that are told apart
pub task_is : (x y : ℕ) → Task x ≡ Task y → x ≡ y
task_is x y e = cc

pub no_task≢task : (o : Entry) (t : ℕ) → o ≡ NoTask → o ≡ Task t → ⊥
no_task≢task o t p q = let z : ◌≡◌ {A = ℕ} 0 1 = cc in omega arith

pub not_formed≢task : (o : Entry) (t : ℕ) → o ≡ NotFormed → o ≡ Task t → ⊥
not_formed≢task o t p q = let z : ◌≡◌ {A = ℕ} 0 1 = cc in omega arith

-- the group that node i forms next is not formed
pub coming_not_formed : (h : History) (i : ℕ) → NodeNumber i → HistoryOk h → h.entry (coming h i) ≡ NotFormed
coming_not_formed h i s ok =
    ok.ahead (coming h i)
    (rw (owner_of_lem (h.count i + 1) i s, counter_of_lem (h.count i + 1) i s) (omega arith))

-- ── a history to which node i's next group is added ──
formed_extends : (h : History) (i : ℕ) (e : Entry) → NodeNumber i → HistoryOk h → Extends i h (formed h i e)
unfolding updated
formed_extends h i e s ok =
    record {
      more = λ j. by_test (λ k. h.count j ≤ k) (λ q. omega (arith, ap h.count (eqb-true j i q))) (λ q. omega arith);
      other = λ j q. updated_other h.count i (h.count i + 1) j q;
      lasts = λ g t q. updated_other h.entry (coming h i) e g (λ z. not_formed≢task (h.entry g) t (ap h.entry z ∙ coming_not_formed h i s ok) q) ∙ q;
      apart = λ g q. updated_other h.entry (coming h i) e g (λ z. q (ap owner_of z ∙ owner_of_lem (h.count i + 1) i s));
    }

formed_ok : (h : History) (i : ℕ) (e : Entry) → NodeNumber i → HistoryOk h → HistoryOk (formed h i e)
formed_ok h i e s ok =
    record {
      ahead = λ g q.
          let l : h.count (owner_of g) < counter_of g = omega (arith, (formed_extends h i e s ok).more (owner_of g)) in
          updated_other h.entry (coming h i) e g (λ z. omega (arith, counter_of_lem (h.count i + 1) i s, ap counter_of z, reached g z, q)) ∙ ok.ahead g l;
    }
  where
    reached : (g : ℕ) → g ≡ coming h i → (formed h i e).count (owner_of g) ≡ h.count i + 1
    reached g z = ap (formed h i e).count (ap owner_of z ∙ owner_of_lem (h.count i + 1) i s) ∙ updated_same h.count i (h.count i + 1)

pub marked_extends : (h : History) (i : ℕ) (k : Mark) → NodeNumber i → HistoryOk h → Extends i h (marked h i k)
marked_extends h i Plain s ok = extends_refl i h
marked_extends h i Recovers s ok = formed_extends h i (Task i) s ok
marked_extends h i Merges s ok = formed_extends h i NoTask s ok

pub marked_ok : (h : History) (i : ℕ) (k : Mark) → NodeNumber i → HistoryOk h → HistoryOk (marked h i k)
marked_ok h i Plain s ok = ok
marked_ok h i Recovers s ok = formed_ok h i (Task i) s ok
marked_ok h i Merges s ok = formed_ok h i NoTask s ok

-- ── a history in which the group that node i formed last gets its task ──
abbrev pub tasked_newest : History → ℕ → ℕ → History
tasked_newest h i t = record { count = h.count; entry = updated h.entry (newest h i) (Task t) }

pub tasked_extends : (h : History) (i t : ℕ) → NodeNumber i → h.entry (newest h i) ≡ NoTask → Extends i h (tasked_newest h i t)
tasked_extends h i t s n =
    record {
      more = λ j. le_refl _;
      other = λ j q. refl;
      lasts = λ g u q. updated_other h.entry (newest h i) (Task t) g (λ z. no_task≢task (h.entry g) u (ap h.entry z ∙ n) q) ∙ q;
      apart = λ g q. updated_other h.entry (newest h i) (Task t) g (λ z. q (ap owner_of z ∙ owner_of_lem (h.count i) i s));
    }

pub tasked_ok : (h : History) (i t : ℕ) → NodeNumber i → HistoryOk h → HistoryOk (tasked_newest h i t)
tasked_ok h i t s ok =
    record { ahead = λ g l. updated_other h.entry (newest h i) (Task t) g (λ z. omega (arith, counter_of_lem (h.count i) i s, ap counter_of z, reached g z, l)) ∙ ok.ahead g l }
  where
    reached : (g : ℕ) → g ≡ newest h i → h.count (owner_of g) ≡ h.count i
    reached g z = ap h.count (ap owner_of z ∙ owner_of_lem (h.count i) i s)
