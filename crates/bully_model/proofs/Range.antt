-- Every procedure keeps a node's record in range: one lemma a procedure.
use Prim.Native.Nat.{ℕ, ◌+◌, ◌-◌, ◌<◌, ◌≤◌}
use native.Mathlib.Omega.{arith}
use mathlib.Core.Bool.{true, true≢false}
use mathlib.Core.Path.{◌≡◌, refl, sym, ◌∙◌}
use borrow.Author.Tests.{eqb-true, eqb-false, leb-true}
use Rattle.node_set.specs.NodeSet.{with, highest}
use Rattle.model.specs.Pick.{by_test}
use Rattle.model.specs.Limits.{task_end}
use Rattle.model.proofs.Fields.{IsSetOfOthers}
use Rattle.model.proofs.Range.{Numbered, empty_set, set_without, set_with, next_one}
use Rattle.model.specs.declared.Status.{Status}
use Rattle.model.specs.declared.Status.TheVariants.{Election, Reorganization, Normal}
use Rattle.model.specs.declared.TaskNo.{TaskNo}
use Rattle.bully_model.specs.Node.{with_runs, with_status, with_coordinator, with_task, with_halter, with_up, with_place}
use Rattle.bully_model.specs.Procedures.{hand_next, announce_next, election_point, halt_from, halting_step, ask_from, election, recovery, check_at, check_from, check, timeout, finish, crashed}
use Rattle.bully_model.specs.Calls.{new_coordinator, ready, callee, called, answered, timed_out}
use Rattle.bully_model.proofs.Fields.{Placed, NodeFacts}
use Rattle.bully_model.specs.declared.Place.{Place}
use Rattle.bully_model.specs.declared.Place.TheVariants.{Idle, Asking, Halting, Announcing, Point, Handing, Checking, Contacting}
use Rattle.bully_model.specs.declared.Node.{Node}

-- a node that runs, its place aside
pub record Sound (n i : ℕ) (c : Node) : Type 0 where
  pub runs : c.runs ≡ true
  pub coordinator : c.coordinator ≤ n
  pub task : c.task.number ≤ task_end
  pub halter : c.halter ≤ n
  pub up : IsSetOfOthers n i c.up

pub sound : {n i : ℕ} {c : Node} → c.runs ≡ true → NodeFacts n i c → Sound n i c
sound r x = record { runs = r; coordinator = x.coordinator; task = x.task; halter = x.halter; up = x.up }

-- at a place in range
at_in : {n i : ℕ} {c : Node} → Sound n i c → (p : Place) → Placed n i c.coordinator p → NodeFacts n i (with_place c p)
at_in x p y = record { coordinator = x.coordinator; task = x.task; halter = x.halter; up = x.up; rests = λ f. absurd (true≢false (sym x.runs ∙ f)); place = y }

-- another coordinator, not node j itself
placed_under : (n j o q : ℕ) (p : Place) → (q ≡ j → ⊥) → Placed n j o p → Placed n j q p
placed_under n j o q Idle h x = x
placed_under n j o q (Asking k) h x = x
placed_under n j o q (Halting k) h x = x
placed_under n j o q (Announcing still k) h x = x
placed_under n j o q Point h x = x
placed_under n j o q (Handing still k) h x = x
placed_under n j o q (Checking k) h x = x
placed_under n j o q Contacting h x = h

module _ {n i : ℕ} (a : Numbered n i) where
  -- the status is free
  status_in : {c : Node} (s : Status) → Sound n i c → Sound n i (with_status c s)
  status_in s x = record { runs = x.runs; coordinator = x.coordinator; task = x.task; halter = x.halter; up = x.up }

  hand_next_in : (c : Node) (still : ℕ) → Sound n i c → IsSetOfOthers n i still → NodeFacts n i (hand_next c still)
  unfolding hand_next
  hand_next_in c still x w =
      by_test (NodeFacts n i)
      (λ _. at_in (status_in Normal x) Idle tt)
      (λ e. at_in x (Handing _ _) (set_without a (highest still) w, next_one a w e))

  announce_next_in : (c : Node) (still : ℕ) → Sound n i c → IsSetOfOthers n i still → NodeFacts n i (announce_next c still)
  unfolding announce_next
  announce_next_in c still x w =
      by_test (NodeFacts n i)
      (λ _. at_in x Point tt)
      (λ e. at_in x (Announcing _ _) (set_without a (highest still) w, next_one a w e))

  election_point_in : (c : Node) → Sound n i c → NodeFacts n i (election_point i c)
  unfolding election_point
  election_point_in c x = announce_next_in (with_status (with_coordinator c i) Reorganization) c.up (record { runs = x.runs; coordinator = a.high; task = x.task; halter = x.halter; up = x.up }) x.up

  halt_from_in : (c : Node) (j : ℕ) → Sound n i c → j < i → NodeFacts n i (halt_from i c j)
  unfolding halt_from
  halt_from_in c j x h =
      by_test (NodeFacts n i)
      (λ _. election_point_in c x)
      (λ e. let z = eqb-false j 0 e in at_in x (Halting j) (omega arith, h))

  halting_step_in : (c : Node) → Sound n i c → NodeFacts n i (halting_step i c)
  unfolding halting_step
  halting_step_in c x =
      halt_from_in (with_up (with_halter (with_status (with_place c Idle) Election) i) 0) _
      (record { runs = x.runs; coordinator = x.coordinator; task = x.task; halter = a.high; up = empty_set a })
      (omega (arith, a.low))

  ask_from_in : (c : Node) (j : ℕ) → Sound n i c → i < j → NodeFacts n i (ask_from n i c j)
  unfolding ask_from
  ask_from_in c j x h = by_test (NodeFacts n i) (λ e. at_in x (Asking j) (h, leb-true j n e)) (λ _. halting_step_in c x)

  election_in : (c : Node) → Sound n i c → NodeFacts n i (election n i c)
  unfolding election
  election_in c x = ask_from_in c _ x (omega (arith, a.high))

  check_at_in : (c : Node) (j : ℕ) → Sound n i c → 1 ≤ j → (j ≡ i → ⊥) → NodeFacts n i (check_at n c j)
  unfolding check_at
  check_at_in c j x l h =
      by_test (NodeFacts n i)
      (λ e. at_in x (Checking j) (record { low = l; high = leb-true j n e; other = h }))
      (λ _. at_in x Idle tt)

  check_from_in : (c : Node) (j : ℕ) → Sound n i c → 1 ≤ j → NodeFacts n i (check_from n i c j)
  unfolding check_from
  check_from_in c j x l =
      by_test (NodeFacts n i)
      (λ e. let q = eqb-true j i e in check_at_in c (j + 1) x (omega arith) (λ z. omega arith))
      (λ e. check_at_in c j x l (eqb-false j i e))

  -- ── events of node i alone ──
  pub crashed_in : (c : Node) → NodeFacts n i c → NodeFacts n i (crashed c)
  crashed_in c x = record { coordinator = x.coordinator; task = x.task; halter = x.halter; up = x.up; rests = λ _. (refl, refl); place = tt }

  pub recovery_in : (c : Node) → NodeFacts n i c → NodeFacts n i (recovery n i c)
  unfolding recovery
  recovery_in c x = election_in (with_halter (with_runs c true) 0) (record { runs = refl; coordinator = x.coordinator; task = x.task; halter = omega arith; up = x.up })

  pub check_in : (c : Node) → c.runs ≡ true → NodeFacts n i c → NodeFacts n i (check n i c)
  unfolding check
  check_in c r x = by_test (NodeFacts n i) (λ _. check_from_in c 1 (sound r x) (omega arith)) (λ _. x)

  pub timeout_in : (c : Node) → c.runs ≡ true → NodeFacts n i c → NodeFacts n i (timeout n i c)
  unfolding timeout
  timeout_in c r x =
      by_test (NodeFacts n i)
      (λ _. by_test (NodeFacts n i) (λ _. x) (λ e. at_in (sound r x) Contacting (eqb-false c.coordinator i e)))
      (λ _. election_in c (sound r x))

  pub finish_in : (c : Node) (t : TaskNo) → c.runs ≡ true → t.number ≤ task_end → NodeFacts n i c → NodeFacts n i (finish c t)
  unfolding finish
  finish_in c t r h x = hand_next_in (with_task c t) c.up (record { runs = r; coordinator = x.coordinator; task = h; halter = x.halter; up = x.up }) x.up

  -- ── a call ──
  pub callee_in : (c : Node) (p : Place) → c.coordinator ≤ n → Placed n i c.coordinator p → (callee c p ≤ n) × (callee c p ≡ i → ⊥)
  callee_in c Idle o x = (omega arith, λ e. omega (arith, a.low))
  callee_in c (Asking j) o x = (x.1, λ e. omega arith)
  callee_in c (Halting j) o x = (omega (arith, a.high), λ e. omega arith)
  callee_in c (Announcing still j) o x = (x.1.high, x.1.other)
  callee_in c Point o x = (omega arith, λ e. omega (arith, a.low))
  callee_in c (Handing still j) o x = (x.1.high, x.1.other)
  callee_in c (Checking j) o x = (x.high, x.other)
  callee_in c Contacting o x = (o, x)

  pub answered_in : (c : Node) (p : Place) (d : Node) → c.runs ≡ true → NodeFacts n i c → Placed n i c.coordinator p → NodeFacts n i (answered n i c p d)
  unfolding answered
  answered_in c Idle d r x y = x
  answered_in c (Asking j) d r x y = at_in (sound r x) Idle tt
  answered_in c (Halting j) d r x y =
      halt_from_in (with_up c (with c.up j)) (j - 1)
      (record {
        runs = r;
        coordinator = x.coordinator;
        task = x.task;
        halter = x.halter;
        up = set_with a j (record { low = y.0; high = omega (arith, y.1, a.high); other = λ e. omega arith }) x.up;
      })
      (omega arith)
  answered_in c (Announcing still j) d r x y = announce_next_in c still (sound r x) y.0
  answered_in c Point d r x y = x
  answered_in c (Handing still j) d r x y = hand_next_in c still (sound r x) y.0
  answered_in c (Checking j) d r x y =
      by_test (NodeFacts n i) (λ _. check_from_in c (j + 1) (sound r x) (omega arith)) (λ _. election_in c (sound r x))
  answered_in c Contacting d r x y = at_in (sound r x) Idle tt

  pub timed_out_in : (c : Node) (p : Place) → c.runs ≡ true → NodeFacts n i c → Placed n i c.coordinator p → NodeFacts n i (timed_out n i c p)
  unfolding timed_out
  timed_out_in c Idle r x y = x
  timed_out_in c (Asking j) r x y = ask_from_in c _ (sound r x) (omega arith)
  timed_out_in c (Halting j) r x y = halt_from_in c (j - 1) (sound r x) (omega arith)
  timed_out_in c (Announcing still j) r x y = election_in c (sound r x)
  timed_out_in c Point r x y = x
  timed_out_in c (Handing still j) r x y = election_in c (sound r x)
  timed_out_in c (Checking j) r x y = check_from_in c (j + 1) (sound r x) (omega arith)
  timed_out_in c Contacting r x y = election_in c (sound r x)

  -- the one called, j, by node i
  module _ (j : ℕ) (other : j ≡ i → ⊥) (d : Node) (r : d.runs ≡ true) (x : NodeFacts n j d) where
    new_coordinator_in : NodeFacts n j (new_coordinator d i)
    unfolding new_coordinator
    new_coordinator_in =
        by_test (NodeFacts n j)
        (λ _. record {
          coordinator = a.high;
          task = x.task;
          halter = x.halter;
          up = x.up;
          rests = λ f. absurd (true≢false (sym r ∙ f));
          place = placed_under n j d.coordinator i d.place (λ e. other (sym e)) x.place;
        })
        (λ _. x)

    ready_in : (t : TaskNo) → t.number ≤ task_end → NodeFacts n j (ready d i t)
    unfolding ready
    ready_in t h =
        by_test (NodeFacts n j)
        (λ _. record { coordinator = x.coordinator; task = h; halter = x.halter; up = x.up; rests = λ f. absurd (true≢false (sym r ∙ f)); place = x.place })
        (λ _. x)

    pub called_in : (c : Node) (p : Place) → c.task.number ≤ task_end → NodeFacts n j (called i c p d)
    unfolding called
    called_in c Idle h = x
    called_in c (Asking k) h = x
    called_in c (Halting k) h =
        record { coordinator = x.coordinator; task = x.task; halter = a.high; up = x.up; rests = λ f. absurd (true≢false (sym r ∙ f)); place = tt }
    called_in c (Announcing still k) h = new_coordinator_in
    called_in c Point h = x
    called_in c (Handing still k) h = ready_in c.task h
    called_in c (Checking k) h = x
    called_in c Contacting h = x
