-- Every procedure, and every call, keeps the invariant: one lemma a procedure.
use Prim.Native.Nat.{ℕ, ◌+◌, ◌-◌, ◌<◌, ◌≤◌}
use native.Mathlib.Omega.{arith}
use mathlib.Core.Bool.{true, true≢false}
use mathlib.Core.Logic.{◌⊎◌, inl, inr, ⊎_elim}
use mathlib.Core.Path.{◌≡◌, refl, sym, ap, subst}
use lib.Dec.{eqb}
use borrow.Author.Tests.{eqb-true, leb-false}
use Rattle.node_set.specs.NodeSet.{with}
use Rattle.model.specs.Pick.{by_test}
use Rattle.model.specs.Node.{is_reorganization}
use Rattle.model.specs.History.{updated}
use Rattle.model.proofs.Invariant.{updated_same, updated_other}
use Rattle.model.proofs.Local.{both_left, both_right}
use Rattle.model.specs.declared.Status.{Status}
use Rattle.model.specs.declared.Status.TheVariants.{Down, Election, Reorganization, Normal}
use Rattle.model.specs.declared.TaskNo.{TaskNo}
use Rattle.bully_model.specs.Node.{with_runs, with_status, with_coordinator, with_task, with_halter, with_up, with_place}
use Rattle.bully_model.specs.Procedures.{hand_next, announce_next, election_point, halt_from, halting_step, ask_from, election, recovery, check_at, check_from, check, timeout, finish, crashed}
use Rattle.bully_model.specs.Calls.{halt, new_coordinator, ready, callee, called, answered, timed_out}
use Rattle.bully_model.proofs.Fields.{Placed}
use Rattle.bully_model.proofs.Invariant.{Free, Announces, Hands, Asks, Halts, phase, Aspect, aspect, Dealt, IsAnnouncing, IsHanding, Suits, Suited, Safe}
use Rattle.bully_model.proofs.Changes.{updated_twice, Past}
use Rattle.bully_model.proofs.Moves.{moved, under, lt_or_ge, moves, rests, stops, wins, gets_task, settles, is_halted, is_led, is_ready}
use Rattle.bully_model.specs.declared.Place.{Place}
use Rattle.bully_model.specs.declared.Place.TheVariants.{Idle, Asking, Halting, Announcing, Point, Handing, Checking, Contacting}
use Rattle.bully_model.specs.declared.Node.{Node}

-- the invariant, where the numbers outside 1 to n are nobody's
pub record Good (n : ℕ) (f : ℕ → Aspect) : Type 0 where
  pub safe : Safe f
  pub outside : (k : ℕ) → (1 ≤ k → k ≤ n → ⊥) → ((f k).status ≡ Down) × ((f k).phase ≡ Free)

-- one that is Down and does nothing counts as dealt with
pub past : {f : ℕ → Aspect} (i k : ℕ) → (f k).status ≡ Down → (f k).phase ≡ Free → Past f i k
past i k s p =
    record {
      free = p;
      unled = λ o x. true≢false (sym (rw s at x.active));
      lower = λ m _ x. true≢false (sym (rw s at x.election));
    }

-- what node i, at this place, needs of the one that has answered: one that was halted counts as dealt with
abbrev pub Answering : (ℕ → Aspect) → ℕ → Place → Type 0
Answering f i Idle = Unit {0}
Answering f i (Asking j) = Unit {0}
Answering f i (Halting j) = Past f i j
Answering f i (Announcing still j) = Unit {0}
Answering f i Point = Unit {0}
Answering f i (Handing still j) = Unit {0}
Answering f i (Checking j) = Unit {0}
Answering f i Contacting = Unit {0}

-- ── what the walks of sets and of Check leave ──
announce_next_aspect : (c : Node) (still : ℕ) → aspect (announce_next c still) ≡ moved (aspect c) Announces
unfolding announce_next
announce_next_aspect c still = by_test (λ (d : Node). aspect d ≡ moved (aspect c) Announces) (λ _. refl) (λ _. refl)

election_point_aspect : (i : ℕ) (c : Node) → aspect (election_point i c) ≡ under (aspect c) i Announces
unfolding election_point
election_point_aspect i c = announce_next_aspect (with_status (with_coordinator c i) Reorganization) c.up

check_at_aspect : (n : ℕ) (c : Node) (j : ℕ) → aspect (check_at n c j) ≡ moved (aspect c) Free
unfolding check_at
check_at_aspect n c j = by_test (λ (d : Node). aspect d ≡ moved (aspect c) Free) (λ _. refl) (λ _. refl)

check_from_aspect : (n i : ℕ) (c : Node) (j : ℕ) → aspect (check_from n i c j) ≡ moved (aspect c) Free
unfolding check_from
check_from_aspect n i c j = by_test (λ (d : Node). aspect d ≡ moved (aspect c) Free) (λ _. check_at_aspect n c (j + 1)) (λ _. check_at_aspect n c j)

module _ {n : ℕ} {f : ℕ → Aspect} (g : Good n f) (i : ℕ) (low : 1 ≤ i) (high : i ≤ n) where
  -- a change of node i that keeps the invariant
  pub good : (d : Aspect) → Safe (updated f i d) → Good n (updated f i d)
  good d x = record { safe = x; outside = λ k h. rw (updated_other f i d k (λ e. h (rw e low) (rw e high))) (g.outside k h) }

  beyond : (j k : ℕ) → n < k → Past f j k
  beyond j k l = let x = g.outside k (λ _ h. omega arith) in past j k x.0 x.1

  -- node i halts from j on, once it is known to have come that far
  halt_from_safe : (c : Node) (j : ℕ) → Safe (updated f i (moved (aspect c) (Halts j))) → Safe (updated f i (aspect (halt_from i c j)))
  unfolding halt_from
  halt_from_safe c j x =
      by_test (λ (d : Node). Safe (updated f i (aspect d)))
      (λ e. rw (election_point_aspect i c) (elected (subst (λ (j : ℕ). Safe (updated f i (moved (aspect c) (Halts j)))) (eqb-true j 0 e) x)))
      (λ _. x)
    where
      all : Aspect
      all = moved (aspect c) (Halts 0)

      elected : Safe (updated f i all) → Safe (updated f i (under (aspect c) i Announces))
      elected y =
          let o = (good all y).outside 0 (λ h _. omega arith) in
          subst Safe (updated_twice f i all (under (aspect c) i Announces))
          (wins y i all (updated_same f i all) refl (past i 0 o.0 o.1))

  -- node i hands on, once it is known to have come that far
  hand_next_safe : (c : Node) (still : ℕ) → Safe (updated f i (moved (aspect c) Hands)) → Safe (updated f i (aspect (hand_next c still)))
  unfolding hand_next
  hand_next_safe c still x =
      by_test (λ (d : Node). Safe (updated f i (aspect d)))
      (λ _. subst Safe (updated_twice f i (moved (aspect c) Hands) _) (settles x i (moved (aspect c) Hands) (updated_same f i (moved (aspect c) Hands)) tt))
      (λ _. x)

  module _ (c : Node) (here : f i ≡ aspect c) where
    suited : Suits i c.status c.coordinator c.halter (phase c.place)
    suited = subst (Suited i) here (g.safe.suited i)

    -- no change
    stays_safe : Safe (updated f i (aspect c))
    stays_safe = moves g.safe i (aspect c) here (phase c.place) suited (λ k x. inl x) (λ x. x) (λ x. x)

    -- away from its election
    leaves_safe : Safe (updated f i (moved (aspect c) Free))
    leaves_safe = moves g.safe i (aspect c) here Free tt (λ k x. absurd x) (λ x. absurd x) (λ x. absurd x)

    check_from_safe : (j : ℕ) → Safe (updated f i (aspect (check_from n i c j)))
    check_from_safe j = rw (check_from_aspect n i c j) leaves_safe

    halting_step_safe : ((k : ℕ) → i < k → Dealt i (aspect c) k ⊎ Past f i k) → Safe (updated f i (aspect (halting_step i c)))
    unfolding halting_step
    halting_step_safe above = halt_from_safe (with_up (with_halter (with_status (with_place c Idle) Election) i) 0) (i - 1) (stops g.safe i (aspect c) here low above)

    ask_from_safe : (j : ℕ) → ((k : ℕ) → i < k → k < j → Dealt i (aspect c) k ⊎ Past f i k) → Safe (updated f i (aspect (ask_from n i c j)))
    unfolding ask_from
    ask_from_safe j below =
        by_test (λ (d : Node). Safe (updated f i (aspect d)))
        (λ _. moves g.safe i (aspect c) here (Asks j) tt (λ k x. below k x.0 x.1) (λ x. absurd x) (λ x. absurd x))
        (λ e. let l = leb-false j n e in halting_step_safe (λ k h. ⊎_elim (below k h) (λ m. inr (beyond i k (omega arith))) (lt_or_ge k j)))

    election_safe : Safe (updated f i (aspect (election n i c)))
    unfolding election
    election_safe = ask_from_safe _ (λ k l h. absurd (omega arith))

    -- ── events of node i alone ──
    pub crashed_safe : Safe (updated f i (aspect (crashed c)))
    crashed_safe = rests g.safe i (aspect c) here (aspect (crashed c)) refl refl

    pub check_safe : Safe (updated f i (aspect (check n i c)))
    unfolding check
    check_safe = by_test (λ (d : Node). Safe (updated f i (aspect d))) (λ _. check_from_safe 1) (λ _. stays_safe)

    pub timeout_safe : Safe (updated f i (aspect (timeout n i c)))
    unfolding timeout
    timeout_safe =
        by_test (λ (d : Node). Safe (updated f i (aspect d)))
        (λ _. by_test (λ (d : Node). Safe (updated f i (aspect d))) (λ _. stays_safe) (λ _. leaves_safe))
        (λ _. election_safe)

    pub finish_safe : (t : TaskNo) → c.place ≡ Point → Safe (updated f i (aspect (finish c t)))
    unfolding finish
    finish_safe t e = hand_next_safe (with_task c t) c.up (gets_task g.safe i (aspect c) here t (rw e tt))

    -- ── the caller ──
    halt_next : (j : ℕ) → c.place ≡ Halting j → 1 ≤ j → Past f i j → Safe (updated f i (moved (aspect c) (Halts (j - 1))))
    halt_next j e l x =
        moves g.safe i (aspect c) here (Halts (j - 1)) halts
        (λ k y. ⊎_elim (λ h. inl (rw e (h, y.1))) (λ h. inr (subst (Past f i) (omega (arith, y.0)) x)) (lt_or_ge j k))
        (λ y. absurd y) (λ y. absurd y)
      where
        halts : (c.status ≡ Election) × (c.halter ≡ i)
        halts = rw e at suited

    pub timed_out_safe : (p : Place) → c.place ≡ p → Placed n i c.coordinator p → Past f i (callee c p) → Safe (updated f i (aspect (timed_out n i c p)))
    unfolding timed_out
    timed_out_safe Idle e y x = stays_safe
    timed_out_safe (Asking j) e y x =
        ask_from_safe _ (λ k l h. ⊎_elim (λ m. inl (rw e (l, m))) (λ m. inr (subst (Past f i) (omega arith) x)) (lt_or_ge k j))
    timed_out_safe (Halting j) e y x = halt_from_safe c (j - 1) (halt_next j e y.0 x)
    timed_out_safe (Announcing still j) e y x = election_safe
    timed_out_safe Point e y x = stays_safe
    timed_out_safe (Handing still j) e y x = election_safe
    timed_out_safe (Checking j) e y x = check_from_safe (j + 1)
    timed_out_safe Contacting e y x = election_safe

    pub answered_safe : (p : Place) (d : Node) → c.place ≡ p → Placed n i c.coordinator p → Answering f i p → Safe (updated f i (aspect (answered n i c p d)))
    unfolding answered
    answered_safe Idle d e y x = stays_safe
    answered_safe (Asking j) d e y x = leaves_safe
    answered_safe (Halting j) d e y x = halt_from_safe (with_up c (with c.up j)) (j - 1) (halt_next j e y.0 x)
    answered_safe (Announcing still j) d e y x =
        rw (announce_next_aspect c still) (moves g.safe i (aspect c) here Announces (rw e at suited) (λ k z. absurd z) (λ _. rw e tt) (λ z. absurd z))
    answered_safe Point d e y x = stays_safe
    answered_safe (Handing still j) d e y x =
        hand_next_safe c still (moves g.safe i (aspect c) here Hands (rw e at suited) (λ k z. absurd z) (λ z. absurd z) (λ _. rw e tt))
    answered_safe (Checking j) d e y x = by_test (λ (b : Node). Safe (updated f i (aspect b))) (λ _. check_from_safe (j + 1)) (λ _. election_safe)
    answered_safe Contacting d e y x = leaves_safe

-- ── recovery: the halter is cleared, then the election begins ──
pub recovery_safe : {n : ℕ} {f : ℕ → Aspect} → Good n f → (i : ℕ) → 1 ≤ i → i ≤ n → (c : Node) → f i ≡ aspect c → c.status ≡ Down → c.place ≡ Idle → Safe (updated f i (aspect (recovery n i c)))
unfolding recovery
recovery_safe {n} {f} g i low high c here s p =
    subst Safe (updated_twice f i (aspect (with_halter (with_runs c true) 0)) (aspect (election n i (with_halter (with_runs c true) 0))))
    (election_safe (good g i low high (aspect (with_halter (with_runs c true) 0)) (rests g.safe i (aspect c) here (aspect (with_halter (with_runs c true) 0)) s (ap phase p))) i low high (with_halter (with_runs c true) 0) (updated_same f i (aspect (with_halter (with_runs c true) 0))))

-- ── the one called: node j, with the record d, by node i, with the record c ──
module _ {n : ℕ} {f : ℕ → Aspect} (g : Good n f) (i : ℕ) (c : Node) (here : f i ≡ aspect c) (j : ℕ) (low : 1 ≤ j) (high : j ≤ n) (d : Node) (there : f j ≡ aspect d) (other : j ≡ i → ⊥) where
  same : Safe (updated f j (aspect d))
  same = stays_safe g j low high d there

  new_coordinator_safe : IsAnnouncing (phase c.place) → Safe (updated f j (aspect (new_coordinator d i)))
  unfolding new_coordinator
  new_coordinator_safe a =
      by_test (λ (b : Node). Safe (updated f j (aspect b)))
      (λ e. is_led g.safe i j (aspect d) there (rw here a) other (record { election = both_right (eqb d.halter i) _ e; by = eqb-true d.halter i (both_left _ _ e) }))
      (λ _. same)

  ready_safe : IsHanding (phase c.place) → Safe (updated f j (aspect (ready d i c.task)))
  unfolding ready
  ready_safe a =
      by_test (λ (b : Node). Safe (updated f j (aspect b)))
      (λ e.
      let x = is_ready g.safe i j (aspect d) there (rw here a) other (reorganizing d.status (both_right (eqb d.coordinator i) _ e)) (eqb-true d.coordinator i (both_left _ _ e)) in
      rw here at x)
      (λ _. same)
    where
      reorganizing : (s : Status) → is_reorganization s ≡ true → s ≡ Reorganization
      reorganizing Down e = absurd (true≢false (sym e))
      reorganizing Election e = absurd (true≢false (sym e))
      reorganizing Reorganization e = refl
      reorganizing Normal e = absurd (true≢false (sym e))

  pub called_safe : (p : Place) → c.place ≡ p → callee c p ≡ j → Placed n i c.coordinator p → Safe (updated f j (aspect (called i c p d)))
  unfolding called
  called_safe Idle e q y = same
  called_safe (Asking k) e q y = same
  called_safe (Halting k) e q y = is_halted g.safe i j (aspect d) there (rw (here, e, q) refl) (omega arith)
  called_safe (Announcing still k) e q y = new_coordinator_safe (rw e tt)
  called_safe Point e q y = same
  called_safe (Handing still k) e q y = ready_safe (rw e tt)
  called_safe (Checking k) e q y = same
  called_safe Contacting e q y = same

  -- and what the caller needs of it afterwards
  pub answering : (p : Place) → callee c p ≡ j → Placed n i c.coordinator p → Answering (updated f j (aspect (called i c p d))) i p
  unfolding called
  answering Idle q y = tt
  answering (Asking k) q y = tt
  answering (Halting k) q y =
      subst (Past (updated f j (aspect (halt d i))) i) (sym q)
      (record {
        free = rw (updated_same f j (aspect (halt d i))) refl;
        unled = λ o x. true≢false (sym (rw (updated_same f j (aspect (halt d i))) at x.active));
        lower = λ m l _. omega arith;
      })
  answering (Announcing still k) q y = tt
  answering Point q y = tt
  answering (Handing still k) q y = tt
  answering (Checking k) q y = tt
  answering Contacting q y = tt
