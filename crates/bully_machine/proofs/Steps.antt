-- The model's step by the parts that the code computes: the grounds in two groups, what passing them gives, and the call.
use Prim.Native.Nat.{ℕ, ◌≤◌}
use native.Mathlib.Omega.{arith}
use mathlib.Core.Bool.{true, false}
use mathlib.Core.Path.{◌≡◌, refl, sym, ◌∙◌, ap}
use mathlib.Core.List.{◌++◌}
use lib.Dec.{leb}
use borrow.Author.Tests.{leb-true, not-false}
use Rattle.model.specs.Pick.{pick, pick_true, pick_false}
use Rattle.model.specs.Grounds.{first}
use Rattle.model.proofs.Local.{both_left, both_right}
use Rattle.model.proofs.Grounds.{not_met, first_clear, first_met, judged_clear, judged_first}
use Rattle.bully_model.specs.Calls.{callee, called, answered, timed_out}
use Rattle.bully_model.specs.State.{State, node_at, stored, in_range, view}
use Rattle.bully_model.specs.Step.{call, go_on, effect, actor, grounds, refused, accepted, step, kept}
use Rattle.bully_model.specs.Answers.{answer_number, result_number}
use Rattle.bully_model.proofs.Fields.{Placed, NodeFacts, in_range_size, in_range_node}
use Rattle.model.proofs.Range.{Numbered}
use Rattle.bully_model.proofs.Range.{callee_in}
use Rattle.bully_model.specs.declared.Place.{Place}
use Rattle.bully_model.specs.declared.Place.TheVariants.{Idle, Asking, Halting, Announcing, Point, Handing, Checking, Contacting}
use Rattle.bully_model.specs.declared.Node.{Node}
use Rattle.bully_model.specs.declared.Table.{Table}
use Rattle.bully_model.specs.declared.Event.{Event}
use Rattle.std.specs.Prelude.{Ok, Err}
use Rattle.bully_model.specs.declared.Refusal.{Refusal}
use Rattle.bully_model.specs.declared.Refusal.TheVariants.{NotInRange, WrongNumber, WrongTask, WrongRunning, WrongPlace}
use Rattle.bully_machine.specs.Stepped.{Stepped}
use Rattle.bully_machine.specs.Parts.{number_grounds, state_grounds, FitsPlace, Passed}

-- ── the call ──

module _ (s : State) (i : ℕ) (c : Node) (p : Place) (j : ℕ) (d : Node) (e : j ≡ callee c p) (f : d ≡ node_at s j) where
  called_is : go_on s i c p ≡ call s i c p j d
  unfolding go_on
  called_is = ap (λ (k : ℕ). call s i c p k (node_at s k)) (sym e) ∙ ap (call s i c p j) (sym f)

  pub call_answered : d.runs ≡ true → stored (stored s j (called i c p d)) i (answered s.n i c p d) ≡ go_on s i c p
  unfolding call
  call_answered r = sym (called_is ∙ rw r (pick_true _ _))

  pub call_timed_out : d.runs ≡ false → stored s i (timed_out s.n i c p) ≡ go_on s i c p
  unfolding call
  call_timed_out r = sym (called_is ∙ rw r (pick_false _ _))

-- ── what a step comes to ──
refused_some : (r : Refusal) → 1 ≤ answer_number (Err r)
refused_some NotInRange = omega arith
refused_some WrongNumber = omega arith
refused_some WrongTask = omega arith
refused_some WrongRunning = omega arith
refused_some WrongPlace = omega arith

-- a refusal with the first ground's number, and the same table
pub refused_stepped : (t : Table) (e : Event) (r : Refusal) → answer_number (Err r) ≡ first (grounds (view t) e) → Stepped t e (record { table = t; answer = Err r })
unfolding step
refused_stepped t e r h =
    let n : 1 ≤ first (grounds (view t) e) = omega (arith, refused_some r, h) in
    let j = judged_first refused (accepted (effect (view t) e)) (grounds (view t) e) n in
    record { answer = h ∙ sym (ap result_number j); table = sym (ap (kept (view t)) j); same = λ _. refl }

-- no ground
pub accepted_stepped : (t : Table) (e : Event) → first (grounds (view t) e) ≡ 0 → (u : Table) → view u ≡ effect (view t) e → Stepped t e (record { table = u; answer = Ok tt })
unfolding step grounds
accepted_stepped t e h u v =
    let k = judged_clear refused (accepted (effect (view t) e)) (grounds (view t) e) refl h in
    record { answer = sym (ap result_number k); table = v ∙ sym (ap (kept (view t)) k); same = λ n. absurd (n refl) }

-- ── the grounds, as the code goes through them ──

-- a table that is not in range
pub range_first : (t : Table) (e : Event) → in_range (view t) ≡ false → 1 ≡ first (grounds (view t) e)
unfolding grounds first
range_first t e h = sym (rw (h, pick_true))

-- what is in range fits the code
place_fits : (n i o : ℕ) (p : Place) → n ≤ 16 → i ≤ n → Placed n i o p → FitsPlace p
place_fits n i o Idle s h x = tt
place_fits n i o (Asking j) s h x = omega (arith, x.1)
place_fits n i o (Halting j) s h x = (x.0, omega (arith, x.1))
place_fits n i o (Announcing still j) s h x = tt
place_fits n i o Point s h x = tt
place_fits n i o (Handing still j) s h x = tt
place_fits n i o (Checking j) s h x = omega (arith, x.high)
place_fits n i o Contacting s h x = tt

-- of a table in range
module _ (t : Table) (e : Event) (ok : in_range (view t) ≡ true) where
  pub small : t.n ≤ 16
  small = (in_range_size (view t) ok).1

  -- 7 and 8
  module _ (clear : first (number_grounds t.n e) ≡ 0) where
    is_node_lem : leb 1 (actor e) ≡ true × leb (actor e) t.n ≡ true
    unfolding pick
    is_node_lem =
        let x = not-false _ (not_met 7 (number_grounds t.n e) refl clear) in
        (both_left _ _ x, both_right (leb 1 (actor e)) _ x)

    pub low : 1 ≤ actor e
    low = leb-true 1 (actor e) is_node_lem.0

    pub high : actor e ≤ t.n
    high = leb-true (actor e) t.n is_node_lem.1

    pub passed : (c : Node) → c ≡ node_at (view t) (actor e) → Passed t (actor e) c
    passed c h =
        record {
          small = small;
          low = low;
          high = high;
          here = h;
          place = rw h (place_fits t.n (actor e) x.coordinator x.place small high f.place);
          callee = rw h (callee_in a x x.place f.coordinator f.place).0;
        }
      where
        x : Node
        x = node_at (view t) (actor e)

        a : Numbered t.n (actor e)
        a = record { low = low; high = high; small = small }

        f : NodeFacts t.n (actor e) x
        f = in_range_node (view t) (actor e) ok low high

  module _ (c : Node) (here : c ≡ node_at (view t) (actor e)) where
    actual : first (grounds (view t) e) ≡ first (number_grounds t.n e ++ state_grounds c e)
    unfolding grounds first
    actual = rw (here, ok, pick_false)

    -- 9 and 10, or none
    pub past_numbers : first (number_grounds t.n e) ≡ 0 → first (grounds (view t) e) ≡ first (state_grounds c e)
    past_numbers clear = actual ∙ first_clear (number_grounds t.n e) _ refl clear

  pub numbers_first : (r : Refusal) → answer_number (Err r) ≡ first (number_grounds t.n e) → answer_number (Err r) ≡ first (grounds (view t) e)
  numbers_first r h = h ∙ sym (actual _ refl ∙ first_met (number_grounds t.n e) _ (omega (arith, refused_some r, h)))
