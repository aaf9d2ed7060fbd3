-- The invariant holds along every run, and the claims follow.
use Prim.Native.Nat.{ℕ, zero, suc, ◌-◌, ◌≤◌}
use native.Mathlib.Omega.{arith}
use mathlib.Core.Bool.{Bool, true, false, true≢false}
use mathlib.Core.Path.{◌≡◌, refl, sym, ◌∙◌, ap, subst, fun_ext}
use mathlib.Core.List.{List, [], ◌∷◌}
use lib.Dec.{eqb}
use lib.ListN.{length, get_or, set, length-set}
use lib.Seq.{get_or-set_same, get_or-set_other}
use borrow.Author.Tests.{eqb-true, eqb-false, not-false}
use Rattle.model.specs.Pick.{by_test}
use Rattle.model.specs.History.{updated}
use Rattle.model.proofs.Invariant.{updated_same, updated_other}
use Rattle.bully_model.specs.Node.{is_point}
use Rattle.bully_model.specs.Calls.{callee, called, answered, timed_out}
use Rattle.bully_model.specs.State.{State, starting_node, start, node_at, stored, in_range}
use Rattle.bully_model.specs.Step.{call, go_on, effect, actor, kept, after, run_from}
use Rattle.bully_model.specs.Claims.{Agreement, AllDown, AgreesFromDown}
use Rattle.bully_model.proofs.Judged.{Clear, by_step}
use Rattle.bully_model.proofs.Fields.{NodeFacts, in_range_size, in_range_node}
use Rattle.bully_model.proofs.Range.{callee_in}
use Rattle.bully_model.proofs.InRange.{runner, number, stands}
use Rattle.bully_model.proofs.Invariant.{Free, phase, Aspect, aspect, Safe}
use Rattle.bully_model.proofs.Changes.{Past}
use Rattle.bully_model.proofs.Local.{Good, past, good, Answering, crashed_safe, check_safe, timeout_safe, finish_safe, recovery_safe, timed_out_safe, answered_safe, called_safe, answering}
use Rattle.bully_model.specs.declared.Place.{Place}
use Rattle.bully_model.specs.declared.Place.TheVariants.{Idle, Asking, Halting, Announcing, Point, Handing, Checking, Contacting}
use Rattle.bully_model.specs.declared.Node.{Node}
use Rattle.bully_model.specs.declared.Event.{Event}
use Rattle.bully_model.specs.declared.Event.TheVariants.{Crash, Recover, Check, Timeout, GoOn, Finish}

-- ── the aspects of a table ──
abbrev aspects : State → ℕ → Aspect
aspects s j = aspect (node_at s j)

-- storing a record changes one aspect
stored_aspects : (s : State) (i : ℕ) (c : Node) → 1 ≤ i → i ≤ length s.nodes → aspects (stored s i c) ≡ updated (aspects s) i (aspect c)
stored_aspects s i c l h = fun_ext at_number
  where
    by_value : (j : ℕ) (b : Bool) → eqb (suc j) i ≡ b → aspect (get_or (set s.nodes (i - 1) c) j starting_node) ≡ updated (aspects s) i (aspect c) (suc j)
    by_value j true e =
        let q : suc j ≡ i = eqb-true (suc j) i e in
        let p : j ≡ i - 1 = omega arith in
        ap (λ (k : ℕ). aspect (get_or (set s.nodes (i - 1) c) k starting_node)) p
        ∙ ap aspect (get_or-set_same s.nodes (i - 1) c starting_node (omega arith))
        ∙ sym (ap (updated (aspects s) i (aspect c)) q ∙ updated_same (aspects s) i (aspect c))
    by_value j false e =
        ap aspect (get_or-set_other s.nodes (i - 1) j c starting_node (λ p. eqb-false (suc j) i e (omega arith)))
        ∙ sym (updated_other (aspects s) i (aspect c) (suc j) (eqb-false (suc j) i e))

    at_number : (j : ℕ) → aspects (stored s i c) j ≡ updated (aspects s) i (aspect c) j
    at_number zero = sym (updated_other (aspects s) i (aspect c) zero (λ e. omega arith))
    at_number (suc j) = by_value j (eqb (suc j) i) refl

-- ── a table ──
abbrev Holds : State → Type 0
Holds s = Good s.n (aspects s)

-- a record stored for node i, whose aspect keeps the invariant
stored_holds : (s : State) (i : ℕ) (c : Node) → length s.nodes ≡ s.n → 1 ≤ i → i ≤ s.n → Holds s → Safe (updated (aspects s) i (aspect c)) → Holds (stored s i c)
stored_holds s i c size low high g x = rw (stored_aspects s i c low (omega arith)) (good g i low high (aspect c) x)

point_is : (p : Place) → is_point p ≡ true → p ≡ Point
point_is Idle e = absurd (true≢false (sym e))
point_is (Asking j) e = absurd (true≢false (sym e))
point_is (Halting j) e = absurd (true≢false (sym e))
point_is (Announcing still j) e = absurd (true≢false (sym e))
point_is Point e = refl
point_is (Handing still j) e = absurd (true≢false (sym e))
point_is (Checking j) e = absurd (true≢false (sym e))
point_is Contacting e = absurd (true≢false (sym e))

-- one that does not run, 0 too, counts as dealt with
off_past : (s : State) (i j : ℕ) → in_range s ≡ true → j ≤ s.n → (node_at s j).runs ≡ false → Past (aspects s) i j
off_past s i zero r h e = past i zero refl refl
off_past s i (suc j) r h e = let x = (in_range_node s (suc j) r (omega arith) h).rests e in past i (suc j) x.0 (ap phase x.1)

module _ (s : State) (g : Holds s) (i : ℕ) (c : Clear s (GoOn i)) where
  abbrev here : Node
  here = node_at s i

  size : length s.nodes ≡ s.n
  size = (in_range_size s c.in_range_lem).2

  facts : NodeFacts s.n i here
  facts = stands s (GoOn i) c

  abbrev to : ℕ
  to = callee here here.place

  to_in : (to ≤ s.n) × (to ≡ i → ⊥)
  to_in = callee_in (number s (GoOn i) c) here here.place facts.coordinator facts.place

  -- the call times out
  off_holds : (node_at s to).runs ≡ false → Holds (stored s i (timed_out s.n i here here.place))
  off_holds e =
      stored_holds s i _ size c.low c.high g
      (timed_out_safe g i c.low c.high here refl here.place refl facts.place (off_past s i to c.in_range_lem to_in.0 e))

  -- the call is done, and answered
  module _ (r : (node_at s to).runs ≡ true) where
    abbrev there : Node
    there = called i here here.place (node_at s to)

    called_aspects : aspects (stored s to there) ≡ updated (aspects s) to (aspect there)
    called_aspects = stored_aspects s to there (runner s to r) (omega (arith, size, to_in.0))

    called_holds : Holds (stored s to there)
    called_holds =
        stored_holds s to there size (runner s to r) to_in.0 g
        (called_safe g i here refl to (runner s to r) to_in.0 (node_at s to) refl to_in.1 here.place refl refl facts.place)

    answered_holds : Holds (stored (stored s to there) i (answered s.n i here here.place (node_at s to)))
    answered_holds =
        stored_holds (stored s to there) i _ (length-set s.nodes (to - 1) there ∙ size) c.low c.high called_holds
        (answered_safe called_holds i c.low c.high here
        (ap (λ (f : ℕ → Aspect). f i) called_aspects ∙ updated_other (aspects s) to (aspect there) i (λ e. to_in.1 (sym e)))
        here.place (node_at s to) refl facts.place
        (subst (λ (f : ℕ → Aspect). Answering f i here.place) (sym called_aspects)
        (answering g i here refl to (runner s to r) to_in.0 (node_at s to) refl to_in.1 here.place refl facts.place)))

  go_on_holds : Holds (go_on s i here here.place)
  unfolding go_on call
  go_on_holds = by_test Holds answered_holds off_holds

module _ (s : State) (g : Holds s) (e : Event) (c : Clear s e) where
  -- an event of its node alone
  alone : (d : Node) → Safe (updated (aspects s) (actor e) (aspect d)) → Holds (stored s (actor e) d)
  alone d = stored_holds s (actor e) d (in_range_size s c.in_range_lem).2 c.low c.high g

effect_holds : (s : State) → Holds s → (e : Event) → Clear s e → Holds (effect s e)
unfolding effect
effect_holds s g (Crash i) c = alone s g (Crash i) c _ (crashed_safe g i c.low c.high (node_at s i) refl)
effect_holds s g (Recover i) c =
    let x = (stands s (Recover i) c).rests c.runs in
    alone s g (Recover i) c _ (recovery_safe g i c.low c.high (node_at s i) refl x.0 x.1)
effect_holds s g (Check i) c = alone s g (Check i) c _ (check_safe g i c.low c.high (node_at s i) refl)
effect_holds s g (Timeout i) c = alone s g (Timeout i) c _ (timeout_safe g i c.low c.high (node_at s i) refl)
effect_holds s g (GoOn i) c = go_on_holds s g i c
effect_holds s g (Finish i t) c =
    alone s g (Finish i t) c _ (finish_safe g i c.low c.high (node_at s i) refl t (point_is (node_at s i).place (not-false _ c.place)))

-- ── runs ──
run_holds : (s : State) (es : List Event) → Holds s → Holds (run_from s es)
unfolding run_from
run_holds s [] g = g
run_holds s (e ∷ es) g = run_holds (after s e) es (by_step (λ r. Holds (kept s r)) s e (λ _. g) (λ c. effect_holds s g e c))

-- every record of the starting table, and of nobody, is the starting one
starting : (n j : ℕ) → node_at (start n) j ≡ starting_node
starting n zero = refl
starting zero (suc j) = refl
starting (suc n) (suc zero) = refl
starting (suc n) (suc (suc j)) = starting n (suc j)

start_down : (n : ℕ) → AllDown (start n)
start_down n j = rw (starting n j) (refl, refl)

-- where all are Down and idle, nobody has dealt with anybody, and nobody is led
down_holds : (s : State) → AllDown s → Holds s
down_holds s d =
    record {
      safe = record {
        suited = λ i. rw (free i) tt;
        halter_high = λ i m x. absurd (true≢false (sym (rw (d i).0 at x.election)));
        unled = λ i k o x y. rw (free i) at x;
        halter_not_past = λ a b m l x y z. rw (free a) at x;
        one_leader = λ i k o p x y. absurd (true≢false (sym (rw (d i).0 at x.active)));
        none_normal = λ i k t x y. rw (free i) at x;
        one_task = λ i k t u x y. absurd (true≢false (sym (rw (d i).0 at x.normal)));
        handed_task = λ i k t u x y. absurd (true≢false (sym (rw (d i).0 at x.normal)));
      };
      outside = λ k _. ((d k).0, free k);
    }
  where
    free : (i : ℕ) → phase (node_at s i).place ≡ Free
    free i = ap phase (d i).1

-- ── the claims ──
agreement : (s : State) → AllDown s → Agreement s
agreement s d =
    record {
      same_coordinator = λ es i j a b. (safe es).one_leader i j _ _ (record { active = a; by = refl }) (record { active = b; by = refl });
      same_task = λ es i j a b. (safe es).one_task i j _ _ (record { normal = a; task = refl }) (record { normal = b; task = refl });
    }
  where
    safe : (es : List Event) → Safe (aspects (run_from s es))
    safe es = (run_holds s es (down_holds s d)).safe

pub agrees_from_down : AgreesFromDown
agrees_from_down = record { from_start = λ n. agreement (start n) (start_down n); from_down = agreement }
