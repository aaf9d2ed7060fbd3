-- Every table of a run is in range.
use Prim.Native.Nat.{ℕ, zero, suc, ◌-◌, ◌≤◌}
use native.Mathlib.Omega.{arith}
use mathlib.Core.Bool.{true, true≢false}
use mathlib.Core.Path.{◌≡◌, refl, sym, ◌∙◌, subst}
use mathlib.Core.List.{List, [], ◌∷◌}
use lib.ListN.{length, length-set, length-replicate}
use borrow.Author.Tests.{eq-eqb, le-leb, not-false}
use Rattle.node_set.proofs.Laws.{empty_within, empty_lacks}
use Rattle.model.specs.Pick.{by_test}
use Rattle.model.specs.Limits.{node_limit}
use Rattle.model.proofs.Fields.{given_is}
use Rattle.model.proofs.InRange.{every_set, every_replicate}
use Rattle.bully_model.specs.Calls.{callee}
use Rattle.bully_model.specs.Range.{node_in_range}
use Rattle.bully_model.specs.State.{State, starting_node, start, node_at, stored, in_range}
use Rattle.bully_model.specs.Step.{call, go_on, effect, actor, kept, after, run_from, run}
use Rattle.bully_model.specs.Claims.{StaysInRange}
use Rattle.bully_model.proofs.Judged.{Clear, by_step, accepted_is, in_range_not_one}
use Rattle.bully_model.proofs.Fields.{NodeFacts, is_node_lem, in_range_size, in_range_nodes, in_range_node}
use Rattle.model.proofs.Range.{Numbered}
use Rattle.bully_model.proofs.Range.{crashed_in, recovery_in, check_in, timeout_in, finish_in, callee_in, answered_in, timed_out_in, called_in}
use Rattle.bully_model.specs.declared.Node.{Node}
use Rattle.bully_model.specs.declared.Event.{Event}
use Rattle.bully_model.specs.declared.Event.TheVariants.{Crash, Recover, Check, Timeout, GoOn, Finish}

-- a record in range, stored in a table in range
stored_in : (s : State) (i : ℕ) (c : Node) → in_range s ≡ true → 1 ≤ i → NodeFacts s.n i c → in_range (stored s i c) ≡ true
unfolding in_range
stored_in s i c e l x =
    rw (
      le-leb 1 s.n size.0,
      le-leb s.n node_limit size.1,
      eq-eqb _ s.n (length-set s.nodes (i - 1) c ∙ size.2),
      every_set (node_in_range s.n) 1 s.nodes (i - 1) c (in_range_nodes s e) (subst (λ (j : ℕ). node_in_range s.n j c ≡ true) (omega arith) (is_node_lem s.n i c x)),
    )
  where
    size : (1 ≤ s.n) × (s.n ≤ 16) × (length s.nodes ≡ s.n)
    size = in_range_size s e

-- who runs is not 0
pub runner : (s : State) (j : ℕ) → (node_at s j).runs ≡ true → 1 ≤ j
runner s zero r = absurd (true≢false (sym r))
runner s (suc j) r = omega arith

module _ (s : State) (e : Event) (c : Clear s e) where
  pub number : Numbered s.n (actor e)
  number = record { low = c.low; high = c.high; small = (in_range_size s c.in_range_lem).1 }

  -- the event's node as it stands
  pub stands : NodeFacts s.n (actor e) (node_at s (actor e))
  stands = in_range_node s (actor e) c.in_range_lem c.low c.high

  store : (d : Node) → NodeFacts s.n (actor e) d → in_range (stored s (actor e) d) ≡ true
  store d = stored_in s (actor e) d c.in_range_lem c.low

go_on_in : (s : State) (i : ℕ) → Clear s (GoOn i) → in_range (go_on s i (node_at s i) (node_at s i).place) ≡ true
unfolding go_on call
go_on_in s i c =
    by_test (λ (u : State). in_range u ≡ true)
    (λ r.
    let l = runner s j r in
    stored_in (stored s j _) i _
    (stored_in s j _ c.in_range_lem l (called_in a j to.1 (node_at s j) r (in_range_node s j c.in_range_lem l to.0) (node_at s i) (node_at s i).place x.task))
    c.low (answered_in a (node_at s i) (node_at s i).place (node_at s j) runs x x.place))
    (λ _. stored_in s i _ c.in_range_lem c.low (timed_out_in a (node_at s i) (node_at s i).place runs x x.place))
  where
    a : Numbered s.n i
    a = number s (GoOn i) c

    x : NodeFacts s.n i (node_at s i)
    x = stands s (GoOn i) c

    runs : (node_at s i).runs ≡ true
    runs = not-false _ c.runs

    j : ℕ
    j = callee (node_at s i) (node_at s i).place

    to : (j ≤ s.n) × (j ≡ i → ⊥)
    to = callee_in a (node_at s i) (node_at s i).place x.coordinator x.place

effect_in : (s : State) (e : Event) → Clear s e → in_range (effect s e) ≡ true
unfolding effect
effect_in s (Crash i) c = store s (Crash i) c _ (crashed_in (number s (Crash i) c) (node_at s i) (stands s (Crash i) c))
effect_in s (Recover i) c = store s (Recover i) c _ (recovery_in (number s (Recover i) c) (node_at s i) (stands s (Recover i) c))
effect_in s (Check i) c = store s (Check i) c _ (check_in (number s (Check i) c) (node_at s i) (not-false _ c.runs) (stands s (Check i) c))
effect_in s (Timeout i) c = store s (Timeout i) c _ (timeout_in (number s (Timeout i) c) (node_at s i) (not-false _ c.runs) (stands s (Timeout i) c))
effect_in s (GoOn i) c = go_on_in s i c
effect_in s (Finish i t) c =
    store s (Finish i t) c _
    (finish_in (number s (Finish i t) c) (node_at s i) t (not-false _ c.runs) (given_is t.number (not-false _ c.task)).high (stands s (Finish i t) c))

-- ── the claims ──
start_in : (n : ℕ) → 1 ≤ n → n ≤ node_limit → in_range (start n) ≡ true
unfolding in_range
start_in n l h =
    rw (
      le-leb 1 n l,
      le-leb n node_limit h,
      eq-eqb _ n (length-replicate n starting_node),
      every_replicate (node_in_range n) 1 n starting_node (λ j. is_node_lem n j starting_node (starting j)),
    )
  where
    starting : (j : ℕ) → NodeFacts n j starting_node
    starting j =
        record {
          coordinator = omega arith;
          task = omega arith;
          halter = omega arith;
          up = record { inside = empty_within n; lacks = empty_lacks j };
          rests = λ _. (refl, refl);
          place = tt;
        }

run_in : (s : State) (es : List Event) → in_range s ≡ true → in_range (run_from s es) ≡ true
unfolding run_from
run_in s [] r = r
run_in s (e ∷ es) r = run_in (after s e) es (by_step (λ x. in_range (kept s x) ≡ true) s e (λ _. r) (λ c. effect_in s e c))

pub stays_in_range : StaysInRange
stays_in_range =
    record {
      starts = start_in;
      keeps = λ s e u q. let a = accepted_is s e u q in subst (λ (v : State). in_range v ≡ true) (sym a.state) (effect_in s e a.clear);
      runs = λ n l h es. run_in (start n) es (start_in n l h);
      never_one = λ n l h es e. in_range_not_one (run n es) e (run_in (start n) es (start_in n l h));
    }
