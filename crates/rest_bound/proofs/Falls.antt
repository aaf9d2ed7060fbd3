-- The potential over a table and a list of events: the claims `PotentialFalls` and `ComesToRest`.
use Prim.Native.Nat.{ℕ, zero, suc, ◌+◌, ◌-◌, ◌*◌, ◌<◌, ◌≤◌}
use native.Mathlib.Omega.{arith}
use native.Mathlib.Nat.{mul-le-mul, suc-mul}
use mathlib.Core.Bool.{true, true≢false}
use mathlib.Core.Path.{◌≡◌, refl, sym, ap, subst}
use mathlib.Core.List.{List, [], ◌∷◌, ◌++◌}
use lib.ListN.{length, get_or, set}
use borrow.Author.Tests.{not-false}
use Rattle.model.specs.React.{react}
use Rattle.model.specs.Range.{PairRule, TwoPairs, LeftOut, node_in_range}
use Rattle.model.specs.State.{State, starting_node, start_by, node_at, waits, oldest, without_oldest, every, in_range}
use Rattle.model.specs.Step.{actor, reaction_to, remaining, sent, effect, step, kept, after, run_from, run_by}
use Rattle.model.specs.Traffic.{of_accepted, tally, accepted_from}
use Rattle.model.specs.Claims.{RunHolds}
use Rattle.model.proofs.Judged.{Clear, by_step, accepted_is}
use Rattle.model.proofs.Local.{both_left, both_right}
use Rattle.model.proofs.Locality.{taken_out}
use Rattle.model.proofs.Fields.{node_facts, in_range_own, in_range_size, in_range_nodes}
use Rattle.model.proofs.Range.{Numbered}
use Rattle.model.proofs.Traffic.{run_n}
use Rattle.model.proofs.TowerAndStand.{tower_and_stand}
use Rattle.model.specs.declared.Limits.{Limits}
use Rattle.model.specs.declared.Node.{Node}
use Rattle.model.specs.declared.Message.{Message}
use Rattle.std.specs.Prelude.{Option, None, Some}
use Rattle.model.specs.declared.Event.{Event}
use Rattle.model.specs.declared.Event.TheVariants.{Crash, Recover, Check, Timeout, Tick, Expire, Finish, Deliver, Lose}
use Rattle.rest_bound.specs.Quiet.{quiet, all_quiet}
use Rattle.rest_bound.specs.Potential.{message_weight, node_weight, nodes_weight, queue_weight, potential, node_suits, suited, rest_bound}
use Rattle.rest_bound.specs.Claims.{PotentialFalls, RunRests, ComesToRest}
use Rattle.rest_bound.proofs.Suits.{place, facts, here_suits, effect_suits, step_suits, runs_suit}
use Rattle.rest_bound.proofs.Weights.{kind_some, kind_most, outgoing_weight, ticked_below, expired_below, received_below, finishes_below, node_most}

-- ── sums ──

-- one record stored
nodes_set : (n k : ℕ) (l : List Node) (j : ℕ) (c d : Node) → j < length l
    → nodes_weight n k (set l j c) + node_weight n (k + j) (get_or l j d) ≡ nodes_weight n k l + node_weight n (k + j) c
unfolding nodes_weight
nodes_set n k [] j c d h = absurd (omega arith)
nodes_set n k (x ∷ l) zero c d h =
    let e : k ≡ k + 0 = omega arith in
    let r : node_weight n k c + nodes_weight n (k + 1) l + node_weight n k x ≡ node_weight n k x + nodes_weight n (k + 1) l + node_weight n k c = omega arith in
    subst (λ (i : ℕ). node_weight n k c + nodes_weight n (k + 1) l + node_weight n i x ≡ node_weight n k x + nodes_weight n (k + 1) l + node_weight n i c) e r
nodes_set n k (x ∷ l) (suc j) c d h =
    let e : k + 1 + j ≡ k + suc j = omega arith in
    let r = subst (λ (i : ℕ). nodes_weight n (k + 1) (set l j c) + node_weight n i (get_or l j d) ≡ nodes_weight n (k + 1) l + node_weight n i c) e (nodes_set n (k + 1) l j c d (omega arith)) in
    omega (arith, r)

queue_append : (q r : List Message) → queue_weight (q ++ r) ≡ queue_weight q + queue_weight r
unfolding queue_weight
queue_append [] r = omega arith
queue_append (m ∷ q) r = omega (arith, queue_append q r)

queue_without : (a b : ℕ) (q : List Message) → waits a b q ≡ true → queue_weight (without_oldest a b q) + message_weight (oldest a b q) ≡ queue_weight q
unfolding queue_weight
queue_without a b q w =
    let x = taken_out a b q w in
    omega (arith, ap queue_weight x.whole, ap queue_weight x.left, queue_append x.before (x.taken ∷ x.behind), queue_append x.before x.behind, ap (λ (m : Message). message_weight m) x.oldest_is)

queue_sent : (o : Option Message) → queue_weight (sent o) ≡ outgoing_weight o
unfolding queue_weight
queue_sent None = refl
queue_sent (Some m) = omega arith

queue_most : (q : List Message) → queue_weight q ≤ 4 * length q
unfolding queue_weight
queue_most [] = omega arith
queue_most (m ∷ q) = omega (arith, kind_most m.kind, queue_most q)

pub queue_least : (q : List Message) → length q ≤ queue_weight q
unfolding queue_weight
queue_least [] = omega arith
queue_least (m ∷ q) = omega (arith, kind_some m.kind, queue_least q)

-- ── an accepted event ──

-- what the event's node and its message weighed more than what came of them
abbrev Lowered : State → Event → Type 0
Lowered s e =
    node_weight s.n (actor e) (reaction_to s e).node + outgoing_weight (reaction_to s e).outgoing + queue_weight (remaining s e)
    < node_weight s.n (actor e) (node_at s (actor e)) + queue_weight s.queue

module _ (s : State) (ok : suited s ≡ true) where
  lowered : (e : Event) → quiet e ≡ true → Clear s e → Lowered s e
  unfolding reaction_to react remaining
  lowered (Crash i) q c = absurd (true≢false (sym q))
  lowered (Recover i) q c = absurd (true≢false (sym q))
  lowered (Check i) q c = absurd (true≢false (sym q))
  lowered (Timeout i) q c = absurd (true≢false (sym q))
  lowered (Tick i) q c =
      let f = facts s (Tick i) c in
      omega (arith, ticked_below (place s (Tick i) c) (node_at s i) f (node_at s i).activity (not-false _ c.activity) (here_suits s ok (Tick i) c) f.activity)
  lowered (Expire i) q c =
      let f = facts s (Expire i) c in
      omega (arith, expired_below (place s (Expire i) c) (node_at s i) f (node_at s i).activity (not-false _ c.activity) (here_suits s ok (Expire i) c) f.activity)
  lowered (Finish i t) q c = omega (arith, finishes_below (place s (Finish i t) c) (node_at s i) (facts s (Finish i t) c) t (not-false _ c.activity))
  lowered (Deliver a b) q c =
      omega (arith, queue_without a b s.queue (not-false _ c.waiting), received_below (place s (Deliver a b) c) (node_at s b) (facts s (Deliver a b) c) (oldest a b s.queue) c.status (here_suits s ok (Deliver a b) c))
  lowered (Lose a b) q c = omega (arith, queue_without a b s.queue (not-false _ c.waiting), kind_some (oldest a b s.queue).kind)

  effect_lower : (e : Event) → quiet e ≡ true → Clear s e → potential (effect s e) < potential s
  unfolding effect
  effect_lower e q c =
      let p = place s e c in
      let k : 1 + (actor e - 1) ≡ actor e = omega (arith, p.low) in
      let r = subst (λ (i : ℕ). nodes_weight s.n 1 (set s.nodes (actor e - 1) (reaction_to s e).node) + node_weight s.n i (node_at s (actor e)) ≡ nodes_weight s.n 1 s.nodes + node_weight s.n i (reaction_to s e).node) k
      (nodes_set s.n 1 s.nodes (actor e - 1) (reaction_to s e).node starting_node (omega (arith, p.low, p.high, (in_range_size s c.in_range_lem).2))) in
      omega (arith, r, lowered e q c, queue_append (remaining s e) (sent (reaction_to s e).outgoing), queue_sent (reaction_to s e).outgoing)

-- ── the claims ──

-- what the accepted events cost was there
pub accepted_within : (s : State) (es : List Event) → suited s ≡ true → all_quiet es ≡ true → accepted_from s es + potential (run_from s es) ≤ potential s
unfolding tally all_quiet run_from
accepted_within s [] ok q = omega arith
accepted_within s (e ∷ es) ok q =
    let l : of_accepted 1 (step s e) + potential (after s e) ≤ potential s
    = by_step (λ r. of_accepted 1 r + potential (kept s r) ≤ potential s) s e (λ _. omega arith) (λ c _. omega (arith, effect_lower s ok e (both_left (quiet e) _ q) c)) in
    omega (arith, l, accepted_within (after s e) es (step_suits s ok e) (both_right (quiet e) _ q))

nodes_most : (n k : ℕ) (l : List Node) → n ≤ 16 → 1 ≤ k → length l + k ≤ n + 1 → every (node_in_range n) k l ≡ true → every (node_suits n) k l ≡ true
    → nodes_weight n k l ≤ length l * (21 * (n - 1) + 3)
unfolding nodes_weight every
nodes_most n k [] small low h r ok = omega arith
nodes_most n k (c ∷ l) small low h r ok =
    let x = node_facts n k c (both_left (node_in_range n k c) _ r) in
    let p : Numbered n k = record { low = low; high = omega arith; small = small } in
    omega (arith, suc-mul (length l) (21 * (n - 1) + 3), node_most p c x (both_left (node_suits n k c) _ ok), nodes_most n (k + 1) l small (omega arith) (omega arith) (both_right (node_in_range n k c) _ r) (both_right (node_suits n k c) _ ok))

pub potential_most : (s : State) → in_range s ≡ true → suited s ≡ true → potential s ≤ rest_bound s.n (length s.queue)
unfolding suited
potential_most s r ok =
    let z = in_range_size s r in
    let x = nodes_most s.n 1 s.nodes z.1 (omega arith) (omega (arith, z.2)) (in_range_nodes s r) ok in
    let y = subst (λ (k : ℕ). nodes_weight s.n 1 s.nodes ≤ k * (21 * (s.n - 1) + 3)) z.2 x in
    omega (arith, y, queue_most s.queue)

pub potential_falls : PotentialFalls
potential_falls =
    record {
      keeps = λ s e u k ok z. let a = accepted_is s e u k z in subst (λ (v : State). suited v ≡ true) (sym a.state) (effect_suits s ok e a.clear);
      falls = λ s e u k ok q z. let a = accepted_is s e u k z in subst (λ (v : State). potential v < potential s) (sym a.state) (effect_lower s ok e q a.clear);
      at_most = λ s es ok q. omega (arith, accepted_within s es ok q);
      bounded = potential_most;
    }

-- a table of a run: what it weighs, and how many messages wait in it at the most
module _ (r : PairRule) (n : ℕ) (lim : Limits) (h : RunHolds r n lim) (es : List Event) where
  pub run_size : (run_by r n lim es).n ≡ n
  run_size = run_n (start_by r n lim) es

  pub run_potential : potential (run_by r n lim es) ≤ rest_bound n (length (run_by r n lim es).queue)
  run_potential =
      subst (λ (k : ℕ). potential (run_by r n lim es) ≤ rest_bound k (length (run_by r n lim es).queue)) run_size
      (potential_most (run_by r n lim es) (h.in_range_lem es) (runs_suit r n lim es))

  pub run_waiting : length (run_by r n lim es).queue ≤ lim.messages
  run_waiting = subst (λ (l : Limits). length (run_by r n lim es).queue ≤ l.messages) (h.same_limits es) (in_range_own (run_by r n lim es) (h.in_range_lem es)).1

pub run_rests : (r : PairRule) (n : ℕ) (lim : Limits) → RunHolds r n lim → RunRests r n lim
run_rests r n lim h =
    record {
      suits = runs_suit r n lim;
      rests = rests;
      full = λ es fs q. omega (arith, rests es fs q, run_waiting r n lim h es);
    }
  where
    rests : (es fs : List Event) → all_quiet fs ≡ true → accepted_from (run_by r n lim es) fs ≤ rest_bound n (length (run_by r n lim es).queue)
    rests es fs q = omega (arith, accepted_within (run_by r n lim es) fs (runs_suit r n lim es) q, run_potential r n lim h es)

-- the bound grows with n
pub bound_most : (n m q : ℕ) → n ≤ m → rest_bound n q ≤ rest_bound m q
bound_most n m q h = omega (arith, mul-le-mul h (grows h))
  where
    grows : n ≤ m → 21 * (n - 1) + 3 ≤ 21 * (m - 1) + 3
    grows h = omega arith

pub comes_to_rest : ComesToRest
comes_to_rest =
    record {
      for_tower = tower;
      for_stand = stand;
      any_limits = λ n lim a b low high. run_rests LeftOut n lim (tower_and_stand.any_limits n lim a b low high);
      any_shown = λ n lim a b low high es fs q. omega (arith, (run_rests LeftOut n lim (tower_and_stand.any_limits n lim a b low high)).full es fs q, bound_most n 16 lim.messages (omega arith));
      tower_asked = λ n low high es fs q. omega (arith, (tower n low high).full es fs q, bound_most n 16 64 high);
      stand_asked = λ n low high es fs q. omega (arith, (stand n low high).full es fs q, bound_most n 4 12 high);
      tower_shown = λ n low high es fs q. omega (arith, (tower n low high).full es fs q, bound_most n 16 64 high);
      stand_shown = λ n low high es fs q. omega (arith, (stand n low high).full es fs q, bound_most n 4 12 high);
    }
  where
    tower : (n : ℕ) → 1 ≤ n → n ≤ 16 → RunRests TwoPairs n (record { nodes = 16; messages = 64 })
    tower n low high = run_rests TwoPairs n (record { nodes = 16; messages = 64 }) (tower_and_stand.for_tower n low high)

    stand : (n : ℕ) → 1 ≤ n → n ≤ 4 → RunRests TwoPairs n (record { nodes = 4; messages = 12 })
    stand n low high = run_rests TwoPairs n (record { nodes = 4; messages = 12 }) (tower_and_stand.for_stand n low high)
