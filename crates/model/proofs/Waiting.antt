-- A table in which all that was sent still waits: its counts are in range where its nodes and messages are.
use Prim.Native.Nat.{ℕ, ◌+◌, ◌≤◌}
use native.Mathlib.Omega.{arith}
use native.Mathlib.Nat.{le_trans}
use mathlib.Core.Bool.{Bool, true, false}
use mathlib.Core.Path.{◌≡◌, ◌∙◌}
use mathlib.Core.List.{List, [], ◌∷◌}
use lib.Dec.{eqb, leb}
use lib.ListN.{length, length-set, length-replicate}
use borrow.Author.Tests.{leb-true, eq-eqb}
use Rattle.model.specs.Counts.{count_at, no_counts, one}
use Rattle.model.specs.Range.{PairRule, pair_rule, is_within_tower, node_in_range, message_in_range, count_in_range, is_pair}
use Rattle.model.specs.State.{in_range, goes, how_many, waiting, counts_of, all_waiting_by, every, up_to, adds_up, base_in_range, counts_in_range, traffic_in_range}
use Rattle.model.proofs.Local.{both_left, both_right}
use Rattle.model.proofs.Fields.{Counting, Hold, parts}
use Rattle.model.proofs.Counts.{more_at, none_counted, up_to_all, pair_counting}
use Rattle.model.proofs.InRange.{every_replicate, more_each, none_in}
use Rattle.model.specs.declared.Limits.{Limits}
use Rattle.model.specs.declared.Node.{Node}
use Rattle.model.specs.declared.Message.{Message}

pub many_few : (f : Message → Bool) (q : List Message) → how_many f q ≤ length q
unfolding how_many
many_few f [] = omega arith
many_few f (m ∷ ms) = omega (arith, many_few f ms, small (f m))
  where
    small : (t : Bool) → one t ≤ 1
    small true = omega arith
    small false = omega arith

pub counts_long : (q : List Message) → length (counts_of q) ≡ 256
unfolding counts_of
counts_long [] = length-replicate {A = ℕ} 256 0
counts_long (m ∷ ms) = length-set (counts_of ms) _ _ ∙ counts_long ms

module _ (n : ℕ) (small : n ≤ 16) where
  message_pair : (m : Message) → message_in_range n m ≡ true → is_pair n m.sender m.receiver ≡ true
  unfolding message_in_range
  message_pair m e = both_left _ _ (both_left _ _ (both_left _ _ (both_left _ _ e)))

  pub counts_at : (k : ℕ) (q : List Message) → every (λ j. message_in_range n) k q ≡ true → (a b : ℕ) → Counting a b → count_at (counts_of q) a b ≡ waiting q a b
  unfolding every counts_of how_many
  counts_at k [] e a b p = none_counted a b p
  counts_at k (m ∷ ms) e a b p =
      let x = pair_counting n m.sender m.receiver small (message_pair m (both_left (message_in_range n m) _ e)) in
      omega (arith, more_at (counts_of ms) m.sender m.receiver a b (counts_long ms) x p, counts_at (k + 1) ms (both_right (message_in_range n m) _ e) a b p)

  counts_each : (k : ℕ) (q : List Message) → every (λ j. message_in_range n) k q ≡ true → length q ≤ 64 → every (count_in_range n) 0 (counts_of q) ≡ true
  unfolding every counts_of
  counts_each k [] e h = every_replicate (count_in_range n) 0 256 0 (none_in n)
  counts_each k (m ∷ ms) e h =
      let r = both_right (message_in_range n m) _ e in
      let x = message_pair m (both_left (message_in_range n m) _ e) in
      let c = counts_at (k + 1) ms r m.sender m.receiver (pair_counting n m.sender m.receiver small x) in
      more_each n (counts_of ms) m.sender m.receiver small x (counts_each (k + 1) ms r (omega arith)) (omega (arith, c, many_few (goes m.sender m.receiver) ms))

pub waiting_in : (rule : PairRule) (n : ℕ) (lim : Limits) (cs : List Node) (q : List Message) → pair_rule rule lim ≡ true → is_within_tower lim ≡ true → base_in_range lim n cs q ≡ true
    → in_range (all_waiting_by rule n lim cs q) ≡ true
unfolding in_range traffic_in_range counts_in_range
waiting_in rule n lim cs q p w e =
    rw (
      p,
      w,
      e,
      eq-eqb _ 256 (counts_long q),
      counts_each n small 1 q each few,
      every_replicate (count_in_range n) 0 256 0 (none_in n),
      up_to_all n (λ a. up_to n (λ b. adds_up (all_waiting_by rule n lim cs q) a b)) (λ a i j. up_to_all n (λ b. adds_up (all_waiting_by rule n lim cs q) a b) (λ b k m.
          let p : Counting a b = record { low = i; high = omega (arith, small); low_to = k; high_to = omega (arith, small) } in
          eq-eqb (count_at (counts_of q) a b) (count_at no_counts a b + count_at no_counts a b + waiting q a b) (omega (arith, counts_at n small 1 q each a b p, none_counted a b p)))),
    )
  where
    -- the tests after the first
    tests : Hold (leb 1 n ∷ leb n lim.nodes ∷ eqb (length cs) n ∷ leb (length q) lim.messages ∷ every (node_in_range n) 1 cs ∷ every (λ k. message_in_range n) 1 q ∷ [])
    tests = parts (leb 1 n) (leb n lim.nodes ∷ eqb (length cs) n ∷ leb (length q) lim.messages ∷ every (node_in_range n) 1 cs ∷ every (λ k. message_in_range n) 1 q ∷ []) e

    small : n ≤ 16
    small = le_trans (leb-true n lim.nodes tests.1.0) (leb-true _ _ (both_left (leb lim.nodes 16) _ w))

    few : length q ≤ 64
    few = le_trans (leb-true (length q) lim.messages tests.1.1.1.0) (leb-true _ _ (both_right (leb lim.nodes 16) _ w))

    each : every (λ k. message_in_range n) 1 q ≡ true
    each = tests.1.1.1.1.1.0
