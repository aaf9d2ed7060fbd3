-- What is claimed of sets of nodes, for every number of nodes n up to 16 at once: s and t are any sets of nodes of 1 to n, and i and j any of these nodes,
-- where nothing else is said. The proofs are in proofs/.
use Rattle.std.specs.Prelude.{ℕ, ◌+◌, ◌-◌, ◌^◌, ◌≤◌, ◌<◌, true, false, ◌≡◌}
use Rattle.node_set.specs.NodeSet.{has, with, without, highest, count, up_to, within}

pub record SetLaws (n : ℕ) : Type 0 where
  -- `within n s` says that s has no node above n, of any mask of 16 bits
  pub none_above : (s j : ℕ) → within n s ≡ true → n < j → has s j ≡ false
  pub within_all : (s : ℕ) → s < 2 ^ 16 → ((j : ℕ) → n < j → has s j ≡ false) → within n s ≡ true
  -- sets that have the same nodes are the same
  pub same : (s t : ℕ) → within n s ≡ true → within n t ≡ true → ((j : ℕ) → 1 ≤ j → j ≤ n → has s j ≡ has t j) → s ≡ t
  -- the empty set has no node
  pub empty_within : within n 0 ≡ true
  pub empty_lacks : (j : ℕ) → has 0 j ≡ false
  -- the set of all nodes has each of them
  pub all_within : within n (up_to n) ≡ true
  pub all_has : (j : ℕ) → 1 ≤ j → j ≤ n → has (up_to n) j ≡ true
  -- s and node i: it has i, and of the others those that s has
  pub with_within : (s i : ℕ) → within n s ≡ true → 1 ≤ i → i ≤ n → within n (with s i) ≡ true
  pub with_has : (s i : ℕ) → has (with s i) i ≡ true
  pub with_others : (s i j : ℕ) → 1 ≤ i → 1 ≤ j → (j ≡ i → ⊥) → has (with s i) j ≡ has s j
  -- node i is bit i - 1 of the mask
  pub with_adds : (s i : ℕ) → 1 ≤ i → i ≤ n → has s i ≡ false → with s i ≡ s + 2 ^ (i - 1)
  -- s but for node i: it lacks i, and has all others that s has
  pub without_within : (s i : ℕ) → within n s ≡ true → within n (without s i) ≡ true
  pub without_lacks : (s i : ℕ) → has (without s i) i ≡ false
  pub without_others : (s i j : ℕ) → within n s ≡ true → 1 ≤ i → i ≤ n → 1 ≤ j → (j ≡ i → ⊥) → has (without s i) j ≡ has s j
  -- the highest of a set that is not empty is in it, and no node of the set is above it
  pub highest_has : (s : ℕ) → within n s ≡ true → 0 < s → has s (highest s) ≡ true
  pub highest_most : (s j : ℕ) → within n s ≡ true → has s j ≡ true → j ≤ highest s
  pub highest_none : highest 0 ≡ 0
  -- the count: none of the empty set, one more with a node that was not in it, one less without one that was
  pub count_none : count 0 ≡ 0
  pub count_with : (s i : ℕ) → within n s ≡ true → 1 ≤ i → i ≤ n → has s i ≡ false → count (with s i) ≡ count s + 1
  pub count_without : (s i : ℕ) → within n s ≡ true → has s i ≡ true → count (without s i) + 1 ≡ count s
  pub count_within : (s : ℕ) → within n s ≡ true → count s ≤ n
  -- two sets without a common node have together at most n
  pub count_disjoint : (s t : ℕ) → within n s ≡ true → within n t ≡ true → ((j : ℕ) → 1 ≤ j → j ≤ n → has s j ≡ true → has t j ≡ true → ⊥) → count s + count t ≤ n
