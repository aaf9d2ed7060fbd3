-- Laws for the code over a table: what a table's array is, the record of a node and one stored, and the bounds of a set's highest node.
use Prim.Native.Nat.{ℕ, zero, suc, ◌-◌, ◌≤◌, ◌<◌}
use native.Mathlib.Omega.{arith}
use mathlib.Core.Path.{◌≡◌, refl, sym, ap}
use mathlib.Core.List.{List}
use lib.ListN.{length, get_or, take, set}
use lib.Seq.{get_or-take}
use mir.Val.{Val}
use denote.Laws.{Is}
use denote.Array.{Array}
use denote.Struct.Declared.{row}
use borrow.Author.Tests.{le-leb, eq-eqb}
use Rattle.node_set.specs.NodeSet.{highest}
use Rattle.node_set.proofs.Laws.{lt_within, highest_in}
use Rattle.model.specs.State.{every, first_of}
use Rattle.model.proofs.Lists.{first_take, first_length, first_set, first_replicate}
use Rattle.bully_model.specs.Range.{node_in_range}
use Rattle.bully_model.specs.State.{State, starting_node, start, node_at, stored, in_range, view}
use Rattle.bully_model.specs.declared.Node.{Node}
use Rattle.bully_model.specs.declared.Table.{Table}
use Rattle.bully_model.specs.contracts.Node as node
use Rattle.bully_model.specs.contracts.Table as T
use Rattle.bully_machine.specs.Stepped.{starting_table}

-- the highest node of a set that is not empty can be taken out of it
pub highest_fits : (s : ℕ) → s < 65536 → (s ≡ 0 → ⊥) → (1 ≤ highest s) × (highest s ≤ 16)
highest_fits s h n = highest_in 16 s (omega arith) (lt_within 16 s h) (omega arith)

-- ── a table's array: its first n records ──

-- how long it is: `c.well_formed` has the relation, of each parameter
pub sized : (t : Table) {vs : List Val} → Is (row T.the_type) t vs → length t.nodes ≡ 16
sized t g = g.1.1.1.0.1.0.1

pub nodes_long : (cs : List Node) {vs : List Val} → Is (Array (row node.the_type) 16) cs vs → length cs ≡ 16
nodes_long cs g = g.1.0.1

-- 0 is nobody's number
pub nobody : (t : Table) (i : ℕ) → i ≡ 0 → starting_node ≡ node_at (view t) i
nobody t i e = rw e refl

module _ (t : Table) (long : length t.nodes ≡ 16) (small : t.n ≤ 16) where
  view_nodes : (view t).nodes ≡ take t.n t.nodes
  view_nodes = first_take t.n starting_node t.nodes (omega arith)

  -- the record of node i
  pub node_is : (i : ℕ) → 1 ≤ i → i ≤ t.n → get_or t.nodes (i - 1) starting_node ≡ node_at (view t) i
  node_is zero l h = absurd (omega arith)
  node_is (suc i) l h =
      let e : suc i - 1 ≡ i = omega arith in
      rw (e, view_nodes) (sym (get_or-take t.n t.nodes i starting_node (omega arith)))

  -- a record stored
  pub stored_is : (i : ℕ) (c : Node) → 1 ≤ i → i ≤ t.n
      → ◌≡◌ {A = State} (record { n = t.n; nodes = first_of t.n starting_node (set t.nodes (i - 1) c) }) (stored (view t) i c)
  stored_is i c l h =
      ap (λ (cs : List Node). record { n = t.n; nodes = cs }) (first_set t.n (i - 1) starting_node t.nodes c (omega arith) (omega arith))

  -- the range, once n is good
  pub in_range_is : 1 ≤ t.n → in_range (view t) ≡ every (node_in_range t.n) 1 (take t.n t.nodes)
  unfolding in_range
  in_range_is l = rw (le-leb 1 t.n l, le-leb t.n 16 small, first_length t.n starting_node t.nodes, eq-eqb t.n t.n refl, view_nodes)

-- ── the starting table ──
pub start_is : (n : ℕ) → view (starting_table n) ≡ start n
start_is n = ap (λ (cs : List Node). record { n = n; nodes = cs }) (first_replicate n 16 starting_node)
