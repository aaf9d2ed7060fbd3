-- What printing a table needs: its first records, and the lines that are left at each node.
use Prim.Native.Nat.{ℕ, zero, suc, ◌+◌, ◌≤◌, ◌<◌}
use native.Mathlib.Numerals.{add-one}
use native.Mathlib.Omega.{arith}
use mathlib.Core.Path.{◌≡◌, refl, ◌∙◌, ap}
use mathlib.Core.List.{List, [], ◌∷◌, ◌++◌}
use lib.ListN.{length, get_or, drop, drop_of_length-le}
use lib.Seq.{drop-cons}
use mir.Val.{Val}
use denote.Laws.{Is}
use denote.Struct.Declared as declared
use Rattle.model.specs.declared.Node.{Node}
use Rattle.model.specs.declared.Table.{Table}
use Rattle.model.specs.contracts.Table as table
use Rattle.model.specs.State.{State, starting_node, no_message, first_of, view}
use Rattle.listing.specs.Lines.{node_line, node_lines, messages_line, total_lines, table_lines}

-- What owning a table tells of its records.
pub nodes_long : (t : Table) {vs : List Val} → Is (declared.row table.the_type) t vs → length t.nodes ≡ 16
nodes_long t g = g.1.1.1.1.0.1.0.1

first_long : {A : Type 0} (k : ℕ) (d : A) (l : List A) → length (first_of k d l) ≡ k
unfolding first_of
first_long zero d l = refl
first_long (suc k) d [] = ap suc (first_long k d [])
first_long (suc k) d (x ∷ l) = ap suc (first_long k d l)

first_at : {A : Type 0} (k : ℕ) (d : A) (l : List A) (j : ℕ) → j < k → get_or (first_of k d l) j d ≡ get_or l j d
unfolding first_of
first_at zero d l j h = let v : ⊥ = omega arith in absurd v
first_at (suc k) d [] zero h = refl
first_at (suc k) d [] (suc j) h = first_at k d [] j (omega arith)
first_at (suc k) d (x ∷ l) zero h = refl
first_at (suc k) d (x ∷ l) (suc j) h = first_at k d l j (omega arith)

-- the lines that are left when those of i nodes are printed
abbrev pub left : State → ℕ → List (List ℕ)
left s i = node_lines (i + 1) (drop i s.nodes) ++ (messages_line (length s.queue) ∷ total_lines s)

pub left_first : (s : State) → left s 0 ≡ table_lines s
unfolding table_lines
left_first s = refl

left_turn : (s : State) (i : ℕ) → i < length s.nodes → left s i ≡ node_line (i + 1) (get_or s.nodes i starting_node) ∷ left s (i + 1)
unfolding node_lines
left_turn s i h = rw (drop-cons s.nodes i starting_node h, add-one i)

-- What is left at node i, whose record is c, is its line and what is left at the next.
pub turn : (t : Table) (i : ℕ) → i < t.n → (c : Node) → c ≡ get_or t.nodes i starting_node → left (view t) i ≡ (node_line (i + 1) c ∷ []) ++ left (view t) (i + 1)
turn t i h c f =
    left_turn (view t) i (rw (first_long t.n starting_node t.nodes) h)
    ∙ rw (first_at t.n starting_node t.nodes i h, f)

-- When all nodes are printed.
pub left_end : (t : Table) (i : ℕ) → t.n ≤ i → left (view t) i ≡ messages_line t.waiting ∷ total_lines (view t)
unfolding node_lines
left_end t i h =
    let e : length (view t).nodes ≤ i = rw (first_long t.n starting_node t.nodes) h in
    rw (drop_of_length-le (view t).nodes e, first_long t.waiting no_message t.messages)
