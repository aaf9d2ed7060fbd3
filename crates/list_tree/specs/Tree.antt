-- What the code's tree means: the lists of its states; how it is extended; and its transitions. A node is 01's cabinet, and no part of the tree.
use Rattle.std.specs.Prelude.{ℕ, ◌+◌, ◌≤◌, ◌<◌, ◌≡◌, List, [], ◌∷◌, ◌++◌, map, length, take, get_or}
use Rattle.model.specs.State.{State}
use Rattle.model.specs.Step.{Result, refused, accepted, step, run_from}
use Rattle.model.specs.declared.Event.{Event}
use Rattle.model.specs.declared.Event.TheVariants.{Crash}
use Rattle.short_lists_text.specs.Rows.{concat_map}
use Rattle.short_lists_text.specs.Lists.{alphabet}
use Rattle.aldebaran_text.specs.System.{Transition, transition, numbered}
use Rattle.aldebaran_text.specs.Text.{first_line, transition_line}
use Rattle.list_tree.specs.declared.tree.Edge.{Edge}
use Rattle.list_tree.specs.declared.tree.Tree.{Tree}

-- ── its lists ──

-- the list of the state that an edge leads into, where ls are the lists of the states before it
abbrev pub reached : List (List Event) → Edge → List Event
reached ls x = get_or ls x.source [] ++ (x.event ∷ [])

-- lists, and behind them those of the states that edges lead into, one after another
unfoldable pub lists_of_edges : List (List Event) → List Edge → List (List Event)
lists_of_edges ls [] = ls
lists_of_edges ls (x ∷ xs) = lists_of_edges (ls ++ (reached ls x ∷ [])) xs

-- what stands where there is no edge
abbrev pub no_edge : Edge
no_edge = record { source = 0; event = Crash 0 }

-- the edges that count
abbrev pub edges_in : Tree → List Edge
edges_in t = take t.count t.edges

-- the lists of the states 0, 1 and so on
unfoldable pub lists_in : Tree → List (List Event)
lists_in t = lists_of_edges ([] ∷ []) (edges_in t)

-- ── how it is extended ──

-- l with e behind it, where that was accepted; else none
abbrev pub extended : List Event → Event → Result → List (List Event)
extended l e (refused r) = []
extended l e (accepted u mark) = (l ++ (e ∷ [])) ∷ []

-- where l is an accepted list from s, the accepted lists that have one event more, in order
unfoldable pub next_of : State → List Event → List (List Event)
next_of s l = concat_map (λ e. extended l e (step (run_from s l) e)) (alphabet s.n)

-- ── what its functions require of a tree, and keep ──

pub record Sound (t : Tree) : Type 0 where
  pub some : 1 ≤ t.n
  pub few : t.n ≤ 3
  pub space : length t.edges ≡ 600
  pub within : t.count ≤ 600
  -- the edge into k + 1 comes from a state before it
  pub source_before : (k : ℕ) → k < t.count → (get_or t.edges k no_edge).source ≤ k

-- the tree for n nodes with the state 0 alone
pub record IsRoot (n : ℕ) (t : Tree) : Type 0 where
  pub sound : Sound t
  pub same : t.n ≡ n
  pub lists : lists_in t ≡ [] ∷ []

-- r is t with these lists behind its own
pub record Extends (t : Tree) (more : List (List Event)) (r : Tree) : Type 0 where
  pub sound : Sound r
  pub same : r.n ≡ t.n
  pub lists : lists_in r ≡ lists_in t ++ more

-- ── its transitions ──

-- the edge into the state b as a transition
abbrev pub edge_into : ℕ → Edge → Transition
edge_into b x = transition x.source x.event b

-- edges as transitions, of which the first leads into the state 1
abbrev pub transitions_by : List Edge → List Transition
transitions_by xs = numbered edge_into 1 xs

-- its text's lines
abbrev pub tree_lines : Tree → List (List ℕ)
tree_lines t = first_line t.count (t.count + 1) ∷ map transition_line (transitions_by (edges_in t))
