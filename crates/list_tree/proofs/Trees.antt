-- The lists of a tree: one edge more, places, and the list of a state by its edge.
use Prim.Native.Nat.{ℕ, zero, suc, ◌+◌, ◌≤◌, ◌<◌}
use native.Mathlib.Omega.{arith}
use mathlib.Core.Bool.{Bool, true, false}
use mathlib.Core.Path.{◌≡◌, refl, sym, ◌∙◌, ap, subst}
use mathlib.Core.List.{List, [], ◌∷◌, ◌++◌, append-nil, append_assoc}
use lib.Dec.{eqb}
use lib.ListN.{length, take, get_or, set, length-append, length-set, get_or-append}
use lib.Seq.{length-take-le, take-suc-set, get_or-take, get_or_at, get_or-set_same, get_or-set_other}
use borrow.Author.Tests.{eqb-true, eqb-false}
use Rattle.model.specs.declared.Event.{Event}
use Rattle.list_tree.specs.declared.tree.Edge.{Edge}
use Rattle.list_tree.specs.declared.tree.Tree.{Tree}
use Rattle.list_tree.specs.Tree.{reached, lists_of_edges, no_edge, edges_in, lists_in, Sound, IsRoot, Extends}

-- ── lists by edges ──

by_last : (ls : List (List Event)) (xs : List Edge) (x : Edge) → lists_of_edges ls (xs ++ (x ∷ [])) ≡ lists_of_edges ls xs ++ (reached (lists_of_edges ls xs) x ∷ [])
unfolding lists_of_edges
by_last ls [] x = refl
by_last ls (y ∷ xs) x = by_last (ls ++ (reached ls y ∷ [])) xs x

by_long : (ls : List (List Event)) (xs : List Edge) → length (lists_of_edges ls xs) ≡ length ls + length xs
unfolding lists_of_edges
by_long ls [] = omega arith
by_long ls (x ∷ xs) = by_long (ls ++ (reached ls x ∷ [])) xs ∙ omega (arith, length-append ls (reached ls x ∷ []))

by_keeps : (ls : List (List Event)) (xs : List Edge) (i : ℕ) → i < length ls → get_or (lists_of_edges ls xs) i [] ≡ get_or ls i []
unfolding lists_of_edges
by_keeps ls [] i h = refl
by_keeps ls (x ∷ xs) i h = by_keeps (ls ++ (reached ls x ∷ [])) xs i (omega (arith, h, length-append ls (reached ls x ∷ []))) ∙ get_or-append ls (reached ls x ∷ []) [] i h

-- the list of the state behind the edge at place k, by the lists themselves
by_edge : (ls : List (List Event)) (xs : List Edge) (k : ℕ) → k < length xs → (get_or xs k no_edge).source < length ls + k → get_or (lists_of_edges ls xs) (length ls + k) [] ≡ reached (lists_of_edges ls xs) (get_or xs k no_edge)
unfolding lists_of_edges
by_edge ls [] k h f = absurd (omega arith)
by_edge ls (x ∷ xs) zero h f =
    let m = ls ++ (reached ls x ∷ []) in
    let z : length ls + 0 ≡ length ls = omega arith in
    let l = length-append ls (reached ls x ∷ []) in
    ap (λ i. get_or (lists_of_edges m xs) i []) z
    ∙ (by_keeps m xs (length ls) (omega (arith, l))
    ∙ (get_or_at ls (reached ls x) [] [] (length ls) refl
    ∙ ap (λ r. r ++ (x.event ∷ [])) (sym (by_keeps m xs x.source (omega (arith, l, f)) ∙ get_or-append ls (reached ls x ∷ []) [] x.source (omega (arith, f))))))
by_edge ls (x ∷ xs) (suc k) h f =
    let m = ls ++ (reached ls x ∷ []) in
    let l = length-append ls (reached ls x ∷ []) in
    let z : length ls + suc k ≡ length m + k = omega (arith, l) in
    ap (λ i. get_or (lists_of_edges m xs) i []) z ∙ by_edge m xs k (omega arith) (omega (arith, l, f))

-- ── of a tree ──

module _ (t : Tree) (ok : Sound t) where
  pub edges_long : length (edges_in t) ≡ t.count
  edges_long = let a = ok.space in let b = ok.within in length-take-le t.count t.edges (omega arith)

  pub lists_long : length (lists_in t) ≡ t.count + 1
  unfolding lists_in
  lists_long = by_long ([] ∷ []) (edges_in t) ∙ omega (arith, edges_long)

  pub lists_first : get_or (lists_in t) 0 [] ≡ []
  unfolding lists_in
  lists_first = by_keeps ([] ∷ []) (edges_in t) 0 (omega arith)

  pub edge_at : (k : ℕ) → k < t.count → get_or (edges_in t) k no_edge ≡ get_or t.edges k no_edge
  edge_at k h = get_or-take t.count t.edges k no_edge h

  -- the list of the state k + 1
  pub list_at : (k : ℕ) → k < t.count → get_or (lists_in t) (k + 1) [] ≡ reached (lists_in t) (get_or t.edges k no_edge)
  unfolding lists_in
  list_at k h =
      let f = ok.source_before k h in
      let e = edge_at k h in
      let z : k + 1 ≡ 1 + k = omega arith in
      let g : (get_or (edges_in t) k no_edge).source ≤ k = subst (λ (x : Edge). x.source ≤ k) (sym e) f in
      ap (λ i. get_or (lists_of_edges ([] ∷ []) (edges_in t)) i []) z
      ∙ (by_edge ([] ∷ []) (edges_in t) k (omega (arith, h, edges_long)) (omega (arith, g)) ∙ ap (reached (lists_of_edges ([] ∷ []) (edges_in t))) e)

-- ── one edge more ──

module _ (t : Tree) (a : ℕ) (e : Event) (ok : Sound t) (room : t.count < 600) (before : a ≤ t.count) where
  abbrev edge : Edge
  edge = record { source = a; event = e }

  abbrev more : Tree
  more = record { n = t.n; count = t.count + 1; edges = set t.edges t.count edge }

  more_before : (k : ℕ) → k < t.count + 1 → (get_or (set t.edges t.count edge) k no_edge).source ≤ k
  more_before k h = by (eqb k t.count) refl
    where
      by : (b : Bool) → eqb k t.count ≡ b → (get_or (set t.edges t.count edge) k no_edge).source ≤ k
      by true q =
          let z = eqb-true k t.count q in
          let s = ok.space in
          let g : get_or (set t.edges t.count edge) t.count no_edge ≡ edge = get_or-set_same t.edges t.count edge no_edge (omega arith) in
          let y : (get_or (set t.edges t.count edge) k no_edge).source ≡ a = ap (λ i. (get_or (set t.edges t.count edge) i no_edge).source) z ∙ ap (λ (x : Edge). x.source) g in
          omega (arith, y, z)
      by false q =
          let z = eqb-false k t.count q in
          let y : (get_or (set t.edges t.count edge) k no_edge).source ≡ (get_or t.edges k no_edge).source = ap (λ (x : Edge). x.source) (get_or-set_other t.edges t.count k edge no_edge z) in
          let f = ok.source_before k (omega (arith, h, z)) in
          omega (arith, y, f)

  more_sound : Sound more
  more_sound = record {
    some = ok.some;
    few = ok.few;
    space = length-set t.edges t.count edge ∙ ok.space;
    within = omega arith;
    source_before = more_before;
  }

  more_edges : edges_in more ≡ edges_in t ++ (edge ∷ [])
  more_edges =
      let s = ok.space in
      let z : t.count + 1 ≡ suc t.count = omega arith in
      ap (λ k. take k (set t.edges t.count edge)) z ∙ take-suc-set t.edges t.count edge (omega arith)

  pub extends_edge : Extends t ((get_or (lists_in t) a [] ++ (e ∷ [])) ∷ []) more
  unfolding lists_in
  extends_edge = record { sound = more_sound; same = refl; lists = ap (lists_of_edges ([] ∷ [])) more_edges ∙ by_last ([] ∷ []) (edges_in t) edge }

-- ── the first tree, and growth in turn ──

pub rooted : (n : ℕ) → 1 ≤ n → n ≤ 3 → (es : List Edge) → length es ≡ 600 → IsRoot n (record { n = n; count = 0; edges = es })
unfolding lists_in lists_of_edges
rooted n h k es q = record {
  sound = record { some = h; few = k; space = q; within = omega arith; source_before = λ i l. absurd (omega (arith, l)) };
  same = refl;
  lists = refl;
}

pub extends_none : (t : Tree) → Sound t → Extends t [] t
extends_none t ok = record { sound = ok; same = refl; lists = sym (append-nil (lists_in t)) }

pub extends_twice : {t u v : Tree} {ks ls : List (List Event)} → Extends t ks u → Extends u ls v → Extends t (ks ++ ls) v
extends_twice {t} {u} {v} {ks} {ls} g h = record {
  sound = h.sound;
  same = h.same ∙ g.same;
  lists = h.lists ∙ (ap (λ (m : List (List Event)). m ++ ls) g.lists ∙ append_assoc (lists_in t) ks ls);
}

-- a state keeps its list
pub extends_keeps : {t u : Tree} {ks : List (List Event)} → Sound t → Extends t ks u → (a : ℕ) → a ≤ t.count → get_or (lists_in u) a [] ≡ get_or (lists_in t) a []
extends_keeps {t} {u} {ks} ok g a h = let l = lists_long t ok in ap (λ (m : List (List Event)). get_or m a []) g.lists ∙ get_or-append (lists_in t) ks [] a (omega arith)

pub extends_count : {t u : Tree} {ks : List (List Event)} → Sound t → Extends t ks u → u.count ≡ t.count + length ks
extends_count {t} {u} {ks} ok g =
    let l = lists_long t ok in
    let m = lists_long u g.sound in
    let e = ap length g.lists ∙ length-append (lists_in t) ks in
    omega arith
