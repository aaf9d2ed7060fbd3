-- The text of a tree: one line more; and where its lists are the states of a system, it is the system's text.
use Prim.Native.Nat.{ℕ, suc, ◌+◌, ◌≤◌, ◌<◌}
use native.Mathlib.Omega.{arith}
use mathlib.Core.Path.{◌≡◌, refl, sym, ◌∙◌, ap}
use mathlib.Core.List.{List, [], ◌∷◌, ◌++◌, append-nil, map}
use lib.ListN.{length, take, get_or}
use lib.Seq.{take-suc, length-take-le, ext_get_or}
use Rattle.model.specs.State.{State}
use Rattle.model.proofs.Lists.{map_append}
use Rattle.listing.specs.Printing.{joined, Wrote}
use Rattle.listing.specs.declared.buffer.TextBuffer.{TextBuffer}
use Rattle.short_lists_text.proofs.Counts.{joined_last}
use Rattle.aldebaran_text.specs.System.{states, number_in, Transition, transition, without_last, last_of, transitions}
use Rattle.aldebaran_text.specs.Text.{transition_line, lines_of}
use Rattle.aldebaran_text.proofs.Numbers.{numbered_long, numbered_at, numbered_more}
use Rattle.aldebaran_text.proofs.States.{all_states}
use Rattle.aldebaran_text.proofs.Transitions.{without_last_lem, last_of_lem, transitions_long, transitions_at}
use Rattle.list_tree.specs.declared.tree.Edge.{Edge}
use Rattle.list_tree.specs.declared.tree.Tree.{Tree}
use Rattle.list_tree.specs.Tree.{reached, no_edge, edges_in, lists_in, Sound, edge_into, transitions_by, tree_lines}
use Rattle.list_tree.proofs.Trees.{edges_long, lists_long, edge_at, list_at}

-- ── lines one after another ──

pub none_written : (b : TextBuffer) → b.end ≤ length b.bytes.now → Wrote b [] b
none_written b h = record {
  same = refl;
  appended = record { long = refl; next = omega arith; fits = h; text = sym (append-nil (take b.end b.bytes.now)); behind = refl };
}

pub line_more : (es : List Edge) (k : ℕ) → k < length es
    → joined (map transition_line (transitions_by (take (k + 1) es))) ≡ joined (map transition_line (transitions_by (take k es))) ++ transition_line (transition (get_or es k no_edge).source (get_or es k no_edge).event (k + 1))
line_more es k h =
    let x = get_or es k no_edge in
    let z : suc k ≡ k + 1 = omega arith in
    let l = length-take-le k es (omega arith) in
    let y : 1 + length (take k es) ≡ k + 1 = omega arith in
    ap (λ j. joined (map transition_line (transitions_by (take j es)))) (sym z)
    ∙ (ap (λ (xs : List Edge). joined (map transition_line (transitions_by xs))) (take-suc es k no_edge h)
    ∙ (ap (λ (xs : List Transition). joined (map transition_line xs)) (numbered_more edge_into 1 (take k es) x)
    ∙ (ap joined (map_append transition_line (transitions_by (take k es)) (transition x.source x.event (1 + length (take k es)) ∷ []))
    ∙ (joined_last (map transition_line (transitions_by (take k es))) (transition_line (transition x.source x.event (1 + length (take k es))))
    ∙ ap (λ c. joined (map transition_line (transitions_by (take k es))) ++ transition_line (transition x.source x.event c)) y))))

-- ── the system's text ──

module _ (t : Tree) (ok : Sound t) (m : ℕ) (s : State) (q : lists_in t ≡ states m s) where
  long : length (states m s) ≡ t.count + 1
  long = sym (ap length q) ∙ lists_long t ok

  -- the edge into k + 1 is the transition into it: its source is the state of the list without the last event, since no list has two states
  each : (k : ℕ) (d : Transition) → k < t.count → get_or (transitions_by (edges_in t)) k d ≡ get_or (transitions (states m s)) k d
  each k d h =
      let x = get_or t.edges k no_edge in
      let f = ok.source_before k h in
      let e : get_or (states m s) (k + 1) [] ≡ get_or (states m s) x.source [] ++ (x.event ∷ []) =
      ap (λ ls. get_or ls (k + 1) []) (sym q) ∙ (list_at t ok k h ∙ ap (λ ls. reached ls x) q)
      in
      let a : number_in (states m s) (without_last (get_or (states m s) (k + 1) [])) ≡ x.source =
      ap (λ l. number_in (states m s) (without_last l)) e
      ∙ (ap (number_in (states m s)) (without_last_lem (get_or (states m s) x.source []) x.event) ∙ (all_states m s).number x.source (omega (arith, f, h, long)))
      in
      let b : last_of (get_or (states m s) (k + 1) []) ≡ x.event = ap last_of e ∙ last_of_lem (get_or (states m s) x.source []) x.event in
      let z : 1 + k ≡ k + 1 = omega arith in
      numbered_at edge_into 1 (edges_in t) k d no_edge (omega (arith, h, edges_long t ok))
      ∙ (ap (λ (y : Edge). transition y.source y.event (1 + k)) (edge_at t ok k h)
      ∙ (ap (transition x.source x.event) z
      ∙ (ap (λ i. transition i x.event (k + 1)) (sym a)
      ∙ (ap (λ g. transition (number_in (states m s) (without_last (get_or (states m s) (k + 1) []))) g (k + 1)) (sym b)
      ∙ sym (transitions_at (states m s) k d (omega (arith, h, long)))))))

  transitions_are : transitions_by (edges_in t) ≡ transitions (states m s)
  transitions_are =
      let c = numbered_long edge_into 1 (edges_in t) ∙ edges_long t ok in
      let e = transitions_long (states m s) in
      ext_get_or (transition 0 no_edge.event 0) _ _ (omega (arith, c, e, long)) (λ i h. each i _ (omega (arith, h, c)))

  pub lines_are : tree_lines t ≡ lines_of (states m s)
  lines_are =
      let e = transitions_long (states m s) in
      let a : t.count ≡ length (transitions (states m s)) = omega (arith, e, long) in
      rw (transitions_are, ← a, long)
