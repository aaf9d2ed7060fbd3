-- The table of a state, by the table of the state before it.
use Prim.Native.Nat.{ℕ, ◌+◌, ◌-◌, ◌≤◌}
use native.Mathlib.Omega.{arith}
use mathlib.Core.Path.{◌≡◌, sym, ◌∙◌, ap}
use mathlib.Core.List.{[]}
use lib.ListN.{get_or}
use Rattle.model.specs.State.{State}
use Rattle.model.specs.Step.{after, run_from}
use Rattle.aldebaran_text.proofs.Transitions.{run_one}
use Rattle.list_tree.specs.declared.tree.Tree.{Tree}
use Rattle.list_tree.specs.Tree.{no_edge, lists_in, Sound}
use Rattle.list_tree.proofs.Trees.{lists_first, list_at}

module _ (t : Tree) (ok : Sound t) (s : State) where
  pub run_first : (b : ℕ) → b ≡ 0 → run_from s (get_or (lists_in t) b []) ≡ s
  unfolding run_from
  run_first b q = ap (λ i. run_from s (get_or (lists_in t) i [])) q ∙ ap (run_from s) (lists_first t ok)

  pub run_next : (b : ℕ) → 1 ≤ b → b ≤ t.count → (u v : State) → u ≡ run_from s (get_or (lists_in t) (get_or t.edges (b - 1) no_edge).source []) → v ≡ after u (get_or t.edges (b - 1) no_edge).event
      → v ≡ run_from s (get_or (lists_in t) b [])
  run_next b h k u v p q =
      let x = get_or t.edges (b - 1) no_edge in
      let z : b ≡ b - 1 + 1 = omega arith in
      q ∙ (ap (λ w. after w x.event) p
      ∙ (sym (run_one s (get_or (lists_in t) x.source []) x.event)
      ∙ (ap (run_from s) (sym (list_at t ok (b - 1) (omega arith))) ∙ ap (λ i. run_from s (get_or (lists_in t) i [])) (sym z))))
