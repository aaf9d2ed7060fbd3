-- A tree whose lists are those of up to k events, and one level more.
use Prim.Native.Nat.{ℕ, ◌+◌, ◌≤◌}
use native.Mathlib.Omega.{arith}
use mathlib.Core.Path.{◌≡◌, sym, ◌∙◌, ap}
use mathlib.Core.List.{List, ◌++◌}
use lib.ListN.{length, take, drop}
use lib.Seq.{take_all}
use Rattle.model.specs.Limits.{tower}
use Rattle.model.specs.State.{State, start}
use Rattle.model.specs.declared.Event.{Event}
use Rattle.short_lists_text.specs.Rows.{concat_map}
use Rattle.short_lists_text.specs.Lists.{lists_from}
use Rattle.aldebaran_text.specs.System.{states}
use Rattle.aldebaran_text.proofs.Text.{few}
use Rattle.list_tree.specs.declared.tree.Tree.{Tree}
use Rattle.list_tree.specs.Tree.{lists_in, next_of, Sound, IsRoot, Extends}
use Rattle.list_tree.proofs.Trees.{lists_long}
use Rattle.list_tree.proofs.Levels.{first_level, last_level, next_level, level_long}

-- t has the lists of up to k events among n nodes, and those of k events begin at first
pub record Complete (n k first : ℕ) (t : Tree) : Type 0 where
  pub sound : Sound t
  pub same : t.n ≡ n
  pub lists : lists_in t ≡ states k (start n tower)
  pub level : first + length (lists_from k (start n tower)) ≡ length (states k (start n tower))

pub root_complete : (n : ℕ) {t : Tree} → IsRoot n t → Complete n 0 0 t
root_complete n r = record { sound = r.sound; same = r.same; lists = r.lists ∙ (first_level (start n tower)).0; level = (first_level (start n tower)).1 }

module _ (n k first : ℕ) (t : Tree) (c : Complete n k first t) where
  abbrev s : State
  s = start n tower

  states_long : length (states k s) ≡ t.count + 1
  states_long = sym (ap length c.lists) ∙ lists_long t c.sound

  -- the states that have no edge yet are those of the last level
  pub last_states : drop first (take (t.count + 1) (lists_in t)) ≡ lists_from k s
  last_states =
      ap (λ (ls : List (List Event)). drop first (take (t.count + 1) ls)) c.lists
      ∙ (ap (drop first) (take_all (t.count + 1) (states k s) (omega (arith, states_long))) ∙ last_level k s first c.level)

  more : lists_in t ++ concat_map (next_of (start t.n tower)) (drop first (take (t.count + 1) (lists_in t))) ≡ states (k + 1) s
  more =
      ap (λ m. lists_in t ++ concat_map (next_of (start m tower)) (drop first (take (t.count + 1) (lists_in t)))) c.same
      ∙ (ap (λ (ls : List (List Event)). lists_in t ++ concat_map (next_of s) ls) last_states
      ∙ (ap (λ (ls : List (List Event)). ls ++ concat_map (next_of s) (lists_from k s)) c.lists ∙ next_level k s))

  pub level_within : first ≤ t.count + 1
  level_within = let l = c.level in omega (arith, l, states_long)

  pub level_fits : 1 ≤ n → n ≤ 3 → k + 1 ≤ 4 → length (lists_in t ++ concat_map (next_of (start t.n tower)) (drop first (take (t.count + 1) (lists_in t)))) ≤ 601
  level_fits p q h = let f = few n (k + 1) p q h in omega (arith, f, ap length more)

  pub level_complete : {r : Tree} → Extends t (concat_map (next_of (start t.n tower)) (drop first (take (t.count + 1) (lists_in t)))) r → Complete n (k + 1) (t.count + 1) r
  level_complete g = record { sound = g.sound; same = g.same ∙ c.same; lists = g.lists ∙ more; level = omega (arith, states_long, level_long k s) }
