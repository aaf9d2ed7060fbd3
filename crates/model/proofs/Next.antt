-- The laws of `next`, whom inviting, forwarding and handing take of a set. No other proof says which node of the set that is.
use Prim.Native.Nat.{ℕ, ◌^◌, ◌≤◌, ◌<◌}
use native.Mathlib.Omega.{arith}
use mathlib.Core.Bool.{Bool, true, false, true≢false}
use mathlib.Core.Logic.{◌⊎◌, inl, inr}
use mathlib.Core.Path.{◌≡◌, refl, sym, ◌∙◌, ap}
use lib.Dec.{eqb}
use borrow.Author.Tests.{eqb-true, eqb-false}
use Rattle.node_set.specs.NodeSet.{has, without, within}
use Rattle.node_set.proofs.Laws.{empty_lacks, has_highest, highest_in, highest_other, highest_most, without_lacks, without_self, without_others}
use Rattle.model.specs.Procedures.{next}

-- the next of a set that is not empty is in it
pub next_has : (s : ℕ) → 0 < s → s < 2 ^ 16 → has s (next s) ≡ true
next_has = has_highest

-- of a set within n it is one of 1 to n
pub next_in : (n s : ℕ) → n ≤ 16 → within n s ≡ true → 0 < s → (1 ≤ next s) × (next s ≤ n)
next_in = highest_in

-- it is not a node that the set lacks
pub next_other : (s i : ℕ) → 0 < s → s < 2 ^ 16 → has s i ≡ false → next s ≡ i → ⊥
next_other = highest_other

-- no node of the set is above it
pub next_most : (s j : ℕ) → has s j ≡ true → s < 2 ^ 16 → j ≤ next s
next_most = highest_most

-- and those left are below it
pub left_below : (s j : ℕ) → s < 2 ^ 16 → has (without s (next s)) j ≡ true → j < next s
left_below s j w e = let m = next_most s j (was (has s j) refl) w in omega (arith, m, apart)
  where
    was : (b : Bool) → has s j ≡ b → has s j ≡ true
    was true q = q
    was false q = absurd (true≢false (sym e ∙ without_lacks s j (next s) q))

    apart : j ≡ next s → ⊥
    apart q = true≢false (sym e ∙ ap (has (without s (next s))) q ∙ without_self s (next s))

-- a node of the set is the next, or is left
pub next_or_left : (n s j : ℕ) → n ≤ 16 → within n s ≡ true → 1 ≤ j → has s j ≡ true → (next s ≡ j) ⊎ (has (without s (next s)) j ≡ true)
next_or_left n s j small inside low member = by (eqb (next s) j) refl
  where
    some : s ≡ 0 → ⊥
    some e = true≢false (sym member ∙ ap (λ (x : ℕ). has x j) e ∙ empty_lacks j)

    l : (1 ≤ next s) × (next s ≤ n)
    l = next_in n s small inside (omega (arith, some))

    by : (b : Bool) → eqb (next s) j ≡ b → (next s ≡ j) ⊎ (has (without s (next s)) j ≡ true)
    by true e = inl (eqb-true (next s) j e)
    by false e = inr (without_others n s (next s) j small inside l.0 l.1 low (λ z. eqb-false (next s) j e (sym z)) ∙ member)
