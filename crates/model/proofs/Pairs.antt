-- T-08: the two pairs of limits.
use Prim.Native.Nat.{ℕ, ◌≤◌}
use native.Mathlib.Omega.{arith}
use mathlib.Core.Bool.{Bool, true, false, ◌||◌}
use mathlib.Core.Path.{◌≡◌, refl, sym, ◌∙◌, ap, subst}
use lib.Dec.{eqb}
use borrow.Author.Tests.{eqb-true}
use Rattle.model.specs.Limits.{tower, stand}
use Rattle.model.specs.Range.{PairRule, TwoPairs, LeftOut, pair_rule, same_limits, is_tower_or_stand, is_within_tower}
use Rattle.model.proofs.Local.{both_left, both_right}
use Rattle.model.specs.declared.Limits.{Limits}

abbrev with_numbers : ℕ → ℕ → Limits
with_numbers a b = record { nodes = a; messages = b }

-- limits that are the pair p
of_pair : (p lim : Limits) → same_limits p lim ≡ true → lim ≡ p
of_pair p lim h =
    ap (λ (x : ℕ). with_numbers x lim.messages) (eqb-true lim.nodes p.nodes (both_left (eqb lim.nodes p.nodes) _ h))
    ∙ ap (with_numbers p.nodes) (eqb-true lim.messages p.messages (both_right (eqb lim.nodes p.nodes) _ h))

-- what holds of the tower's limits and of the stand's holds of both pairs
pub by_pair : (P : Limits → Type 0) (lim : Limits) → is_tower_or_stand lim ≡ true → P tower → P stand → P lim
by_pair P lim e a b = by (same_limits tower lim) refl e
  where
    by : (t : Bool) → same_limits tower lim ≡ t → (t || same_limits stand lim) ≡ true → P lim
    by true h g = subst P (sym (of_pair tower lim h)) a
    by false h g = subst P (sym (of_pair stand lim g)) b

pub pair_within : (lim : Limits) → is_tower_or_stand lim ≡ true → is_within_tower lim ≡ true
pair_within lim e = by_pair (λ l. is_within_tower l ≡ true) lim e refl refl

-- each has room for four nodes
pub pair_four : (lim : Limits) → is_tower_or_stand lim ≡ true → 4 ≤ lim.nodes
pair_four lim e = by_pair (λ l. 4 ≤ l.nodes) lim e (omega arith) (omega arith)

-- one of the two pairs is allowed whether the rule is kept or left out
pub pair_allowed : (rule : PairRule) (lim : Limits) → is_tower_or_stand lim ≡ true → pair_rule rule lim ≡ true
pair_allowed TwoPairs lim e = e
pair_allowed LeftOut lim e = refl
