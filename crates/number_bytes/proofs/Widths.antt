-- What owning an array tells of it: its length, and what owning an element tells of each.
use Prim.Native.Nat.{ℕ}
use mathlib.Core.Path.{◌≡◌, sym, ◌∙◌}
use mathlib.Core.List.{List, [], ◌∷◌, map}
use lib.ListN.{length, length-map}
use mir.Val.{Val}
use denote.Laws.{Is}
use denote.Shadow.{shadow}
use denote.Array.{Array, each}
use denote.RattleType.{RattleType}
use Rattle.number_bytes.specs.Bytes.{Each}

-- R is the elements' type, and h takes an element to what R owns
module _ {A : Type 0} (R : RattleType) (h : A → R.Denot) (P : A → Type 0) (fits : (x : A) (vs : List Val) → Is R (h x) vs → P x) where
  each_fits : (xs : List A) (us : List Val) → shadow (each R.Denot R.own_val (map h xs) us) → Each P xs
  unfolding Each
  each_fits [] us s = tt
  each_fits (x ∷ xs) [] s = absurd s
  each_fits (x ∷ xs) (u ∷ us) s = (fits x (u ∷ []) s.0, each_fits xs us s.1)

  pub array_fits : (k : ℕ) (xs : List A) {vs : List Val} → Is (Array R k) (map h xs) vs → (length xs ≡ k) × Each P xs
  array_fits k xs g = (sym (length-map xs h) ∙ g.1.0.1, each_fits xs g.0 g.1.1)
