-- The table of grounds: its lines, and what the first that applies gives. Every machine's step has this shape; which lines there are is said beside the step.
use Rattle.std.specs.Prelude.{ℕ, Bool, false, ◌≡◌, List, [], ◌∷◌, eqb}
use Rattle.model.specs.Pick.{pick}

-- a line of the table of grounds: its number, and whether it applies
pub record Ground : Type 0 where
  pub number : ℕ
  pub applies : Bool

abbrev pub ground : ℕ → Bool → Ground
ground r b = record { number = r; applies = b }

-- "Checked from the top; the first that applies is given, and none without its ground.": the refusal by its number, or the result x where none applies
unfoldable pub judged : {R : Type 0} → (ℕ → R) → R → List Ground → R
judged refuse x [] = x
judged refuse x (g ∷ gs) = pick g.applies (refuse g.number) (judged refuse x gs)

-- no ground of the list applies
abbrev pub NoneApplies : List Ground → Type 0
NoneApplies [] = Unit {0}
NoneApplies (g ∷ gs) = (g.applies ≡ false) × NoneApplies gs

-- the grounds of the list but that of number r
abbrev pub leaving_out : ℕ → List Ground → List Ground
leaving_out r [] = []
leaving_out r (g ∷ gs) = pick (eqb g.number r) (leaving_out r gs) (g ∷ leaving_out r gs)

-- the number of the first ground that applies, or 0
unfoldable pub first : List Ground → ℕ
first [] = 0
first (g ∷ gs) = pick g.applies g.number (first gs)
