-- One list more, by what the step answers.
use native.Mathlib.Omega.{arith}
use mathlib.Core.Bool.{true, false}
use mathlib.Core.Path.{◌≡◌, refl, sym}
use mathlib.Core.List.{List, [], ◌∷◌, ◌++◌}
use borrow.Author.Tests.{clash}
use Rattle.std.specs.Prelude.{Ok, Err, is_err}
use Rattle.model.specs.State.{State}
use Rattle.model.specs.Step.{Result, refused, accepted, step}
use Rattle.model.specs.Answers.{Answer, refusal_number, answer_number, result_number}
use Rattle.model.specs.declared.Event.{Event}
use Rattle.model.proofs.Answers.{ground_some}
use Rattle.model.proofs.Refusals.{refuses_by_ground}
use Rattle.list_tree.specs.Tree.{extended}

module _ (l : List Event) (s : State) (e : Event) where
  pub none_more : (a : Answer) → answer_number a ≡ result_number (step s e) → is_err a ≡ true → extended l e (step s e) ≡ []
  none_more (Ok u) same h = absurd (clash h)
  none_more (Err r) same h = by (step s e) same
    where
      by : (x : Result) → refusal_number r ≡ result_number x → extended l e x ≡ []
      by (refused y) q = refl
      by (accepted u m) q = absurd (let z = ground_some r in omega (arith, z, q))

  pub one_more : (a : Answer) → answer_number a ≡ result_number (step s e) → is_err a ≡ false → extended l e (step s e) ≡ (l ++ (e ∷ [])) ∷ []
  one_more (Ok u) same h = let x = refuses_by_ground.zero_accepts s e (sym same) in rw x.is
  one_more (Err r) same h = absurd (clash (sym h))
