-- A turn more behind a schedule, and a whole round.
use Prim.Native.Nat.{ℕ, zero, suc, ◌+◌, ◌*◌, ◌≤◌}
use native.Mathlib.Omega.{arith}
use mathlib.Core.Path.{◌≡◌, refl, ◌∙◌, ap, subst}
use mathlib.Core.List.{List, [], ◌∷◌, ◌++◌}
use lib.ListN.{replicate}
use Rattle.model.specs.State.{view}
use Rattle.model.specs.declared.Table.{Table}
use Rattle.round.specs.Order.{round_size}
use Rattle.round.specs.Schedule.{Move, turn, turns}
use Rattle.round.specs.declared.Place.{Place}
use Rattle.round.specs.declared.TurnOutcome.{TurnOutcome}
use Rattle.round.proofs.PairQueues.{waits_positive}
use Rattle.driver.specs.Turned.{Turned}
use Rattle.driver.specs.Scheduled.{Scheduled, none, turned, stepped}
use Rattle.driver.proofs.Chains.{code_round}
use Rattle.client.specs.Rounded.{Rounded}

-- a turn behind a schedule
one_more : {t u : Table} {p q : Place} {ms : List Move} {r : TurnOutcome} → Scheduled t p ms u q → Turned u q r → Scheduled t p (ms ++ (turn ∷ [])) r.table r.place
one_more none y = turned y none
one_more (turned x d) y = turned x (one_more d y)
one_more (stepped x d) y = stepped x (one_more d y)

replicate_more : (i : ℕ) → replicate i turn ++ (turn ∷ []) ≡ replicate (i + 1) turn
replicate_more zero = refl
replicate_more (suc i) = ap (λ (l : List Move). turn ∷ l) (replicate_more i) ∙ again
  where
    again : turn ∷ replicate (i + 1) turn ≡ replicate (suc i + 1) turn
    again = let e : suc (i + 1) ≡ suc i + 1 = omega arith in ap (λ (k : ℕ). replicate k turn) e

pub turn_more : {t u : Table} {p q : Place} (i : ℕ) {r : TurnOutcome} → Scheduled t p (replicate i turn) u q → Turned u q r → Scheduled t p (replicate (i + 1) turn) r.table r.place
turn_more {t} {u} {p} {q} i {r} d y = subst (λ (l : List Move). Scheduled t p l r.table r.place) (replicate_more i) (one_more d y)

turns_all : (k : ℕ) → turns (replicate k turn) ≡ k
unfolding turns
turns_all zero = refl
turns_all (suc k) = omega (arith, turns_all k)

pub rounded : (t : Table) (p : Place) (u : Table) (q : Place) → Scheduled t p (replicate (round_size t.n) turn) u q → Rounded t p u
rounded t p u q d =
    record {
      next = q;
      turned = d;
      oldest_gone = λ x a b w. code_round.gone d a b 0 x (waits_positive a b (view t).queue w) enough;
      counted = λ x a b w. omega (arith, code_round.counted d a b 0 x (waits_positive a b (view t).queue w) enough);
    }
  where
    enough : (0 + 1) * round_size t.n ≤ turns (replicate (round_size t.n) turn)
    enough = omega (arith, turns_all (round_size t.n))
