-- What a starting table is answered with (02, T-08): it is started exactly where it is in range, and single starting data.
use Prim.Native.Nat.{ℕ}
use native.Mathlib.Omega.{arith}
use mathlib.Core.Bool.{Bool, true, false, not}
use mathlib.Core.Path.{◌≡◌, refl, sym, ◌∙◌, ap}
use lib.Dec.{eqb, leb}
use borrow.Author.Tests.{le-leb, leb-true}
use Rattle.model.specs.Pick.{pick}
use Rattle.model.specs.Range.{TwoPairs, is_tower_or_stand}
use Rattle.model.specs.Claims.{MayStart}
use Rattle.model.specs.State.{start, is_count, in_range}
use Rattle.model.specs.Answers.{start_number}
use Rattle.model.proofs.Local.{both_left, both_right}
use Rattle.model.proofs.Pairs.{pair_within}
use Rattle.model.proofs.Fields.{in_range_pair, in_range_own, in_range_size}
use Rattle.model.proofs.InRange.{start_in}
use Rattle.model.specs.declared.Limits.{Limits}
use Rattle.model.specs.Answers.{StartAnswer}
use Rattle.model.specs.Answers.{Started}
use Rattle.std.specs.Prelude.{Ok, Err}
use Rattle.model.specs.declared.StartRefusal.TheVariants.{WrongLimits, WrongCount}
use Rattle.machine.specs.Stepped.{begun_number}
use Rattle.machine.specs.Claims.{StartedAlike, StartCases}

-- an answer is known by its number
start_of : ℕ → StartAnswer
start_of r = pick (eqb r 1) (Err WrongLimits) (pick (eqb r 6) (Err WrongCount) Started)

start_back : (a : StartAnswer) → start_of (start_number a) ≡ a
unfolding start_of pick
start_back (Ok u) = refl
start_back (Err WrongLimits) = refl
start_back (Err WrongCount) = refl

pub start_known : (a b : StartAnswer) → start_number a ≡ start_number b → a ≡ b
start_known a b e = sym (start_back a) ∙ ap start_of e ∙ start_back b

-- starting data with the number 0 may start a table
zero_starts : (n : ℕ) (l : Limits) → begun_number n l ≡ 0 → MayStart TwoPairs n l
unfolding pick
zero_starts n l e = by (is_tower_or_stand l) (is_count l.nodes n) refl refl e
  where
    by : (t u : Bool) → is_tower_or_stand l ≡ t → is_count l.nodes n ≡ u → ◌≡◌ {A = ℕ} (pick (not t) 1 (pick (not u) 6 0)) 0 → MayStart TwoPairs n l
    by true true p q z =
        record { within = pair_within l p; pair = p; low = leb-true 1 n (both_left (leb 1 n) _ q); high = leb-true n l.nodes (both_right (leb 1 n) _ q) }
    by true false p q z = absurd (omega (arith, z))
    by false u p q z = absurd (omega (arith, z))

-- and such data have the number 0
starts_zero : (n : ℕ) (l : Limits) → MayStart TwoPairs n l → begun_number n l ≡ 0
unfolding pick
starts_zero n l s = rw (s.pair, le-leb 1 n s.low, le-leb n l.nodes s.high)

pub started_alike : StartedAlike
started_alike =
    record {
      in_range_lem = λ {n} {l} {r} x a. ap in_range x.table ∙ start_in TwoPairs n l (zero_starts n l (sym x.answer ∙ ap start_number a));
      started = λ {n} {l} {r} x q. start_known r.answer Started (x.answer ∙ starts_zero n l (may_start n l (sym (ap in_range x.table) ∙ q)));
    }
  where
    may_start : (n : ℕ) (l : Limits) → in_range (start n l) ≡ true → MayStart TwoPairs n l
    may_start n l q =
        let p = in_range_pair (start n l) q in
        record { within = pair_within l p; pair = p; low = (in_range_size (start n l) q).0; high = (in_range_own (start n l) q).0 }

pub start_cases : StartCases
unfolding pick
start_cases =
    record {
      tower_none = refl;
      tower_last = refl;
      tower_high = refl;
      stand_none = refl;
      stand_last = refl;
      stand_high = refl;
      tower_five = refl;
      swapped = refl;
      swapped_none = refl;
      tower_nodes = refl;
      stand_nodes = refl;
      none = refl;
    }
