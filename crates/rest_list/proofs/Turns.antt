-- What is left of a run of turns until no message waits, by the code's table.
use Prim.Native.Nat.{ℕ, ◌+◌, ◌-◌, ◌*◌, ◌≤◌}
use native.Mathlib.Omega.{arith}
use native.Mathlib.Nat.{mul-le-mul}
use mathlib.Core.Bool.{true, false}
use mathlib.Core.Path.{◌≡◌, sym, ◌∙◌, subst}
use mathlib.Core.List.{List}
use lib.ListN.{length}
use borrow.Author.Tests.{eq-eqb, ne_eqb}
use Rattle.model.specs.Range.{TwoPairs}
use Rattle.model.specs.State.{State, no_message, in_range, view}
use Rattle.model.specs.declared.Table.{Table}
use Rattle.model.proofs.Fields.{in_range_size}
use Rattle.model.proofs.InRange.{stays_in_range}
use Rattle.model.proofs.Lists.{first_length}
use Rattle.round.specs.Order.{round_size, first_pair}
use Rattle.round.specs.Schedule.{turn, drive, moved}
use Rattle.round.specs.declared.Place.{Place}
use Rattle.round.specs.declared.TurnOutcome.{TurnOutcome}
use Rattle.driver.specs.Turned.{Turned}
use Rattle.driver.proofs.Chains.{turned_drive}
use Rattle.rest_bound.specs.Potential.{suited, rest_bound}
use Rattle.rest_bound.specs.Turns.{queue_empty, turn_bound}
use Rattle.session_list.specs.Ran.{RunTable}
use Rattle.rest_bound.proofs.Suits.{runs_suit}
use Rattle.rest_bound.proofs.Falls.{bound_most}
use Rattle.rest_bound.proofs.Turns.{Left, left_first, left_some, left_turn, left_end}
use Rattle.rest_list.specs.Rested.{RestedFrom}
use Rattle.rest_list.specs.declared.Rested.{Rested}

-- the largest number of turns that the bound allows
pub bound_small : (s : State) → in_range s ≡ true → turn_bound s ≤ 1282560
bound_small s r =
    let z = in_range_size s r in
    let b : rest_bound s.n (length s.queue) ≤ 5344 = omega (arith, bound_most s.n 16 (length s.queue) z.1, z.3) in
    let n : round_size s.n ≤ 240 = rounds s.n z.1 in
    mul-le-mul b n
  where
    rounds : (n : ℕ) → n ≤ 16 → n * (n - 1) ≤ 240
    rounds n h = let m : n - 1 ≤ 15 = omega arith in mul-le-mul h m

-- whether a message waits
pub some_wait : (t : Table) → (t.waiting ≡ 0 → ⊥) → queue_empty (view t) ≡ false
some_wait t h = ne_eqb (length (view t).queue) 0 (λ e. h (sym (first_length t.waiting no_message t.messages) ∙ e))

pub none_wait : (t : Table) → t.waiting ≡ 0 → queue_empty (view t) ≡ true
none_wait t h = eq-eqb (length (view t).queue) 0 (first_length t.waiting no_message t.messages ∙ h)

-- k turns were made from the table s on, at most as many as the bound says; the table is t now and the place p
pub record Made (s : State) (t : Table) (p : Place) (k : ℕ) : Type 0 where
  pub most : k ≤ turn_bound s
  pub left : Left s (turn_bound s - k) k (drive (view t) p)

pub made_none : (t : Table) (p : Place) → in_range (view t) ≡ true → suited (view t) ≡ true → p ≡ first_pair → Made (view t) t p 0
made_none t p r ok e =
    let z : turn_bound (view t) ≡ turn_bound (view t) - 0 = omega arith in
    record {
      most = omega arith;
      left = subst (λ (q : Place). Left (view t) (turn_bound (view t) - 0) 0 (drive (view t) q)) (sym e) (subst (λ (m : ℕ). Left (view t) m 0 (drive (view t) first_pair)) z (left_first (view t) r ok));
    }

module _ {s : State} {t : Table} {p : Place} {k : ℕ} (x : Made s t p k) where
  -- where a message waits, a turn more is within the bound,
  pub made_below : (t.waiting ≡ 0 → ⊥) → k + 1 ≤ turn_bound s
  made_below h = omega (arith, left_some (turn_bound s - k) x.left (some_wait t h))

  -- and is made
  pub made_more : (t.waiting ≡ 0 → ⊥) → (r : TurnOutcome) → Turned t p r → Made s r.table r.place (k + 1)
  made_more h r u =
      let z : turn_bound s - k - 1 ≡ turn_bound s - (k + 1) = omega arith in
      record {
        most = made_below h;
        left = rw (turned_drive u) (subst (λ (m : ℕ). Left s m (k + 1) (moved (drive (view t) p) turn)) z (left_turn (turn_bound s - k) x.left (some_wait t h)));
      }

  -- where none waits, these were all
  pub made_all : t.waiting ≡ 0 → (r : Rested) → r ≡ record { table = t; turns = k } → RestedFrom s r
  made_all h r e =
      let z = left_end x.left (none_wait t h) in
      subst (RestedFrom s) (sym e) (record { turns = z.0; table = z.1 })

-- the last table of a list is in range, and the potential can be applied to it
pub run_comes : (l : List ℕ) (u : State) → RunTable l u → (in_range u ≡ true) × (suited u ≡ true)
run_comes l u x =
    let e = x.is in
    (rw e (stays_in_range.runs TwoPairs x.n x.limits x.starts x.reads.events), rw e (runs_suit TwoPairs x.n x.limits x.reads.events))
