-- T-13's claim of the code: of what `step` answers, and of the tables that turns return. The proof is in proofs/Chains.
use Rattle.std.specs.Prelude.{ℕ, ◌+◌, ◌*◌, ◌≤◌, true, ◌≡◌, List, [], ◌∷◌, replicate}
use Rattle.model.specs.Counts.{one}
use Rattle.model.specs.Limits.{tower, stand}
use Rattle.model.specs.Range.{TwoPairs}
use Rattle.model.specs.State.{view}
use Rattle.model.specs.Answers.{is_accepted}
use Rattle.model.specs.Claims.{MayStart}
use Rattle.model.specs.declared.Limits.{Limits}
use Rattle.model.specs.declared.Table.{Table}
use Rattle.model.specs.declared.Event.{Event}
use Rattle.model.specs.declared.Outcome.{Outcome}
use Rattle.machine.specs.Stepped.{Stepped}
use Rattle.machine.specs.Folded.{Folded}
use Rattle.machine.specs.Claims.{Chain, Reached}
use Rattle.session.specs.Applied.{Applied}
use Rattle.round.specs.Order.{is_in_round, round_size}
use Rattle.round.specs.Schedule.{Move, turn, drive}
use Rattle.round.specs.declared.Place.{Place}
use Rattle.driver.specs.Scheduled.{Scheduled, ByDriver}
use Rattle.rest_bound.specs.Quiet.{all_quiet}
use Rattle.rest_bound.specs.Potential.{rest_bound}
use Rattle.rest_bound.specs.Turns.{quiet_moves, accepted_by}

-- from the table t, by the events, to the table u, each step getting the table that the one before returned; k of them were answered with accepted
pub data FoldedCounting : Table → List Event → ℕ → Table → Type 0 where
  none : {t : Table} → FoldedCounting t [] 0 t
  more : {t : Table} {e : Event} {es : List Event} {r : Outcome} {k : ℕ} {u : Table} → Stepped t e r → FoldedCounting r.table es k u → FoldedCounting t (e ∷ es) (one (is_accepted r.answer) + k) u

-- of every table t that a chain of the code's steps reached from the starting table of n nodes with the limits l
pub record CodeRests (chain : Chain) (n : ℕ) (l : Limits) : Type 0 where
  -- of further events that are deliver, lose, expire, tick or finish, at most so many are answered with accepted
  pub answers : {es fs : List Event} {t u : Table} {k : ℕ} → Reached chain n l es t → all_quiet fs ≡ true → FoldedCounting t fs k u → k ≤ rest_bound n t.waiting
  -- of a schedule of turns and steps, in which no other steps than these stand between the turns, at most so many events are accepted, those of turns among them,
  pub schedules : {es : List Event} {t u : Table} {p q : Place} {ms : List Move} → Reached chain n l es t → quiet_moves ms ≡ true → Scheduled t p ms u q → accepted_by (drive (view t) p) ms ≤ rest_bound n t.waiting
  -- and once no message waits turns leave the table as it is;
  pub unchanged : {es : List Event} {t u : Table} {p q : Place} (k : ℕ) → Reached chain n l es t → t.waiting ≡ 0 → Scheduled t p (replicate k turn) u q → view u ≡ view t
  -- with turns alone, from a pair of the round on, no message waits after bound × n × (n − 1) of them; with n = 1 none ever waits
  pub turns : {es : List Event} {t u : Table} {p q : Place} {k : ℕ} → Reached chain n l es t → is_in_round n p ≡ true → rest_bound n t.waiting * round_size n ≤ k
      → Scheduled t p (replicate k turn) u q → u.waiting ≡ 0
  pub alone : {es : List Event} {t : Table} → Reached chain n l es t → n ≡ 1 → t.waiting ≡ 0

-- "at most 20,000 further events can be accepted": 5,344 in the tower, and 312 on the stand
pub record CodeComesToRest (chain : Chain) : Type 0 where
  pub any : (n : ℕ) (l : Limits) → MayStart TwoPairs n l → CodeRests chain n l
  pub for_tower : (n : ℕ) → 1 ≤ n → n ≤ 16 → {es fs : List Event} {t u : Table} {k : ℕ} → Reached chain n tower es t → all_quiet fs ≡ true → FoldedCounting t fs k u → k ≤ 5344
  pub for_stand : (n : ℕ) → 1 ≤ n → n ≤ 4 → {es fs : List Event} {t u : Table} {k : ℕ} → Reached chain n stand es t → all_quiet fs ≡ true → FoldedCounting t fs k u → k ≤ 312

-- of the tables that steps by value, in place and of the driver lead to
pub record EveryChainRests : Type 0 where
  pub by_value : CodeComesToRest Folded
  pub in_place : CodeComesToRest Applied
  pub by_driver : CodeComesToRest ByDriver
