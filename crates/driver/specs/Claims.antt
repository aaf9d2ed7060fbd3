-- What is claimed of the tables that the code's turns and steps return: they are those of the model's schedules, T-09's claim holds of them, and so do demand 3, the traffic,
-- T-10 and the range. The proofs are in proofs/Chains.
use Rattle.std.specs.Prelude.{ℕ, ◌+◌, ◌-◌, ◌*◌, ◌≤◌, ◌<◌, true, ◌≡◌, List, ◌∷◌, ◌++◌, drop, Err}
use Rattle.model.specs.Limits.{node_limit}
use Rattle.model.specs.Counts.{count_at}
use Rattle.model.specs.Range.{TwoPairs}
use Rattle.model.specs.State.{waits, oldest, view}
use Rattle.model.specs.Claims.{MayStart}
use Rattle.model.specs.declared.Limits.{Limits}
use Rattle.model.specs.declared.Table.{Table}
use Rattle.model.specs.declared.Event.{Event}
use Rattle.model.specs.declared.Event.TheVariants.{Deliver, Lose}
use Rattle.model.specs.Answers.{Accepted}
use Rattle.model.specs.declared.Refusal.TheVariants.{NotInRange}
use Rattle.machine.specs.Stepped.{Stepped}
use Rattle.machine.specs.Claims.{Reached, CodeRuns, CodeFixes, CodeTowerAndStand}
use Rattle.machine.specs.Folded.{Folded}
use Rattle.round.specs.Order.{pair, round_size}
use Rattle.round.specs.Schedule.{Move, turns, drive, driven, pair_queue, Waits, message_at, out_in, came_in_by}
use Rattle.round.specs.Claims.{AtPair}
use Rattle.round.specs.declared.Place.{Place}
use Rattle.round.specs.declared.Done.TheVariants.{Nothing, Delivered, Lost}
use Rattle.round.specs.declared.TurnOutcome.{TurnOutcome}
use Rattle.driver.specs.Turned.{Turned}
use Rattle.driver.specs.Scheduled.{Scheduled, ByDriver}

-- Of any two outcomes that meet `Turned` for the same table and place: one answer meets it, one place, one thing done, and one table as `view` takes it; where nothing was done, one
-- table with all that stands in it.
pub record TurnedAlike : Type 0 where
  pub answer : {t : Table} {p : Place} {r q : TurnOutcome} → Turned t p r → Turned t p q → r.answer ≡ q.answer
  pub table : {t : Table} {p : Place} {r q : TurnOutcome} → Turned t p r → Turned t p q → view r.table ≡ view q.table
  pub place : {t : Table} {p : Place} {r q : TurnOutcome} → Turned t p r → Turned t p q → r.place ≡ q.place
  pub done : {t : Table} {p : Place} {r q : TurnOutcome} → Turned t p r → Turned t p q → r.done ≡ q.done
  pub same : {t : Table} {p : Place} {r q : TurnOutcome} → Turned t p r → Turned t p q → r.done ≡ Nothing → r.table ≡ q.table

-- T-09's claim of the code: by a schedule ms of turns and steps it led from the table t and the place p to the table u and the place q. Those fields that need it ask that t is in range and p
-- a pair of the round.
pub record CodeRound : Type 0 where
  -- the tables and places are those of the model's schedule
  pub drives : {t u : Table} {p q : Place} {ms : List Move} → Scheduled t p ms u q → drive (view u) q ≡ driven (drive (view t) p) ms
  -- a turn at a pair with a waiting message takes out the oldest, and leaves the others of the pair as they were
  pub takes_oldest : {t : Table} {a b : ℕ} {r : TurnOutcome} → Turned t (pair a b) r → AtPair (view t) (pair a b) → waits a b (view t).queue ≡ true
      → pair_queue (view t).queue a b ≡ oldest a b (view t).queue ∷ pair_queue (view r.table).queue a b
  -- "a message with k older ones of its own pair is no longer waiting after (k + 1) × n × (n − 1) turns": all that wait of its pair in u stood after it in t, or came in since
  pub gone : {t u : Table} {p q : Place} {ms : List Move} → Scheduled t p ms u q → (a b k : ℕ) → AtPair (view t) p → Waits (view t).queue a b k → (k + 1) * round_size t.n ≤ turns ms
      → pair_queue (view u).queue a b
      ≡ drop (out_in a b (drive (view t) p) ms - (k + 1)) (drop (k + 1) (pair_queue (view t).queue a b) ++ came_in_by a b (drive (view t) p) ms)
  -- and by its own counts more than k messages of the pair were delivered or lost since
  pub counted : {t u : Table} {p q : Place} {ms : List Move} → Scheduled t p ms u q → (a b k : ℕ) → AtPair (view t) p → Waits (view t).queue a b k
      → (k + 1) * round_size t.n ≤ turns ms → count_at t.delivered a b + count_at t.lost a b + k < count_at u.delivered a b + count_at u.lost a b
  -- as long as no more than k went out, it waits and is the same message, field by field
  pub same : {t u : Table} {p q : Place} {ms : List Move} → Scheduled t p ms u q → (a b k : ℕ) → Waits (view t).queue a b k → out_in a b (drive (view t) p) ms ≤ k
      → Waits (view u).queue a b (k - out_in a b (drive (view t) p) ms) × (message_at (view u).queue a b (k - out_in a b (drive (view t) p) ms) ≡ message_at (view t).queue a b k)
  -- u is in range and q a pair of the round again, so the next turn is accepted
  pub stays : {t u : Table} {p q : Place} {ms : List Move} → Scheduled t p ms u q → AtPair (view t) p → AtPair (view u) q
  pub never_refused : {t u : Table} {p q : Place} {ms : List Move} {r : TurnOutcome} → Scheduled t p ms u q → AtPair (view t) p → Turned u q r → r.answer ≡ Accepted

-- Demand 3, the traffic, T-10 and the range, whole, of the tables that turns and steps return, one after another: each turn is a step of the machine, or none.
pub record CodeDriverRuns : Type 0 where
  -- what a turn that delivers or loses returns, a step with that event may return
  pub delivers : {t : Table} {p : Place} {r : TurnOutcome} → Turned t p r → r.done ≡ Delivered → Stepped t (Deliver p.sender p.receiver) (record { table = r.table; answer = r.answer })
  pub loses : {t : Table} {p : Place} {r : TurnOutcome} → Turned t p r → r.done ≡ Lost → Stepped t (Lose p.sender p.receiver) (record { table = r.table; answer = r.answer })
  pub folds : (t : Table) (es : List Event) (u : Table) → ByDriver t es u → Folded t es u
  -- so its tables are those of the model's run
  pub runs : CodeRuns ByDriver
  -- with any limits demand 3 holds of them,
  pub fixes : (n : ℕ) (l : Limits) → n ≤ node_limit → CodeFixes ByDriver n l
  -- and in the tower and on the stand the traffic, T-10 and the range too
  pub both : CodeTowerAndStand ByDriver
  -- there no turn is answered with 1
  pub never_one : (n : ℕ) (l : Limits) → MayStart TwoPairs n l → {es : List Event} {u : Table} {q : Place} {r : TurnOutcome} → Reached ByDriver n l es u → Turned u q r → r.answer ≡ Err NotInRange → ⊥
