-- Wrong drivers: no outcome that meets `Turned` is theirs, on any table and at any place. The proof is in proofs/Mutants.
use Rattle.std.specs.Prelude.{ℕ, ◌+◌, true, false, ◌⊎◌, ◌≡◌, Err}
use Rattle.model.specs.Counts.{count_at, one_more}
use Rattle.model.specs.Node.{is_down}
use Rattle.model.specs.State.{State, node_at, waits, without_oldest, in_range, view}
use Rattle.model.specs.Step.{refused, accepted, step}
use Rattle.model.specs.declared.Table.{Table}
use Rattle.model.specs.declared.Mark.{Mark}
use Rattle.model.specs.declared.Event.TheVariants.{Deliver}
use Rattle.model.specs.Answers.{Accepted}
use Rattle.model.specs.declared.Refusal.TheVariants.{NotInRange, WrongNumber}
use Rattle.round.specs.Order.{pair, is_in_round, next_pair}
use Rattle.round.specs.Claims.{AtPair}
use Rattle.round.specs.declared.Place.{Place}
use Rattle.round.specs.declared.Done.TheVariants.{Nothing, Delivered, Lost}
use Rattle.round.specs.declared.TurnOutcome.{TurnOutcome}
use Rattle.driver.specs.Turned.{Turned}

pub record NoOtherTurn : Type 0 where
  -- a round that leaves a pair out, comes to one twice, or stays where it is: it goes on to another place than the next pair
  pub leaves_out : {t : Table} {p : Place} {r : TurnOutcome} → Turned t p r → AtPair (view t) p → (r.place ≡ next_pair t.n p → ⊥) → ⊥
  -- one that turns a turn away
  pub turns_away : {t : Table} {p : Place} {r : TurnOutcome} → Turned t p r → AtPair (view t) p → (r.answer ≡ Accepted → ⊥) → ⊥
  -- one that does nothing where a message waits, or says that it did and takes none of the pair out
  pub does_nothing : {t : Table} {a b : ℕ} {r : TurnOutcome} → Turned t (pair a b) r → AtPair (view t) (pair a b) → waits a b (view t).queue ≡ true → r.done ≡ Nothing → ⊥
  pub takes_none : {t : Table} {a b : ℕ} {r : TurnOutcome} → Turned t (pair a b) r → AtPair (view t) (pair a b) → waits a b (view t).queue ≡ true
      → count_at r.table.delivered a b + count_at r.table.lost a b ≡ count_at t.delivered a b + count_at t.lost a b → ⊥
  -- one that does something where none waits, or changes the table then
  pub does_something : {t : Table} {a b : ℕ} {r : TurnOutcome} → Turned t (pair a b) r → AtPair (view t) (pair a b) → waits a b (view t).queue ≡ false → (r.done ≡ Nothing → ⊥) → ⊥
  pub changes_table : {t : Table} {p : Place} {r : TurnOutcome} → Turned t p r → r.done ≡ Nothing → (r.table ≡ t → ⊥) → ⊥
  -- one that does not lose what is for a Down node
  pub to_down : {t : Table} {a b : ℕ} {r : TurnOutcome} → Turned t (pair a b) r → AtPair (view t) (pair a b) → waits a b (view t).queue ≡ true → is_down (node_at (view t) b).status ≡ true
      → (r.done ≡ Lost → ⊥) → ⊥
  -- one that does not deliver what can be delivered, or delivers it otherwise than the event does
  pub not_delivered : {t : Table} {a b : ℕ} {r : TurnOutcome} (u : State) (k : Mark) → Turned t (pair a b) r → AtPair (view t) (pair a b) → step (view t) (Deliver a b) ≡ accepted u k
      → (r.done ≡ Delivered → ⊥) → ⊥
  pub delivers_otherwise : {t : Table} {a b : ℕ} {r : TurnOutcome} (u : State) (k : Mark) → Turned t (pair a b) r → AtPair (view t) (pair a b) → step (view t) (Deliver a b) ≡ accepted u k
      → (view r.table ≡ u → ⊥) → ⊥
  -- one that lets a message wait whose delivery meets 12, 13 or 17
  pub waits_at_end : {t : Table} {a b : ℕ} {r : TurnOutcome} (x : ℕ) → Turned t (pair a b) r → AtPair (view t) (pair a b) → (x ≡ 12) ⊎ ((x ≡ 13) ⊎ (x ≡ 17)) → step (view t) (Deliver a b) ≡ refused x
      → (r.done ≡ Lost → ⊥) → ⊥
  -- a loss that takes out another message than the oldest, changes a record, counts as a delivery, or does not count as a loss
  pub not_oldest : {t : Table} {a b : ℕ} {r : TurnOutcome} → Turned t (pair a b) r → r.done ≡ Lost → ((view r.table).queue ≡ without_oldest a b (view t).queue → ⊥) → ⊥
  pub changes_record : {t : Table} {a b : ℕ} {r : TurnOutcome} → Turned t (pair a b) r → r.done ≡ Lost → ((view r.table).nodes ≡ (view t).nodes → ⊥) → ⊥
  pub counts_delivered : {t : Table} {a b : ℕ} {r : TurnOutcome} → Turned t (pair a b) r → r.done ≡ Lost → (r.table.delivered ≡ t.delivered → ⊥) → ⊥
  pub counts_none : {t : Table} {a b : ℕ} {r : TurnOutcome} → Turned t (pair a b) r → r.done ≡ Lost → (r.table.lost ≡ one_more t.lost a b → ⊥) → ⊥
  -- "With n = 1 a turn does nothing": one that refuses it there, or moves its place
  pub one_away : {t : Table} {p : Place} {r : TurnOutcome} → Turned t p r → in_range (view t) ≡ true → t.n ≡ 1 → (r.answer ≡ Accepted → ⊥) → ⊥
  pub one_moves : {t : Table} {p : Place} {r : TurnOutcome} → Turned t p r → in_range (view t) ≡ true → t.n ≡ 1 → (r.place ≡ p → ⊥) → ⊥
  -- one that takes another place than a pair of the round, or gives 7 before 1
  pub no_pair : {t : Table} {p : Place} {r : TurnOutcome} → Turned t p r → in_range (view t) ≡ true → (t.n ≡ 1 → ⊥) → is_in_round t.n p ≡ false → (r.answer ≡ Err WrongNumber → ⊥) → ⊥
  pub not_one_first : {t : Table} {p : Place} {r : TurnOutcome} → Turned t p r → in_range (view t) ≡ false → (r.answer ≡ Err NotInRange → ⊥) → ⊥
  -- a refusal that changes the table or the place
  pub refused_table : {t : Table} {p : Place} {r : TurnOutcome} → Turned t p r → (r.answer ≡ Accepted → ⊥) → (r.table ≡ t → ⊥) → ⊥
  pub refused_place : {t : Table} {p : Place} {r : TurnOutcome} → Turned t p r → (r.answer ≡ Accepted → ⊥) → (r.place ≡ p → ⊥) → ⊥
