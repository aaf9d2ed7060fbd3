-- What is claimed of the tables that the code returns: they are those of the model's run, and T-07's claim holds of them. The proofs are in proofs/Runs.
use Rattle.std.specs.Prelude.{ℕ, ◌≤◌, true, ◌≡◌, List, Err}
use Rattle.model.specs.Limits.{node_limit}
use Rattle.model.specs.Node.{is_normal, is_active}
use Rattle.bully_model.specs.State.{State, node_at, in_range, view}
use Rattle.bully_model.specs.Answers.{Accepted}
use Rattle.bully_model.specs.Step.{accepted, step, run_from, run}
use Rattle.bully_model.specs.Claims.{AllDown}
use Rattle.bully_model.specs.declared.Table.{Table}
use Rattle.bully_model.specs.declared.Event.{Event}
use Rattle.bully_model.specs.declared.Outcome.{Outcome}
use Rattle.bully_model.specs.declared.Refusal.TheVariants.{NotInRange}
use Rattle.bully_machine.specs.declared.Start.{Start}
use Rattle.bully_machine.specs.Stepped.{Stepped, Begun}
use Rattle.bully_machine.specs.Folded.{Folded}

-- Of any outcome that meets `Stepped`, what `step` promises: the code answers Accepted exactly where the model accepts.
pub record AcceptedAlike : Type 0 where
  -- and then the table, as `view` takes it, is the model's
  pub model_accepts : {t : Table} {e : Event} {r : Outcome} → Stepped t e r → r.answer ≡ Accepted → step (view t) e ≡ accepted (view r.table)
  pub code_accepts : {t : Table} {e : Event} {r : Outcome} → Stepped t e r → (u : State) → step (view t) e ≡ accepted u → r.answer ≡ Accepted

-- Of any two outcomes that meet `Stepped` for the same table and event: one answer meets it, and one table as `view` takes it; after a refusal, one table with all
-- its places.
pub record SteppedAlike : Type 0 where
  pub answer : {t : Table} {e : Event} {r q : Outcome} → Stepped t e r → Stepped t e q → r.answer ≡ q.answer
  pub table : {t : Table} {e : Event} {r q : Outcome} → Stepped t e r → Stepped t e q → view r.table ≡ view q.table
  pub same : {t : Table} {e : Event} {r q : Outcome} → Stepped t e r → Stepped t e q → (r.answer ≡ Accepted → ⊥) → r.table ≡ q.table

-- the code led from what `starting(n)` returned, by the events es, to the table t
pub record Reached (n : ℕ) (es : List Event) (t : Table) : Type 0 where
  pub first : Start
  pub begun : Begun n first
  pub led : Folded first.table es t

-- the tables that the code returned, one after another, are those of the model's run
pub record CodeRuns : Type 0 where
  -- from any table
  pub from_any : (t : Table) (es : List Event) (u : Table) → Folded t es u → view u ≡ run_from (view t) es
  -- from the starting one
  pub from_start : (n : ℕ) (es : List Event) (t : Table) → Reached n es t → view t ≡ run n es
  -- and so they are in range, and no event meets ground 1
  pub in_range_lem : (n : ℕ) → 1 ≤ n → n ≤ node_limit → {es : List Event} {t : Table} → Reached n es t → in_range (view t) ≡ true
  pub never_one : (n : ℕ) → 1 ≤ n → n ≤ node_limit → {es : List Event} {t : Table} → Reached n es t → {e : Event} {r : Outcome} → Stepped t e r → r.answer ≡ Err NotInRange → ⊥

-- T-07's claim, of the tables u that the code returned for lists of events from the table t: each field is that of `Agreement` (bully_model/specs/Claims), of them.
pub record CodeAgrees (t : Table) : Type 0 where
  -- "two cabinets in Reorganization or Normal have the same coordinator"
  pub same_coordinator : {es : List Event} {u : Table} → Folded t es u → (i j : ℕ)
      → is_active (node_at (view u) i).status ≡ true → is_active (node_at (view u) j).status ≡ true
      → (node_at (view u) i).coordinator ≡ (node_at (view u) j).coordinator
  -- "and two Normal ones the same task"
  pub same_task : {es : List Event} {u : Table} → Folded t es u → (i j : ℕ)
      → is_normal (node_at (view u) i).status ≡ true → is_normal (node_at (view u) j).status ≡ true
      → (node_at (view u) i).task ≡ (node_at (view u) j).task

-- "Proved after any events from all Down"
pub record CodeAgreesFromDown : Type 0 where
  -- from what `starting(n)` returned, for any n
  pub from_start : (n : ℕ) (r : Start) → Begun n r → CodeAgrees r.table
  -- and from every table whose nodes are all Down and idle
  pub from_down : (t : Table) → AllDown (view t) → CodeAgrees t
