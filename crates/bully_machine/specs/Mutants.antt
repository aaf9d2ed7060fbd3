-- Wrong readings of Appendix I and T-07: no outcome that meets `Stepped` is theirs, on any table. All but the two of a crash, which leave the range, can bring two nodes to
-- differ. The proof is in proofs/Mutants.
use Rattle.std.specs.Prelude.{ℕ, ◌+◌, ◌-◌, ◌<◌, true, false, ◌≡◌}
use Rattle.model.specs.Node.{is_reorganization}
use Rattle.model.specs.declared.Status.TheVariants.{Down, Election}
use Rattle.bully_model.specs.State.{node_at, view}
use Rattle.bully_model.specs.Answers.{Accepted}
use Rattle.bully_model.specs.declared.Place.TheVariants.{Idle, Asking, Halting, Handing}
use Rattle.bully_model.specs.declared.Table.{Table}
use Rattle.bully_model.specs.declared.Event.TheVariants.{Crash, Recover, GoOn}
use Rattle.bully_model.specs.declared.Outcome.{Outcome}
use Rattle.bully_machine.specs.Stepped.{Stepped}

pub record NoWrongReading : Type 0 where
  -- a crash that leaves another status than Down, or a procedure running
  pub crash_keeps_status : {t : Table} {i : ℕ} {r : Outcome} → Stepped t (Crash i) r → r.answer ≡ Accepted → ((node_at (view r.table) i).status ≡ Down → ⊥) → ⊥
  pub crash_keeps_place : {t : Table} {i : ℕ} {r : Outcome} → Stepped t (Crash i) r → r.answer ≡ Accepted → ((node_at (view r.table) i).place ≡ Idle → ⊥) → ⊥
  -- the election of a recovery that does not ask the next higher node first, and one that asks on past a node
  pub asks_nobody : {t : Table} {i : ℕ} {r : Outcome} → Stepped t (Recover i) r → r.answer ≡ Accepted → i < t.n → ((node_at (view r.table) i).place ≡ Asking (i + 1) → ⊥) → ⊥
  pub asks_past : {t : Table} {i j : ℕ} {r : Outcome} → Stepped t (GoOn i) r → r.answer ≡ Accepted → (node_at (view t) i).place ≡ Asking j → (node_at (view t) j).runs ≡ false → j < t.n
      → ((node_at (view r.table) i).place ≡ Asking (j + 1) → ⊥) → ⊥
  -- the highest node, which at its recovery has nobody to ask, halts another than the next lower one first, and one that halts on past a node, off or not
  pub halts_from_below : {t : Table} {i : ℕ} {r : Outcome} → Stepped t (Recover i) r → r.answer ≡ Accepted → i ≡ t.n → 1 < i
      → ((node_at (view r.table) i).place ≡ Halting (i - 1) → ⊥) → ⊥
  pub halts_past : {t : Table} {i j : ℕ} {r : Outcome} → Stepped t (GoOn i) r → r.answer ≡ Accepted → (node_at (view t) i).place ≡ Halting j → 1 < j
      → ((node_at (view r.table) i).place ≡ Halting (j - 1) → ⊥) → ⊥
  -- a halt that leaves another status than Election, or does not stop the halted one
  pub halt_keeps_status : {t : Table} {i j : ℕ} {r : Outcome} → Stepped t (GoOn i) r → r.answer ≡ Accepted → (node_at (view t) i).place ≡ Halting j → (node_at (view t) j).runs ≡ true
      → ((node_at (view r.table) j).status ≡ Election → ⊥) → ⊥
  pub halt_keeps_place : {t : Table} {i j : ℕ} {r : Outcome} → Stepped t (GoOn i) r → r.answer ≡ Accepted → (node_at (view t) i).place ≡ Halting j → (node_at (view t) j).runs ≡ true
      → ((node_at (view r.table) j).place ≡ Idle → ⊥) → ⊥
  -- a Ready that changes a node which is not in Reorganization
  pub ready_in_any_status : {t : Table} {i still j : ℕ} {r : Outcome} → Stepped t (GoOn i) r → r.answer ≡ Accepted → (node_at (view t) i).place ≡ Handing still j
      → is_reorganization (node_at (view t) j).status ≡ false → (node_at (view r.table) j ≡ node_at (view t) j → ⊥) → ⊥
