-- What inner functions promise. No promise of an exported function needs this file.
use Rattle.std.specs.Prelude.{◌≡◌, List, ◌++◌, ℕ, ◌≤◌, length, drop}
use Rattle.model.specs.State.{view}
use Rattle.bully_model.specs.State as bully
use Rattle.bully_model.specs.Answers as bully_answers
use Rattle.bully_model.specs.declared.Table as bully_table
use Rattle.bully_bytes.specs.Bytes as bully_bytes
use Rattle.model.specs.Answers.{Answer, answer_number}
use Rattle.model.specs.declared.Table.{Table}
use Rattle.table_bytes.specs.Bytes.{size}
use Rattle.exports.specs.Boundary.{state_of, state_bytes}
use Rattle.exports.specs.BullyBoundary as bully_boundary

-- the answer a, and the table t, given out in a buffer that held b and has the room of a table: r is answered, and o is what the buffer then holds
pub record Answered (a : Answer) (t : Table) (b o : List ℕ) (r : ℕ) : Type 0 where
  pub number : r ≡ answer_number a
  pub kept : (r ≡ 0 → ⊥) → o ≡ b
  pub whole : r ≡ 0 → o ≡ state_bytes (view t) ++ drop size b
  pub back : r ≡ 0 → state_of o ≡ view t

-- the same of the Bully machine; `whole` and `back` ask that the buffer has the room
pub record BullyAnswered (a : bully_answers.Answer) (t : bully_table.Table) (b o : List ℕ) (r : ℕ) : Type 0 where
  pub number : r ≡ bully_answers.answer_number a
  pub kept : (r ≡ 0 → ⊥) → o ≡ b
  pub whole : r ≡ 0 → bully_bytes.size ≤ length b → o ≡ bully_boundary.state_bytes (bully.view t) ++ drop bully_bytes.size b
  pub back : r ≡ 0 → bully_bytes.size ≤ length b → bully_boundary.state_of o ≡ bully.view t
