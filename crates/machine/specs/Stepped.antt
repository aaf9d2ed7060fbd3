-- What the public functions promise, by the definitions of `model`.
use Rattle.std.specs.Prelude.{ℕ, not, ◌≡◌, List, replicate}
use Rattle.model.specs.Pick.{pick}
use Rattle.model.specs.Limits.{node_limit, queue_limit}
use Rattle.model.specs.Counts.{no_counts}
use Rattle.model.specs.Recovery.{recovery_records}
use Rattle.model.specs.Range.{is_tower_or_stand}
use Rattle.model.specs.State.{State, starting_node, start, wrong_count, node_at, no_message, view}
use Rattle.model.specs.Step.{Result, refused, accepted, step, after}
use Rattle.model.specs.Answers.{start_number, answer_number, result_number}
use Rattle.model.specs.declared.Limits.{Limits}
use Rattle.model.specs.declared.Node.{Node}
use Rattle.model.specs.declared.Table.{Table}
use Rattle.model.specs.declared.Event.{Event}
use Rattle.model.specs.declared.Event.TheVariants.{Recover}
use Rattle.model.specs.Answers.{Accepted}
use Rattle.model.specs.declared.Outcome.{Outcome}
use Rattle.machine.specs.declared.Start.{Start}
use Rattle.machine.specs.declared.RecoveryAnswer.{RecoveryAnswer}

-- the outcome r of event e on the table t. What the table holds past its n records and its waiting messages is free after an accepted event, and decides nothing.
pub record Stepped (t : Table) (e : Event) (r : Outcome) : Type 0 where
  -- the answer is the model's
  pub answer : answer_number r.answer ≡ result_number (step (view t) e)
  -- and so is the table
  pub table : view r.table ≡ after (view t) e
  -- a refusal gives back the very same table, all places included
  pub same : (r.answer ≡ Accepted → ⊥) → r.table ≡ t

-- "all Down and idle, every number 0, every set empty, no messages": in every record and every place of the code's table
abbrev pub starting_table : ℕ → Limits → Table
starting_table n l = record {
  n = n;
  limits = l;
  nodes = replicate node_limit starting_node;
  messages = replicate queue_limit no_message;
  waiting = 0;
  sent = no_counts;
  delivered = no_counts;
  lost = no_counts;
}

-- the refusal of a starting table's data, or 0: "no other pair is allowed" (T-08), as a table with another is not in range, and then "n outside 1 to 16", by the limits
abbrev pub begun_number : ℕ → Limits → ℕ
begun_number n l = pick (not (is_tower_or_stand l)) 1 (pick (wrong_count l.nodes n) 6 0)

-- What `starting` answers for n and the limits l, and the table that it returns, also where it refuses them.
pub record Begun (n : ℕ) (l : Limits) (r : Start) : Type 0 where
  -- refusal 1 or 6, or none
  pub answer : start_number r.answer ≡ begun_number n l
  -- the table in all its places
  pub exact : r.table ≡ starting_table n l
  -- so it is the model's
  pub table : view r.table ≡ start n l

-- ── 02, T-04: "A new entry takes what recover i takes, is refused as it is, and answers the eight records of cabinet i, one after each assignment" ──

-- the records beside the result of recover i on the state s; beside a refusal no record is answered, and each of the eight places holds the starting record
abbrev pub records_beside : State → ℕ → Result → List Node
records_beside s i (refused r) = replicate 8 starting_node
records_beside s i (accepted u k) = recovery_records i (node_at s i)

-- What `recovery` answers for the table t and node i. Nothing of it is free. It returns no table.
pub record RecoveryAnswered (t : Table) (i : ℕ) (r : RecoveryAnswer) : Type 0 where
  -- "is refused as it is": the answer is the model's to recover i
  pub answer : answer_number r.answer ≡ result_number (step (view t) (Recover i))
  pub records : r.records ≡ records_beside (view t) i (step (view t) (Recover i))
