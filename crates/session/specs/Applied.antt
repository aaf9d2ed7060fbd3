-- "The rig keeps one table for a whole session and applies each event to it": calls of `apply` on one lent table, and demand 3, T-05 and T-10 of them.
use Rattle.std.specs.Prelude.{ℕ, ◌≤◌, List, [], ◌∷◌}
use Rattle.model.specs.Limits.{node_limit}
use Rattle.model.specs.declared.Limits.{Limits}
use Rattle.model.specs.declared.Table.{Table}
use Rattle.model.specs.declared.Event.{Event}
use Rattle.model.specs.Answers.{Answer}
use Rattle.machine.specs.Stepped.{Stepped}
use Rattle.machine.specs.Folded.{Folded}
use Rattle.machine.specs.Claims.{CodeRuns, CodeFixes, CodeTowerAndStand}

-- From what the table held first, t, by a call for each event, to what it holds then, u. "Each event gets the table that the one before returned or left, and
-- nobody else writes it."
pub data Applied : Table → List Event → Table → Type 0 where
  none : {t : Table} → Applied t [] t
  -- one call with the event e, which found the table t, answered a and left the table v, as `apply` promises; and the calls after it
  more : {t : Table} {e : Event} {a : Answer} {v : Table} {es : List Event} {u : Table} → Stepped t e (record { answer = a; table = v }) → Applied v es u → Applied t (e ∷ es) u

-- What is claimed of a session. The proof is in proofs/Sessions.
pub record SessionFixes : Type 0 where
  -- its calls are steps of the machine
  pub folds : (t : Table) (es : List Event) (u : Table) → Applied t es u → Folded t es u
  -- what the table holds from call to call is in the model's run
  pub runs : CodeRuns Applied
  -- demand 3, whole, holds of it, with any limits
  pub fixes : (n : ℕ) (l : Limits) → n ≤ node_limit → CodeFixes Applied n l
  -- and so do T-05 and T-10, in the tower and on the stand
  pub both : CodeTowerAndStand Applied
