-- Demand 3 and T-05 of a session: calls of `apply` on one table are steps of the machine.
use Prim.Native.Nat.{ℕ, ◌≤◌}
use mathlib.Core.List.{List}
use Rattle.model.specs.Limits.{node_limit}
use Rattle.model.specs.declared.Limits.{Limits}
use Rattle.model.specs.declared.Table.{Table}
use Rattle.model.specs.declared.Event.{Event}
use Rattle.machine.specs.Folded.{Folded}
use Rattle.machine.specs.Claims.{CodeRuns, CodeFixes}
use Rattle.machine.proofs.Runs.{chain_runs, chain_fixes, chain_both}
use Rattle.session.specs.Applied.{Applied, none, more, SessionFixes}

applied_folds : (t : Table) (es : List Event) (u : Table) → Applied t es u → Folded t es u
applied_folds t es u none = Folded.none
applied_folds t es u (more s a) = Folded.more s (applied_folds _ _ _ a)

-- for any n and limits
pub session_runs : CodeRuns Applied
session_runs = chain_runs Applied applied_folds

pub session_fixed : (n : ℕ) (l : Limits) → n ≤ node_limit → CodeFixes Applied n l
session_fixed = chain_fixes Applied applied_folds

pub session_fixes : SessionFixes
session_fixes = record { folds = applied_folds; runs = session_runs; fixes = session_fixed; both = chain_both Applied applied_folds }
