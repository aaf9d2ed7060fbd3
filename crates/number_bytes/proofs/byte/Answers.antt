-- Past the end stands the default.
use mathlib.Core.Path.{sym}
use lib.ListN.{get_or-eq_default}
use Rattle.number_bytes.proofs.byte.Goals as goal

pub returns-else-k-s : goal.returns-else-k-s
returns-else-k-s c = sym (get_or-eq_default c.args.s.now 0 c.if-k-s.false)
