-- Each field is written where the one before it ends.
use mathlib.Core.Path.{refl}
use Rattle.number_bytes.specs.Bytes.{bytes}
use Rattle.table_bytes.specs.Bytes.{limits_bytes}
use Rattle.number_bytes.proofs.Numbers.{then}
use Rattle.table_bytes.proofs.put_limits.Goals as goal

pub returns : goal.returns
unfolding bytes limits_bytes
returns c =
    then _ _ _ _ 1 c.put_one.ensures refl c.put_one-2.ensures
