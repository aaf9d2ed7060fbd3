-- How long the text of a list can be.
use Prim.Native.Nat.{◌+◌, ◌*◌, ◌≤◌}
use native.Mathlib.Omega.{arith}
use mathlib.Core.Path.{◌≡◌}
use mathlib.Core.Bool.{true}
use lib.ListN.{length, length-append}
use Rattle.model.specs.State.{State, in_range}
use Rattle.listing.specs.Printing.{joined}
use Rattle.listing.proofs.Lengths.{turns_long}
use Rattle.run_list.proofs.Bound.{table_most, text_fits_with}
use Rattle.rest_bound.specs.Turns.{turns_to_rest, table_at_rest}
use Rattle.rest_bound.proofs.Turns.{rest_range, rest_within}
use Rattle.rest_list.specs.Text.{rest_lines, RestTextFits}
use Rattle.rest_list.proofs.Turns.{bound_small}

-- the lines of what a table in range comes to
rest_most : (s : State) → in_range s ≡ true → length (joined (rest_lines s)) ≤ 34 * 16 + 12 + 53 + 14
unfolding joined
rest_most s r =
    let t = table_most (table_at_rest s) (rest_range s r) in
    let k = turns_long (turns_to_rest s) (omega (arith, rest_within s, bound_small s r)) in
    simp length-append (omega (arith, t, k))

-- A buffer of rest_limit bytes is enough for every list.
pub rest_text_fits : RestTextFits
rest_text_fits l = text_fits_with rest_lines (34 * 16 + 12 + 53 + 14) rest_most l
