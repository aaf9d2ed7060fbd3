-- What stands in the places from n on is written, and what stands before them stays.
use Rattle.exports.proofs.Clearing.{clear_from}
use mathlib.Core.Path.{◌∙◌, ap}
use Prim.Native.Nat.{ℕ, min}
use lib.ListN.{length}
use Rattle.exports.proofs.clear.Goals as goal

pub returns : goal.returns
returns g c =
    clear_from c.args.none c.args.n c.min-from.result c.args.all.now _ (c.min-from.ensures ∙ ap (λ (k : ℕ). min k (length c.args.all.now)) c.from.ensures)
    (c.fill.ensures.after c.requires.same)
