-- `list_events::text::put_two` meets its contract: a number more is a piece more.
use native.Mathlib.Omega.{arith}
use mathlib.Core.List.{[], ◌∷◌, append_assoc}
use lib.ListN.{length-append}
use Rattle.listing.specs.Decimal.{decimal}
use Rattle.short_lists_text.specs.Text.{spaced}
use Rattle.listing.proofs.Appended.{wrote_twice}
use Rattle.short_lists_text.proofs.Spaced.{spaced_two, two_long}
use Rattle.list_events.proofs.text.put_two.Goals as goal

pub put_field-requires : goal.put_field-requires
put_field-requires c =
    let l = two_long c.args.i c.args.x in
    omega (arith, length-append c.args.w.now (spaced (c.args.i ∷ [])), c.put_one.ensures.appended.long, c.put_one.ensures.appended.next)

pub returns : goal.returns
returns c =
    rw (spaced_two c.args.i c.args.x, ← append_assoc c.args.w.now (spaced (c.args.i ∷ [])) (32 ∷ decimal c.args.x)) (wrote_twice c.put_one.ensures c.put_field.ensures)
