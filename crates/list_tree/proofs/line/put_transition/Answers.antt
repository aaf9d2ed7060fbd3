-- `list_tree::line::put_transition` meets its contract: three pieces.
use native.Mathlib.Omega.{arith}
use mathlib.Core.List.{◌++◌, append_assoc}
use Rattle.listing.specs.Ascii.{bytes}
use Rattle.listing.specs.Decimal.{decimal}
use Rattle.listing.proofs.Appended.{wrote_twice}
use Rattle.aldebaran_text.specs.Text.{label, transition_line}
use Rattle.list_tree.proofs.line.put_transition.Goals as goal

pub returns : goal.returns
unfolding transition_line
returns c =
    let a = c.args in
    let x = c.put_source.ensures.1 in
    let y = c.put_with_number.ensures.1 in (
      rw (← append_assoc (decimal a.source) (bytes ", \"" ++ label a.e) (bytes "\", " ++ (decimal a.target ++ bytes ")\n")))
          (wrote_twice c.put_source.ensures.0 (wrote_twice c.put_with_number.ensures.0 c.put.ensures)),
      omega (arith, c.put.ensures.appended.next),
    )
