-- `answered` meets its contract: a refusal writes nothing, and the bytes of the cleared table are read back.
use native.Mathlib.Omega.{arith}
use mathlib.Core.Path.{◌∙◌, ap}
use lib.Seq.{length-take-le}
use Rattle.model.specs.State.{view}
use Rattle.machine.proofs.Laws.{sized}
use Rattle.number_bytes.proofs.Lent.{written_part}
use Rattle.table_bytes.specs.Bytes.{size}
use Rattle.exports.specs.Boundary.{state_bytes}
use Rattle.exports.proofs.Clearing.{view_table}
use Rattle.exports.proofs.answered.Goals as goal

pub returns : goal.returns
returns c =
    let e = c.encode.ensures in
    let d = c.cleared.ensures in
    let long = length-take-le size c.args.out.now c.requires in
    record {
      number = c.answer_number-r.ensures;
      kept = λ h. absurd (h c.if-r-ne0.false);
      whole = λ _. written_part size c.args.out.now (state_bytes (view c.args.t)) _ c.requires (rw d at (e.whole (omega (arith, long))));
      back = λ _. ap view (e.back (omega (arith, long)) _ ∙ d) ∙ view_table c.args.t (sized c.args.t c.well_formed.1.0);
    }
