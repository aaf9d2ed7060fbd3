-- `answered` meets its contract: a refusal writes nothing, and the bytes of the cleared table are read back.
use mathlib.Core.Path.{◌∙◌, ap}
use Rattle.bully_model.specs.State.{view}
use Rattle.bully_machine.proofs.Laws.{sized}
use Rattle.exports.proofs.BullyStepping.{view_table}
use Rattle.exports.proofs.bully.answered.Goals as goal

pub returns : goal.returns
returns c =
    let e = c.encode.ensures in
    let d = c.cleared.ensures in
    record {
      number = c.answer_number-r.ensures;
      kept = λ h. absurd (h c.if-r-ne0.false);
      whole = λ _ room. rw d at (e.whole room);
      back = λ _ room. ap view (e.back room ∙ d) ∙ view_table c.args.t (sized c.args.t c.well_formed.1.0);
    }
