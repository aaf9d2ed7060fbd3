-- A refusal writes nothing; else the record is written, and the packet behind it.
use Rattle.exports_controller.proofs.Outcomes.{outcome_fits}
use Rattle.exports_controller.proofs.Promises.{refused_kept, accepted_stored}
use Rattle.exports_controller.proofs.answered.Goals as goal

pub returns-then-r-ne0 : goal.returns-then-r-ne0
returns-then-r-ne0 c = refused_kept c.args.o _ _ c.answer_number-r.ensures c.if-r-ne0.true

pub returns : goal.returns
returns c =
    accepted_stored c.args.o _ _ c.answer_number-r.ensures (outcome_fits c.args.o c.well_formed.0) c.requires c.if-r-ne0.false _ _ c.put_node.ensures c.put_packet.ensures
