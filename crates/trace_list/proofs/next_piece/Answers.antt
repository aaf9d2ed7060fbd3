-- `next_piece` meets its contract, by what stands at the next field.
use mathlib.Core.Path.{◌∙◌, ap}
use Rattle.std.specs.Prelude.{Ok}
use Rattle.run_list.proofs.Laws.{event_there}
use Rattle.trace_list.proofs.Given.{gave_end, gave_stop, gave_step}
use Rattle.trace_list.proofs.next_piece.Goals as goal

pub returns-in-Ok-None : goal.returns-in-Ok-None
returns-in-Ok-None c = gave_end _ _ c.requires c.event_at.ensures _ _ (c.in-Ok-None.is ∙ ap Ok c.in-Ok-None.field-0-is) c.ended.ensures

pub returns-in-Err : goal.returns-in-Err
returns-in-Err c = gave_stop _ _ c.requires c.event_at.ensures _ _ c.in-Err.is _ c.stop_number.ensures c.stopped.ensures

pub returns-in-Ok-Some : goal.returns-in-Ok-Some
returns-in-Ok-Some c = gave_step _ _ c.requires c.event_at.ensures _ _ (event_there c.in-Ok-Some.is c.in-Ok-Some.field-0-is c.in-Ok-Some.v-is c.in-Ok-Some.next-is) c.stepped.ensures
