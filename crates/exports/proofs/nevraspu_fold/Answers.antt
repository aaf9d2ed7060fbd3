-- `nevraspu_fold` meets its contract, by the list's first field.
use mathlib.Core.Path.{sym, ◌∙◌, ap}
use Rattle.model.specs.State.{State}
use Rattle.event_list.specs.Format.{rest}
use Rattle.event_list.proofs.Reading.{reading_failed, reading_begun, first_good}
use Rattle.model.specs.Traffic.{accepted_from}
use Rattle.exports.specs.Boundary.{accepted_listed}
use Rattle.exports.proofs.nevraspu_fold.Goals as goal

pub fold_from-requires : goal.fold_from-requires
fold_from-requires c =
    let g = first_good c.args.list.now c.first_of.ensures c.in-Ok.is in
    (g.0, g.1)

pub returns-in-Err : goal.returns-in-Err
returns-in-Err c =
    sym (ap accepted_listed (reading_failed c.args.list.now c.first_of.ensures c.in-Err.is))

pub returns-in-Ok : goal.returns-in-Ok
returns-in-Ok c =
    let l = c.args.list.now in
    let n = c.in-Ok.is in
    c.fold_from.ensures
    ∙ ap (λ (s : State). accepted_from s (rest l 4).events) c.starting.ensures.table
    ∙ sym (ap accepted_listed (reading_begun l c.first_of.ensures n))
