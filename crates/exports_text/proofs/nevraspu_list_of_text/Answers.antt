-- `nevraspu_list_of_text` meets its contract: what the parser answers, written out.
use Rattle.exports_text.proofs.Out.{is_list, list_exported}
use Rattle.exports_text.proofs.nevraspu_list_of_text.Goals as goal

pub returns-in-Ok : goal.returns-in-Ok
returns-in-Ok c =
    let m = c.list_of_text in
    list_exported _ _ _ _ _ _ (is_list _ _ _ _ m.result m.ensures c.in-Ok.is) c.write_out.ensures
