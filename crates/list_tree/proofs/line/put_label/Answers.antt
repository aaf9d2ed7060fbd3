-- `list_tree::line::put_label` meets its contract: the event's text, changed.
use native.Mathlib.Omega.{arith}
use mathlib.Core.Path.{◌∙◌}
use Rattle.short_lists_text.specs.Text.{event_text}
use Rattle.aldebaran_text.specs.Text.{capital}
use Rattle.aldebaran_text.proofs.Labels.{text_raised}
use Rattle.list_tree.proofs.Capitals.{all_upper_same, changed}
use Rattle.list_tree.proofs.line.put_label.Goals as goal

pub returns : goal.returns
returns c =
    let a = c.args in
    let x = c.put_event.ensures in
    let p = c.requires in (
      record {
        same = x.0.same;
        appended =
            rw (← text_raised a.e)
            (changed capital a.out.now.bytes.now (event_text a.e) c.put_event.new.out.bytes.now c.make_ascii_uppercase.new.self a.out.now.end c.put_event.new.out.end (omega arith) x.0.appended (c.make_ascii_uppercase.ensures.after ∙ all_upper_same _));
      },
      x.1,
    )
