-- The single messages and the wrong bytes, computed over the definitions.
use mathlib.Core.Path.{refl}
use Rattle.model.specs.Pick.{pick}
use Rattle.model.specs.Range.{message_in_range}
use Rattle.number_bytes.specs.Bytes.{number, bytes, same_bytes}
use Rattle.message_fields.specs.Fields.{fields, message_in, is_message, reading}
use Rattle.message_fields.specs.Claims.{FieldCases}

pub field_cases : FieldCases
unfolding pick number bytes message_in_range fields message_in same_bytes is_message reading
field_cases =
    record {
      one = refl;
      two = refl;
      three = refl;
      four = refl;
      five = refl;
      six_yes = refl;
      six_no = refl;
      none = refl;
      cut = refl;
      tag = refl;
      order = refl;
      order_behind = refl;
      long = refl;
      low_first = refl;
      no_group = refl;
      no_task = refl;
      no_yes = refl;
      group_too = refl;
      group_in_reply = refl;
      twice = refl;
      behind = refl;
      neither = refl;
      kind_none = refl;
      kind_seven = refl;
      call_none = refl;
      call_high = refl;
      sender_none = refl;
      sender_four = refl;
      receiver_none = refl;
      receiver_four = refl;
      group_zero = refl;
      group_low = refl;
      group_four = refl;
      group_high = refl;
      task_low = refl;
      call_last = refl;
      group_last = refl;
      task_first = refl;
      to_itself = refl;
    }
