-- The single steps and K10, computed over the definitions.
use mathlib.Core.Path.{refl}
use lib.Count.{ones_in, ones, count_leading_zeros}
use Rattle.model.specs.Pick.{pick}
use Rattle.model.specs.Grounds.{judged}
use Rattle.model.specs.Procedures.{invite_next, merges, hand_next, finishes, forward_next, asked_all, ask_at, ask_after}
use Rattle.model.specs.React.{checked, timed_out, ticked, expired, resumed, on_are_you_coordinator, on_are_you_there, on_invitation, on_accept, on_ready, on_reply, received, react}
use Rattle.model.specs.Range.{activity_in_range, node_in_range, message_in_range}
use Rattle.number_bytes.specs.Bytes.{number, bytes, same_bytes}
use Rattle.message_fields.specs.Fields.{fields, message_in, is_message}
use Rattle.controller.specs.Controller.{reaction_in, controller_grounds, controller_step}
use Rattle.controller.specs.Network.{waits_in, oldest_in, without_in, step_by, run_by}
use Rattle.controller.specs.Cases.{ControllerCases}

pub controller_cases : ControllerCases
unfolding number bytes ones_in ones count_leading_zeros pick judged invite_next merges hand_next finishes forward_next asked_all ask_at ask_after checked timed_out ticked expired resumed on_are_you_coordinator on_are_you_there on_invitation on_accept on_ready on_reply received react activity_in_range node_in_range message_in_range fields message_in same_bytes is_message reaction_in controller_grounds controller_step waits_in oldest_in without_in step_by run_by
controller_cases =
    record {
      n_none = refl;
      n_high = refl;
      n_last = refl;
      own_none = refl;
      own_high = refl;
      record_four = refl;
      record_three = refl;
      one_first = refl;
      one_first_message = refl;
      k2 = refl;
      k3 = refl;
      k5_last = refl;
      k5 = refl;
      k6_low = refl;
      k6 = refl;
      k6_full_peal = refl;
      k8 = refl;
      k9 = refl;
      k12 = refl;
      k13 = refl;
      eight_first = refl;
      twenty_first = refl;
      other_event = refl;
      other_message = refl;
      twenty_one_first = refl;
      twenty_one_first_message = refl;
      down = refl;
      ten_first = refl;
      eighteen = refl;
      twelve_message = refl;
      thirteen = refl;
      thirteen_message = refl;
      check = refl;
      k10_collecting = refl;
      k10_end = refl;
    }
