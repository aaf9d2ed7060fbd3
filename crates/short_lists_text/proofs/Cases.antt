-- The texts, computed over the definitions.
use mathlib.Core.Path.{refl}
use lib.Count.{ones_in, ones, count_leading_zeros}
use Rattle.model.specs.Pick.{pick}
use Rattle.model.specs.Procedures.{invite_next, merges, hand_next, finishes, forward_next, asked_all, ask_at, ask_after}
use Rattle.model.specs.React.{checked, timed_out, ticked, expired, resumed, on_are_you_coordinator, on_are_you_there, on_invitation, on_accept, on_ready, on_reply, received, react}
use Rattle.model.specs.Range.{activity_in_range, node_in_range, message_in_range, count_in_range}
use Rattle.model.specs.State.{waits, oldest, without_oldest, how_many, every, up_to, counts_in_range, traffic_in_range, in_range}
use Rattle.model.specs.Grounds.{judged}
use Rattle.model.specs.Step.{reaction_to, remaining, effect, grounds, step, run_from}
use Rattle.listing.specs.Decimal.{digits, decimal}
use Rattle.listing.specs.Lines.{row, stopped_line}
use Rattle.listing.specs.Printing.{joined}
use Rattle.short_lists_text.specs.Lists.{up_from, without, pairs_of, alphabet, lists_from}
use Rattle.short_lists_text.specs.Text.{name_of, spaced, event_text, more_text, events_text, list_line, count_line, fits_to, text_of}
use Rattle.short_lists_text.specs.Cases.{TextCases}

pub text_cases : TextCases
unfolding pick ones_in ones count_leading_zeros invite_next merges hand_next finishes forward_next asked_all ask_at ask_after checked timed_out ticked expired resumed on_are_you_coordinator on_are_you_there on_invitation on_accept on_ready on_reply received react activity_in_range node_in_range message_in_range count_in_range waits oldest without_oldest how_many every up_to counts_in_range traffic_in_range in_range reaction_to remaining effect grounds judged step run_from digits decimal row stopped_line joined up_from without pairs_of alphabet lists_from name_of spaced event_text more_text events_text list_line count_line fits_to text_of
text_cases =
    record {
      empty_list = refl;
      line_end = refl;
      one = refl;
      two = refl;
      two_of_two = refl;
      three_of_two = refl;
      four = refl;
      events = refl;
      words = refl;
      pairs = refl;
      finish = refl;
      no_finish = refl;
      tick = refl;
      now_first = refl;
      now_second = refl;
      now_third = refl;
      former_first = refl;
      former_second = refl;
      former_third = refl;
      most = refl;
      least = refl;
      no_bytes = refl;
      one_byte = refl;
      three_bytes = refl;
      no_nodes = refl;
      four_nodes = refl;
      too_long = refl;
    }
