-- The single texts and lists hold by computing.
use mathlib.Core.Path.{refl}
use borrow.Author.Tests.{lt-ltb}
use Rattle.model.specs.Pick.{pick}
use Rattle.event_list.specs.Format.{length_of, cut_short, checked, event_of, next_at, limits_of, nodes_of, first_of, read_from, rest, reading}
use Rattle.listing.specs.Decimal.{digits, decimal}
use Rattle.listing.specs.Lines.{row, cabinets_line, stopped_line}
use Rattle.listing.specs.Printing.{joined}
use Rattle.short_lists_text.specs.Text.{name_of, spaced, event_text}
use Rattle.list_text.specs.Text.{stand_line, opening_line, event_line, list_lines}
use Rattle.list_text.specs.Words.{span, past, skipped, past_skipped, word_at, same, value_behind, value_up_to, number_at}
use Rattle.list_text.specs.Script.{event_field, list_bytes, opening_tag, opening_at, event_named, second_most, second_expected, event_of_two, numbers_at, event_at, event_from, separated_at, part_at, said_in, said_from, script_of, place_from, list_of}
use Rattle.list_text.specs.Message.{expected_text, message_text}
use Rattle.list_text.specs.Cases.{ListTextCases, ScriptCases, LimitCases}

pub list_text_cases : ListTextCases
unfolding pick length_of cut_short checked event_of next_at limits_of nodes_of first_of read_from rest reading digits decimal row cabinets_line stopped_line joined name_of spaced event_text stand_line opening_line event_line list_lines
list_text_cases =
    record {
      tower = refl;
      stand = refl;
      no_events = refl;
      out_of_range = refl;
      damaged = refl;
      cut = refl;
      empty = refl;
      no_nodes = refl;
      stand_five = refl;
      other_first = refl;
      first_again = refl;
      stand_damaged = refl;
    }

pub script_cases : ScriptCases
unfolding pick event_of digits decimal span past skipped past_skipped word_at same value_behind value_up_to number_at event_field list_bytes opening_tag opening_at event_named second_most second_expected event_of_two numbers_at event_at event_from separated_at part_at said_in said_from script_of place_from list_of expected_text message_text
script_cases =
    record {
      every_event_lem = refl;
      pasted = refl;
      one_line = refl;
      opening_alone = refl;
      empty_line = refl;
      both = refl;
      comments = refl;
      comment_bytes = refl;
      blanks = refl;
      seventeen = refl;
      largest = refl;
      zero = refl;
      zeros = refl;
      empty = refl;
      only_comments = refl;
      comment_alone = refl;
      byte_order_mark = refl;
      event_first = refl;
      capital = refl;
      opening_again = refl;
      no_nodes = refl;
      nodes_comma = refl;
      nodes_over = refl;
      no_number = refl;
      no_numbers = refl;
      no_second = refl;
      no_task = refl;
      over = refl;
      task_over = refl;
      huge = refl;
      sign = refl;
      letter = refl;
      other_byte = refl;
      task_word = refl;
      other_name = refl;
      count_line_lem = refl;
      capitals = refl;
      joined_number = refl;
      stopped = refl;
      comma_last = refl;
      comma_end = refl;
      comma_opening = refl;
      comma_comment = refl;
      comma_first = refl;
      comma_twice = refl;
      no_separator = refl;
      third_number = refl;
      first_wrong = refl;
      told = refl;
      told_task = refl;
      told_opening = refl;
      told_name = refl;
      told_separator = refl;
      told_list = refl;
      told_text = refl;
    }

pub limit_cases : LimitCases
unfolding pick event_field script_of
limit_cases = record { last_event = λ at p f. refl; event_over = λ at p f. refl; text_over = λ t h. rw (lt-ltb _ _ h) refl }
