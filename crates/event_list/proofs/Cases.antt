-- The single lists, computed over the definitions.
use mathlib.Core.Path.{refl}
use Rattle.model.specs.Pick.{pick}
use Rattle.event_list.specs.Format.{length_of, cut_short, checked, event_of, next_at, limits_of, nodes_of, first_of, read_from, rest, reading}
use Rattle.event_list.specs.Cases.{ReadingCases}

pub reading_cases : ReadingCases
unfolding length_of cut_short checked event_of next_at limits_of nodes_of first_of read_from rest reading pick
reading_cases =
    record {
      number_two = refl;
      number_three = refl;
      number_four = refl;
      number_five = refl;
      number_six = refl;
      k1_low = refl;
      k1_high = refl;
      k1_first = refl;
      k1_last = refl;
      stand_low = refl;
      stand_high = refl;
      stand_first = refl;
      stand_last = refl;
      stand_tower = refl;
      tower_five = refl;
      stand_second = refl;
      stand_again = refl;
      tower_second = refl;
      stand_later = refl;
      stand_again_long = refl;
      stand_again_cut = refl;
      zero_first = refl;
      three_first = refl;
      stand_cut = refl;
      stand_none = refl;
      stand_long = refl;
      longest = refl;
      too_long = refl;
      empty = refl;
      one_left = refl;
      two_left = refl;
      no_contents = refl;
      other_first = refl;
      first_again = refl;
      three_left = refl;
      long_first = refl;
      known_long = refl;
      high_cut = refl;
      high_first = refl;
      high_event = refl;
      two_three = refl;
      two_four = refl;
      other_cut = refl;
      unknown_cut = refl;
      other_long = refl;
      unknown_long = refl;
      again_long = refl;
      none_first = refl;
      long_low = refl;
      long_high = refl;
      every_event_lem = refl;
    }
