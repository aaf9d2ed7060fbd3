-- Refusal 15 on single buffers, totals, and numbers beside a power of ten, computed over the definitions.
use mathlib.Core.Path.{refl}
use Rattle.model.specs.Pick.{pick}
use Rattle.model.specs.Counts.{total}
use Rattle.listing.specs.Decimal.{digits, decimal}
use Rattle.listing.specs.Lines.{row, messages_line, total_line, total_lines}
use Rattle.listing.specs.Printing.{printed}
use Rattle.listing.specs.Cases.{RoomCases, TotalCases, DigitCases}

pub room_cases : RoomCases
unfolding pick digits decimal row messages_line printed
room_cases =
    record {
      number_fifteen = refl;
      same_line = refl;
      one_short = refl;
      enough = refl;
      one_more = refl;
      behind_short = refl;
      behind_enough = refl;
      at_end = refl;
      at_end_empty = refl;
      past_end = refl;
      past_end_empty = refl;
      no_bytes = refl;
      no_bytes_past = refl;
      no_bytes_short = refl;
      second_short = refl;
      second_enough = refl;
    }

pub total_cases : TotalCases
unfolding pick digits decimal row total_line total_lines total
total_cases = record { none = refl; largest = refl }

pub digit_cases : DigitCases
unfolding pick digits decimal
digit_cases =
    record {
      zero = refl;
      nine = refl;
      ten = refl;
      ninety_nine = refl;
      hundred = refl;
      three_digits = refl;
      four_digits = refl;
      nine_digits = refl;
      ten_digits = refl;
      most = refl;
      most_wide = refl;
    }
