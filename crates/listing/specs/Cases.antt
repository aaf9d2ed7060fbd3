-- 15, "fewer bytes free than the line has, or offset past the end", on single buffers: on each side of the end, with the bytes that the buffer then holds. T-05's totals:
-- the smallest and the largest. And numbers on each side of a power of ten.
use Rattle.std.specs.Prelude.{Ok, true, false, ◌≡◌, List, [], ◌∷◌, ◌++◌, ℕ, replicate}
use Rattle.model.specs.Limits.{tower}
use Rattle.model.specs.Counts.{total}
use Rattle.model.specs.State.{start}
use Rattle.listing.specs.Ascii.{bytes}
use Rattle.listing.specs.Decimal.{decimal}
use Rattle.listing.specs.Lines.{messages_line, delivered_word, total_line, total_lines}
use Rattle.listing.specs.Printing.{refused, put_number, shown, room, printed}

-- the line `messages 0` has 11 bytes
abbrev pub line : List ℕ
line = bytes "messages 0\n"

pub record RoomCases : Type 0 where
  pub number_fifteen : put_number refused ≡ 15
  pub same_line : messages_line 0 ≡ line
  -- "fewer bytes free than the line has": 10, 11 and 12 bytes
  pub one_short : printed (bytes "..........") 0 (line ∷ []) ≡ shown refused (bytes "..........")
  pub enough : printed (bytes "...........") 0 (line ∷ []) ≡ shown (Ok 11) line
  pub one_more : printed (bytes "............") 0 (line ∷ []) ≡ shown (Ok 11) (line ++ bytes ".")
  -- "from an offset the caller names": behind 2 bytes, of 12 and of 13
  pub behind_short : printed (bytes "............") 2 (line ∷ []) ≡ shown refused (bytes "............")
  pub behind_enough : printed (bytes "ab...........") 2 (line ∷ []) ≡ shown (Ok 13) (bytes "ab" ++ line)
  -- at the end: no byte is free, and a line has no room; an empty one has
  pub at_end : printed (bytes "...") 3 (line ∷ []) ≡ shown refused (bytes "...")
  pub at_end_empty : printed (bytes "...") 3 ([] ∷ []) ≡ shown (Ok 3) (bytes "...")
  -- "or offset past the end": by one, whatever the line has
  pub past_end : printed (bytes "...") 4 (line ∷ []) ≡ shown refused (bytes "...")
  pub past_end_empty : printed (bytes "...") 4 ([] ∷ []) ≡ shown refused (bytes "...")
  -- the same of a buffer of no bytes
  pub no_bytes : room [] 0 [] ≡ true
  pub no_bytes_past : room [] 1 [] ≡ false
  pub no_bytes_short : room [] 0 (bytes ".") ≡ false
  -- of two lines the second is one byte short: the first stays, and the bytes behind it are as they were
  pub second_short : printed (bytes ".....................") 0 (line ∷ line ∷ []) ≡ shown refused (line ++ bytes "..........")
  pub second_enough : printed (bytes "......................") 0 (line ∷ line ∷ []) ≡ shown (Ok 22) (line ++ line)

pub record TotalCases : Type 0 where
  pub none : total_lines (start 16 tower) ≡ bytes "sent 0\n" ∷ bytes "delivered 0\n" ∷ bytes "lost 0\n" ∷ []
  -- 256 counts of 2^32 - 1: more than 32 bits
  pub largest : total_line delivered_word (total (replicate 256 4294967295)) ≡ bytes "delivered 1099511627520\n"

-- "numbers have no leading zeros": no digit too many and none too few
pub record DigitCases : Type 0 where
  pub zero : decimal 0 ≡ bytes "0"
  pub nine : decimal 9 ≡ bytes "9"
  pub ten : decimal 10 ≡ bytes "10"
  pub ninety_nine : decimal 99 ≡ bytes "99"
  pub hundred : decimal 100 ≡ bytes "100"
  pub three_digits : decimal 999 ≡ bytes "999"
  pub four_digits : decimal 1000 ≡ bytes "1000"
  pub nine_digits : decimal 999999999 ≡ bytes "999999999"
  pub ten_digits : decimal 1000000000 ≡ bytes "1000000000"
  -- the largest of 32 and of 64 bits
  pub most : decimal 4294967295 ≡ bytes "4294967295"
  pub most_wide : decimal 18446744073709551615 ≡ bytes "18446744073709551615"
