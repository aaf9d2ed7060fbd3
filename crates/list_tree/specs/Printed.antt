-- What `put_text` promises: the text of the input stands at the start of the buffer, and all else in it is as it was. The text of an input that is refused is the line `stopped 0 22`: 02
-- has the refusal printed, so its number is in the text, and not in what is answered.
use Rattle.std.specs.Prelude.{ℕ, ◌≡◌, List, length}
use Rattle.listing.specs.Printing.{written}
use Rattle.aldebaran_text.specs.Text.{text_of}

-- for the input l, where the buffer held b before and holds o after it, and r is answered
pub record SystemPrinted (l b o : List ℕ) (r : ℕ) : Type 0 where
  pub count : r ≡ length (text_of l)
  pub buffer : o ≡ written b 0 (text_of l)
