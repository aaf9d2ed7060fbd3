-- What is told of a bad text: "A bad text is answered with its line and column and what was expected, on standard error, nothing on standard output." The program `list_of_text` writes it there.
use Rattle.std.specs.Prelude.{ℕ, List, ◌++◌}
use Rattle.listing.specs.Ascii.{bytes}
use Rattle.listing.specs.Decimal.{decimal}
use Rattle.list_text.specs.declared.Place.{Place}
use Rattle.list_text.specs.declared.Expected.{Expected}

-- "what was expected"
unfoldable pub expected_text : Expected → List ℕ
expected_text Expected.Opening = bytes "cabinets or stand"
expected_text Expected.Number = bytes "a number from 0 to 255"
expected_text Expected.Task = bytes "a number from 0 to 65535"
expected_text Expected.Name = bytes "an event: crash, recover, check, timeout, tick, expire, finish, deliver or lose"
expected_text Expected.Separator = bytes "a comma or the end of the line"
expected_text Expected.EndOfList = bytes "the end of the text before this event: a list has at most 65536 bytes"
expected_text Expected.EndOfText = bytes "the end of the text: a text has at most 1048576 bytes"

-- "its line and column and what was expected"
unfoldable pub message_text : Place → Expected → List ℕ
message_text p x = bytes "line " ++ (decimal p.line ++ (bytes ", column " ++ (decimal p.column ++ (bytes ": expected " ++ (expected_text x ++ bytes "\n")))))
