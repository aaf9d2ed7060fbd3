-- `list_parser::cursor::Cursor::past_skipped` meets its contract. The invariant: what is sought from i on, in a comment or not, is what is sought.
use mathlib.Core.Path.{◌≡◌}
use Rattle.list_text.specs.Words.{past_skipped}
use Rattle.list_parser.proofs.Scanning.{skipped_to}
use Rattle.list_parser.proofs.cursor.Cursor.past_skipped.Given as goal

abbrev pub invariant-loop-i : goal.invariant-loop-i
invariant-loop-i l = skipped_to l.comment l.self.text.now l.i ≡ past_skipped l.self.text.now l.self.at
