-- Single texts and lists: each word, each separator, what is skipped, numbers at the ends of their ranges, each thing that can be expected, with its line and column, and the limits. The proof is in
-- proofs/Cases.
use Rattle.std.specs.Prelude.{ℕ, ◌<◌, ◌≡◌, List, [], ◌∷◌, ◌++◌, length, Some, Ok}
use Rattle.event_list.specs.Cases.{nodes, stand_nodes, crash, recover, check, timeout, tick, expire, finish, deliver, lose}
use Rattle.listing.specs.Ascii.{bytes}
use Rattle.list_text.specs.Text.{list_text}
use Rattle.model.specs.declared.Event.TheVariants.{Crash}
use Rattle.list_text.specs.Script.{Said, wrong, before, onward, wrong_at, max_text, script_of, Outcome, bad, list, list_of}
use Rattle.list_text.specs.Message.{message_text}
use Rattle.list_text.specs.declared.Expected.{Expected}

-- the text t is bad at this line and column
abbrev pub bad_at : ℕ → ℕ → Expected → Outcome
bad_at i j x = bad (record { line = i; column = j }) x

-- every event once
abbrev pub every_event : List ℕ
every_event = crash 1 ++ (recover 1 ++ (check 1 ++ (timeout 1 ++ (tick 1 ++ (expire 1 ++ (finish 2 0 100 ++ (deliver 2 1 ++ lose 1 2)))))))

pub record ListTextCases : Type 0 where
  -- ── lists as text ──
  pub tower : list_text (nodes 2 ++ every_event)
      ≡ bytes "cabinets 2\ncrash 1\nrecover 1\ncheck 1\ntimeout 1\ntick 1\nexpire 1\nfinish 2 100\ndeliver 2 1\nlose 1 2\n"
  pub stand : list_text (stand_nodes 4 ++ recover 1) ≡ bytes "stand 4\nrecover 1\n"
  pub no_events : list_text (nodes 16) ≡ bytes "cabinets 16\n"
  -- events that the machine refuses are events
  pub out_of_range : list_text (nodes 2 ++ (recover 17 ++ finish 0 255 255)) ≡ bytes "cabinets 2\nrecover 17\nfinish 0 65535\n"
  -- "A damaged list is shown up to the damage, with `stopped b r`."
  pub damaged : list_text (nodes 2 ++ (recover 1 ++ (0x19 ∷ 0 ∷ 0 ∷ []))) ≡ bytes "cabinets 2\nrecover 1\nstopped 8 4\n"
  pub cut : list_text (nodes 2 ++ (0x11 ∷ 0 ∷ [])) ≡ bytes "cabinets 2\nstopped 4 3\n"
  pub empty : list_text [] ≡ bytes "stopped 0 3\n"
  pub no_nodes : list_text (nodes 17) ≡ bytes "stopped 0 6\n"
  pub stand_five : list_text (stand_nodes 5) ≡ bytes "stopped 0 6\n"
  pub other_first : list_text (crash 1) ≡ bytes "stopped 0 4\n"
  pub first_again : list_text (nodes 2 ++ stand_nodes 2) ≡ bytes "cabinets 2\nstopped 4 4\n"
  pub stand_damaged : list_text (stand_nodes 2 ++ (crash 1 ++ (0x10 ∷ 0 ∷ 2 ∷ 1 ∷ 1 ∷ []))) ≡ bytes "stand 2\ncrash 1\nstopped 8 5\n"

pub record ScriptCases : Type 0 where
  -- ── texts as lists ──
  pub every_event_lem : list_of (bytes "cabinets 2\ncrash 1\nrecover 1\ncheck 1\ntimeout 1\ntick 1\nexpire 1\nfinish 2 100\ndeliver 2 1\nlose 1 2\n") ≡ list (nodes 2 ++ every_event)
  -- "a line of `short_lists` can be pasted"
  pub pasted : list_of (bytes "cabinets 2\nrecover 1, check 1, lose 1 2\n") ≡ list (nodes 2 ++ (recover 1 ++ (check 1 ++ lose 1 2)))
  pub one_line : list_of (bytes "stand 3, recover 1") ≡ list (stand_nodes 3 ++ recover 1)
  -- no events, and T-01's line of none
  pub opening_alone : list_of (bytes "cabinets 2") ≡ list (nodes 2)
  pub empty_line : list_of (bytes "cabinets 2\n\n") ≡ list (nodes 2)
  -- both separators, and a last line without an end
  pub both : list_of (bytes "cabinets 2\nrecover 1, recover 2\ncheck 1") ≡ list (nodes 2 ++ (recover 1 ++ (recover 2 ++ check 1)))
  -- "empty lines and `#` to the end of a line are skipped": before the opening, behind a part, a line of its own, a last one without an end
  pub comments : list_of (bytes "# a test\n\ncabinets 2 # two\n  \n#, recover 9\nrecover 1# one\n\n# end") ≡ list (nodes 2 ++ recover 1)
  -- any bytes in a comment
  pub comment_bytes : list_of (bytes "cabinets 2 #" ++ (0 ∷ 255 ∷ 0xc3 ∷ 0xa9 ∷ bytes "\ncrash 1")) ≡ list (nodes 2 ++ crash 1)
  -- blanks: before and behind a part, several, tabs, and line ends of two bytes
  pub blanks : list_of (bytes " cabinets\t2\r\n\trecover  1 ,deliver 2\t 1 \r\n") ≡ list (nodes 2 ++ (recover 1 ++ deliver 2 1))
  -- "Numbers out of 01's ranges (cabinet 17, task 5) are written as they are, as far as their bytes can hold them"
  pub seventeen : list_of (bytes "cabinets 17\nrecover 17\nfinish 1 5\n") ≡ list (nodes 17 ++ (recover 17 ++ finish 1 0 5))
  pub largest : list_of (bytes "stand 255\ndeliver 255 255\nfinish 255 65535\n") ≡ list (stand_nodes 255 ++ (deliver 255 255 ++ finish 255 255 255))
  pub zero : list_of (bytes "cabinets 0\ncrash 0\nfinish 0 0\n") ≡ list (nodes 0 ++ (crash 0 ++ finish 0 0 0))
  pub zeros : list_of (bytes "cabinets 002\nrecover 0000000001\n") ≡ list (nodes 2 ++ recover 1)
  -- ── bad texts ──
  -- no opening: nothing, comments only, an event first, other letters
  pub empty : list_of [] ≡ bad_at 1 1 Expected.Opening
  pub only_comments : list_of (bytes "# nothing\n\n") ≡ bad_at 3 1 Expected.Opening
  pub comment_alone : list_of (bytes "# x") ≡ bad_at 1 4 Expected.Opening
  pub byte_order_mark : list_of (0xef ∷ 0xbb ∷ 0xbf ∷ bytes "cabinets 2\n") ≡ bad_at 1 1 Expected.Opening
  pub event_first : list_of (bytes "recover 1\n") ≡ bad_at 1 1 Expected.Opening
  pub capital : list_of (bytes "  Cabinets 2\n") ≡ bad_at 1 3 Expected.Opening
  -- an opening comes once
  pub opening_again : list_of (bytes "cabinets 2\ncabinets 2\n") ≡ bad_at 2 1 Expected.Name
  -- numbers: none, over what their bytes hold, other bytes among the digits, on another line
  pub no_nodes : list_of (bytes "cabinets\n2\n") ≡ bad_at 1 9 Expected.Number
  pub nodes_comma : list_of (bytes "cabinets,2") ≡ bad_at 1 9 Expected.Number
  pub nodes_over : list_of (bytes "cabinets 256\n") ≡ bad_at 1 10 Expected.Number
  pub no_number : list_of (bytes "cabinets 2\nrecover\n") ≡ bad_at 2 8 Expected.Number
  pub no_numbers : list_of (bytes "cabinets 2\nfinish\n") ≡ bad_at 2 7 Expected.Number
  pub no_second : list_of (bytes "cabinets 2\nrecover 1, deliver 2\n") ≡ bad_at 2 21 Expected.Number
  pub no_task : list_of (bytes "cabinets 2\nfinish 2 ") ≡ bad_at 2 10 Expected.Task
  pub over : list_of (bytes "cabinets 2\nrecover 256\n") ≡ bad_at 2 9 Expected.Number
  pub task_over : list_of (bytes "cabinets 2\nfinish 1 65536\n") ≡ bad_at 2 10 Expected.Task
  pub huge : list_of (bytes "cabinets 2\nrecover 18446744073709551617\n") ≡ bad_at 2 9 Expected.Number
  pub sign : list_of (bytes "cabinets 2\nrecover -1\n") ≡ bad_at 2 9 Expected.Number
  pub letter : list_of (bytes "cabinets 2\nrecover 1x\n") ≡ bad_at 2 9 Expected.Number
  pub other_byte : list_of (bytes "cabinets 2\ncheck 1" ++ (0x1a ∷ [])) ≡ bad_at 2 7 Expected.Number
  pub task_word : list_of (bytes "cabinets 2\nfinish 2 task 100\n") ≡ bad_at 2 10 Expected.Task
  -- names: another word, capitals, joined to the number, and what stands for damage in the text of a list
  pub other_name : list_of (bytes "cabinets 2\nrecover 1, jump 2\n") ≡ bad_at 2 12 Expected.Name
  pub count_line_lem : list_of (bytes "cabinets 2\nlists 7\n") ≡ bad_at 2 1 Expected.Name
  pub capitals : list_of (bytes "cabinets 2\nRECOVER 1\n") ≡ bad_at 2 1 Expected.Name
  pub joined_number : list_of (bytes "cabinets 2\nrecover1\n") ≡ bad_at 2 1 Expected.Name
  pub stopped : list_of (bytes "cabinets 2\nrecover 1\nstopped 8 4\n") ≡ bad_at 3 1 Expected.Name
  -- behind a comma an event is due on the same line
  pub comma_last : list_of (bytes "cabinets 2\nrecover 1,\ncheck 1\n") ≡ bad_at 2 11 Expected.Name
  pub comma_end : list_of (bytes "cabinets 2\nrecover 1,") ≡ bad_at 2 11 Expected.Name
  pub comma_opening : list_of (bytes "cabinets 2,") ≡ bad_at 1 12 Expected.Name
  pub comma_comment : list_of (bytes "cabinets 2\nrecover 1, # x\ncheck 1\n") ≡ bad_at 2 12 Expected.Name
  pub comma_first : list_of (bytes "cabinets 2\n, recover 1\n") ≡ bad_at 2 1 Expected.Name
  pub comma_twice : list_of (bytes "cabinets 2\nrecover 1,, check 1\n") ≡ bad_at 2 11 Expected.Name
  -- separators
  pub no_separator : list_of (bytes "cabinets 2 recover 1\n") ≡ bad_at 1 12 Expected.Separator
  pub third_number : list_of (bytes "cabinets 2\ndeliver 1 2 3\n") ≡ bad_at 2 13 Expected.Separator
  -- the first thing that is wrong is told
  pub first_wrong : list_of (bytes "cabinets 2\nrecover x\nrecover\n") ≡ bad_at 2 9 Expected.Number
  -- ── what is told ──
  pub told : message_text (record { line = 2; column = 9 }) Expected.Number ≡ bytes "line 2, column 9: expected a number from 0 to 255\n"
  pub told_task : message_text (record { line = 10; column = 100 }) Expected.Task ≡ bytes "line 10, column 100: expected a number from 0 to 65535\n"
  pub told_opening : message_text (record { line = 1; column = 1 }) Expected.Opening ≡ bytes "line 1, column 1: expected cabinets or stand\n"
  pub told_name : message_text (record { line = 3; column = 1 }) Expected.Name
      ≡ bytes "line 3, column 1: expected an event: crash, recover, check, timeout, tick, expire, finish, deliver or lose\n"
  pub told_separator : message_text (record { line = 1; column = 12 }) Expected.Separator ≡ bytes "line 1, column 12: expected a comma or the end of the line\n"
  pub told_list : message_text (record { line = 16385; column = 10 }) Expected.EndOfList
      ≡ bytes "line 16385, column 10: expected the end of the text before this event: a list has at most 65536 bytes\n"
  pub told_text : message_text (record { line = 9; column = 9 }) Expected.EndOfText ≡ bytes "line 9, column 9: expected the end of the text: a text has at most 1048576 bytes\n"

-- "Limits": the list's, and the text's own
pub record LimitCases : Type 0 where
  -- a crash has a field of 4 bytes: with room for 4 it is taken, with room for 3 it is not
  pub last_event : (at p : ℕ) (f : ℕ → ℕ → Said) → onward at 4 (Ok (Some (Crash 1, p))) f ≡ before (Crash 1) (f p 0)
  pub event_over : (at p : ℕ) (f : ℕ → ℕ → Said) → onward at 3 (Ok (Some (Crash 1, p))) f ≡ wrong p Expected.EndOfList
  -- a text that is too long is told there, whatever stands before
  pub text_over : (t : List ℕ) → max_text < length t → script_of t ≡ wrong_at max_text Expected.EndOfText
