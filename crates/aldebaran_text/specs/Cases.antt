-- A few texts in full, each event's label, how many states there are for every allowed input, and single inputs that are refused.
use Rattle.std.specs.Prelude.{ℕ, true, ◌≡◌, List, [], ◌∷◌, ◌++◌, map, length}
use Rattle.model.specs.declared.Event.TheVariants.{Crash, Recover, Check, Timeout, Tick, Expire, Finish, Deliver, Lose}
use Rattle.listing.specs.Ascii.{bytes}
use Rattle.short_lists_text.specs.Lists.{only_task, up_from}
use Rattle.aldebaran_text.specs.System.{transition}
use Rattle.aldebaran_text.specs.Text.{label, first_line, transition_line, states_of, fits, text_of}

-- L from 0 to 4
abbrev pub lengths : List ℕ
lengths = up_from 0 5

-- how many states there are for n nodes, for each L
abbrev pub state_counts : ℕ → List ℕ
state_counts n = map (λ m. length (states_of n m)) lengths

pub record AldebaranCases : Type 0 where
  -- the list of no events is the one state, and there is no transition
  pub none : text_of (1 ∷ 0 ∷ []) ≡ bytes "des (0, 0, 1)\n"
  pub none_of_three : text_of (3 ∷ 0 ∷ []) ≡ bytes "des (0, 0, 1)\n"
  pub one_of_one : text_of (1 ∷ 1 ∷ []) ≡ bytes "des (0, 1, 2)\n(0, \"RECOVER 1\", 1)\n"
  pub one : text_of (3 ∷ 1 ∷ []) ≡ bytes "des (0, 3, 4)\n(0, \"RECOVER 1\", 1)\n(0, \"RECOVER 2\", 2)\n(0, \"RECOVER 3\", 3)\n"
  -- with one node this is the first L at which numbers by length differ from those of a depth-first order: 5 is `recover 1, crash 1, recover 1`, behind all lists of two events
  pub three_of_one : text_of (1 ∷ 3 ∷ []) ≡
      bytes "des (0, 11, 12)\n(0, \"RECOVER 1\", 1)\n(1, \"CRASH 1\", 2)\n(1, \"CHECK 1\", 3)\n(1, \"TIMEOUT 1\", 4)\n"
      ++ (bytes "(2, \"RECOVER 1\", 5)\n(3, \"CRASH 1\", 6)\n(3, \"CHECK 1\", 7)\n(3, \"TIMEOUT 1\", 8)\n"
      ++ bytes "(4, \"CRASH 1\", 9)\n(4, \"CHECK 1\", 10)\n(4, \"TIMEOUT 1\", 11)\n")
  pub two_of_two : text_of (2 ∷ 2 ∷ []) ≡
      bytes "des (0, 10, 11)\n(0, \"RECOVER 1\", 1)\n(0, \"RECOVER 2\", 2)\n"
      ++ (bytes "(1, \"CRASH 1\", 3)\n(1, \"RECOVER 2\", 4)\n(1, \"CHECK 1\", 5)\n(1, \"TIMEOUT 1\", 6)\n"
      ++ bytes "(2, \"CRASH 2\", 7)\n(2, \"RECOVER 1\", 8)\n(2, \"CHECK 2\", 9)\n(2, \"TIMEOUT 2\", 10)\n")
  -- with messages: state 5 is `recover 1, check 1`, whose message can be lost
  pub three_of_two : text_of (2 ∷ 3 ∷ []) ≡
      bytes "des (0, 42, 43)\n(0, \"RECOVER 1\", 1)\n(0, \"RECOVER 2\", 2)\n"
      ++ (bytes "(1, \"CRASH 1\", 3)\n(1, \"RECOVER 2\", 4)\n(1, \"CHECK 1\", 5)\n(1, \"TIMEOUT 1\", 6)\n"
      ++ (bytes "(2, \"CRASH 2\", 7)\n(2, \"RECOVER 1\", 8)\n(2, \"CHECK 2\", 9)\n(2, \"TIMEOUT 2\", 10)\n"
      ++ (bytes "(3, \"RECOVER 1\", 11)\n(3, \"RECOVER 2\", 12)\n"
      ++ (bytes "(4, \"CRASH 1\", 13)\n(4, \"CRASH 2\", 14)\n(4, \"CHECK 1\", 15)\n(4, \"CHECK 2\", 16)\n(4, \"TIMEOUT 1\", 17)\n(4, \"TIMEOUT 2\", 18)\n"
      ++ (bytes "(5, \"CRASH 1\", 19)\n(5, \"RECOVER 2\", 20)\n(5, \"EXPIRE 1\", 21)\n(5, \"LOSE 1 2\", 22)\n"
      ++ (bytes "(6, \"CRASH 1\", 23)\n(6, \"RECOVER 2\", 24)\n(6, \"CHECK 1\", 25)\n(6, \"TIMEOUT 1\", 26)\n"
      ++ (bytes "(7, \"RECOVER 1\", 27)\n(7, \"RECOVER 2\", 28)\n"
      ++ (bytes "(8, \"CRASH 1\", 29)\n(8, \"CRASH 2\", 30)\n(8, \"CHECK 1\", 31)\n(8, \"CHECK 2\", 32)\n(8, \"TIMEOUT 1\", 33)\n(8, \"TIMEOUT 2\", 34)\n"
      ++ (bytes "(9, \"CRASH 2\", 35)\n(9, \"RECOVER 1\", 36)\n(9, \"EXPIRE 2\", 37)\n(9, \"LOSE 2 1\", 38)\n"
      ++ bytes "(10, \"CRASH 2\", 39)\n(10, \"RECOVER 1\", 40)\n(10, \"CHECK 2\", 41)\n(10, \"TIMEOUT 2\", 42)\n")))))))))
  -- L at its end: a list of four events
  pub four_of_one : text_of (1 ∷ 4 ∷ []) ≡
      bytes "des (0, 28, 29)\n(0, \"RECOVER 1\", 1)\n(1, \"CRASH 1\", 2)\n(1, \"CHECK 1\", 3)\n(1, \"TIMEOUT 1\", 4)\n"
      ++ (bytes "(2, \"RECOVER 1\", 5)\n(3, \"CRASH 1\", 6)\n(3, \"CHECK 1\", 7)\n(3, \"TIMEOUT 1\", 8)\n"
      ++ (bytes "(4, \"CRASH 1\", 9)\n(4, \"CHECK 1\", 10)\n(4, \"TIMEOUT 1\", 11)\n"
      ++ (bytes "(5, \"CRASH 1\", 12)\n(5, \"CHECK 1\", 13)\n(5, \"TIMEOUT 1\", 14)\n(6, \"RECOVER 1\", 15)\n"
      ++ (bytes "(7, \"CRASH 1\", 16)\n(7, \"CHECK 1\", 17)\n(7, \"TIMEOUT 1\", 18)\n(8, \"CRASH 1\", 19)\n(8, \"CHECK 1\", 20)\n(8, \"TIMEOUT 1\", 21)\n"
      ++ (bytes "(9, \"RECOVER 1\", 22)\n(10, \"CRASH 1\", 23)\n(10, \"CHECK 1\", 24)\n(10, \"TIMEOUT 1\", 25)\n"
      ++ bytes "(11, \"CRASH 1\", 26)\n(11, \"CHECK 1\", 27)\n(11, \"TIMEOUT 1\", 28)\n")))))
  -- numbers of three digits, as the text for three nodes and L = 4 has them; a tick or a finish is in none of the 15 texts, four events are too few for them
  pub first_line_lem : first_line 600 601 ≡ bytes "des (0, 600, 601)\n"
  pub line : transition_line (transition 25 (Deliver 1 2) 140) ≡ bytes "(25, \"DELIVER 1 2\", 140)\n"
  -- "the event's name in capitals and its numbers, parted by single spaces"
  pub crash : label (Crash 1) ≡ bytes "CRASH 1"
  pub recover : label (Recover 2) ≡ bytes "RECOVER 2"
  pub check : label (Check 3) ≡ bytes "CHECK 3"
  pub timeout : label (Timeout 1) ≡ bytes "TIMEOUT 1"
  pub tick : label (Tick 2) ≡ bytes "TICK 2"
  pub expire : label (Expire 3) ≡ bytes "EXPIRE 3"
  pub finish : label (Finish 1 (record { number = only_task })) ≡ bytes "FINISH 1 100"
  pub deliver : label (Deliver 2 1) ≡ bytes "DELIVER 2 1"
  pub lose : label (Lose 3 2) ≡ bytes "LOSE 3 2"
  -- the states of every allowed input
  pub states_of_one : state_counts 1 ≡ 1 ∷ 2 ∷ 5 ∷ 12 ∷ 29 ∷ []
  pub states_of_two : state_counts 2 ≡ 1 ∷ 3 ∷ 11 ∷ 43 ∷ 195 ∷ []
  pub states_of_three : state_counts 3 ≡ 1 ∷ 4 ∷ 19 ∷ 100 ∷ 601 ∷ []
  -- 22 is not met at the ends of the ranges, and is met just outside them: `RefusedInputs` has all inputs
  pub most : fits (3 ∷ 4 ∷ []) ≡ true
  pub least : fits (1 ∷ 0 ∷ []) ≡ true
  pub no_bytes : text_of [] ≡ bytes "stopped 0 22\n"
  pub one_byte : text_of (1 ∷ []) ≡ bytes "stopped 0 22\n"
  pub three_bytes : text_of (2 ∷ 3 ∷ 0 ∷ []) ≡ bytes "stopped 0 22\n"
  pub no_nodes : text_of (0 ∷ 0 ∷ []) ≡ bytes "stopped 0 22\n"
  pub four_nodes : text_of (4 ∷ 0 ∷ []) ≡ bytes "stopped 0 22\n"
  pub too_long : text_of (1 ∷ 5 ∷ []) ≡ bytes "stopped 0 22\n"
