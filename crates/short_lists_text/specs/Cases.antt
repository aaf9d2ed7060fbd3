-- A few texts in full, single inputs that are refused, the lists of one event from tables that five, six and nine events lead to, and the lists that T-10 turns away.
use Rattle.std.specs.Prelude.{true, ◌≡◌, List, [], ◌∷◌, ◌++◌, map, replicate}
use Rattle.model.specs.Limits.{tower}
use Rattle.model.specs.State.{start}
use Rattle.model.specs.Step.{step, run}
use Rattle.model.specs.Claims.{step_without_nineteen}
use Rattle.model.specs.Cases.{collecting, unanswered}
use Rattle.model.specs.declared.Event.{Event}
use Rattle.model.specs.declared.Event.TheVariants.{Crash, Recover, Check, Timeout, Tick, Expire, Finish, Deliver, Lose}
use Rattle.listing.specs.Ascii.{bytes}
use Rattle.listing.specs.Printing.{joined}
use Rattle.short_lists_text.specs.Lists.{only_task, alphabet, lists_from}
use Rattle.short_lists_text.specs.Text.{list_line, lines_of, fits, text_of}
use Rattle.short_lists_text.specs.Claims.{answers_by}

-- T-10: node 2 of two asks node 1, which is a coordinator, invites it, gets no answer and is told to finish with task 100; the first three events are those given
abbrev pub alone_after : List Event → List Event
alone_after first = first ++ (Deliver 2 1 ∷ Deliver 1 2 ∷ Expire 2 ∷ Finish 2 (record { number = only_task }) ∷ [])

pub record TextCases : Type 0 where
  -- "the list of no events is an empty line"
  pub empty_list : text_of (3 ∷ 0 ∷ []) ≡ bytes "\nlists 1\n"
  -- a line ends with 0x0A, as 01's lines do
  pub line_end : bytes "\n" ≡ 0x0A ∷ []
  pub one : text_of (3 ∷ 1 ∷ []) ≡ bytes "recover 1\nrecover 2\nrecover 3\nlists 3\n"
  -- "as in `recover 1, check 1`"
  pub two : text_of (1 ∷ 2 ∷ []) ≡ bytes "recover 1, crash 1\nrecover 1, check 1\nrecover 1, timeout 1\nlists 3\n"
  pub two_of_two : text_of (2 ∷ 2 ∷ [])
      ≡ bytes "recover 1, crash 1\nrecover 1, recover 2\nrecover 1, check 1\nrecover 1, timeout 1\nrecover 2, crash 2\nrecover 2, recover 1\nrecover 2, check 2\nrecover 2, timeout 2\nlists 8\n"
  -- with a message: check 1 sends one to node 2, which can be lost
  pub three_of_two : text_of (2 ∷ 3 ∷ []) ≡
      bytes "recover 1, crash 1, recover 1\nrecover 1, crash 1, recover 2\nrecover 1, recover 2, crash 1\nrecover 1, recover 2, crash 2\n"
      ++ (bytes "recover 1, recover 2, check 1\nrecover 1, recover 2, check 2\nrecover 1, recover 2, timeout 1\nrecover 1, recover 2, timeout 2\n"
      ++ (bytes "recover 1, check 1, crash 1\nrecover 1, check 1, recover 2\nrecover 1, check 1, expire 1\nrecover 1, check 1, lose 1 2\n"
      ++ (bytes "recover 1, timeout 1, crash 1\nrecover 1, timeout 1, recover 2\nrecover 1, timeout 1, check 1\nrecover 1, timeout 1, timeout 1\n"
      ++ (bytes "recover 2, crash 2, recover 1\nrecover 2, crash 2, recover 2\nrecover 2, recover 1, crash 1\nrecover 2, recover 1, crash 2\n"
      ++ (bytes "recover 2, recover 1, check 1\nrecover 2, recover 1, check 2\nrecover 2, recover 1, timeout 1\nrecover 2, recover 1, timeout 2\n"
      ++ (bytes "recover 2, check 2, crash 2\nrecover 2, check 2, recover 1\nrecover 2, check 2, expire 2\nrecover 2, check 2, lose 2 1\n"
      ++ (bytes "recover 2, timeout 2, crash 2\nrecover 2, timeout 2, recover 1\nrecover 2, timeout 2, check 2\nrecover 2, timeout 2, timeout 2\n"
      ++ bytes "lists 32\n")))))))
  -- long enough that the first event that differs is not the last or the one before it
  pub four : text_of (1 ∷ 4 ∷ []) ≡
      bytes "recover 1, crash 1, recover 1, crash 1\nrecover 1, crash 1, recover 1, check 1\nrecover 1, crash 1, recover 1, timeout 1\nrecover 1, check 1, crash 1, recover 1\n"
      ++ (bytes "recover 1, check 1, check 1, crash 1\nrecover 1, check 1, check 1, check 1\nrecover 1, check 1, check 1, timeout 1\nrecover 1, check 1, timeout 1, crash 1\n"
      ++ (bytes "recover 1, check 1, timeout 1, check 1\nrecover 1, check 1, timeout 1, timeout 1\nrecover 1, timeout 1, crash 1, recover 1\nrecover 1, timeout 1, check 1, crash 1\n"
      ++ (bytes "recover 1, timeout 1, check 1, check 1\nrecover 1, timeout 1, check 1, timeout 1\nrecover 1, timeout 1, timeout 1, crash 1\nrecover 1, timeout 1, timeout 1, check 1\n"
      ++ bytes "recover 1, timeout 1, timeout 1, timeout 1\nlists 17\n")))
  -- each event's name and numbers, and their order, for three nodes
  pub events : joined (map (λ e. list_line (e ∷ [])) (alphabet 3)) ≡
      bytes "crash 1\ncrash 2\ncrash 3\nrecover 1\nrecover 2\nrecover 3\ncheck 1\ncheck 2\n"
      ++ (bytes "check 3\ntimeout 1\ntimeout 2\ntimeout 3\ntick 1\ntick 2\ntick 3\nexpire 1\n"
      ++ (bytes "expire 2\nexpire 3\nfinish 1 100\nfinish 2 100\nfinish 3 100\ndeliver 1 2\ndeliver 1 3\ndeliver 2 1\n"
      ++ (bytes "deliver 2 3\ndeliver 3 1\ndeliver 3 2\nlose 1 2\nlose 1 3\nlose 2 1\nlose 2 3\nlose 3 1\n"
      ++ bytes "lose 3 2\n")))
  -- all nine in one line
  pub words : list_line (Crash 1 ∷ Recover 2 ∷ Check 3 ∷ Timeout 1 ∷ Tick 2 ∷ Expire 3 ∷ Finish 1 (record { number = only_task }) ∷ Deliver 1 2 ∷ Lose 2 3 ∷ [])
      ≡ bytes "crash 1, recover 2, check 3, timeout 1, tick 2, expire 3, finish 1 100, deliver 1 2, lose 2 3\n"
  -- where a message waits for each pair of three nodes
  pub pairs : joined (lines_of (lists_from 1 (run 3 tower (Recover 1 ∷ Recover 2 ∷ Recover 3 ∷ Check 1 ∷ Expire 1 ∷ Check 2 ∷ Expire 2 ∷ Check 3 ∷ Expire 3 ∷ [])))) ≡
      bytes "crash 1\ncrash 2\ncrash 3\nexpire 1\nexpire 2\nexpire 3\ndeliver 1 2\ndeliver 1 3\ndeliver 2 1\ndeliver 2 3\n"
      ++ bytes "deliver 3 1\ndeliver 3 2\nlose 1 2\nlose 1 3\nlose 2 1\nlose 2 3\nlose 3 1\nlose 3 2\nlists 18\n"
  -- where node 2 collects with node 1, two of two; where it collects alone, and so may not start a full peal (T-10); and where one waits
  pub finish : joined (lines_of (lists_from 1 (run 2 tower collecting))) ≡ bytes "crash 1\ncrash 2\ntimeout 1\nfinish 2 100\nlists 4\n"
  pub no_finish : joined (lines_of (lists_from 1 (run 2 tower unanswered))) ≡ bytes "crash 1\ncrash 2\ncheck 1\ntimeout 1\ndeliver 2 1\nlose 2 1\nlists 6\n"
  pub tick : joined (lines_of (lists_from 1 (run 2 tower (Recover 1 ∷ Recover 2 ∷ Check 1 ∷ Deliver 1 2 ∷ Deliver 2 1 ∷ [])))) ≡ bytes "crash 1\ncrash 2\ncheck 2\ntimeout 2\ntick 1\nlists 5\n"
  -- 02, T-10: the three lists of seven events for two nodes that are no longer accepted, and were without 19: node 2 collects alone, and is told to start a full peal.
  -- (`ListsFewer` says that the lists are those without 19 but for such ones. That these three are all that the texts of T-01 have lost is not stated; the tests compare the
  -- sums of the texts.)
  pub now_first : answers_by step (start 2 tower) (alone_after (Recover 1 ∷ Recover 2 ∷ Check 2 ∷ [])) ≡ 0 ∷ 0 ∷ 0 ∷ 0 ∷ 0 ∷ 0 ∷ 19 ∷ []
  pub now_second : answers_by step (start 2 tower) (alone_after (Recover 2 ∷ Recover 1 ∷ Check 2 ∷ [])) ≡ 0 ∷ 0 ∷ 0 ∷ 0 ∷ 0 ∷ 0 ∷ 19 ∷ []
  pub now_third : answers_by step (start 2 tower) (alone_after (Recover 2 ∷ Check 2 ∷ Recover 1 ∷ [])) ≡ 0 ∷ 0 ∷ 0 ∷ 0 ∷ 0 ∷ 0 ∷ 19 ∷ []
  pub former_first : answers_by step_without_nineteen (start 2 tower) (alone_after (Recover 1 ∷ Recover 2 ∷ Check 2 ∷ [])) ≡ replicate 7 0
  pub former_second : answers_by step_without_nineteen (start 2 tower) (alone_after (Recover 2 ∷ Recover 1 ∷ Check 2 ∷ [])) ≡ replicate 7 0
  pub former_third : answers_by step_without_nineteen (start 2 tower) (alone_after (Recover 2 ∷ Check 2 ∷ Recover 1 ∷ [])) ≡ replicate 7 0
  -- 16 is not met at the ends of the ranges, and is met just outside them: `Refuses` has all inputs
  pub most : fits (3 ∷ 7 ∷ []) ≡ true
  pub least : fits (1 ∷ 0 ∷ []) ≡ true
  pub no_bytes : text_of [] ≡ bytes "stopped 0 16\n"
  pub one_byte : text_of (1 ∷ []) ≡ bytes "stopped 0 16\n"
  pub three_bytes : text_of (2 ∷ 3 ∷ 0 ∷ []) ≡ bytes "stopped 0 16\n"
  pub no_nodes : text_of (0 ∷ 0 ∷ []) ≡ bytes "stopped 0 16\n"
  pub four_nodes : text_of (4 ∷ 0 ∷ []) ≡ bytes "stopped 0 16\n"
  pub too_long : text_of (1 ∷ 8 ∷ []) ≡ bytes "stopped 0 16\n"
