-- "Named cases": K1 to K13 jointly, with K1 and K10 also from the bytes of a list to the printed text, of the tower and of the stand (T-08); and texts with refusals, with totals
-- (T-05), with checks (T-06) and with full peals (T-10).
use Rattle.std.specs.Prelude.{ℕ, ◌≡◌, List, [], ◌∷◌, ◌++◌}
use Rattle.model.specs.Cases.{NamedCases, StandCases}
use Rattle.event_list.specs.Cases.{nodes, stand_nodes, crash, recover, check, expire, finish, deliver, lose}
use Rattle.listing.specs.Ascii.{bytes}
use Rattle.run_list.specs.Text.{text_of}

-- "Case K10. Events: recover 1, recover 2, check 2, deliver 2 1, deliver 1 2, .. finish 2 task 100, deliver 2 1, deliver 1 2, with n = 2"
abbrev pub k10_events : List ℕ
k10_events =
    recover 1 ++ (recover 2 ++ (check 2
    ++ (deliver 2 1 ++ (deliver 1 2 ++ (deliver 2 1 ++ (deliver 1 2 ++ (deliver 2 1 ++ (deliver 1 2
    ++ (finish 2 0 100 ++ (deliver 2 1 ++ deliver 1 2))))))))))

abbrev pub k10_list : List ℕ
k10_list = nodes 2 ++ k10_events

-- T-10: node 2 of two finds node 1, invites it, gets no answer and collects
abbrev pub unanswered_list : List ℕ
unanswered_list = nodes 2 ++ (recover 1 ++ (recover 2 ++ (check 2 ++ (deliver 2 1 ++ (deliver 1 2 ++ expire 2)))))

pub record ListCases : Type 0 where
  -- K2 to K13, and the numbers behind K1 and K10
  pub in_model : NamedCases
  pub in_stand : StandCases
  -- "K1 n = 0 and 17: 6; 1 and 16 pass."
  pub k1_low : text_of (nodes 0) ≡ bytes "stopped 0 6\n"
  pub k1_high : text_of (nodes 17) ≡ bytes "stopped 0 6\n"
  pub k1_first : text_of (nodes 1) ≡ bytes "cabinets 1\n1 0 0 0 0 0 0\nmessages 0\nsent 0\ndelivered 0\nlost 0\n"
  pub k1_last : text_of (nodes 16) ≡
      bytes "cabinets 16\n1 0 0 0 0 0 0\n2 0 0 0 0 0 0\n3 0 0 0 0 0 0\n4 0 0 0 0 0 0\n"
      ++ (bytes "5 0 0 0 0 0 0\n6 0 0 0 0 0 0\n7 0 0 0 0 0 0\n8 0 0 0 0 0 0\n"
      ++ (bytes "9 0 0 0 0 0 0\n10 0 0 0 0 0 0\n11 0 0 0 0 0 0\n12 0 0 0 0 0 0\n"
      ++ bytes "13 0 0 0 0 0 0\n14 0 0 0 0 0 0\n15 0 0 0 0 0 0\n16 0 0 0 0 0 0\nmessages 0\nsent 0\ndelivered 0\nlost 0\n"))
  -- K10's lines; 02, T-05: "K10 gains the lines `sent 8`, `delivered 8`, `lost 0`."
  pub k10 : text_of k10_list ≡ bytes "cabinets 2\n1 3 2 33 100 1 0\n2 3 2 33 100 2 1\nmessages 0\nsent 8\ndelivered 8\nlost 0\n"
  -- T-08: "Ground 4 lets 0x02 stand first as well": the stand takes n from 1 to 4, and what is printed has the same form; K10 is the same there
  pub stand_first : text_of (stand_nodes 1) ≡ bytes "cabinets 1\n1 0 0 0 0 0 0\nmessages 0\nsent 0\ndelivered 0\nlost 0\n"
  pub stand_low : text_of (stand_nodes 0) ≡ bytes "stopped 0 6\n"
  pub stand_high : text_of (stand_nodes 5) ≡ bytes "stopped 0 6\n"
  pub stand_last : text_of (stand_nodes 4) ≡ bytes "cabinets 4\n1 0 0 0 0 0 0\n2 0 0 0 0 0 0\n3 0 0 0 0 0 0\n4 0 0 0 0 0 0\nmessages 0\nsent 0\ndelivered 0\nlost 0\n"
  pub stand_k10 : text_of (stand_nodes 2 ++ k10_events) ≡ bytes "cabinets 2\n1 3 2 33 100 1 0\n2 3 2 33 100 2 1\nmessages 0\nsent 8\ndelivered 8\nlost 0\n"
  -- "and nowhere else": behind the first field and behind an event it stops the list
  pub stand_second : text_of (nodes 2 ++ stand_nodes 2) ≡ bytes "cabinets 2\nstopped 4 4\n1 0 0 0 0 0 0\n2 0 0 0 0 0 0\nmessages 0\nsent 0\ndelivered 0\nlost 0\n"
  pub stand_later : text_of (nodes 2 ++ (recover 1 ++ stand_nodes 2)) ≡ bytes "cabinets 2\nstopped 8 4\n1 3 1 16 1 1 0\n2 0 0 0 0 0 0\nmessages 0\nsent 0\ndelivered 0\nlost 0\n"
  -- refused events are counted with the others, and a stop comes behind them and before the table so far: a second recovery, a crash of a node that is Down, and
  -- a field cut short behind a good event
  pub refused_stopped : text_of (nodes 2 ++ (recover 1 ++ (recover 1 ++ (crash 2 ++ (recover 2 ++ (0x17 ∷ 0 ∷ []))))))
      ≡ bytes "cabinets 2\nrefused 2 9\nrefused 3 9\nstopped 20 3\n1 3 1 16 1 1 0\n2 3 2 17 2 1 0\nmessages 0\nsent 0\ndelivered 0\nlost 0\n"
  -- T-05: three totals that differ, of a table with a message that waits, behind a stop
  pub totals_stopped : text_of (nodes 2 ++ (recover 1 ++ (recover 2 ++ (check 2 ++ (deliver 2 1 ++ (lose 1 2 ++ (expire 2 ++ (check 2 ++ (deliver 2 1 ++ (0x17 ∷ 0 ∷ []))))))))))
      ≡ bytes "cabinets 2\nstopped 39 3\n1 3 1 16 1 1 0\n2 3 2 17 2 1 0\nmessages 1\nsent 4\ndelivered 2\nlost 1\n"
  -- 02, T-06: behind K10 a check by its member is refused with 18 and skipped, and one by its coordinator is done; with n = 1 such a check passes without effect
  pub turned_away : text_of (k10_list ++ (check 1 ++ check 2)) ≡ bytes "cabinets 2\nrefused 13 18\n1 3 2 33 100 1 0\n2 3 2 33 100 2 1\nmessages 1\nsent 9\ndelivered 8\nlost 0\n"
  pub check_alone : text_of (nodes 1 ++ (recover 1 ++ check 1)) ≡ bytes "cabinets 1\n1 3 1 16 1 1 0\nmessages 0\nsent 0\ndelivered 0\nlost 0\n"
  -- 02, T-10: node 2 collects alone, one of two; it is told to start the tasks 100 and 199, which are refused with 19 and skipped, and then 200, which passes
  pub no_majority_lem : text_of (unanswered_list ++ (finish 2 0 100 ++ (finish 2 0 199 ++ finish 2 0 200)))
      ≡ bytes "cabinets 2\nrefused 7 19\nrefused 8 19\n1 3 1 16 1 1 0\n2 3 2 33 200 2 0\nmessages 1\nsent 3\ndelivered 2\nlost 0\n"
  -- "if the whole list or the first field failed, that line is all that is printed"
  pub failed_alone : text_of (0x01 ∷ 0 ∷ 2 ∷ 2 ∷ 2 ∷ []) ≡ bytes "stopped 0 5\n"
