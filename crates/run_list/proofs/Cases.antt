-- The named cases, computed over the definitions. In a run neither the range nor 17 is computed at each event: it is in range, and does not meet 17.
use Prim.Native.Nat.{ℕ, ◌+◌, ◌<◌}
use native.Mathlib.Omega.{arith}
use mathlib.Core.Bool.{true}
use mathlib.Core.Path.{◌≡◌, refl, ◌∙◌, ap, ap₂}
use mathlib.Core.List.{List, [], ◌∷◌, ◌++◌}
use lib.Count.{ones_in, ones, count_leading_zeros}
use lib.ListN.{length}
use Rattle.model.specs.Pick.{pick}
use Rattle.model.specs.Limits.{tower, stand, traffic_end}
use Rattle.model.specs.Counts.{total}
use Rattle.model.specs.Procedures.{invite_next, merges, hand_next, finishes, forward_next, asked_all, ask_at, ask_after}
use Rattle.model.specs.React.{checked as is_checked, timed_out, ticked, expired, resumed, on_are_you_coordinator, on_are_you_there, on_invitation, on_accept, on_ready, on_reply, received, react}
use Rattle.model.specs.State.{State, start, waits, oldest, without_oldest, in_range}
use Rattle.model.specs.Grounds.{judged}
use Rattle.model.specs.Step.{reaction_to, remaining, effect, grounds, Result, refused, accepted, step, kept, after, run_from}
use Rattle.model.specs.Answers.{result_number}
use Rattle.model.proofs.InRange.{run_in}
use Rattle.model.proofs.Aside.{Room, between, by_between, room_after, room_below, counting, run_counting, start_room}
use Rattle.model.proofs.Cases.{named_cases, stand_cases}
use Rattle.model.specs.declared.Limits.{Limits}
use Rattle.model.specs.declared.Event.{Event}
use Rattle.std.specs.Prelude.{Ok}
use Rattle.event_list.specs.Format.{Reading, length_of, cut_short, checked, event_of, next_at, limits_of, nodes_of, first_of, read_from, rest, reading}
use Rattle.listing.specs.Decimal.{digits, decimal}
use Rattle.listing.specs.Lines.{row, cabinets_line, refused_line, stopped_line, node_line, messages_line, total_line, total_lines, node_lines, table_lines}
use Rattle.listing.specs.Printing.{joined}
use Rattle.run_list.specs.Text.{note_lines, refused_lines, ending_lines, lines_with, text_of}
use Rattle.event_list.specs.Cases.{nodes, stand_nodes, recover, crash, check, expire, finish, deliver, lose}
use Rattle.run_list.specs.Cases.{k10_events, k10_list, unanswered_list, ListCases}
use Rattle.run_list.proofs.Laws.{lines_begun, start_in_range}

-- what an event comes to by the grounds between 1 and 17
abbrev pub known : State → Event → Result
known s v = judged refused (accepted (effect s v) (reaction_to s v).mark) (between s v)

abbrev pub quick_refused : State → ℕ → List Event → List (List ℕ)
quick_refused s e [] = []
quick_refused s e (v ∷ vs) = note_lines e (result_number (known s v)) ++ quick_refused (kept s (known s v)) (e + 1) vs

quick_refused_lem : (s : State) (e : ℕ) (vs : List Event) → in_range s ≡ true → Room (length vs) s.sent → refused_lines s e vs ≡ quick_refused s e vs
unfolding refused_lines run_from
quick_refused_lem s e [] r h = refl
quick_refused_lem s e (v ∷ vs) r h =
    ap (λ (x : List (List ℕ)). note_lines e (result_number (step s v)) ++ x) (quick_refused_lem (after s v) (e + 1) vs (run_in s (v ∷ []) r) (room_after (length vs) s v (λ k. omega (arith, h k))))
    ∙ ap (λ (x : Result). note_lines e (result_number x) ++ quick_refused (kept s x) (e + 1) vs) (by_between s v r (room_below _ s.sent h))

-- the lines of a list of n nodes with these limits, where f says what is printed of the last table
abbrev pub quick_lines : (State → List (List ℕ)) → ℕ → Limits → Reading → List (List ℕ)
quick_lines f n lim r = cabinets_line n ∷ (quick_refused (start n lim) 1 r.events ++ (ending_lines r.ending ++ f (counting (start n lim) r.events)))

pub quick_lines_lem : (f : State → List (List ℕ)) (l : List ℕ) (n : ℕ) (lim : Limits) → Ok (n, lim) ≡ first_of l → length (rest l 4).events < traffic_end → lines_with f l ≡ quick_lines f n lim (rest l 4)
quick_lines_lem f l n lim i k =
    let g = start_in_range l i refl in
    let m = start_room (length (rest l 4).events) k in
    lines_begun f l i refl
    ∙ ap (λ (x : List (List ℕ)). cabinets_line n ∷ x)
    (ap₂ (λ (x : List (List ℕ)) (s : State). x ++ (ending_lines (rest l 4).ending ++ f s)) (quick_refused_lem (start n lim) 1 (rest l 4).events g m) (run_counting (start n lim) (rest l 4).events g m))

-- and the bench program's text
pub quick_text : (l : List ℕ) (n : ℕ) (lim : Limits) → Ok (n, lim) ≡ first_of l → length (rest l 4).events < traffic_end → text_of l ≡ joined (quick_lines table_lines n lim (rest l 4))
quick_text l n lim i k = ap joined (quick_lines_lem table_lines l n lim i k)

pub list_cases : ListCases
unfolding pick ones_in ones count_leading_zeros invite_next merges hand_next finishes forward_next asked_all ask_at ask_after is_checked timed_out ticked expired resumed on_are_you_coordinator on_are_you_there on_invitation on_accept on_ready on_reply received react waits oldest without_oldest reaction_to remaining effect grounds judged length_of cut_short checked event_of next_at limits_of nodes_of first_of read_from rest reading digits decimal row cabinets_line refused_line stopped_line node_line messages_line total_line total_lines total node_lines table_lines joined note_lines lines_with
list_cases =
    record {
      in_model = named_cases;
      in_stand = stand_cases;
      k1_low = refl;
      k1_high = refl;
      k1_first = quick_text (nodes 1) 1 tower refl (omega arith);
      k1_last = quick_text (nodes 16) 16 tower refl (omega arith);
      k10 = quick_text k10_list 2 tower refl (omega arith);
      stand_first = quick_text (stand_nodes 1) 1 stand refl (omega arith);
      stand_low = refl;
      stand_high = refl;
      stand_last = quick_text (stand_nodes 4) 4 stand refl (omega arith);
      stand_k10 = quick_text (stand_nodes 2 ++ k10_events) 2 stand refl (omega arith);
      stand_second = quick_text (nodes 2 ++ stand_nodes 2) 2 tower refl (omega arith);
      stand_later = quick_text (nodes 2 ++ (recover 1 ++ stand_nodes 2)) 2 tower refl (omega arith);
      refused_stopped = quick_text (nodes 2 ++ (recover 1 ++ (recover 1 ++ (crash 2 ++ (recover 2 ++ (0x17 ∷ 0 ∷ [])))))) 2 tower refl (omega arith);
      totals_stopped = quick_text (nodes 2 ++ (recover 1 ++ (recover 2 ++ (check 2 ++ (deliver 2 1 ++ (lose 1 2 ++ (expire 2 ++ (check 2 ++ (deliver 2 1 ++ (0x17 ∷ 0 ∷ [])))))))))) 2 tower refl (omega arith);
      turned_away = quick_text (k10_list ++ (check 1 ++ check 2)) 2 tower refl (omega arith);
      check_alone = quick_text (nodes 1 ++ (recover 1 ++ check 1)) 1 tower refl (omega arith);
      no_majority_lem = quick_text (unanswered_list ++ (finish 2 0 100 ++ (finish 2 0 199 ++ finish 2 0 200))) 2 tower refl (omega arith);
      failed_alone = refl;
    }
