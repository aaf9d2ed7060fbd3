-- The lists, computed over the definitions. Neither the range nor 17 is computed at each event: a run is in range, and these do not meet 17.
use Prim.Native.Nat.{ℕ, ◌+◌, ◌<◌}
use native.Mathlib.Omega.{arith}
use mathlib.Core.Bool.{true}
use mathlib.Core.Path.{◌≡◌, refl, ◌∙◌, ap}
use mathlib.Core.List.{List, [], ◌∷◌, ◌++◌}
use lib.Count.{ones_in, ones, count_leading_zeros}
use lib.ListN.{length}
use Rattle.std.specs.Prelude.{Ok}
use Rattle.model.specs.Pick.{pick}
use Rattle.model.specs.Limits.{tower, stand, traffic_end}
use Rattle.model.specs.Counts.{total}
use Rattle.model.specs.Procedures.{invite_next, merges, hand_next, finishes, forward_next, asked_all, ask_at, ask_after}
use Rattle.model.specs.React.{checked as is_checked, timed_out, ticked, expired, resumed, on_are_you_coordinator, on_are_you_there, on_invitation, on_accept, on_ready, on_reply, received, react}
use Rattle.model.specs.State.{State, start, waits, oldest, without_oldest, in_range}
use Rattle.model.specs.Grounds.{judged}
use Rattle.model.specs.Step.{reaction_to, remaining, effect, grounds, Result, step, kept, after, run_from}
use Rattle.model.specs.declared.Limits.{Limits}
use Rattle.model.specs.declared.Event.{Event}
use Rattle.model.proofs.InRange.{run_in}
use Rattle.model.proofs.Aside.{Room, by_between, room_after, room_below, start_room}
use Rattle.event_list.specs.Format.{Ending, length_of, cut_short, checked, event_of, next_at, limits_of, nodes_of, first_of, read_from, rest, reading}
use Rattle.event_list.specs.Cases.{nodes, stand_nodes, crash, recover, check, timeout, tick, expire, finish, deliver, lose}
use Rattle.event_list.proofs.Reading.{reading_begun}
use Rattle.listing.specs.Decimal.{digits, decimal}
use Rattle.listing.specs.Lines.{row, cabinets_line, stopped_line, node_line, messages_line, total_line, total_lines, node_lines, table_lines}
use Rattle.listing.specs.Printing.{joined}
use Rattle.short_lists_text.specs.Text.{name_of, spaced, event_text}
use Rattle.list_text.specs.Words.{same}
use Rattle.run_list.specs.Text.{ending_lines}
use Rattle.run_list.specs.Cases.{k10_list}
use Rattle.run_list.proofs.Laws.{start_in_range}
use Rattle.run_list.proofs.Cases.{known}
use Rattle.trace_text.specs.Words.{nodes_from, set_text, activity_text, record_line, same_node, kind_text, carried_text, message_words, taken_line, sent_line}
use Rattle.trace_text.specs.Trace.{accepted_line, refused_step_line, changed_lines, answered_lines, step_lines, step_pieces, pieces_from, listed_pieces, trace_pieces, trace_text}
use Rattle.trace_text.specs.Cases.{TraceCases}

-- the pieces of a run from s, each event by the grounds between 1 and 17, and behind them the ending x and the last table
abbrev quick_pieces : State → ℕ → Ending → List Event → List (List ℕ)
quick_pieces s e x [] = joined (ending_lines x ++ table_lines s) ∷ []
quick_pieces s e x (v ∷ vs) = joined (answered_lines s e v (known s v)) ∷ quick_pieces (kept s (known s v)) (e + 1) x vs

quick_pieces_lem : (s : State) (e : ℕ) (x : Ending) (vs : List Event) → in_range s ≡ true → Room (length vs) s.sent →
    step_pieces s e vs ++ (joined (ending_lines x ++ table_lines (run_from s vs)) ∷ []) ≡ quick_pieces s e x vs
unfolding step_pieces step_lines run_from
quick_pieces_lem s e x [] r h = refl
quick_pieces_lem s e x (v ∷ vs) r h =
    ap (λ (l : List (List ℕ)). joined (answered_lines s e v (step s v)) ∷ l) (quick_pieces_lem (after s v) (e + 1) x vs (run_in s (v ∷ []) r) (room_after (length vs) s v (λ k. omega (arith, h k))))
    ∙ ap (λ (y : Result). joined (answered_lines s e v y) ∷ quick_pieces (kept s y) (e + 1) x vs) (by_between s v r (room_below _ s.sent h))

-- the text of a list of n nodes with these limits
quick_trace : (l : List ℕ) (n : ℕ) (lim : Limits) → Ok (n, lim) ≡ first_of l → length (rest l 4).events < traffic_end →
    trace_text l ≡ joined (cabinets_line n ∷ quick_pieces (start n lim) 1 (rest l 4).ending (rest l 4).events)
unfolding trace_pieces pieces_from
quick_trace l n lim i k =
    ap (λ x. joined (listed_pieces x)) (reading_begun l i refl)
    ∙ ap (λ (x : List (List ℕ)). joined (cabinets_line n ∷ x)) (quick_pieces_lem (start n lim) 1 (rest l 4).ending (rest l 4).events (start_in_range l i refl) (start_room (length (rest l 4).events) k))

pub trace_cases : TraceCases
unfolding pick ones_in ones count_leading_zeros invite_next merges hand_next finishes forward_next asked_all ask_at ask_after is_checked timed_out ticked expired resumed on_are_you_coordinator on_are_you_there on_invitation on_accept on_ready on_reply received react waits oldest without_oldest reaction_to remaining effect grounds judged length_of cut_short checked event_of next_at limits_of nodes_of first_of read_from rest reading digits decimal row cabinets_line stopped_line node_line messages_line total_line total_lines total node_lines table_lines joined name_of spaced event_text same nodes_from set_text activity_text record_line same_node kind_text carried_text message_words taken_line sent_line accepted_line refused_step_line changed_lines trace_pieces
trace_cases =
    record {
      empty = refl;
      no_events = quick_trace (nodes 1) 1 tower refl (omega arith);
      stand = quick_trace (stand_nodes 1) 1 stand refl (omega arith);
      one = quick_trace (nodes 1 ++ (recover 1 ++ (recover 1 ++ (0x19 ∷ 0 ∷ 0 ∷ [])))) 1 tower refl (omega arith);
      alone = quick_trace (nodes 1 ++ (recover 1 ++ (check 1 ++ timeout 1))) 1 tower refl (omega arith);
      answered = quick_trace (k10_list ++ (timeout 1 ++ (deliver 1 2 ++ deliver 2 1))) 2 tower refl (omega arith);
      forwarded = quick_trace (k10_list ++ (crash 1 ++ (recover 1 ++ (check 1 ++ (deliver 1 2 ++ (deliver 2 1 ++ (tick 1 ++ deliver 1 2))))))) 2 tower refl (omega arith);
      twice = quick_trace (k10_list ++ (crash 1 ++ (recover 1 ++ (check 2 ++ (deliver 2 1 ++ (deliver 1 2 ++ (lose 2 1 ++ expire 2))))))) 2 tower refl (omega arith);
      three = quick_trace (nodes 3 ++ (recover 1 ++ (recover 2 ++ (recover 3 ++ (check 1 ++ (deliver 1 2 ++ (deliver 2 1 ++ (deliver 1 3 ++ (deliver 3 1 ++ (tick 1 ++ (tick 1 ++ (check 2 ++ (deliver 2 1 ++ (finish 1 0 100 ++ lose 2 3)))))))))))))) 3 tower refl (omega arith);
    }
