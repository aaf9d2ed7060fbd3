-- The texts of single lists, computed over the definitions. In a run neither the range nor 17 is computed at each event or turn: it is in range, and does not meet 17.
use Prim.Native.Nat.{ℕ, zero, suc, ◌≤◌, ◌<◌}
use native.Mathlib.Omega.{arith}
use mathlib.Core.Bool.{true, not}
use mathlib.Core.Path.{◌≡◌, refl, sym, ◌∙◌, ap, ap₂, subst}
use mathlib.Core.List.{List, [], ◌∷◌, ◌++◌}
use lib.Count.{ones_in, ones, count_leading_zeros}
use lib.ListN.{length, replicate}
use Rattle.model.specs.Pick.{pick}
use Rattle.model.specs.Limits.{tower, stand}
use Rattle.model.specs.Counts.{total}
use Rattle.model.specs.Node.{is_down}
use Rattle.model.specs.Range.{TwoPairs}
use Rattle.model.specs.Procedures.{invite_next, merges, hand_next, finishes, forward_next, asked_all, ask_at, ask_after}
use Rattle.model.specs.React.{checked as is_checked, timed_out, ticked, expired, resumed, on_are_you_coordinator, on_are_you_there, on_invitation, on_accept, on_ready, on_reply, received, react}
use Rattle.model.specs.State.{State, start, node_at, waits, oldest, without_oldest, in_range}
use Rattle.model.specs.Grounds.{judged}
use Rattle.model.specs.Step.{reaction_to, remaining, effect, grounds, Result, run_from, run}
use Rattle.model.proofs.InRange.{stays_in_range}
use Rattle.model.proofs.Traffic.{run_n}
use Rattle.model.proofs.Aside.{Room, by_between, room_after, room_below, counting, run_counting, start_room, room_run}
use Rattle.model.specs.declared.Limits.{Limits}
use Rattle.model.specs.declared.Event.TheVariants.{Deliver, Lose}
use Rattle.std.specs.Prelude.{Ok}
use Rattle.event_list.specs.Format.{length_of, cut_short, checked, event_of as event_in, next_at, limits_of, nodes_of, first_of, read_from, rest, reading}
use Rattle.event_list.proofs.Reading.{first_good}
use Rattle.event_list.specs.Cases.{nodes, stand_nodes, crash, recover, check}
use Rattle.listing.specs.Decimal.{digits, decimal}
use Rattle.listing.specs.Lines.{row, cabinets_line, refused_line, stopped_line, node_line, messages_line, turns_line, total_line, total_lines, node_lines, table_lines}
use Rattle.listing.specs.Printing.{joined}
use Rattle.round.specs.Order.{is_in_round, next_receiver, next_pair, first_pair}
use Rattle.round.specs.Turn.{meets_end, turn_does, event_of, table_after, place_after}
use Rattle.round.specs.Schedule.{turn, Drive, drive, moved, driven}
use Rattle.round.specs.Claims.{AtPair}
use Rattle.round.proofs.Order.{round_order}
use Rattle.round.proofs.Turns.{turn_is}
use Rattle.round.proofs.Schedules.{round_of_the_cable}
use Rattle.round.specs.declared.Place.{Place}
use Rattle.round.specs.declared.Done.{Done}
use Rattle.round.specs.declared.Done.TheVariants.{Nothing, Delivered, Lost}
use Rattle.run_list.specs.Text.{note_lines, refused_lines, ending_lines, lines_with}
use Rattle.run_list.specs.Cases.{k10_list}
use Rattle.run_list.proofs.Laws.{lines_begun, start_in_range}
use Rattle.run_list.proofs.Cases.{known, quick_lines, quick_lines_lem}
use Rattle.rest_bound.specs.Turns.{queue_empty, turns_within, turn_bound, turns_to_rest}
use Rattle.rest_bound.proofs.Turns.{rest_within, within_empty}
use Rattle.rest_list.specs.Text.{rest_lines, rest_text_of}
use Rattle.rest_list.specs.Cases.{asking_events, RestCases}
use Rattle.rest_list.proofs.Turns.{bound_small}

-- ── a turn by the grounds between 1 and 17 ──
abbrev quick_does : State → Place → Done
quick_does s p =
    pick (not (waits p.sender p.receiver s.queue)) Nothing
    (pick (is_down (node_at s p.receiver).status) Lost
    (pick (meets_end (known s (Deliver p.sender p.receiver))) Lost
    Delivered))

abbrev quick_moved : Drive → Drive
quick_moved d = drive (counting d.table (event_of d.place (quick_does d.table d.place))) (next_pair d.table.n d.place)

-- a table and a place at which a turn is made, with room for j more events
record Ready (j : ℕ) (d : Drive) : Type 0 where
  pub at : AtPair d.table d.place
  pub room : Room j d.table.sent

quick_does_lem : (s : State) (p : Place) → in_range s ≡ true → Room 1 s.sent → turn_does s p ≡ quick_does s p
unfolding turn_does
quick_does_lem s p r h =
    ap (λ (x : Result). pick (not (waits p.sender p.receiver s.queue)) Nothing (pick (is_down (node_at s p.receiver).status) Lost (pick (meets_end x) Lost Delivered)))
    (by_between s (Deliver p.sender p.receiver) r (room_below 1 s.sent h))

event_room : (j : ℕ) (s : State) (p : Place) (d : Done) → Room (suc j) s.sent → Room j (run_from s (event_of p d)).sent
unfolding run_from
event_room j s p Nothing h = λ k. omega (arith, h k)
event_room j s p Delivered h = room_after j s (Deliver p.sender p.receiver) h
event_room j s p Lost h = room_after j s (Lose p.sender p.receiver) h

event_few : (p : Place) (d : Done) → length (event_of p d) ≤ 1
event_few p Nothing = omega arith
event_few p Delivered = omega arith
event_few p Lost = omega arith

-- where a turn leads
turn_leads : (j : ℕ) (d : Drive) → Ready (suc j) d → moved d turn ≡ drive (run_from d.table (event_of d.place (turn_does d.table d.place))) (next_pair d.table.n d.place)
turn_leads j d x = ap (λ t. drive (table_after d.table t) (place_after d.place t)) (turn_is d.table d.place x.at)

quick_moved_lem : (j : ℕ) (d : Drive) → Ready (suc j) d → moved d turn ≡ quick_moved d
quick_moved_lem j d x =
    let s = d.table in
    let p = d.place in
    turn_leads j d x
    ∙ ap (λ (u : State). drive u (next_pair s.n p))
    (run_counting s (event_of p (turn_does s p)) x.at.in_range_lem (λ k. omega (arith, x.room k, event_few p (turn_does s p)))
    ∙ ap (λ (z : Done). counting s (event_of p z)) (quick_does_lem s p x.at.in_range_lem (λ k. omega (arith, x.room k))))

ready_next : (j : ℕ) (d : Drive) → Ready (suc j) d → Ready j (moved d turn)
unfolding driven
ready_next j d x =
    record {
      at = round_of_the_cable.stays d.table d.place (turn ∷ []) x.at;
      room = subst (λ (v : Drive). Room j v.table.sent) (sym (turn_leads j d x)) (event_room j d.table d.place (turn_does d.table d.place) x.room);
    }

-- ── turns until no message waits ──
abbrev quick_within : ℕ → Drive → ℕ
quick_within zero d = 0
quick_within (suc k) d = pick (queue_empty d.table) 0 (suc (quick_within k (quick_moved d)))

abbrev quick_driven : ℕ → Drive → Drive
quick_driven zero d = d
quick_driven (suc k) d = quick_driven k (quick_moved d)

quick_within_lem : (k : ℕ) (d : Drive) → Ready k d → turns_within k d ≡ quick_within k d
unfolding turns_within
quick_within_lem zero d x = refl
quick_within_lem (suc k) d x =
    ap (λ (j : ℕ). pick (queue_empty d.table) 0 (suc j))
    (quick_within_lem k (moved d turn) (ready_next k d x) ∙ ap (quick_within k) (quick_moved_lem k d x))

quick_driven_lem : (k : ℕ) (d : Drive) → Ready k d → driven d (replicate k turn) ≡ quick_driven k d
unfolding driven
quick_driven_lem zero d x = refl
quick_driven_lem (suc k) d x = quick_driven_lem k (moved d turn) (ready_next k d x) ∙ ap (quick_driven k) (quick_moved_lem k d x)

abbrev quick_rest : State → List (List ℕ)
quick_rest s =
    turns_line (quick_within (turn_bound s) (drive s first_pair))
    ∷ table_lines (quick_driven (quick_within (turn_bound s) (drive s first_pair)) (drive s first_pair)).table

quick_rest_lem : (s : State) → Ready (turn_bound s) (drive s first_pair) → rest_lines s ≡ quick_rest s
quick_rest_lem s x =
    let k = quick_within_lem (turn_bound s) (drive s first_pair) x in
    let y : Ready (turns_to_rest s) (drive s first_pair) = record { at = x.at; room = λ i. omega (arith, x.room i, rest_within s) } in
    ap₂ (λ (i : ℕ) (u : State). turns_line i ∷ table_lines u) k
    (ap (λ (v : Drive). v.table) (quick_driven_lem (turns_to_rest s) (drive s first_pair) y) ∙ ap (λ (i : ℕ). (quick_driven i (drive s first_pair)).table) k)

-- where no message waits
rest_none : (s : State) → queue_empty s ≡ true → rest_lines s ≡ turns_line 0 ∷ table_lines s
unfolding driven
rest_none s e = let z = within_empty (turn_bound s) (drive s first_pair) e in ap (λ (i : ℕ). turns_line i ∷ table_lines (driven (drive s first_pair) (replicate i turn)).table) z

-- ── texts ──
module _ (l : List ℕ) (n : ℕ) (lim : Limits) (i : Ok (n, lim) ≡ first_of l) (few : length (rest l 4).events < 1000000) where
  -- f and g print the same of the last table
  same_text : (f g : State → List (List ℕ)) → f (run n lim (rest l 4).events) ≡ g (run n lim (rest l 4).events) → joined (lines_with f l) ≡ joined (quick_lines g n lim (rest l 4))
  same_text f g e =
      ap joined
      (lines_begun f l i refl
      ∙ ap (λ (x : List (List ℕ)). cabinets_line n ∷ (refused_lines (start n lim) 1 (rest l 4).events ++ (ending_lines (rest l 4).ending ++ x))) e
      ∙ sym (lines_begun g l i refl)
      ∙ quick_lines_lem g l n lim i (omega (arith, few)))

  in_run : in_range (run n lim (rest l 4).events) ≡ true
  in_run = stays_in_range.runs TwoPairs n lim (first_good l i refl).2 (rest l 4).events

  quick_text : 2 ≤ n → rest_text_of l ≡ joined (quick_lines quick_rest n lim (rest l 4))
  quick_text two = same_text rest_lines quick_rest (quick_rest_lem s ready)
    where
      s : State
      s = run n lim (rest l 4).events

      ready : Ready (turn_bound s) (drive s first_pair)
      ready =
          record {
            at = record { in_range_lem = in_run; in_round = subst (λ (k : ℕ). is_in_round k first_pair ≡ true) (sym (run_n (start n lim) (rest l 4).events)) (round_order.starts n two) };
            room = λ k. omega (arith, bound_small s in_run, room_run 1282560 (start n lim) (rest l 4).events (start_room _ (omega (arith, few))) k);
          }

  none_text : queue_empty (run n lim (rest l 4).events) ≡ true → rest_text_of l ≡ joined (quick_lines (λ s. turns_line 0 ∷ table_lines s) n lim (rest l 4))
  none_text e = same_text rest_lines (λ s. turns_line 0 ∷ table_lines s) (rest_none (run n lim (rest l 4).events) e)

  -- by the run without the range
  empty_counting : queue_empty (counting (start n lim) (rest l 4).events) ≡ true → queue_empty (run n lim (rest l 4).events) ≡ true
  empty_counting e = ap (λ (s : State). queue_empty s) (run_counting (start n lim) (rest l 4).events (start_in_range l i refl) (start_room _ (omega (arith, few)))) ∙ e

pub rest_cases : RestCases
unfolding pick ones_in ones count_leading_zeros invite_next merges hand_next finishes forward_next asked_all ask_at ask_after is_checked timed_out ticked expired resumed on_are_you_coordinator on_are_you_there on_invitation on_accept on_ready on_reply received react waits oldest without_oldest reaction_to remaining effect grounds judged length_of cut_short checked event_in next_at limits_of nodes_of first_of read_from rest reading digits decimal row cabinets_line refused_line stopped_line node_line messages_line turns_line total_line total_lines total node_lines table_lines joined note_lines lines_with next_receiver next_pair
rest_cases =
    record {
      asking = quick_text (nodes 2 ++ asking_events) 2 tower refl (omega arith) (omega arith);
      on_stand = quick_text (stand_nodes 2 ++ asking_events) 2 stand refl (omega arith) (omega arith);
      down = quick_text (nodes 2 ++ (asking_events ++ crash 1)) 2 tower refl (omega arith) (omega arith);
      k10 = none_text k10_list 2 tower refl (omega arith) (empty_counting k10_list 2 tower refl (omega arith) refl);
      none = none_text (nodes 2) 2 tower refl (omega arith) (empty_counting (nodes 2) 2 tower refl (omega arith) refl);
      alone = none_text (nodes 1 ++ (recover 1 ++ check 1)) 1 tower refl (omega arith) (empty_counting (nodes 1 ++ (recover 1 ++ check 1)) 1 tower refl (omega arith) refl);
      stopped = quick_text (nodes 2 ++ (recover 1 ++ (asking_events ++ (0x17 ∷ 0 ∷ [])))) 2 tower refl (omega arith) (omega arith);
      failed = refl;
    }
