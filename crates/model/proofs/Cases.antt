-- The named cases, the wrong turnings, the further cases, those of T-03, T-04, T-06 and T-10 and the ends of what is in range, computed over the definitions.
use Prim.Native.Nat.{ℕ, ◌+◌, ◌-◌, ◌≤◌, ◌<◌}
use native.Mathlib.Omega.{arith}
use native.Mathlib.Nat.{le_trans}
use mathlib.Core.Bool.{Bool, true, false, ◌&&◌, true≢false}
use mathlib.Core.Path.{◌≡◌, refl, sym, ◌∙◌, ap}
use mathlib.Core.List.{List, [], ◌∷◌, ◌++◌, map}
use lib.Dec.{leb}
use lib.ListN.{length, replicate}
use borrow.Author.Tests.{leb-true}
use lib.Count.{ones_in, ones, count_leading_zeros}
use lib.Bits.{bit_and, bit_or}
use Rattle.model.specs.Claims.{MayStart}
use Rattle.model.specs.Pick.{pick, pick_true}
use Rattle.model.specs.Limits.{tower, stand}
use Rattle.model.specs.Counts.{total}
use Rattle.model.specs.Node.{is_down, is_idle, asks, calls, replies}
use Rattle.model.specs.Recovery.{recovery_records}
use Rattle.model.specs.Procedures.{invite_next, merges, hand_next, finishes, forward_next, asked_all, ask_at, ask_after}
use Rattle.model.specs.React.{checked, timed_out, ticked, expired, resumed, on_are_you_coordinator, on_are_you_there, on_invitation, on_accept, on_ready, on_reply, received, react}
use Rattle.model.specs.Range.{TwoPairs, LeftOut, pair_rule, is_within_tower, is_tower_or_stand, activity_in_range, node_in_range, message_in_range, is_node}
use Rattle.model.specs.State.{in_range, State, starting_node, start_by, start, node_at, all_waiting, counts_aside, base_in_range, waits, oldest, without_oldest, counts_of, every, traffic_in_range}
use Rattle.model.specs.Grounds.{judged}
use Rattle.model.specs.Step.{step, grounds, run_from, reaction_to, remaining, effect, wrong_number, wrong_task, wrong_status, wrong_activity, not_coordinator, none_waits, Result, refused, accepted, kept, aside, after, run}
use Rattle.model.specs.History.{History, blank, updated, history}
use Rattle.model.specs.Cases.{NamedCases, StandCases, all_ask, WrongTurnings, FurtherCases, printed_fields, among, queued, pair, filled, any_call, collecting, k10, found_three, set_of, none, node, three, joins_former, in_former_group, new_merges, after_merge, both_invite, invited_by_both, joins_new, in_new_group, InvitedTwice, HeldGroupCases, RecoveryCases, accepted_invitation, only_one, CheckCases, gathered_in, unanswered, first_two, last_two, counted_twice, MajorityCases, RangeCases}
use Rattle.model.proofs.Locality.{step_is_local}
use Rattle.model.proofs.InRange.{start_in, stays_in_range}
use Rattle.model.proofs.Pairs.{pair_within, pair_four}
use Rattle.model.proofs.Waiting.{waiting_in}
use Rattle.model.proofs.Aside.{result_aside, waiting_small, waiting_aside, aside_result, quick, aside_kept, run_aside, quick_append, counting, run_counting, quick_history, history_aside, start_room, run_below}
use Rattle.model.proofs.Checks.{check_rules}
use Rattle.model.specs.declared.Limits.{Limits}
use Rattle.model.specs.declared.Status.TheVariants.{Election, Reorganization, Normal}
use Rattle.model.specs.declared.Activity.TheVariants.{Idle, Collecting}
use Rattle.model.specs.declared.Node.{Node}
use Rattle.model.specs.declared.Message.{Message}
use Rattle.model.specs.declared.Event.{Event}
use Rattle.model.specs.declared.Event.TheVariants.{Crash, Recover, Check, Timeout, Tick, Expire, Finish, Deliver, Lose}

-- ── a case is computed with the counts set aside, so that neither their range nor 17 is computed at each event ──

-- limits of one of the two pairs
record Allowed (lim : Limits) : Type 0 where
  pub pair : is_tower_or_stand lim ≡ true
  pub within : is_within_tower lim ≡ true

in_tower : Allowed tower
in_tower = record { pair = refl; within = refl }

in_stand : Allowed stand
in_stand = record { pair = refl; within = refl }

refused_aside : (x : Result) (r : ℕ) → aside x ≡ refused r → x ≡ refused r
refused_aside (refused k) r h = h
refused_aside (accepted u k) r h = absurd (let z : ◌≡◌ {A = ℕ} 1 0 = cc in omega arith)

-- from a table with such limits in which all that was sent still waits
module _ (lim : Limits) (o : Allowed lim) where
  one_step_in : (n : ℕ) (cs : List Node) (q : List Message) (e : Event) → base_in_range lim n cs q ≡ true → aside (step (all_waiting n lim cs q) e) ≡ result_aside (all_waiting n lim cs q) e
  one_step_in n cs q e r = waiting_aside TwoPairs n lim cs q o.pair o.within r e

  one_refused_in : (n : ℕ) (cs : List Node) (q : List Message) (e : Event) (r : ℕ) → base_in_range lim n cs q ≡ true → result_aside (all_waiting n lim cs q) e ≡ refused r
      → step (all_waiting n lim cs q) e ≡ refused r
  one_refused_in n cs q e r b h = refused_aside _ r (one_step_in n cs q e b ∙ h)

  one_after_in : (n : ℕ) (cs : List Node) (q : List Message) (e : Event) → base_in_range lim n cs q ≡ true
      → counts_aside (after (all_waiting n lim cs q) e) ≡ kept (all_waiting n lim cs q) (result_aside (all_waiting n lim cs q) e)
  one_after_in n cs q e r = aside_kept (all_waiting n lim cs q) (step (all_waiting n lim cs q) e) ∙ ap (kept (all_waiting n lim cs q)) (one_step_in n cs q e r)

  -- one that is not in range meets 1
  not_in_range_in : (n : ℕ) (cs : List Node) (q : List Message) (e : Event) → base_in_range lim n cs q ≡ false → step (all_waiting n lim cs q) e ≡ refused 1
  unfolding step grounds judged in_range
  not_in_range_in n cs q e r = rw (o.pair, o.within, r, pick_true) refl

  -- whether such a table is in range does not depend on its counts
  waiting_range : (n : ℕ) (cs : List Node) (q : List Message) → in_range (all_waiting n lim cs q) ≡ base_in_range lim n cs q
  unfolding in_range
  waiting_range n cs q = by (base_in_range lim n cs q) refl
    where
      by : (t : Bool) → base_in_range lim n cs q ≡ t
          → (is_tower_or_stand lim && (is_within_tower lim && (base_in_range lim n cs q && traffic_in_range (all_waiting n lim cs q)))) ≡ base_in_range lim n cs q
      by true e = waiting_in TwoPairs n lim cs q o.pair o.within e ∙ sym e
      by false e = rw (o.pair, o.within, e)

-- in the tower
one_step : (n : ℕ) (cs : List Node) (q : List Message) (e : Event) → base_in_range tower n cs q ≡ true → aside (step (all_waiting n tower cs q) e) ≡ result_aside (all_waiting n tower cs q) e
one_step n cs q e r = one_step_in tower in_tower n cs q e r

one_refused : (n : ℕ) (cs : List Node) (q : List Message) (e : Event) (r : ℕ) → base_in_range tower n cs q ≡ true → result_aside (all_waiting n tower cs q) e ≡ refused r
    → step (all_waiting n tower cs q) e ≡ refused r
one_refused n cs q e r b h = one_refused_in tower in_tower n cs q e r b h

one_after : (n : ℕ) (cs : List Node) (q : List Message) (e : Event) → base_in_range tower n cs q ≡ true
    → counts_aside (after (all_waiting n tower cs q) e) ≡ kept (all_waiting n tower cs q) (result_aside (all_waiting n tower cs q) e)
one_after n cs q e r = one_after_in tower in_tower n cs q e r

some_steps : (n : ℕ) (cs : List Node) (q : List Message) (es : List Event) → base_in_range tower n cs q ≡ true → length es < 33554366
    → counts_aside (run_from (all_waiting n tower cs q) es) ≡ quick (all_waiting n tower cs q) es
some_steps n cs q es r h =
    run_aside (all_waiting n tower cs q) es (waiting_in TwoPairs n tower cs q refl refl r) (λ k. omega (arith, h, waiting_small TwoPairs n tower cs q refl refl r k))

not_in_range : (n : ℕ) (cs : List Node) (q : List Message) (e : Event) → base_in_range tower n cs q ≡ false → step (all_waiting n tower cs q) e ≡ refused 1
not_in_range n cs q e r = not_in_range_in tower in_tower n cs q e r

-- a table that is not in range by its numbers of nodes or messages, or by its limits, meets 1
out_of_range : (s : State) (e : Event) → (pair_rule s.rule s.limits && (is_within_tower s.limits && base_in_range s.limits s.n s.nodes s.queue)) ≡ false → step s e ≡ refused 1
unfolding step grounds judged in_range
out_of_range s e r = rw (not_all (pair_rule s.rule s.limits) (is_within_tower s.limits) _ (traffic_in_range s) r, pick_true) refl
  where
    not_all : (a b c d : Bool) → (a && (b && c)) ≡ false → (a && (b && (c && d))) ≡ false
    not_all false b c d h = refl
    not_all true false c d h = refl
    not_all true true false d h = refl
    not_all true true true d h = absurd (true≢false h)

pub among_same : (f g : ℕ → Bool) → ((x : ℕ) → f x ≡ g x) → (l : List ℕ) → among f l ≡ among g l
among_same f g h [] = refl
among_same f g h (x ∷ l) = ap (λ (t : Bool). pick t (x ∷ among f l) (among f l)) (h x) ∙ ap (λ (k : List ℕ). pick (g x) (x ∷ k) k) (among_same f g h l)

-- those of the numbers for which such a table is in range
among_tables : (lim : Limits) → Allowed lim → (n : ℕ → ℕ) (cs : ℕ → List Node) (q : ℕ → List Message) (l : List ℕ)
    → among (λ x. in_range (all_waiting (n x) lim (cs x) (q x))) l ≡ among (λ x. base_in_range lim (n x) (cs x) (q x)) l
among_tables lim o n cs q l =
    among_same (λ x. in_range (all_waiting (n x) lim (cs x) (q x))) (λ x. base_in_range lim (n x) (cs x) (q x)) (λ x. waiting_range lim o (n x) (cs x) (q x)) l

-- from a starting table
module _ (lim : Limits) (o : Allowed lim) (n : ℕ) (low : 1 ≤ n) (high : n ≤ lim.nodes) where
  starts : MayStart TwoPairs n lim
  starts = record { within = o.within; pair = o.pair; low = low; high = high }

  started_in : (es : List Event) → length es < 33554430 → counts_aside (run n lim es) ≡ quick (counts_aside (start n lim)) es
  started_in es k = run_aside (start n lim) es (start_in TwoPairs n lim starts) (start_room (length es) k)

  counting_in : (es : List Event) → length es < 33554430 → run n lim es ≡ counting (start n lim) es
  counting_in es k = run_counting (start n lim) es (start_in TwoPairs n lim starts) (start_room (length es) k)

  -- an event after a run
  from_in : (es : List Event) (e : Event) → length es + 1 < 33554430 → aside (step (run n lim es) e) ≡ result_aside (quick (counts_aside (start n lim)) es) e
  from_in es e k =
      aside_result (run n lim es) e (stays_in_range.runs TwoPairs n lim starts es) (run_below n lim es (omega arith))
      ∙ ap (λ (s : State). result_aside s e) (started_in es (omega arith))

  refused_in : (es : List Event) (e : Event) (r : ℕ) → length es + 1 < 33554430 → result_aside (quick (counts_aside (start n lim)) es) e ≡ refused r → step (run n lim es) e ≡ refused r
  refused_in es e r k h = refused_aside _ r (from_in es e k ∙ h)

  at_start_in : (e : Event) (r : ℕ) → result_aside (counts_aside (start n lim)) e ≡ refused r → step (start n lim) e ≡ refused r
  unfolding run_from
  at_start_in e r h = refused_in [] e r (omega arith) h

  after_in : (es : List Event) (e : Event) → length es + 1 < 33554430
      → counts_aside (after (run n lim es) e) ≡ kept (quick (counts_aside (start n lim)) es) (result_aside (quick (counts_aside (start n lim)) es) e)
  after_in es e k =
      aside_kept (run n lim es) (step (run n lim es) e)
      ∙ ap (λ (s : State). kept s (aside (step (run n lim es) e))) (started_in es (omega arith))
      ∙ ap (kept (quick (counts_aside (start n lim)) es)) (from_in es e k)

  history_in : (es : List Event) → length es < 33554430 → history n lim es ≡ quick_history (counts_aside (start n lim)) blank es
  history_in es k = history_aside (start n lim) blank es (start_in TwoPairs n lim starts) (start_room (length es) k)

-- in the tower
two : (es : List Event) → length es < 33554430 → counts_aside (run 2 tower es) ≡ quick (counts_aside (start 2 tower)) es
two es k = started_in tower in_tower 2 (omega arith) (omega arith) es k

pub two_counting : (es : List Event) → length es < 33554430 → run 2 tower es ≡ counting (start 2 tower) es
two_counting es k = counting_in tower in_tower 2 (omega arith) (omega arith) es k

in_three : (es : List Event) → length es < 33554430 → counts_aside (run 3 tower es) ≡ quick (counts_aside (start 3 tower)) es
in_three es k = started_in tower in_tower 3 (omega arith) (omega arith) es k

from_two : (es : List Event) (e : Event) (r : ℕ) → length es + 1 < 33554430 → result_aside (quick (counts_aside (start 2 tower)) es) e ≡ refused r → step (run 2 tower es) e ≡ refused r
from_two es e r k h = refused_in tower in_tower 2 (omega arith) (omega arith) es e r k h

at_start : (e : Event) (r : ℕ) → result_aside (counts_aside (start 2 tower)) e ≡ refused r → step (start 2 tower) e ≡ refused r
at_start e r h = at_start_in tower in_tower 2 (omega arith) (omega arith) e r h

after_two : (es : List Event) (e : Event) → length es + 1 < 33554430
    → counts_aside (after (run 2 tower es) e) ≡ kept (quick (counts_aside (start 2 tower)) es) (result_aside (quick (counts_aside (start 2 tower)) es) e)
after_two es e k = after_in tower in_tower 2 (omega arith) (omega arith) es e k

history_two : (es : List Event) → length es < 33554430 → history 2 tower es ≡ quick_history (counts_aside (start 2 tower)) blank es
history_two es k = history_in tower in_tower 2 (omega arith) (omega arith) es k

pub named_cases : NamedCases
unfolding total pick ones_in ones count_leading_zeros bit_and bit_or invite_next merges hand_next finishes forward_next asked_all ask_at ask_after checked timed_out ticked expired resumed on_are_you_coordinator on_are_you_there on_invitation on_accept on_ready on_reply received react activity_in_range node_in_range message_in_range waits oldest without_oldest every reaction_to remaining effect wrong_number wrong_task wrong_status wrong_activity not_coordinator none_waits grounds judged updated
named_cases =
    record {
      k1_low = refl;
      k1_high = refl;
      k1_first = refl;
      k1_last = refl;
      k2 = ap (λ (s : State). printed_fields s 1) (two (Recover 1 ∷ []) (omega arith));
      k2_task = ap (λ (h : History). h.entry 16) (history_two (Recover 1 ∷ []) (omega arith));
      k2_other = ap (λ (s : State). printed_fields s 2) (two (Recover 1 ∷ []) (omega arith));
      k2_emptied = one_step _ _ _ _ refl;
      k3 = from_two (Recover 1 ∷ []) (Recover 1) _ (omega arith) refl;
      k4 = ap (λ (s : State). printed_fields s 1) (two (Recover 1 ∷ Crash 1 ∷ Recover 1 ∷ []) (omega arith));
      k4_crash = one_step _ _ _ _ refl;
      k5_passes = ap (λ (s : State). printed_fields s 16) (one_after _ _ _ (Recover 16) refl);
      k5_ends = one_refused _ _ _ _ _ refl refl;
      k5_merge_passes = ap (λ (s : State). printed_fields s 16) (one_after _ _ _ (Expire 16) refl);
      k5_merge_ends = one_refused _ _ _ _ _ refl refl;
      k5_no_group = one_after _ _ _ _ refl;
      k6_collects = ap (λ (s : State). (node_at s 2).activity) (two collecting (omega arith));
      k6_refused = from_two collecting (Finish 2 (record { number = 99 })) _ (omega arith) refl;
      k6_passes = ap (λ (s : State). printed_fields s 2) (after_two collecting (Finish 2 (record { number = 200 })) (omega arith));
      k6_last = ap (λ (s : State). printed_fields s 2) (after_two collecting (Finish 2 (record { number = 65535 })) (omega arith));
      k6_high = from_two collecting (Finish 2 (record { number = 65536 })) _ (omega arith) refl;
      k6_no_member = one_step _ _ _ _ refl;
      k6_idle = one_refused _ _ _ _ _ refl refl;
      k6_idle_task = one_refused _ _ _ _ _ refl refl;
      k7_waits = ap (λ (s : State). (node_at s 1).activity) (in_three found_three (omega arith));
      k7_first = ap (λ (s : State). (node_at s 1).activity) (in_three (found_three ++ (Tick 1 ∷ [])) (omega arith));
      k7_still = ap (λ (s : State). (node_at s 1).status) (in_three (found_three ++ (Tick 1 ∷ [])) (omega arith));
      k7_second = ap (λ (s : State). (node_at s 1).activity) (in_three (found_three ++ (Tick 1 ∷ Tick 1 ∷ [])) (omega arith));
      k7_merges = ap (λ (s : State). printed_fields s 1) (in_three (found_three ++ (Tick 1 ∷ Tick 1 ∷ [])) (omega arith));
      k7_invites = ap (λ (s : State). s.queue) (in_three (found_three ++ (Tick 1 ∷ Tick 1 ∷ [])) (omega arith));
      k8 = one_after _ _ _ _ refl;
      k8_reorganizing = one_after _ _ _ _ refl;
      k8_owner = one_after _ _ _ _ refl;
      k8_normal = one_after _ _ _ _ refl;
      k8_no_member = one_after _ _ _ _ refl;
      k8_led = one_after _ _ _ _ refl;
      k9 = one_after _ _ _ _ refl;
      k9_yes = one_step _ _ _ _ refl;
      k9_no = one_after _ _ _ _ refl;
      k9_no_call = one_after _ _ _ _ refl;
      k10_first = ap (λ (s : State). printed_fields s 1) (two k10 (omega arith));
      k10_second = ap (λ (s : State). printed_fields s 2) (two k10 (omega arith));
      k10_messages = ap (λ (s : State). length s.queue) (two k10 (omega arith));
      k10_sent = ap (λ (s : State). total s.sent) (two_counting k10 (omega arith));
      k10_delivered = ap (λ (s : State). total s.delivered) (two_counting k10 (omega arith));
      k10_lost = ap (λ (s : State). total s.lost) (two_counting k10 (omega arith));
      k10_task = ap (λ (h : History). h.entry 33) (history_two k10 (omega arith));
      k10_no_task = ap (λ (h : History). h.entry 33) (history_two collecting (omega arith));
      k11_refused = one_refused _ _ _ _ _ refl refl;
      k11_passes = one_after _ _ _ _ refl;
      k11_room = ap (λ (s : State). s.queue) (one_after _ _ _ (Check 1) refl);
      k11_turned_away = one_refused _ _ _ _ _ refl refl;
      k12 = one_after _ _ _ _ refl;
      k12_joins = one_after _ _ _ _ refl;
      k12_group = one_after _ _ _ _ refl;
      k12_led = one_after _ _ _ _ refl;
      k13 = at_start (Finish 9 (record { number = 5 })) _ refl;
      k13_task = at_start (Finish 2 (record { number = 5 })) _ refl;
      k13_down = at_start (Finish 2 (record { number = 100 })) _ refl;
    }

pub stand_cases : StandCases
unfolding total pick ones_in ones count_leading_zeros bit_and bit_or invite_next merges hand_next finishes forward_next asked_all ask_at ask_after checked timed_out ticked expired resumed on_are_you_coordinator on_are_you_there on_invitation on_accept on_ready on_reply received react activity_in_range node_in_range message_in_range waits oldest without_oldest every reaction_to remaining effect wrong_number wrong_task wrong_status wrong_activity not_coordinator none_waits grounds judged updated
stand_cases =
    record {
      k1_low = refl;
      k1_high = refl;
      k1_first = refl;
      k1_last = refl;
      k2 = ap (λ (s : State). printed_fields s 1) (started_in stand in_stand 2 (omega arith) (omega arith) (Recover 1 ∷ []) (omega arith));
      k2_task = ap (λ (h : History). h.entry 16) (history_in stand in_stand 2 (omega arith) (omega arith) (Recover 1 ∷ []) (omega arith));
      k3 = refused_in stand in_stand 2 (omega arith) (omega arith) (Recover 1 ∷ []) (Recover 1) _ (omega arith) refl;
      k4 = ap (λ (s : State). printed_fields s 1) (started_in stand in_stand 2 (omega arith) (omega arith) (Recover 1 ∷ Crash 1 ∷ Recover 1 ∷ []) (omega arith));
      k5_passes = ap (λ (s : State). printed_fields s 4) (one_after_in stand in_stand _ _ _ (Recover 4) refl);
      k5_ends = one_refused_in stand in_stand _ _ _ _ _ refl refl;
      k6_refused = refused_in stand in_stand 2 (omega arith) (omega arith) collecting (Finish 2 (record { number = 99 })) _ (omega arith) refl;
      k6_passes = ap (λ (s : State). printed_fields s 2) (after_in stand in_stand 2 (omega arith) (omega arith) collecting (Finish 2 (record { number = 200 })) (omega arith));
      k7_first = ap (λ (s : State). (node_at s 1).activity) (started_in stand in_stand 3 (omega arith) (omega arith) (found_three ++ (Tick 1 ∷ [])) (omega arith));
      k7_second = ap (λ (s : State). (node_at s 1).activity) (started_in stand in_stand 3 (omega arith) (omega arith) (found_three ++ (Tick 1 ∷ Tick 1 ∷ [])) (omega arith));
      k8 = one_after_in stand in_stand _ _ _ _ refl;
      k9 = one_after_in stand in_stand _ _ _ _ refl;
      k10_first = ap (λ (s : State). printed_fields s 1) (started_in stand in_stand 2 (omega arith) (omega arith) k10 (omega arith));
      k10_second = ap (λ (s : State). printed_fields s 2) (started_in stand in_stand 2 (omega arith) (omega arith) k10 (omega arith));
      k10_task = ap (λ (h : History). h.entry 33) (history_in stand in_stand 2 (omega arith) (omega arith) k10 (omega arith));
      k11_refused = one_refused_in stand in_stand _ _ _ _ _ refl refl;
      k11_passes = one_after_in stand in_stand _ _ _ _ refl;
      k11_room = ap (λ (s : State). s.queue) (one_after_in stand in_stand _ _ _ (Check 1) refl);
      k11_turned_away = one_refused_in stand in_stand _ _ _ _ _ refl refl;
      k12 = one_after_in stand in_stand _ _ _ _ refl;
      k13 = at_start_in stand in_stand 2 (omega arith) (omega arith) (Finish 9 (record { number = 5 })) _ refl;
      in_tower = ap (λ (s : State). s.queue) (one_after _ _ _ (Check 1) refl);
      in_tower_more = ap (λ (s : State). s.queue) (one_after _ _ _ (Check 1) refl);
      many_messages = not_in_range_in stand in_stand _ _ _ _ refl;
      many_nodes = out_of_range _ _ refl;
      tower_nodes = at_start_in tower in_tower 5 (omega arith) (omega arith) (Recover 9) _ refl;
      ends_twelve = one_refused_in stand in_stand _ _ _ _ _ refl refl;
      ends_thirteen = one_refused_in stand in_stand _ _ _ _ _ refl refl;
      ends_fourteen = one_refused_in stand in_stand _ _ _ _ _ refl refl;
      ends_pass = ap (λ (s : State). length s.queue) (one_after_in stand in_stand _ _ _ (Tick 2) refl);
      run_fills = ap (λ (s : State). length s.queue) (started_in stand in_stand 4 (omega arith) (omega arith) all_ask (omega arith));
      run_full = refused_in stand in_stand 4 (omega arith) (omega arith) all_ask (Check 1) _ (omega arith) refl;
      run_delivers = ap (λ (s : State). length s.queue) (after_in stand in_stand 4 (omega arith) (omega arith) all_ask (Deliver 1 2) (omega arith));
      run_in_tower = ap (λ (s : State). length s.queue) (after_in tower in_tower 4 (omega arith) (omega arith) all_ask (Check 1) (omega arith));
      swapped = out_of_range _ _ refl;
      tower_nodes_only = out_of_range _ _ refl;
      stand_nodes_only = out_of_range _ _ refl;
      no_limits = out_of_range _ _ refl;
      left_out = ap (λ (s : State). printed_fields s 1)
          (run_aside (start_by LeftOut 2 (record { nodes = 4; messages = 64 })) (Recover 1 ∷ [])
          (start_in LeftOut 2 (record { nodes = 4; messages = 64 }) (record { within = refl; pair = refl; low = omega arith; high = omega arith }))
          (start_room 1 (omega arith)));
      started = refl;
      wrong_limits = refl;
      wrong_count_lem = refl;
    }

pub wrong_turnings : WrongTurnings
unfolding pick ones_in ones count_leading_zeros bit_and bit_or invite_next merges hand_next finishes forward_next asked_all ask_at ask_after checked timed_out ticked expired resumed on_are_you_coordinator on_are_you_there on_invitation on_accept on_ready on_reply received react activity_in_range node_in_range message_in_range waits oldest without_oldest every reaction_to remaining effect wrong_number wrong_task wrong_status wrong_activity not_coordinator none_waits grounds judged updated
wrong_turnings =
    record {
      members_aside = one_step _ _ _ _ refl;
      members_invited = some_steps _ _ _ _ refl (omega arith);
      task_waits = ap (λ (s : State). printed_fields s 1) (two (collecting ++ (Finish 2 (record { number = 100 }) ∷ [])) (omega arith));
      task_comes = one_after _ _ _ _ refl;
      task_of_other = one_after _ _ _ _ refl;
      task_too_soon = one_after _ _ _ _ refl;
      ready_on = one_after _ _ _ _ refl;
      ready_no_more = one_step _ _ _ _ refl;
    }

pub further_cases : FurtherCases
unfolding pick ones_in ones count_leading_zeros bit_and bit_or invite_next merges hand_next finishes forward_next asked_all ask_at ask_after checked timed_out ticked expired resumed on_are_you_coordinator on_are_you_there on_invitation on_accept on_ready on_reply received react activity_in_range node_in_range message_in_range waits oldest without_oldest every reaction_to remaining effect wrong_number wrong_task wrong_status wrong_activity not_coordinator none_waits grounds judged updated
further_cases =
    record {
      highest_found = one_step _ _ _ _ refl;
      asks_others = one_step _ _ _ _ refl;
      reply_newer = one_step _ _ _ _ refl;
      reply_other = one_step _ _ _ _ refl;
      oldest_delivered = one_step _ _ _ _ refl;
      oldest_lost = one_step _ _ _ _ refl;
      lost_down = one_step _ _ _ _ refl;
      delivered_from_down = one_step _ _ _ _ refl;
      timeout_own = one_step _ _ _ _ refl;
      timeout_own_reorganizing = one_step _ _ _ _ refl;
      timeout_led = one_step _ _ _ _ refl;
      timeout_reorganizing = one_step _ _ _ _ refl;
      contact_yes = one_step _ _ _ _ refl;
      contact_no = one_step _ _ _ _ refl;
      contact_expires = one_step _ _ _ _ refl;
      coordinator_yes = one_step _ _ _ _ refl;
      coordinator_election = one_step _ _ _ _ refl;
      coordinator_led = one_step _ _ _ _ refl;
      there_yes = one_step _ _ _ _ refl;
      there_reorganizing = one_step _ _ _ _ refl;
      there_group = one_step _ _ _ _ refl;
      there_led = one_step _ _ _ _ refl;
      there_no_member = one_step _ _ _ _ refl;
      invited_forwards = one_step _ _ _ _ refl;
      invited_accepts = one_step _ _ _ _ refl;
      invited_asking = one_step _ _ _ _ refl;
      invited_waiting = one_step _ _ _ _ refl;
      accepted_replies = one_step _ _ _ _ refl;
      forwarded_accepts = one_step _ _ _ _ refl;
      accepting_expires = one_step _ _ _ _ refl;
      invites_highest = some_steps _ _ _ _ refl (omega arith);
      invites_on = one_step _ _ _ _ refl;
      forwards_each = some_steps _ _ _ _ refl (omega arith);
      forwards_highest = one_step _ _ _ _ refl;
      forwards_on = one_step _ _ _ _ refl;
      forwarding_expires = one_step _ _ _ _ refl;
      forwarding_ends = one_step _ _ _ _ refl;
      hands_each = some_steps _ _ _ _ refl (omega arith);
      hands_highest = one_step _ _ _ _ refl;
      hands_last = one_step _ _ _ _ refl;
      asks_up = some_steps _ _ _ _ refl (omega arith);
      ticks_keep = one_step _ _ _ _ refl;
      invite_no = one_step _ _ _ _ refl;
      hand_no = one_step _ _ _ _ refl;
      forward_no = one_step _ _ _ _ refl;
      accept_no = one_step _ _ _ _ refl;
      ready_normal = one_step _ _ _ _ refl;
      ready_busy = one_step _ _ _ _ refl;
      fields_asks = refl;
      fields_calls = refl;
      fields_readies = refl;
      fields_replies = refl;
      range_node = not_in_range _ _ _ _ refl;
      range_message = not_in_range _ _ _ _ refl;
      range_queue = not_in_range _ _ _ _ refl;
      range_count = out_of_range _ _ refl;
      range_kept = one_refused _ _ _ _ _ refl refl;
      number_none = one_refused _ _ _ _ _ refl refl;
      number_same = one_refused _ _ _ _ _ refl refl;
      number_same_lost = one_refused _ _ _ _ _ refl refl;
      number_sender = one_refused _ _ _ _ _ refl refl;
      number_receiver = one_refused _ _ _ _ _ refl refl;
      down_crash = at_start (Crash 1) _ refl;
      down_check = at_start (Check 1) _ refl;
      down_timeout = at_start (Timeout 1) _ refl;
      down_tick = at_start (Tick 1) _ refl;
      down_expire = at_start (Expire 1) _ refl;
      down_deliver = one_refused _ _ _ _ _ refl refl;
      down_none_waits = one_refused _ _ _ _ _ refl refl;
      activity_check = one_refused _ _ _ _ _ refl refl;
      activity_timeout = one_refused _ _ _ _ _ refl refl;
      activity_tick = one_refused _ _ _ _ _ refl refl;
      activity_expire = one_refused _ _ _ _ _ refl refl;
      activity_collecting = one_refused _ _ _ _ _ refl refl;
      activity_idle = one_refused _ _ _ _ _ refl refl;
      none_to_deliver = one_refused _ _ _ _ _ refl refl;
      none_to_lose = one_refused _ _ _ _ _ refl refl;
      calls_end = one_refused _ _ _ _ _ refl refl;
      calls_last = one_step _ _ _ _ refl;
      calls_reply = one_step _ _ _ _ refl;
      ends_twelve = one_refused _ _ _ _ _ refl refl;
      ends_thirteen = one_refused _ _ _ _ _ refl refl;
      ends_fourteen = one_refused _ _ _ _ _ refl refl;
      ends_pass = one_step _ _ _ _ refl;
    }

-- `joins_new` in two: 1 accepts, so that 3 collects; 3 hands Ready to both
abbrev accepting : List Event
accepting = Deliver 3 1 ∷ Deliver 1 3 ∷ Deliver 3 1 ∷ Deliver 1 3 ∷ []

abbrev three_collects : State
three_collects =
    three (node Reorganization 2 34 3 1 none 2 Idle) (node Reorganization 2 34 3 250 (set_of (1 ∷ [])) 6 Idle) (node Election 2 34 3 3 (set_of (1 ∷ 2 ∷ [])) 4 Collecting)
    (calls 2 3 1 (record { number = 5 }) (record { number = 34 }) ∷ [])

abbrev handing : List Event
handing = Finish 3 (record { number = 300 }) ∷ Deliver 3 2 ∷ Deliver 2 3 ∷ Deliver 3 1 ∷ Deliver 1 3 ∷ []

abbrev to_new : List Event
to_new = new_merges ++ (both_invite ++ joins_new)

abbrev joined : State
joined = in_new_group (calls 2 3 1 (record { number = 5 }) (record { number = 34 }) ∷ [])

-- the parts of the story, each from the table before it
record Parts : Type 0 where
  pub former : quick (counts_aside (start 3 tower)) joins_former ≡ in_former_group
  pub merges : quick in_former_group new_merges ≡ after_merge
  pub both : quick after_merge both_invite ≡ invited_by_both
  pub joins : quick invited_by_both accepting ≡ three_collects
  pub hands : quick three_collects handing ≡ in_new_group (calls 2 3 1 (record { number = 5 }) (record { number = 34 }) ∷ [])
  pub again : quick (in_new_group (calls 2 3 1 (record { number = 5 }) (record { number = 34 }) ∷ [])) (Deliver 2 1 ∷ []) ≡ in_new_group (replies 1 2 (record { number = 5 }) true ∷ [])
  pub dropped : quick (in_new_group (calls 2 3 1 (record { number = 5 }) (record { number = 34 }) ∷ [])) (Deliver 2 1 ∷ Deliver 1 2 ∷ []) ≡ in_new_group []

parts : Parts
unfolding pick ones_in ones count_leading_zeros bit_and bit_or invite_next merges hand_next finishes forward_next asked_all ask_at ask_after checked timed_out ticked expired resumed on_are_you_coordinator on_are_you_there on_invitation on_accept on_ready on_reply received react activity_in_range node_in_range message_in_range waits oldest without_oldest every reaction_to remaining effect wrong_number wrong_task wrong_status wrong_activity not_coordinator none_waits grounds judged updated
parts = record { former = refl; merges = refl; both = refl; joins = refl; hands = refl; again = refl; dropped = refl }

onward : (s t u : State) (es fs : List Event) → quick s es ≡ t → quick t fs ≡ u → quick s (es ++ fs) ≡ u
onward s t u es fs p q = quick_append s es fs ∙ ap (λ (v : State). quick v fs) p ∙ q

from_former : (es : List Event) (u : State) → length (joins_former ++ es) < 33554430 → quick in_former_group es ≡ u → counts_aside (run 3 tower (joins_former ++ es)) ≡ u
from_former es u k h = in_three (joins_former ++ es) k ∙ onward (counts_aside (start 3 tower)) in_former_group u joins_former es parts.former h

pub invited_twice : InvitedTwice
invited_twice =
    record {
      former = in_three joins_former (omega arith) ∙ parts.former;
      merges = from_former new_merges after_merge (omega arith) parts.merges;
      both = from_former (new_merges ++ both_invite) invited_by_both (omega arith) (onward in_former_group after_merge invited_by_both new_merges both_invite parts.merges parts.both);
      normal = from_former to_new joined (omega arith) normal;
      only_messages = from_former (to_new ++ (Deliver 2 1 ∷ [])) (in_new_group (replies 1 2 (record { number = 5 }) true ∷ [])) (omega arith)
          (onward in_former_group joined (in_new_group (replies 1 2 (record { number = 5 }) true ∷ [])) to_new (Deliver 2 1 ∷ []) normal parts.again);
      reply_dropped = from_former (to_new ++ (Deliver 2 1 ∷ Deliver 1 2 ∷ [])) (in_new_group []) (omega arith)
          (onward in_former_group joined (in_new_group []) to_new (Deliver 2 1 ∷ Deliver 1 2 ∷ []) normal parts.dropped);
    }
  where
    normal : quick in_former_group to_new ≡ joined
    normal =
        onward in_former_group after_merge joined new_merges (both_invite ++ joins_new) parts.merges
        (onward after_merge invited_by_both joined both_invite joins_new parts.both (onward invited_by_both three_collects joined accepting handing parts.joins parts.hands))

pub held_group_cases : HeldGroupCases
unfolding pick ones_in ones count_leading_zeros bit_and bit_or invite_next merges hand_next finishes forward_next asked_all ask_at ask_after checked timed_out ticked expired resumed on_are_you_coordinator on_are_you_there on_invitation on_accept on_ready on_reply received react activity_in_range node_in_range message_in_range waits oldest without_oldest every reaction_to remaining effect wrong_number wrong_task wrong_status wrong_activity not_coordinator none_waits grounds judged updated
held_group_cases =
    record {
      normal = one_step _ _ _ _ refl;
      reorganizing = one_step _ _ _ _ refl;
      election = one_step _ _ _ _ refl;
      owner = one_step _ _ _ _ refl;
      down = one_refused _ _ _ _ _ refl refl;
      no_call_needed = one_step _ _ _ _ refl;
      queue_full = one_step _ _ _ _ refl;
      older_group = one_step _ _ _ _ refl;
      newer_group = one_step _ _ _ _ refl;
      call_needed = one_refused _ _ _ _ _ refl refl;
    }

pub check_cases : CheckCases
unfolding pick ones_in ones count_leading_zeros bit_and bit_or invite_next merges hand_next finishes forward_next asked_all ask_at ask_after checked timed_out ticked expired resumed on_are_you_coordinator on_are_you_there on_invitation on_accept on_ready on_reply received react activity_in_range node_in_range message_in_range waits oldest without_oldest every reaction_to remaining effect wrong_number wrong_task wrong_status wrong_activity not_coordinator none_waits grounds judged updated
check_cases =
    record {
      normal_own = one_step _ _ _ _ refl;
      with_member = one_step _ _ _ _ refl;
      election_own = one_refused _ _ _ _ _ refl refl;
      reorganization_own = one_refused _ _ _ _ _ refl refl;
      member = one_refused _ _ _ _ _ refl refl;
      election_member = one_refused _ _ _ _ _ refl refl;
      reorganization_member = one_refused _ _ _ _ _ refl refl;
      one = check_rules.one _ 1
          (record {
            in_range_lem = stays_in_range.runs TwoPairs 1 tower (starts tower in_tower 1 (omega arith) (omega arith)) (Recover 1 ∷ []);
            number = ap (λ (s : State). is_node s.n 1) recovered;
            not_down = ap (λ (s : State). is_down (node_at s 1).status) recovered;
            idle = ap (λ (s : State). is_idle (node_at s 1).activity) recovered;
          })
          (ap (λ (s : State). s.n) recovered) (ap (λ (s : State). (node_at s 1).status) recovered) (ap (λ (s : State). (node_at s 1).coordinator) recovered);
      one_at_end = check_rules.one (only_one Normal 16777215 Idle) 1 (record { in_range_lem = waiting_in TwoPairs _ tower _ _ refl refl refl; number = refl; not_down = refl; idle = refl }) refl refl refl;
      one_election = one_refused _ _ _ _ _ refl refl;
      one_reorganization = one_refused _ _ _ _ _ refl refl;
      one_down = one_refused _ _ _ _ _ refl refl;
      one_busy = one_refused _ _ _ _ _ refl refl;
      range_first = not_in_range _ _ _ _ refl;
      number_first = one_refused _ _ _ _ _ refl refl;
      down_own = one_refused _ _ _ _ _ refl refl;
      down_member = one_refused _ _ _ _ _ refl refl;
      busy_inviting = one_refused _ _ _ _ _ refl refl;
      busy_collecting = one_refused _ _ _ _ _ refl refl;
      busy_handing = one_refused _ _ _ _ _ refl refl;
      busy_forwarding = one_refused _ _ _ _ _ refl refl;
      busy_accepting = one_refused _ _ _ _ _ refl refl;
      busy_reorganization = one_refused _ _ _ _ _ refl refl;
      busy_member = one_refused _ _ _ _ _ refl refl;
      busy_asking = one_refused _ _ _ _ _ refl refl;
      calls_end = one_refused _ _ _ _ _ refl refl;
      full = one_refused _ _ _ _ _ refl refl;
      run_accepted = from_two accepted_invitation (Check 1) _ (omega arith) refl;
      run_member = member_turned_away;
      run_coordinator = ap (λ (s : State). (node_at s 2).activity) (after_two k10 (Check 2) (omega arith));
      skipped = step_is_local.refused_skips 2 tower k10 (Check 1) (Check 2 ∷ []) 18 member_turned_away;
      number = refl;
    }
  where
    recovered : counts_aside (run 1 tower (Recover 1 ∷ [])) ≡ quick (counts_aside (start 1 tower)) (Recover 1 ∷ [])
    recovered = started_in tower in_tower 1 (omega arith) (omega arith) (Recover 1 ∷ []) (omega arith)

    member_turned_away : step (run 2 tower k10) (Check 1) ≡ refused 18
    member_turned_away = from_two k10 (Check 1) 18 (omega arith) refl

pub majority_cases : MajorityCases
unfolding pick ones_in ones count_leading_zeros invite_next merges hand_next finishes forward_next asked_all ask_at ask_after checked timed_out ticked expired resumed on_are_you_coordinator on_are_you_there on_invitation on_accept on_ready on_reply received react activity_in_range node_in_range message_in_range waits oldest without_oldest every reaction_to remaining effect grounds judged updated
majority_cases =
    record {
      one_of_two = one_refused _ _ _ _ _ refl refl;
      one_of_two_between = one_refused _ _ _ _ _ refl refl;
      one_of_two_end = one_refused _ _ _ _ _ refl refl;
      one_of_two_below = one_refused _ _ _ _ _ refl refl;
      one_of_two_above = finished_in tower in_tower 2 none [] 200 refl;
      one_of_two_last = finished_in tower in_tower 2 none [] 65535 refl;
      two_of_two = finished_in tower in_tower 2 (set_of (2 ∷ [])) [] 100 refl;
      two_of_two_end = finished_in tower in_tower 2 (set_of (2 ∷ [])) [] 199 refl;
      two_of_three = finished_in tower in_tower 3 (set_of (3 ∷ [])) [] 100 refl;
      two_of_three_end = finished_in tower in_tower 3 (set_of (3 ∷ [])) [] 199 refl;
      two_of_three_above = finished_in tower in_tower 3 (set_of (3 ∷ [])) [] 200 refl;
      two_of_four_above = finished_in tower in_tower 4 (set_of (4 ∷ [])) [] 200 refl;
      one_of_one = finished_in tower in_tower 1 none [] 100 refl;
      one_of_three = one_refused _ _ _ _ _ refl refl;
      two_of_four = one_refused _ _ _ _ _ refl refl;
      three_of_four = finished_in tower in_tower 4 (set_of (2 ∷ 4 ∷ [])) [] 100 refl;
      two_of_five = one_refused _ _ _ _ _ refl refl;
      three_of_five = finished_in tower in_tower 5 (set_of (2 ∷ 5 ∷ [])) [] 100 refl;
      seven_of_fifteen = one_refused _ _ _ _ _ refl refl;
      eight_of_fifteen = finished_in tower in_tower 15 (set_of (2 ∷ 3 ∷ 5 ∷ 7 ∷ 11 ∷ 13 ∷ 15 ∷ [])) [] 100 refl;
      eight_of_sixteen = one_refused _ _ _ _ _ refl refl;
      nine_of_sixteen = finished_in tower in_tower 16 (set_of (2 ∷ 3 ∷ 5 ∷ 7 ∷ 11 ∷ 13 ∷ 15 ∷ 16 ∷ [])) [] 100 refl;
      stand_one_of_two = one_refused_in stand in_stand _ _ _ _ _ refl refl;
      stand_two_of_two = finished_in stand in_stand 2 (set_of (2 ∷ [])) [] 100 refl;
      stand_two_of_four = one_refused_in stand in_stand _ _ _ _ _ refl refl;
      stand_three_of_four = finished_in stand in_stand 4 (set_of (2 ∷ 4 ∷ [])) [] 100 refl;
      range_first = not_in_range _ _ _ _ refl;
      number_first = one_refused _ _ _ _ _ refl refl;
      number_none = one_refused _ _ _ _ _ refl refl;
      down_first = one_refused _ _ _ _ _ refl refl;
      activity_first = one_refused _ _ _ _ _ refl refl;
      calls_end = one_refused _ _ _ _ _ refl refl;
      calls_end_above = one_refused _ _ _ _ _ refl refl;
      calls_end_majority = one_refused _ _ _ _ _ refl refl;
      full = one_refused _ _ _ _ _ refl refl;
      full_above = one_refused _ _ _ _ _ refl refl;
      full_majority = one_refused _ _ _ _ _ refl refl;
      run_turned_away = no_peal;
      skipped = step_is_local.refused_skips 2 tower unanswered (Finish 2 (record { number = 100 })) (Finish 2 (record { number = 200 }) ∷ []) 19 no_peal;
      run_above = ap (λ (s : State). printed_fields s 2) (two (unanswered ++ (Finish 2 (record { number = 200 }) ∷ [])) (omega arith));
      run_no_task = ap (λ (h : History). h.entry 33) (history_two (unanswered ++ (Finish 2 (record { number = 100 }) ∷ [])) (omega arith));
      run_task = ap (λ (h : History). h.entry 33) (history_two (unanswered ++ (Finish 2 (record { number = 100 }) ∷ Finish 2 (record { number = 200 }) ∷ [])) (omega arith));
      accept_waits = from_two (unanswered ++ (Deliver 2 1 ∷ [])) (Finish 2 (record { number = 100 })) 19 (omega arith) refl;
      accept_lost = from_two (unanswered ++ (Deliver 2 1 ∷ Lose 1 2 ∷ [])) (Finish 2 (record { number = 100 })) 19 (omega arith) refl;
      accept_taken = ap (λ (s : State). printed_fields s 2) (after_two (unanswered ++ (Deliver 2 1 ∷ Deliver 1 2 ∷ [])) (Finish 2 (record { number = 100 })) (omega arith));
      left_counts = ap (λ (s : State). printed_fields s 2) (after_two (collecting ++ (Crash 1 ∷ [])) (Finish 2 (record { number = 100 })) (omega arith));
      left_before = ap (λ (s : State). printed_fields s 1) (in_three (first_two ++ last_two) (omega arith));
      both_counted_first = ap (λ (s : State). printed_fields s 1) (in_three counted_twice (omega arith));
      both_counted_second = ap (λ (s : State). printed_fields s 2) (in_three counted_twice (omega arith));
      both_counted_third = ap (λ (s : State). printed_fields s 3) (in_three counted_twice (omega arith));
      number = refl;
    }
  where
    finished_in : (lim : Limits) → Allowed lim → (n m : ℕ) (q : List Message) (t : ℕ) → base_in_range lim n (filled Election 16 1 1 m 4 Collecting ∷ replicate (n - 1) starting_node) q ≡ true
        → printed_fields (after (gathered_in lim n m 4 q) (Finish 1 (record { number = t }))) 1
        ≡ printed_fields (kept (gathered_in lim n m 4 q) (result_aside (gathered_in lim n m 4 q) (Finish 1 (record { number = t })))) 1
    finished_in lim o n m q t r = ap (λ (s : State). printed_fields s 1) (one_after_in lim o n _ q (Finish 1 (record { number = t })) r)

    no_peal : step (run 2 tower unanswered) (Finish 2 (record { number = 100 })) ≡ refused 19
    no_peal = from_two unanswered (Finish 2 (record { number = 100 })) 19 (omega arith) refl

pub recovery_cases : RecoveryCases
unfolding pick ones_in ones count_leading_zeros bit_and bit_or invite_next merges hand_next finishes forward_next asked_all ask_at ask_after checked timed_out ticked expired resumed on_are_you_coordinator on_are_you_there on_invitation on_accept on_ready on_reply received react activity_in_range node_in_range message_in_range waits oldest without_oldest every reaction_to remaining effect wrong_number wrong_task wrong_status wrong_activity not_coordinator none_waits grounds judged updated
recovery_cases =
    record {
      k2 = refl;
      each = refl;
      left = one_step _ _ _ _ refl;
      k4 = ap (λ (s : State). map (λ (c : Node). c.group.number) (recovery_records 1 (node_at s 1))) (two (Recover 1 ∷ Crash 1 ∷ []) (omega arith));
      k5 = refl;
      range_number = not_in_range _ _ _ _ refl;
      range_status = not_in_range _ _ _ _ refl;
      range_counter = not_in_range _ _ _ _ refl;
      status_counter = one_refused _ _ _ _ _ refl refl;
      number_status = one_refused _ _ _ _ _ refl refl;
      number_counter = one_refused _ _ _ _ _ refl refl;
      number_zero = at_start (Recover 0) _ refl;
      number_above = at_start (Recover 3) _ refl;
      between = refl;
      between_k2 = refl;
      inside = refl;
    }

-- of two nodes at the start: in range where the limits are one of the two pairs
limits_range : (lim : Limits) → in_range (all_waiting 2 lim (replicate 2 starting_node) []) ≡ is_tower_or_stand lim
unfolding in_range counts_of
limits_range lim = by (is_tower_or_stand lim) refl
  where
    by : (t : Bool) → is_tower_or_stand lim ≡ t → in_range (all_waiting 2 lim (replicate 2 starting_node) []) ≡ is_tower_or_stand lim
    by true e = start_in TwoPairs 2 lim (record { within = pair_within lim e; pair = e; low = omega arith; high = le_trans (omega arith) (pair_four lim e) }) ∙ sym e
    by false e = rw e

among_limits : (f : ℕ → Limits) (l : List ℕ) → among (λ x. in_range (all_waiting 2 (f x) (replicate 2 starting_node) [])) l ≡ among (λ x. is_tower_or_stand (f x)) l
among_limits f l = among_same (λ x. in_range (all_waiting 2 (f x) (replicate 2 starting_node) [])) (λ x. is_tower_or_stand (f x)) (λ x. limits_range (f x)) l

-- with the rule of the two pairs left out
abbrev left_out_range : Limits → Bool
left_out_range lim = is_within_tower lim && leb 2 lim.nodes

left_out_range_lem : (lim : Limits) → in_range (start_by LeftOut 2 lim) ≡ left_out_range lim
unfolding in_range
left_out_range_lem lim = by (is_within_tower lim) (leb 2 lim.nodes) refl refl
  where
    by : (t u : Bool) → is_within_tower lim ≡ t → leb 2 lim.nodes ≡ u → in_range (start_by LeftOut 2 lim) ≡ left_out_range lim
    by true true p q = start_in LeftOut 2 lim (record { within = p; pair = refl; low = omega arith; high = leb-true 2 lim.nodes q }) ∙ sym (rw (p, q))
    by true false p q = rw (p, q)
    by false u p q = rw p

pub range_cases : RangeCases
unfolding pick bit_or activity_in_range node_in_range message_in_range every
range_cases =
    record {
      count_ends = among_tables tower in_tower (λ (x : ℕ). x) (λ (x : ℕ). replicate x starting_node) (λ (x : ℕ). []) (0 ∷ 1 ∷ 16 ∷ 17 ∷ []);
      count_records = among_tables tower in_tower (λ (x : ℕ). 3) (λ (x : ℕ). replicate x starting_node) (λ (x : ℕ). []) (2 ∷ 3 ∷ 4 ∷ []);
      waiting_end = among_tables tower in_tower (λ (x : ℕ). 2) (λ (x : ℕ). (pair Normal none Idle []).nodes) queued (0 ∷ 64 ∷ 65 ∷ []);
      stand_ends = among_tables stand in_stand (λ (x : ℕ). x) (λ (x : ℕ). replicate x starting_node) (λ (x : ℕ). []) (0 ∷ 1 ∷ 4 ∷ 5 ∷ 16 ∷ []);
      stand_waiting = among_tables stand in_stand (λ (x : ℕ). 2) (λ (x : ℕ). (pair Normal none Idle []).nodes) queued (0 ∷ 12 ∷ 13 ∷ 64 ∷ []);
      limits_sixteen = among_limits (λ (x : ℕ). record { nodes = 16; messages = x }) (0 ∷ 12 ∷ 63 ∷ 64 ∷ 65 ∷ 255 ∷ []);
      limits_sixty_four = among_limits (λ (x : ℕ). record { nodes = x; messages = 64 }) (0 ∷ 2 ∷ 4 ∷ 15 ∷ 16 ∷ 17 ∷ 255 ∷ []);
      limits_four = among_limits (λ (x : ℕ). record { nodes = 4; messages = x }) (0 ∷ 11 ∷ 12 ∷ 13 ∷ 64 ∷ 255 ∷ []);
      limits_twelve = among_limits (λ (x : ℕ). record { nodes = x; messages = 12 }) (0 ∷ 2 ∷ 3 ∷ 4 ∷ 5 ∷ 16 ∷ 255 ∷ []);
      left_out_nodes = among_same (λ (x : ℕ). in_range (start_by LeftOut 2 (record { nodes = x; messages = 64 }))) (λ (x : ℕ). left_out_range (record { nodes = x; messages = 64 }))
          (λ (x : ℕ). left_out_range_lem (record { nodes = x; messages = 64 })) (0 ∷ 1 ∷ 2 ∷ 5 ∷ 16 ∷ 17 ∷ 255 ∷ []);
      left_out_messages = among_same (λ (x : ℕ). in_range (start_by LeftOut 2 (record { nodes = 16; messages = x }))) (λ (x : ℕ). left_out_range (record { nodes = 16; messages = x }))
          (λ (x : ℕ). left_out_range_lem (record { nodes = 16; messages = x })) (0 ∷ 13 ∷ 64 ∷ 65 ∷ 255 ∷ []);
      every_first = among_tables tower in_tower (λ (x : ℕ). 3) (λ (x : ℕ). filled Normal 16 1 1 (set_of (x ∷ [])) 0 Idle ∷ starting_node ∷ starting_node ∷ []) (λ (x : ℕ). []) (1 ∷ 2 ∷ 3 ∷ []);
      every_last = among_tables tower in_tower (λ (x : ℕ). 3) (λ (x : ℕ). starting_node ∷ starting_node ∷ filled Normal 18 3 3 (set_of (x ∷ [])) 0 Idle ∷ []) (λ (x : ℕ). []) (1 ∷ 2 ∷ 3 ∷ []);
      every_oldest = among_tables tower in_tower (λ (x : ℕ). 3) (λ (x : ℕ). replicate 3 starting_node) (λ (x : ℕ). asks 1 2 (record { number = x }) ∷ asks 2 1 (record { number = 1 }) ∷ []) any_call;
      every_newest = among_tables tower in_tower (λ (x : ℕ). 3) (λ (x : ℕ). replicate 3 starting_node) (λ (x : ℕ). asks 1 2 (record { number = 1 }) ∷ asks 2 1 (record { number = x }) ∷ []) any_call;
      counter_end = refl;
      group_down = refl;
      coordinator_down = refl;
      task_end = refl;
      members_others = refl;
      last_end = refl;
      led_election = refl;
      led_reorganization = refl;
      led_normal = refl;
      led_one = refl;
      led_three = refl;
      led_four = refl;
      led_none = refl;
      down_idle = refl;
      down_asking = refl;
      down_waiting = refl;
      down_inviting = refl;
      down_collecting = refl;
      down_handing = refl;
      down_contacting = refl;
      down_forwarding = refl;
      down_accepting = refl;
      free_collecting = refl;
      free_contacting = refl;
      free_collecting_led = refl;
      free_contacting_led = refl;
      asking_asked = refl;
      asking_found = refl;
      waiting_ticks = refl;
      waiting_found = refl;
      inviting_found = refl;
      inviting_former = refl;
      inviting_now = refl;
      handing_rest = refl;
      handing_now = refl;
      handing_task = refl;
      forwarding_rest = refl;
      forwarding_now = refl;
      forwarding_caller = refl;
      forwarding_call = refl;
      forwarding_owner = refl;
      accepting_caller = refl;
      accepting_call = refl;
      accepting_owner = refl;
      message_sender = refl;
      message_receiver = refl;
      message_kind = refl;
      message_call = refl;
      message_group = refl;
      message_no_group = refl;
      message_no_counter = refl;
      message_no_owner = refl;
      message_above = refl;
      message_task = refl;
      message_low_task = refl;
      message_high_task = refl;
    }
