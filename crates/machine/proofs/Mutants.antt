-- No mutant and no wrong turning meets the contract: computed over the definitions on concrete tables, and shown for every table where the claim is for every one.
use Prim.Native.Nat.{ℕ, zero, suc, ◌+◌, ◌-◌, ◌≤◌, ◌<◌}
use native.Mathlib.Omega.{arith}
use mathlib.Core.Bool.{Bool, true, false, not, ◌&&◌, ◌||◌, and-false, true≢false}
use mathlib.Core.Path.{◌≡◌, refl, sym, ◌∙◌, ap, subst}
use mathlib.Core.Logic.{◌⊎◌, ⊎_elim}
use mathlib.Core.List.{List, [], ◌∷◌, ◌++◌, map, append-nil, append_cancel_left}
use lib.Count.{ones_in, ones, count_leading_zeros}
use lib.Bits.{bit_and, bit_or}
use lib.Dec.{eqb}
use lib.ListN.{length, get_or, set}
use lib.Seq.{get_or-set_same}
use borrow.Author.Tests.{not-false, le-leb, eq-eqb, ne_eqb, eqb-true}
use Rattle.node_set.specs.NodeSet.{has}
use Rattle.model.specs.Pick.{pick, by_test}
use Rattle.model.specs.Limits.{tower, counter_end, call_end, traffic_end}
use Rattle.model.specs.Counts.{pair_place, no_counts}
use Rattle.model.specs.Node.{is_down, is_collecting, is_reorganization, is_normal, replies, is_active}
use Rattle.model.specs.Recovery.{recovery_records}
use Rattle.model.specs.Procedures.{recovers, invite_next, merges, hand_next, finishes, forward_next, asked_all, ask_at, ask_after}
use Rattle.model.specs.React.{checked, timed_out, ticked, expired, resumed, on_are_you_coordinator, on_are_you_there, on_invitation, on_accept, on_ready, on_reply, received, react}
use Rattle.model.specs.Range.{PairRule, TwoPairs, pair_rule, is_within_tower, activity_in_range, node_in_range, message_in_range, is_node}
use Rattle.model.specs.State.{State, starting_node, start, node_at, no_message, waits, oldest, without_oldest, all_waiting, counts_aside, every, base_in_range, traffic_in_range, in_range, first_of, view, table_of}
use Rattle.model.specs.Grounds.{judged}
use Rattle.model.specs.Step.{actor, reaction_to, remaining, sent, with_sent, with_delivered, with_lost, effect, wrong_status, not_coordinator, no_majority, forms, is_calling, is_sending, pair_at_end, grounds, Result, refused, accepted, step, kept, aside, after, run_from}
use Rattle.model.specs.Answers.{answer_number, result_number}
use Rattle.model.specs.Claims.{Lacks, MayStart, Sends, whom_now, whom_still, Below, Picked, InvitationReaches, Holds, recovers_at_expire, record_after, CheckReaches, DoesNotLead, FullPeal, MoreThanHalf, WithoutMajority}
use Rattle.model.proofs.Judged.{Clear, by_step, clear_accepts, accepted_apart, accepted_is, refused_same, met}
use Rattle.model.proofs.Local.{both_right}
use Rattle.model.proofs.Fields.{in_range_pair, in_range_own, in_range_size, own_record}
use Rattle.model.proofs.Pairs.{by_pair}
use Rattle.model.proofs.Traffic.{run_limits}
use Rattle.model.proofs.TowerAndStand.{tower_and_stand}
use Rattle.model.proofs.InRange.{delivery_never_full, stays_in_range}
use Rattle.model.proofs.Refusals.{refuses_by_ground}
use Rattle.model.proofs.Aside.{result_aside, waiting_aside, aside_result, quick, aside_kept, run_aside, start_room, run_below}
use Rattle.model.proofs.Cases.{invited_twice}
use Rattle.model.proofs.CallOrder.{or_right, call_order}
use Rattle.model.proofs.Invitation.{kind_three}
use Rattle.model.proofs.InvitationRules.{acts_not_normal, invitation_rules}
use Rattle.model.proofs.Recovery.{expire_recovers}
use Rattle.model.proofs.Checks.{check_rules}
use Rattle.model.proofs.Majority.{majority_rules}
use Rattle.model.specs.Cases.{invited_once}
use Rattle.model.specs.declared.Limits.{Limits}
use Rattle.model.specs.Answers.{Started}
use Rattle.std.specs.Prelude.{Err, Option, None, Some}
use Rattle.model.specs.declared.StartRefusal.TheVariants.{WrongLimits, WrongCount}
use Rattle.model.specs.declared.Status.TheVariants.{Election}
use Rattle.model.specs.declared.Activity.{Activity}
use Rattle.model.specs.declared.Activity.TheVariants.{Idle, Asking, Waiting, Handing}
use Rattle.model.specs.declared.Node.{Node}
use Rattle.model.specs.declared.TaskNo.{TaskNo}
use Rattle.model.specs.declared.Message.{Message}
use Rattle.model.specs.declared.Mark.{Mark}
use Rattle.model.specs.declared.Mark.TheVariants.{Merges}
use Rattle.model.specs.declared.Reaction.{Reaction}
use Rattle.model.specs.declared.Table.{Table}
use Rattle.model.specs.declared.Event.{Event}
use Rattle.model.specs.declared.Event.TheVariants.{Crash, Recover, Check, Timeout, Tick, Expire, Finish, Deliver, Lose}
use Rattle.model.specs.declared.Outcome.{Outcome}
use Rattle.model.specs.Answers.{Answer}
use Rattle.model.specs.Answers.{Accepted}
use Rattle.model.specs.declared.Refusal.TheVariants.{NotInRange, NotCoordinator, NoMajority, SentAtEnd}
use Rattle.machine.specs.declared.RecoveryAnswer.{RecoveryAnswer}
use Rattle.machine.specs.Stepped.{Stepped, starting_table, RecoveryAnswered}
use Rattle.machine.specs.Parts.{takes}
use Rattle.machine.specs.Mutants.{merging_table, handing_table, invited_table, asking_table, collecting_table, invites, Moves, NoOtherLimits, NoMutant, NoWrongTurning, NoLowerFirst, NoJoiningAgain, NoOtherRecovery, NoOtherCounts, NoOtherChecks, NoOtherPeals}
use Rattle.model.proofs.Lists.{first_length}
use Rattle.machine.proofs.Laws.{start_is}
use Rattle.machine.proofs.Runs.{run_nodes, start_node, answer_known, by_number, accepted_alike, code_runs, code_fixes, folded_reached}
use Rattle.machine.proofs.Beginning.{start_known}
use Rattle.machine.proofs.Recovering.{model_accepts, code_accepts, recovery_alike}
use Rattle.machine.proofs.Still.{accepted_differs, reply_taken}
use Rattle.machine.proofs.Invites.{event_invites}

-- ── on concrete tables, by computation ──

record Computed : Type 0 where
  again : (node_at (run_from (view (starting_table 2 tower)) (Recover 1 ∷ Crash 1 ∷ Recover 1 ∷ [])) 1).group.number ≡ 32
  members : invites (node_at (after (view (table_of merging_table)) (Tick 1)) 1).activity 2 ≡ true
  task : (node_at (after (view (table_of invited_table)) (Deliver 1 2)) 2).task.number ≡ 100
  status : (node_at (after (view (table_of invited_table)) (Deliver 1 2)) 2).status ≡ Election
  handed : (node_at (after (view (table_of handing_table)) (Expire 3)) 3).activity ≡ Idle
  picks : (node_at (after (view (table_of collecting_table)) (Finish 3 (record { number = 100 }))) 3).activity ≡ Handing 1 2
  older : node_at (after (view (table_of (asking_table (replies 2 1 (record { number = 4 }) true ∷ [])))) (Deliver 2 1)) 1 ≡ node_at (asking_table []) 1
  other : (node_at (after (view (table_of (asking_table (replies 3 1 (record { number = 5 }) true ∷ [])))) (Deliver 3 1)) 1).activity ≡ Asking 3 2
  away : result_number (step (view (starting_table 2 tower)) (Crash 1)) ≡ 9
  -- node 2 after node 1's recovery
  ranged : in_range (after (view (starting_table 2 tower)) (Recover 1)) ≡ true
  two : (after (view (starting_table 2 tower)) (Recover 1)).n ≡ 2
  second : node_at (after (view (starting_table 2 tower)) (Recover 1)) 2 ≡ starting_node

-- with the counts aside: after an event, and after events from the starting table of two nodes
after_one : (n : ℕ) (cs : List Node) (q : List Message) (e : Event) → base_in_range tower n cs q ≡ true
    → counts_aside (after (all_waiting n tower cs q) e) ≡ kept (all_waiting n tower cs q) (result_aside (all_waiting n tower cs q) e)
after_one n cs q e r = aside_kept (all_waiting n tower cs q) (step (all_waiting n tower cs q) e) ∙ ap (kept (all_waiting n tower cs q)) (waiting_aside TwoPairs n tower cs q refl refl r e)

two_start : MayStart TwoPairs 2 tower
two_start = record { within = refl; pair = refl; low = omega arith; high = omega arith }

started : (es : List Event) → length es < traffic_end → counts_aside (run_from (view (starting_table 2 tower)) es) ≡ quick (counts_aside (start 2 tower)) es
started es h =
    ap (λ (s : State). counts_aside (run_from s es)) (start_is 2 tower)
    ∙ run_aside (start 2 tower) es (stays_in_range.starts TwoPairs 2 tower two_start) (start_room (length es) h)

started_one : (e : Event) → counts_aside (after (view (starting_table 2 tower)) e) ≡ quick (counts_aside (start 2 tower)) (e ∷ [])
unfolding run_from
started_one e = started (e ∷ []) (omega arith)

aside_number : (x : Result) → result_number x ≡ result_number (aside x)
aside_number (refused r) = refl
aside_number (accepted u k) = refl

first_number : (e : Event) → result_number (step (view (starting_table 2 tower)) e) ≡ result_number (result_aside (counts_aside (start 2 tower)) e)
unfolding run_from
first_number e =
    ap (λ (s : State). result_number (step s e)) (start_is 2 tower)
    ∙ aside_number (step (start 2 tower) e)
    ∙ ap result_number (aside_result (start 2 tower) e (stays_in_range.starts TwoPairs 2 tower two_start) (run_below 2 tower [] (omega arith)))

first_ranged : (e : Event) → in_range (after (view (starting_table 2 tower)) e) ≡ true
unfolding run_from
first_ranged e = ap (λ (s : State). in_range (after s e)) (start_is 2 tower) ∙ stays_in_range.runs TwoPairs 2 tower two_start (e ∷ [])

computed : Computed
unfolding pick ones_in ones count_leading_zeros bit_and bit_or invite_next merges hand_next finishes forward_next asked_all ask_at ask_after checked timed_out ticked expired resumed on_are_you_coordinator on_are_you_there on_invitation on_accept on_ready on_reply received react activity_in_range node_in_range message_in_range waits oldest without_oldest every reaction_to remaining grounds judged first_of
computed =
    record {
      again = ap (λ (s : State). (node_at s 1).group.number) (started (Recover 1 ∷ Crash 1 ∷ Recover 1 ∷ []) (omega arith));
      members = ap (λ (s : State). invites (node_at s 1).activity 2) (after_one 3 merging_table.nodes [] (Tick 1) refl);
      task = ap (λ (s : State). (node_at s 2).task.number) (after_one 2 invited_table.nodes invited_table.queue (Deliver 1 2) refl);
      status = ap (λ (s : State). (node_at s 2).status) (after_one 2 invited_table.nodes invited_table.queue (Deliver 1 2) refl);
      handed = ap (λ (s : State). (node_at s 3).activity) (after_one 3 handing_table.nodes [] (Expire 3) refl);
      picks = ap (λ (s : State). (node_at s 3).activity) (after_one 3 collecting_table.nodes [] (Finish 3 (record { number = 100 })) refl);
      older = ap (λ (s : State). node_at s 1) (after_one 3 (asking_table []).nodes (replies 2 1 (record { number = 4 }) true ∷ []) (Deliver 2 1) refl);
      other = ap (λ (s : State). (node_at s 1).activity) (after_one 3 (asking_table []).nodes (replies 3 1 (record { number = 5 }) true ∷ []) (Deliver 3 1) refl);
      away = first_number (Crash 1);
      ranged = first_ranged (Recover 1);
      two = ap (λ (s : State). s.n) (started_one (Recover 1));
      second = ap (λ (s : State). node_at s 2) (started_one (Recover 1));
    }

asked_apart : Asking 3 2 ≡ Asking 2 0 → ⊥
asked_apart e = let z : ◌≡◌ {A = ℕ} 3 2 = cc in omega arith

-- ── in every table ──

-- the record of node i after i's own event
stored : (s : State) (i : ℕ) (c : Node) {B : Type 0} (f : Node → B) → f c ≡ f (node_at s i) → f (get_or (set s.nodes (i - 1) c) (i - 1) starting_node) ≡ f (node_at s i)
stored s i c f h = by s.nodes (i - 1) h
  where
    by : (l : List Node) (k : ℕ) → f c ≡ f (get_or l k starting_node) → f (get_or (set l k c) k starting_node) ≡ f (get_or l k starting_node)
    by [] k h = refl
    by (x ∷ l) zero h = h
    by (x ∷ l) (suc k) h = by l k h

crash_keeps : (s : State) (i : ℕ) → (node_at (after s (Crash i)) i).counter ≡ (node_at s i).counter
unfolding effect reaction_to react
crash_keeps s i =
    by_step (λ (q : Result). (node_at (kept s q) i).counter ≡ (node_at s i).counter) s (Crash i) (λ x. refl) (λ c _. stored s i _ (λ (d : Node). d.counter) refl)

expire_reaction : (s : State) (i : ℕ) → recovers_at_expire (node_at s i).activity ≡ true → reaction_to s (Expire i) ≡ recovers i (node_at s i)
unfolding reaction_to react
expire_reaction s i h = expire_recovers s.n i (node_at s i) (node_at s i).activity h

expire_silent : (s : State) (i : ℕ) → recovers_at_expire (node_at s i).activity ≡ true → (after s (Expire i)).queue ≡ s.queue
unfolding effect remaining
expire_silent s i h =
    by_step (λ (q : Result). (kept s q).queue ≡ s.queue) s (Expire i) (λ x. refl)
    (λ c _. ap (λ (r : Reaction). s.queue ++ sent r.outgoing) (expire_reaction s i h) ∙ append-nil s.queue)

-- what holds of an invitation's receiver
module _ (i : ℕ) (c : Node) (m : Message) where
  invited_keeps : (on_invitation i c m).node.task ≡ c.task
  unfolding on_invitation forward_next
  invited_keeps = by_test P (λ _. refl) (λ _. by_test P (λ _. refl) (λ _. refl))
    where
      P : Reaction → Type 0
      P r = r.node.task ≡ c.task

  invited_rests : is_active (on_invitation i c m).node.status ≡ true → (on_invitation i c m).node ≡ c
  unfolding on_invitation forward_next
  invited_rests = by_test P (λ _ h. refl) (λ _. by_test P (λ _ h. absurd (true≢false (sym h))) (λ _ h. absurd (true≢false (sym h))))
    where
      P : Reaction → Type 0
      P r = is_active r.node.status ≡ true → r.node ≡ c

kind_six : (n i : ℕ) (c : Node) (m : Message) → m.kind ≡ 6 → (m.call.number ≡ c.last.number → ⊥) → (received n i c m).node ≡ c
unfolding received on_reply pick
kind_six n i c m k d = rw (k, ne_eqb _ _ d)

invitation_task : (s : State) (a b : ℕ) → (oldest a b s.queue).kind ≡ 3 → (node_at (after s (Deliver a b)) b).task ≡ (node_at s b).task
unfolding effect reaction_to react
invitation_task s a b k =
    by_step (λ (q : Result). (node_at (kept s q) b).task ≡ (node_at s b).task) s (Deliver a b) (λ x. refl)
    (λ c _. stored s b _ (λ (d : Node). d.task) (ap (λ (r : Reaction). r.node.task) (kind_three s.n b (node_at s b) _ k) ∙ invited_keeps b (node_at s b) _))

invitation_active : (s : State) (a b : ℕ) → (oldest a b s.queue).kind ≡ 3 → is_active (node_at (after s (Deliver a b)) b).status ≡ true → node_at (after s (Deliver a b)) b ≡ node_at s b
unfolding effect reaction_to react
invitation_active s a b k =
    by_step (λ (q : Result). is_active (node_at (kept s q) b).status ≡ true → node_at (kept s q) b ≡ node_at s b) s (Deliver a b) (λ x h. refl)
    (λ c _ h.
    let o = own_record s (Deliver a b) c in
    let e = ap (λ (r : Reaction). r.node) (kind_three s.n b (node_at s b) (oldest a b s.queue) k) in
    o ∙ e ∙ invited_rests b (node_at s b) (oldest a b s.queue) (sym (ap (λ (d : Node). is_active d.status) (o ∙ e)) ∙ h))

reply_dropped : (s : State) (a b : ℕ) → (oldest a b s.queue).kind ≡ 6 → ((oldest a b s.queue).call.number ≡ (node_at s b).last.number → ⊥) → node_at (after s (Deliver a b)) b ≡ node_at s b
unfolding effect reaction_to react
reply_dropped s a b k d =
    by_step (λ (q : Result). node_at (kept s q) b ≡ node_at s b) s (Deliver a b) (λ x. refl)
    (λ c _. stored s b _ (λ (x : Node). x) (kind_six s.n b (node_at s b) _ k d))

-- "at none it merges"
invite_marks : (i : ℕ) (c : Node) (k : Mark) (f o : ℕ) → (invite_next i c k f o).mark ≡ k
unfolding invite_next
invite_marks i c k f o = by_test P (λ _. refl) (λ _. by_test P (λ _. refl) (λ _. refl))
  where
    P : Reaction → Type 0
    P r = r.mark ≡ k

tick_merges : (s : State) (i found : ℕ) → (node_at s i).activity ≡ Waiting 1 found → (reaction_to s (Tick i)).mark ≡ Merges
unfolding reaction_to react ticked merges pick
tick_merges s i found a = ap (λ (x : Activity). (ticked i (node_at s i) x).mark) a ∙ invite_marks i _ Merges found (node_at s i).members

-- what a reply makes of node b, by its call number and its yes or no alone
reply_makes : (n b : ℕ) (c : Node) (m k : Message) → m.kind ≡ 6 → k.kind ≡ 6 → m.call.number ≡ k.call.number → m.yes ≡ k.yes → received n b c m ≡ received n b c k
unfolding received on_reply pick
reply_makes n b c m k x y p q = rw (x, y, p, q)

-- the record of an accepted event's node
accepted_record : (t : Table) (e : Event) {r : Outcome} → Stepped t e r → r.answer ≡ Accepted → node_at (view r.table) (actor e) ≡ (reaction_to (view t) e).node
accepted_record t e x y =
    let q = accepted_is (view t) e _ _ (accepted_alike.model_accepts x y) in
    ap (λ (s : State). node_at s (actor e)) q.state ∙ own_record (view t) e q.clear

-- the record of a delivery's receiver
delivered_record : (t : Table) (a b : ℕ) {r : Outcome} → Stepped t (Deliver a b) r → r.answer ≡ Accepted
    → node_at (view r.table) b ≡ (received t.n b (node_at (view t) b) (oldest a b (view t).queue)).node
unfolding reaction_to react
delivered_record t a b x y = accepted_record t (Deliver a b) x y

pub no_wrong_turning : NoWrongTurning
no_wrong_turning =
    record {
      clears_counter = λ t i {r} x h. h (ap (λ (s : State). (node_at s i).counter) x.table ∙ crash_keeps (view t) i);
      group_returns = λ n lim h {es} {fs} {t} {u} c d {e} {r} x y f k.
          k (subst (Lacks (view t)) (sym ((code_fixes n lim h).numbered (folded_reached c d) x y f)) ((code_fixes n lim h).fresh c d x y f));
      returns_one = λ {u} f h. let z : ◌≡◌ {A = ℕ} 16 32 = sym h ∙ ap (λ (s : State). (node_at s 1).group.number) (code_runs.from_any _ _ _ f) ∙ computed.again in omega arith;
      empties_one = λ {r} x h. true≢false (sym computed.members ∙ sym (ap (λ (s : State). invites (node_at s 1).activity 2) x.table) ∙ h);
      takes_one = λ {r} x h. h (ap (λ (s : State). (node_at s 2).task.number) x.table ∙ computed.task);
      active_one = λ {r} x h. true≢false (sym h ∙ ap (λ (s : State). is_active (node_at s 2).status) x.table ∙ ap is_active computed.status);
      empties_members = empties;
      empties_last_tick = λ t i j found a l m. empties t (Tick i) j (tick_merges (view t) i found a) l m;
      takes_task = λ t a b k {r} x h. h (ap (λ (s : State). (node_at s b).task) x.table ∙ invitation_task (view t) a b k);
      active_early = λ t a b k {r} x p h.
          h (ap (λ (s : State). node_at s b) x.table ∙ invitation_active (view t) a b k (sym (ap (λ (s : State). is_active (node_at s b).status) x.table) ∙ p));
      takes_older = λ t a b k d {r} x h. h (ap (λ (s : State). node_at s b) x.table ∙ reply_dropped (view t) a b k d);
      hands_on = λ t i a {r} x h. h (ap (λ (s : State). s.queue) x.table ∙ expire_silent (view t) i a);
      hands_later = λ t i a {r} x y h.
          h (ap (λ (c : Node). c.activity) (accepted_record t (Expire i) x y) ∙ ap (λ (q : Reaction). q.node.activity) (expire_reaction (view t) i a));
      hands_one = λ {r} x h. h (ap (λ (s : State). (node_at s 3).activity) x.table ∙ computed.handed);
      older_one = λ {r} x h. h (ap (λ (s : State). node_at s 1) x.table ∙ computed.older);
      drops_other = λ t a b k z o {r} x y h. reply_taken t.n b (node_at (view t) b) (oldest a b (view t).queue) k z o (sym (delivered_record t a b x y) ∙ h);
      by_sender = λ t u a b d e c k l p w {r} {q} x y x' y' h.
          h (delivered_record t a b x y
          ∙ ap (λ (m : Reaction). m.node) (reply_makes t.n b (node_at (view t) b) (oldest a b (view t).queue) (oldest d b (view u).queue) k l p w)
          ∙ ap (λ (n : ℕ). (received n b (node_at (view t) b) (oldest d b (view u).queue)).node) e
          ∙ ap (λ (v : Node). (received u.n b v (oldest d b (view u).queue)).node) c
          ∙ sym (delivered_record u d b x' y'));
      other_one = λ {r} x h. asked_apart (sym computed.other ∙ sym (ap (λ (s : State). (node_at s 1).activity) x.table) ∙ h);
    }
  where
    empties : (t : Table) (e : Event) (j : ℕ) → (reaction_to (view t) e).mark ≡ Merges → 1 ≤ j → has (node_at (view t) (actor e)).members j ≡ true
        → {r : Outcome} → Stepped t e r → r.answer ≡ Accepted → invites (node_at (view r.table) (actor e)).activity j ≡ false → ⊥
    empties t e j k l m {r} x y h =
        let q = accepted_is (view t) e _ _ (accepted_alike.model_accepts x y) in
        true≢false (sym ((event_invites (view t) e q.clear).members k j l m) ∙ sym (ap (λ (c : Node). invites c.activity j) (accepted_record t e x y)) ∙ h)

-- ── crash and recovery, in every table in range ──

module _ (s : State) (i : ℕ) (g : in_range s ≡ true) (low : 1 ≤ i) (high : i ≤ s.n) where
  -- what i's own event makes of its record
  own : (c : Node) → get_or (set s.nodes (i - 1) c) (i - 1) starting_node ≡ c
  own c = get_or-set_same s.nodes (i - 1) c starting_node (omega (arith, (in_range_size s g).2))

  crash_accepted : is_down (node_at s i).status ≡ false → step s (Crash i) ≡ accepted (effect s (Crash i)) (reaction_to s (Crash i)).mark
  unfolding step grounds judged pick reaction_to react
  crash_accepted h = rw (g, le-leb 1 i low, le-leb i s.n high, h)

  crash_differs : is_down (node_at s i).status ≡ false → (effect s (Crash i)).nodes ≡ s.nodes → ⊥
  unfolding effect reaction_to react
  crash_differs h e = true≢false (sym (ap (λ (c : Node). is_down c.status) (own _)) ∙ ap (λ (l : List Node). is_down (get_or l (i - 1) starting_node).status) e ∙ h)

  recovery_accepted : is_down (node_at s i).status ≡ true → ((node_at s i).counter ≡ counter_end → ⊥) → step s (Recover i) ≡ accepted (effect s (Recover i)) (reaction_to s (Recover i)).mark
  unfolding step grounds judged pick reaction_to react
  recovery_accepted h k = rw (g, le-leb 1 i low, le-leb i s.n high, h, ne_eqb _ _ k)

  recovery_differs : (effect s (Recover i)).nodes ≡ s.nodes → ⊥
  unfolding effect reaction_to react
  recovery_differs e =
      let z : (node_at s i).counter + 1 ≡ (node_at s i).counter = sym (ap (λ (c : Node). c.counter) (own _)) ∙ ap (λ (l : List Node). (get_or l (i - 1) starting_node).counter) e in
      omega arith

-- an event that the model accepts, with an effect that changes a node
moves : (t : Table) (e : Event) → step (view t) e ≡ accepted (effect (view t) e) (reaction_to (view t) e).mark → ((effect (view t) e).nodes ≡ (view t).nodes → ⊥) → Moves t e
moves t e a d =
    record {
      not_away = λ {r} x h. h (accepted_alike.code_accepts x _ _ a);
      not_same = λ {r} x h g. d (sym (ap (λ (s : State). s.nodes) (x.table ∙ ap (kept (view t)) a)) ∙ h);
    }

crashing : (t : Table) (i : ℕ) → in_range (view t) ≡ true → 1 ≤ i → i ≤ t.n → is_down (node_at (view t) i).status ≡ false → Moves t (Crash i)
crashing t i g low high h = moves t (Crash i) (crash_accepted (view t) i g low high h) (crash_differs (view t) i g low high h)

recovering : (t : Table) (i : ℕ) → in_range (view t) ≡ true → 1 ≤ i → i ≤ t.n → is_down (node_at (view t) i).status ≡ true → ((node_at (view t) i).counter ≡ counter_end → ⊥) → Moves t (Recover i)
recovering t i g low high h k = moves t (Recover i) (recovery_accepted (view t) i g low high h k) (recovery_differs (view t) i g low high)

-- ── the first event ──

none_remains : (n : ℕ) (lim : Limits) (e : Event) → remaining (start n lim) e ≡ []
unfolding remaining without_oldest
none_remains n lim (Crash i) = refl
none_remains n lim (Recover i) = refl
none_remains n lim (Check i) = refl
none_remains n lim (Timeout i) = refl
none_remains n lim (Tick i) = refl
none_remains n lim (Expire i) = refl
none_remains n lim (Finish i t) = refl
none_remains n lim (Deliver a b) = refl
none_remains n lim (Lose a b) = refl

pair_first : (n : ℕ) (lim : Limits) (e : Event) → pair_at_end (start n lim).sent (reaction_to (start n lim) e).outgoing ≡ false
pair_first n lim e = none (reaction_to (start n lim) e).outgoing
  where
    none : (o : Option Message) → pair_at_end no_counts o ≡ false
    none None = refl
    none (Some m) = let p = pair_place m.sender m.receiver in ne_eqb (get_or no_counts p 0) traffic_end (λ q. omega (arith, q, start_room 0 (omega arith) p))

-- 9 comes before 18 and 19, as all nodes are Down
first_down : (n : ℕ) (lim : Limits) (e : Event) → wrong_status (node_at (start n lim) (actor e)).status e ≡ false
    → not_coordinator (node_at (start n lim) (actor e)) e || no_majority n (node_at (start n lim) (actor e)) e ≡ true → ⊥
first_down n lim (Crash i) up q = true≢false (sym q)
first_down n lim (Recover i) up q = true≢false (sym q)
first_down n lim (Check i) up q = true≢false (sym (ap (λ (c : Node). is_down c.status) (start_node n (i - 1))) ∙ up)
first_down n lim (Timeout i) up q = true≢false (sym q)
first_down n lim (Tick i) up q = true≢false (sym q)
first_down n lim (Expire i) up q = true≢false (sym q)
first_down n lim (Finish i t) up q = true≢false (sym (ap (λ (c : Node). is_down c.status) (start_node n (i - 1))) ∙ up)
first_down n lim (Deliver a b) up q = true≢false (sym q)
first_down n lim (Lose a b) up q = true≢false (sym q)

-- in a table in range some messages may wait
some_messages : (s : State) → s.rule ≡ TwoPairs → in_range s ≡ true → 1 ≤ s.limits.messages
some_messages s k r =
    by_pair (λ (l : Limits). 1 ≤ l.messages) s.limits (subst (λ (p : PairRule). pair_rule p s.limits ≡ true) k (in_range_pair s r)) (omega arith) (omega arith)

first_small : (n : ℕ) (lim : Limits) (e : Event) → 12 ≤ result_number (step (start n lim) e) → ⊥
unfolding step grounds judged
first_small n lim e =
    by_test P (λ _ h. omega arith)
    (λ ok. by_test P (λ _ h. omega arith)
    (λ _. by_test P (λ _ h. omega arith)
    (λ _. by_test P (λ _ h. omega arith)
    (λ up. by_test P (λ _ h. omega arith)
    (λ _. by_test P (λ q h. first_down n lim e up (ap (λ (v : Bool). v || no_majority n (node_at (start n lim) (actor e)) e) q))
    (λ _. by_test P (λ q h. first_down n lim e up (or_right (not_coordinator (node_at (start n lim) (actor e)) e) _ q))
    (λ _. by_test P (λ _ h. omega arith)
    (λ _. by_test P (λ q h. absurd (end (forms (reaction_to (start n lim) e).mark) (node_at (start n lim) (actor e)).counter counter_end q (ap (λ (c : Node). c.counter) (start_node n (actor e - 1))) (omega arith)))
    (λ _. by_test P (λ q h. absurd (end (is_calling (reaction_to (start n lim) e).outgoing) (node_at (start n lim) (actor e)).last.number call_end q (ap (λ (c : Node). c.last.number) (start_node n (actor e - 1))) (omega arith)))
    (λ _. by_test P (λ q h. absurd (end (is_sending (reaction_to (start n lim) e).outgoing) (length (remaining (start n lim) e)) lim.messages q (ap length (none_remains n lim e)) (some_messages (start n lim) refl (not-false _ ok))))
    (λ _. by_test P (λ q h. true≢false (sym q ∙ pair_first n lim e)) (λ _ h. omega arith))))))))))))
  where
    P : Result → Type 0
    P q = 12 ≤ result_number q → ⊥

    -- a ground at an end of a range does not apply where the number is 0
    end : (a : Bool) (x y : ℕ) → (a && eqb x y) ≡ true → x ≡ 0 → 1 ≤ y → ⊥
    end a x y q z h = let v = eqb-true x y (both_right a (eqb x y) q) in omega arith

full : (s : State) (a b : ℕ) (q : Result) → step s (Deliver a b) ≡ q → result_number q ≡ 14 → ⊥
full s a b (refused k) i e = delivery_never_full s a b (i ∙ ap refused e)
full s a b (accepted u k) i e = omega (arith, e)

pub no_mutant : NoMutant
no_mutant =
    record {
      first_moves = λ n i lim h low high.
          recovering (starting_table n lim) i (ap in_range (start_is n lim) ∙ stays_in_range.starts TwoPairs n lim h) low high
          (ap (λ (s : State). is_down (node_at s i).status) (start_is n lim) ∙ ap (λ (c : Node). is_down c.status) (start_node n (i - 1)))
          (λ e. let z : ◌≡◌ {A = ℕ} 0 counter_end = sym (ap (λ (s : State). (node_at s i).counter) (start_is n lim) ∙ ap (λ (c : Node). c.counter) (start_node n (i - 1))) ∙ e in omega arith);
      accepted_still = λ t e {r} m x a h g. accepted_differs (view t) e _ _ (accepted_alike.model_accepts x a) m h g;
      crash_moves = crashing;
      recovery_moves = recovering;
      second_moves = λ {r} x.
          recovering r.table 2 (ap in_range x.table ∙ computed.ranged) (omega arith) (omega (arith, ap (λ (s : State). s.n) x.table ∙ computed.two))
          (ap (λ (s : State). is_down (node_at s 2).status) x.table ∙ ap (λ (c : Node). is_down c.status) computed.second)
          (λ e. let z : ◌≡◌ {A = ℕ} 0 counter_end = sym (ap (λ (s : State). (node_at s 2).counter) x.table ∙ ap (λ (c : Node). c.counter) computed.second) ∙ e in omega arith);
      late_crash_moves = λ n lim h {es} {t} c i low high.
          crashing t i (code_runs.in_range_lem n lim h es t c) low (omega (arith, high, ap (λ (s : State). s.n) (code_runs.from_start n lim es t c) ∙ run_nodes n lim es));
      late_recovery_moves = λ n lim h {es} {t} c i low high.
          recovering t i (code_runs.in_range_lem n lim h es t c) low (omega (arith, high, ap (λ (s : State). s.n) (code_runs.from_start n lim es t c) ∙ run_nodes n lim es));
      accepts_all = λ {r} x h. let z : ◌≡◌ {A = ℕ} 0 9 = sym (ap answer_number h) ∙ x.answer ∙ computed.away in omega arith;
      delivers_none = λ t a b {r} w x h.
          true≢false (sym (not-false _ (accepted_is (view t) (Deliver a b) _ _ (accepted_alike.model_accepts x h)).clear.waiting) ∙ w);
      delivery_full = λ t a b {r} x h. full (view t) a b (step (view t) (Deliver a b)) refl (sym x.answer ∙ ap answer_number h);
      no_cry = λ n lim e {r} x h. first_small n lim e (rw (x.answer ∙ ap (λ (s : State). result_number (step s e)) (start_is n lim)) at h);
    }

-- ── higher numbers first ──

sent_to : (o : Option Message) (m : Message) (j : ℕ) → Sends j o → sent o ≡ m ∷ [] → m.receiver ≡ j
sent_to None m j x e = absurd x
sent_to (Some y) m j x e = let q : y ≡ m = cc in ap (λ (z : Message). z.receiver) (sym q) ∙ x

-- an outcome that meets the contract, where the activity of the event's node is not as it was
module _ (t : Table) (e : Event) {r : Outcome} (x : Stepped t e r)
    (changed : (node_at (view r.table) (actor e)).activity ≡ (node_at (view t) (actor e)).activity → ⊥) where
  picked : Picked (node_at (view t) (actor e)).activity (node_at (view r.table) (actor e)).activity (reaction_to (view t) e).outgoing
  picked =
      ⊎_elim (λ q. absurd (changed q)) (λ p. p)
      (subst (λ (s : State). ((node_at s (actor e)).activity ≡ (node_at (view t) (actor e)).activity) ⊎ Picked (node_at (view t) (actor e)).activity (node_at s (actor e)).activity (reaction_to (view t) e).outgoing)
      (sym x.table) (call_order.steps (view t) e))

  -- the event was accepted
  in_queue : (view r.table).queue ≡ remaining (view t) e ++ sent (reaction_to (view t) e).outgoing
  unfolding effect
  in_queue =
      ap (λ (s : State). s.queue) x.table
      ∙ by_step (λ (q : Result). ((node_at (kept (view t) q) (actor e)).activity ≡ (node_at (view t) (actor e)).activity → ⊥) → (kept (view t) q).queue ≡ remaining (view t) e ++ sent (reaction_to (view t) e).outgoing)
      (view t) e (λ _ d. absurd (d refl)) (λ _ _ _. refl) (subst (λ (s : State). (node_at s (actor e)).activity ≡ (node_at (view t) (actor e)).activity → ⊥) x.table changed)

handed_apart : Handing 1 2 ≡ Handing 2 1 → ⊥
handed_apart q = let z : ◌≡◌ {A = ℕ} 1 2 = cc in omega arith

pub no_lower_first : NoLowerFirst
no_lower_first =
    record {
      lower_first = λ t e j {r} x d h l. omega (arith, (picked t e x d).below j h, l);
      lower_aside = λ t e j former was {r} x d p h l. omega (arith, (picked t e x d).below_aside former was p j h, l);
      sends_elsewhere = λ t e m {r} x d l q h.
          h (sent_to (reaction_to (view t) e).outgoing m _ ((picked t e x d).sends l) (append_cancel_left (remaining (view t) e) _ _ (sym (in_queue t e x d) ∙ q)));
      hands_lowest = λ {r} x h. handed_apart (sym computed.picks ∙ sym (ap (λ (s : State). (node_at s 3).activity) x.table) ∙ h);
      lower_in_runs = λ n lim {es} {t} c i j h l.
          omega (arith, subst (λ (s : State). Below (whom_still (node_at s i).activity) (whom_now (node_at s i).activity)) (sym (code_runs.from_start n lim es t c)) (call_order.runs n lim es i) j h, l);
    }

-- ── an invitation that arrives twice ──

records_kept : (s : State) (a b : ℕ) → (oldest a b s.queue).kind ≡ 3 → Holds s a b → (after s (Deliver a b)).nodes ≡ s.nodes
records_kept s a b k g =
    by_step (λ (q : Result). (kept s q).nodes ≡ s.nodes) s (Deliver a b) (λ _. refl)
    (λ c d.
    let w : InvitationReaches s a b = record { in_range_lem = c.in_range_lem; not_down = c.status; kind = k } in
    ap (λ (q : Result). (kept s q).nodes)
    (sym (clear_accepts s (Deliver a b) c d)
    ∙ invitation_rules.held s a b w (λ m. accepted_apart (sym (clear_accepts s (Deliver a b) c d) ∙ invitation_rules.held_end s a b w g m)) g))

pub no_joining_again : NoJoiningAgain
no_joining_again =
    record {
      changes_records = λ t a b k g {r} x h. h (ap (λ (s : State). s.nodes) x.table ∙ records_kept (view t) a b k g);
      refuses = λ t a b w m g {r} x h. h (accepted_alike.code_accepts x _ _ (invitation_rules.held (view t) a b w m g));
      other_messages = λ t a b w m g {r} x h.
          h (ap (λ (s : State). s.queue) x.table ∙ ap (λ (q : Result). (kept (view t) q).queue) (invitation_rules.held (view t) a b w m g));
      stays_normal = λ t a b k o g {r} x y h.
          true≢false (sym h ∙ ap (λ (c : Node). is_normal c.status) (accepted_record t (Deliver a b) x y) ∙ acts_not_normal (view t) a b k o g);
      leaves_normal = λ {u} f h.
          h (ap (λ (s : State). (node_at s 1).status)
          (code_runs.from_any _ _ _ f ∙ ap (λ (s : State). run_from s (invited_once ++ (Deliver 2 1 ∷ []))) (start_is 3 tower))
          ∙ ap (λ (s : State). (node_at s 1).status) invited_twice.only_messages);
    }

-- ── 02, T-04 ──

-- what is read of the records, where the answer is accepted
abbrev of_records : {t : Table} {i : ℕ} {q : RecoveryAnswer} {B : Type 0} (f : List Node → B) → RecoveryAnswered t i q → q.answer ≡ Accepted → f q.records ≡ f (recovery_records i (node_at (view t) i))
of_records f y a = ap f (recovery_alike.records y a)

recover_clear : {t : Table} {i : ℕ} {q : RecoveryAnswer} → RecoveryAnswered t i q → q.answer ≡ Accepted → Clear (view t) (Recover i)
recover_clear {t} {i} y a = let m = model_accepts y a in (accepted_is (view t) (Recover i) m.state m.mark m.is).clear

pub no_other_recovery : NoOtherRecovery
unfolding reaction_to react
no_other_recovery =
    record {
      at_once = λ y a e. true≢false (ap (λ (c : Node). is_normal c.status) (sym (of_records (record_after 8) y a) ∙ sym e ∙ of_records (record_after 1) y a));
      sets_last = λ y a h. h (of_records (map (λ (c : Node). c.last)) y a);
      sets_activity = λ y a h. h (of_records (map (λ (c : Node). c.activity)) y a);
      no_election = λ y a h. h (of_records (λ (l : List Node). (record_after 1 l).status) y a);
      counts_early = λ y a h. h (of_records (λ (l : List Node). (record_after 1 l).counter) y a);
      group_early = λ y a h. h (of_records (λ (l : List Node). (record_after 2 l).group) y a);
      group_before = λ y a h. h (of_records (λ (l : List Node). (record_after 3 l).group.number) y a);
      leads_early = λ y a h. h (of_records (λ (l : List Node). (record_after 3 l).coordinator) y a);
      empties_early = λ y a h. h (of_records (λ (l : List Node). (record_after 4 l).members) y a);
      reorganizes_early = λ y a e. true≢false (ap is_reorganization (sym e ∙ of_records (λ (l : List Node). (record_after 5 l).status) y a));
      task_early = λ y a h. h (of_records (λ (l : List Node). (record_after 6 l).task) y a);
      no_reorganization = λ y a h. h (of_records (λ (l : List Node). (record_after 6 l).status) y a);
      normal_early = λ y a e. true≢false (ap is_normal (sym e ∙ of_records (λ (l : List Node). (record_after 7 l).status) y a));
      turns_away = λ {t} {i} g low high d k y h. h (code_accepts y _ _ (recovery_accepted (view t) i g low high d k));
      not_in_range = λ {t} {i} r y a. true≢false (sym (recover_clear y a).in_range_lem ∙ r);
      no_node = λ {t} {i} r y a. true≢false (sym (ap not r) ∙ (recover_clear y a).number);
      not_down = λ {t} {i} d y a. true≢false (sym (ap not d) ∙ (recover_clear y a).status);
      at_end = λ {t} {i} e y a. true≢false (sym (eq-eqb (node_at (view t) i).counter counter_end e) ∙ (recover_clear y a).counter);
    }

-- ── 02, T-05 ──

-- an accepted event leaves the counts of the model's effect
effect_counts : {t : Table} {e : Event} {r : Outcome} → Stepped t e r → r.answer ≡ Accepted → view r.table ≡ effect (view t) e
effect_counts {t} {e} x a = (accepted_is (view t) e _ _ (accepted_alike.model_accepts x a)).state

-- of the counts after any event: as they were, or the effect's
by_counts : (f : State → List ℕ) (l : List ℕ) {t : Table} {e : Event} {r : Outcome} → Stepped t e r → f (view t) ≡ l → f (effect (view t) e) ≡ l → f (view r.table) ≡ l
by_counts f l {t} {e} x p q = ap f x.table ∙ by_step (λ (y : Result). f (kept (view t) y) ≡ l) (view t) e (λ _. p) (λ _ _. q)

-- only deliver and lose are counted as such
no_delivery : (l : List ℕ) (e : Event) → takes e ≡ false → with_delivered l e ≡ l
no_delivery l (Crash i) q = refl
no_delivery l (Recover i) q = refl
no_delivery l (Check i) q = refl
no_delivery l (Timeout i) q = refl
no_delivery l (Tick i) q = refl
no_delivery l (Expire i) q = refl
no_delivery l (Finish i t) q = refl
no_delivery l (Deliver a b) q = absurd (true≢false q)
no_delivery l (Lose a b) q = refl

no_loss : (l : List ℕ) (e : Event) → takes e ≡ false → with_lost l e ≡ l
no_loss l (Crash i) q = refl
no_loss l (Recover i) q = refl
no_loss l (Check i) q = refl
no_loss l (Timeout i) q = refl
no_loss l (Tick i) q = refl
no_loss l (Expire i) q = refl
no_loss l (Finish i t) q = refl
no_loss l (Deliver a b) q = refl
no_loss l (Lose a b) q = absurd (true≢false q)

-- a table whose counts are not in range is refused
not_in_range : (s : State) (e : Event) → traffic_in_range s ≡ false → step s e ≡ refused 1
unfolding step grounds judged in_range pick
not_in_range s e f =
    rw (f, and-false (base_in_range s.limits s.n s.nodes s.queue), and-false (is_within_tower s.limits), and-false (pair_rule s.rule s.limits))

-- 17 is given only where the pair's count is at its end
seventeen_at_end : (s : State) (e : Event) → step s e ≡ refused 17 → pair_at_end s.sent (reaction_to s e).outgoing ≡ true
unfolding grounds pick
seventeen_at_end s e q = met s e 17 refl q

pub no_other_counts : NoOtherCounts
unfolding effect reaction_to
no_other_counts =
    record {
      counts_refused = λ {t} {e} {r} x n h. let z = x.same n in h (ap (λ (u : Table). u.sent) z, ap (λ (u : Table). u.delivered) z, ap (λ (u : Table). u.lost) z);
      others_counted = λ {t} {e} {r} q x h.
          h (by_counts (λ (s : State). s.delivered) t.delivered x refl (no_delivery t.delivered e q), by_counts (λ (s : State). s.lost) t.lost x refl (no_loss t.lost e q));
      lost_as_delivered = λ {t} {a} {b} {r} x h. h (by_counts (λ (s : State). s.delivered) t.delivered x refl refl);
      delivered_as_lost = λ {t} {a} {b} {r} x h. h (by_counts (λ (s : State). s.lost) t.lost x refl refl);
      lost_as_sent = λ {t} {a} {b} {r} x h. h (by_counts (λ (s : State). s.sent) t.sent x refl refl);
      delivery_uncounted = λ {t} {a} {b} {r} x y h. h (ap (λ (s : State). s.delivered) (effect_counts x y));
      loss_uncounted = λ {t} {a} {b} {r} x y h. h (ap (λ (s : State). s.lost) (effect_counts x y));
      sent_uncounted = λ {t} {e} {r} m x y o h. h (ap (λ (s : State). s.sent) (effect_counts x y) ∙ ap (with_sent t.sent) o);
      none_sent = λ {t} {e} {r} x o h. h (by_counts (λ (s : State). s.sent) t.sent x refl (ap (with_sent t.sent) o));
      past_end = λ {t} {e} {r} m x o k y.
          true≢false
          (sym (ap (pair_at_end t.sent) o ∙ eq-eqb _ _ k) ∙ (accepted_is (view t) e _ _ (accepted_alike.model_accepts x y)).not_at_end);
      seventeen_unsent = λ {t} {e} {r} x o y. true≢false (sym (at_end x y) ∙ ap (pair_at_end t.sent) o);
      seventeen_early = λ {t} {e} {r} m x o k y. k (eqb-true _ _ (sym (ap (pair_at_end t.sent) o) ∙ at_end x y));
      seventeen_first = λ {t} {e} {r} k f d x y.
          d (refused_same (sym (refuses_by_ground.first_given (view t) e k f) ∙ by_number (step (view t) e) 17 (omega arith) (sym (ap answer_number y) ∙ x.answer)));
      takes_wrong_counts = λ {t} {e} {r} f x h. h (answer_known r.answer (Err NotInRange) (x.answer ∙ ap result_number (not_in_range (view t) e f)));
    }
  where
    at_end : {t : Table} {e : Event} {r : Outcome} → Stepped t e r → r.answer ≡ Err SentAtEnd → pair_at_end t.sent (reaction_to (view t) e).outgoing ≡ true
    at_end {t} {e} {r} x y = seventeen_at_end (view t) e (by_number (step (view t) e) 17 (omega arith) (sym (ap answer_number y) ∙ x.answer))

-- ── T-06 ──

-- the answer of a refusal is the model's
is_refused : {t : Table} {e : Event} {r : Outcome} (a : Answer) → 1 ≤ answer_number a → Stepped t e r → r.answer ≡ a → step (view t) e ≡ refused (answer_number a)
is_refused {t} {e} {r} a h x y = by_number (step (view t) e) (answer_number a) h (sym (ap answer_number y) ∙ x.answer)

no_pass : {t : Table} {i : ℕ} {r : Outcome} → DoesNotLead (view t) i → Stepped t (Check i) r → r.answer ≡ Accepted → ⊥
no_pass {t} {i} {r} l x y =
    let p = check_rules.passes (view t) i _ _ (accepted_alike.model_accepts x y) in
    ⊎_elim (λ f. f p.0) (λ f. f p.1) l

-- with n = 1 a check changes nothing, accepted or not
one_kept : (s : State) (i : ℕ) → s.n ≡ 1 → after s (Check i) ≡ s
one_kept s i n = by (step s (Check i)) refl
  where
    by : (x : Result) → step s (Check i) ≡ x → kept s x ≡ s
    by (refused r) q = refl
    by (accepted u k) q =
        let c = (accepted_is s (Check i) u k q).clear in
        let p = check_rules.passes s i u k q in
        let y : CheckReaches s i = record { in_range_lem = c.in_range_lem; number = not-false _ c.number; not_down = c.status; idle = not-false _ c.activity } in
        ap (kept s) (sym q ∙ check_rules.one s i y n p.0 p.1)

pub no_other_checks : NoOtherChecks
no_other_checks =
    record {
      passes = no_pass;
      changes = λ l x h. h (x.same (no_pass l x));
      other_number = λ {t} {i} {r} l y x h.
          h (answer_known r.answer (Err NotCoordinator)
          (x.answer ∙ ap result_number (check_rules.turned_away (view t) i y l)));
      other_event = λ {t} {e} {r} x f y. f (check_rules.eighteen (view t) e (is_refused (Err NotCoordinator) (omega arith) x y)).0;
      too_soon = λ {t} {i} {r} f x y. f (check_rules.eighteen (view t) (Check i) (is_refused (Err NotCoordinator) (omega arith) x y)).1;
      to_coordinator = λ {t} {i} {r} a b x y. ⊎_elim (λ f. f a) (λ f. f b) (check_rules.eighteen (view t) (Check i) (is_refused (Err NotCoordinator) (omega arith) x y)).2;
      turns_away = λ {t} {i} {r} n y a b l q m x h.
          h (answer_known r.answer Accepted
          (x.answer ∙ ap result_number (check_rules.asks (view t) i y n a b l (omega (arith, q, first_length t.waiting no_message t.messages)) m)));
      asks_otherwise = λ {t} {i} {r} x y h. let q = accepted_alike.model_accepts x y in h (x.table ∙ ap (kept (view t)) q ∙ check_rules.leaves (view t) i _ _ q);
      one_away = λ {t} {i} {r} n y a b x h. h (answer_known r.answer Accepted (x.answer ∙ ap result_number (check_rules.one (view t) i y n a b)));
      one_changes = λ {t} {i} {r} n x h. h (x.table ∙ one_kept (view t) i n);
      early = λ n lim {es} {t} {e} {r} c few x y.
          check_rules.not_early n lim es e few (ap (λ (s : State). step s e) (sym (code_runs.from_start n lim es t c)) ∙ is_refused (Err NotCoordinator) (omega arith) x y);
    }

-- ── T-10 ──

-- a full peal without a majority does not pass
without_half : {t : Table} {i : ℕ} {x : TaskNo} {r : Outcome} → FullPeal x.number → (MoreThanHalf t.n (node_at (view t) i) → ⊥) → Stepped t (Finish i x) r → r.answer ≡ Accepted → ⊥
without_half {t} {i} {x} p f s y = f (majority_rules.only_if (view t) i x _ _ (accepted_alike.model_accepts s y) p)

-- a finish that is answered with 19 has none
lacks_majority : {t : Table} {i : ℕ} {x : TaskNo} {r : Outcome} → Stepped t (Finish i x) r → r.answer ≡ Err NoMajority → WithoutMajority (view t) i x
lacks_majority {t} {i} {x} s y = majority_rules.nineteen_finish (view t) i x (is_refused (Err NoMajority) (omega arith) s y)

pub no_other_peals : NoOtherPeals
no_other_peals =
    record {
      passes = without_half;
      passes_half = λ {t} {i} p h s y. without_half p (λ m. omega (arith, h, m)) s y;
      changes = λ p f s h. h (s.same (without_half p f s));
      other_number = λ {t} {i} {x} {r} f s h. h (answer_known r.answer (Err NoMajority) (s.answer ∙ ap result_number (majority_rules.turned_away (view t) i x f)));
      other_event = λ {t} {e} s f y. let z = majority_rules.nineteen (view t) e (is_refused (Err NoMajority) (omega arith) s y) in f z.node z.task z.event;
      other_task = λ f s y. f (lacks_majority s y).full_peal;
      too_soon = λ f s y. f (lacks_majority s y).reaches;
      to_majority = λ m s y. (lacks_majority s y).no_majority_lem m;
      to_one = λ {t} {e} n s y. majority_rules.one (view t) e n (is_refused (Err NoMajority) (omega arith) s y);
      early = λ n lim {es} {t} {e} {r} c few s y.
          majority_rules.not_early n lim es e few (ap (λ (v : State). step v e) (sym (code_runs.from_start n lim es t c)) ∙ is_refused (Err NoMajority) (omega arith) s y);
      looks_further = λ {t} {u} {i} {x} {r} {q} n c k s y v h. h (answer_known q.answer (Err NoMajority) (v.answer ∙ ap result_number (majority_rules.turned_away (view u) i x (same t u i x n c k (lacks_majority s y)))));
      turns_away = λ {t} {i} {x} {r} z f m s h. h (answer_known r.answer Accepted (s.answer ∙ ap result_number (majority_rules.passes (view t) i x z f m)));
      finishes_otherwise = λ {t} {i} {x} s y h. let q = accepted_alike.model_accepts s y in h (s.table ∙ ap (kept (view t)) q ∙ majority_rules.leaves (view t) i x _ _ q);
    }
  where
    -- of another table in range with the same n and the same record
    same : (t u : Table) (i : ℕ) (x : TaskNo) → t.n ≡ u.n → node_at (view t) i ≡ node_at (view u) i → in_range (view u) ≡ true → WithoutMajority (view t) i x → WithoutMajority (view u) i x
    same t u i x n c k z =
        record {
          reaches = record {
            in_range_lem = k;
            number = subst (λ (m : ℕ). is_node m i ≡ true) n z.reaches.number;
            given = z.reaches.given;
            not_down = subst (λ (d : Node). is_down d.status ≡ false) c z.reaches.not_down;
            collects = subst (λ (d : Node). is_collecting d.activity ≡ true) c z.reaches.collects;
          };
          full_peal = z.full_peal;
          no_majority_lem = subst (λ (d : Node). MoreThanHalf u.n d → ⊥) c (subst (λ (m : ℕ). MoreThanHalf m (node_at (view t) i) → ⊥) n z.no_majority_lem);
        }

-- ── T-08 ──

-- 14 is given only where as many wait as the limit says
full_at : (s : State) (e : Event) → step s e ≡ refused 14 → length (remaining s e) ≡ s.limits.messages
unfolding grounds pick
full_at s e q = eqb-true (length (remaining s e)) s.limits.messages (both_right (is_sending (reaction_to s e).outgoing) _ (met s e 14 refl q))

full_queue : (s : State) (e : Event) → step s e ≡ refused 14 → length s.queue ≡ s.limits.messages
unfolding grounds pick reaction_to remaining
full_queue s (Crash i) q = full_at s (Crash i) q
full_queue s (Recover i) q = full_at s (Recover i) q
full_queue s (Check i) q = full_at s (Check i) q
full_queue s (Timeout i) q = full_at s (Timeout i) q
full_queue s (Tick i) q = full_at s (Tick i) q
full_queue s (Expire i) q = full_at s (Expire i) q
full_queue s (Finish i t) q = full_at s (Finish i t) q
full_queue s (Deliver a b) q = absurd (delivery_never_full s a b q)
full_queue s (Lose a b) q = absurd (true≢false (sym (met s (Lose a b) 14 refl q)))

-- a table that can't be in range is refused with 1
never_in_range : (s : State) (e : Event) → (in_range s ≡ true → ⊥) → step s e ≡ refused 1
unfolding step grounds judged pick
never_in_range s e f = by (in_range s) refl
  where
    by : (t : Bool) → in_range s ≡ t → step s e ≡ refused 1
    by true r = absurd (f r)
    by false r = rw r

-- no event changes the limits
limits_kept : {t : Table} {e : Event} {r : Outcome} → Stepped t e r → r.table.limits ≡ t.limits
unfolding run_from
limits_kept {t} {e} x = ap (λ (s : State). s.limits) x.table ∙ run_limits (view t) (e ∷ [])

pub no_other_limits : NoOtherLimits
unfolding pick
no_other_limits =
    record {
      early_full = λ {t} {e} {r} x y h.
          h (sym (first_length t.waiting no_message t.messages) ∙ full_queue (view t) e (by_number (step (view t) e) 14 (omega arith) (sym (ap answer_number y) ∙ x.answer)));
      over_full = λ {t} {e} {r} x y h.
          let o = in_range_own (view r.table) (stays_in_range.keeps (view t) e _ _ (accepted_alike.model_accepts x y)) in
          omega (arith, h, o.1, first_length r.table.waiting no_message r.table.messages, ap (λ (l : Limits). l.messages) (limits_kept x));
      other_pair = λ {t} {e} {r} x p h. h (in_one x (tower_and_stand.no_other_step (view t) e refl p));
      many_nodes = λ {t} {e} {r} x l h. h (in_one x (never_in_range (view t) e (λ q. omega (arith, l, (in_range_own (view t) q).0))));
      many_messages = λ {t} {e} {r} x l h.
          h (in_one x (never_in_range (view t) e (λ q. omega (arith, l, (in_range_own (view t) q).1, first_length t.waiting no_message t.messages))));
      changes_limits = λ x h. h (limits_kept x);
      starts_other = λ {n} {l} {r} x p h. h (start_known r.answer (Err WrongLimits) (x.answer ∙ rw p));
      starts_wrong = λ {n} {l} {r} x p c h. h (start_known r.answer (Err WrongCount) (x.answer ∙ rw (p, c)));
      starts_none = λ {n} {l} {r} x s h. h (start_known r.answer Started (x.answer ∙ rw (s.pair, le-leb 1 n s.low, le-leb n l.nodes s.high)));
    }
  where
    in_one : {t : Table} {e : Event} {r : Outcome} → Stepped t e r → step (view t) e ≡ refused 1 → r.answer ≡ Err NotInRange
    in_one {t} {e} {r} x q = answer_known r.answer (Err NotInRange) (x.answer ∙ ap result_number q)
