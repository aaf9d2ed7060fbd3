-- What `advance` needs at each place, of the table, the event and the values computed so far.
use Prim.Native.Nat.{ℕ, zero, suc, ◌+◌, ◌-◌, ◌%◌, ◌≤◌, ◌<◌}
use native.Mathlib.Omega.{arith}
use native.Mathlib.Nat.{mod-eq_of_lt}
use mathlib.Core.Path.{◌≡◌, refl, sym, ◌∙◌, ap}
use mathlib.Core.Logic.{inl, inr}
use mathlib.Core.List.{List, [], ◌∷◌}
use mathlib.Core.Bool.{Bool, true, false, not, ◌&&◌}
use lib.Dec.{eqb, ltb}
use lib.ListN.{length, get_or, set, length-append, length-drop}
use lib.Seq.{get_or-take, length-take-le, set-get_or}
use borrow.Author.Tests.{ltb-true, ltb-false, eqb-false, not-false, lt-ltb}
use Rattle.model.specs.Pick.{pick, pick_true, pick_false}
use Rattle.model.specs.Limits.{traffic_end}
use Rattle.model.specs.Counts.{pair_place, one_more}
use Rattle.model.specs.Range.{is_pair, message_in_range, count_in_range}
use Rattle.model.specs.State.{starting_node, node_at, no_message, waits, oldest, every, in_range, first_of, view}
use Rattle.model.specs.Grounds.{first}
use Rattle.model.specs.Step.{actor, reaction_to, remaining, with_sent, with_delivered, with_lost, effect, wrong_number, is_sending, pair_at_end}
use Rattle.model.proofs.Judged.{Clear}
use Rattle.model.proofs.Local.{both_left, both_right}
use Rattle.model.proofs.Fields.{in_range_within, in_range_own, count_facts, in_range_size, in_range_each, in_range_node, in_range_oldest}
use Rattle.model.proofs.Counts.{pair_counting}
use Rattle.model.proofs.Range.{OutgoingIn}
use Rattle.model.proofs.InRange.{event_in}
use Rattle.model.proofs.Numbers.{actor_in}
use Rattle.node_step.specs.Fits.{Fits}
use Rattle.node_step.proofs.InRange.{in_range_fits, message_fits}
use Rattle.model.specs.declared.Node.{Node}
use Rattle.model.specs.declared.Message.{Message}
use Rattle.std.specs.Prelude.{Option, None, Some}
use Rattle.model.specs.declared.Reaction.{Reaction}
use Rattle.model.specs.declared.Table.{Table}
use Rattle.model.specs.declared.Event.{Event}
use Rattle.model.specs.declared.Event.TheVariants.{Crash, Recover, Check, Timeout, Tick, Expire, Finish, Deliver, Lose}
use Rattle.node_step.specs.Grounds.{number_grounds}
use Rattle.machine.specs.Parts.{place, without, takes, place_for, place_of, sent_place, sent_by, moved_place, delivered_by, lost_by, raised, Small, stored, Left, Room, state_grounds, end_grounds, FitsMessage, reacts_to}
use Rattle.model.proofs.Lists.{first_take, first_length}
use Rattle.machine.proofs.Laws.{Sized, without_none, left_few}
use Rattle.model.proofs.Grounds.{not_met}
use Rattle.machine.proofs.Parts.{waits_place, oldest_place, remaining_place, none_place, reaction_place}

-- ── lists ──

-- within a list, what stands past its end does not matter
get_d_any : {A : Type 0} (l : List A) (k : ℕ) (d f : A) → k < length l → get_or l k d ≡ get_or l k f
get_d_any [] k d f h = absurd (none h)
  where
    none : k < 0 → ⊥
    none q = omega arith
get_d_any (x ∷ l) zero d f h = refl
get_d_any (x ∷ l) (suc k) d f h = get_d_any l k d f (omega arith)

-- an element of the first n
first_at : {A : Type 0} (n k : ℕ) (l : List A) (d f : A) → k < n → n ≤ length l → get_or l k d ≡ get_or (first_of n f l) k f
first_at n k l d f h g = rw (first_take n f l g, get_or-take n l k f h) (get_d_any l k d f (omega arith))

length_without : {A : Type 0} (k : ℕ) (q : List A) → k < length q → length (without k q) + 1 ≡ length q
length_without k q h = simp (length-append, length-take-le k q (omega arith), length-drop) (omega arith)

-- ── the first ground of a list ──
-- ── counts ──

-- the place of a pair of nodes
pub place_pair : (n a b : ℕ) → n ≤ 16 → is_pair n a b ≡ true → place_of a b ≡ pair_place a b
place_pair n a b h p = let c = pair_counting n a b h p in omega (arith, c.low, c.high, c.low_to, c.high_to)

raise_none : (l : List ℕ) (p : ℕ) → raised l p 0 ≡ l
raise_none l p = ap (set l p) (omega arith) ∙ set-get_or l p 0

raise_one : (n : ℕ) (l : List ℕ) (a b : ℕ) → n ≤ 16 → is_pair n a b ≡ true → raised l (place_of a b) 1 ≡ one_more l a b
raise_one n l a b h p = ap (λ (k : ℕ). raised l k 1) (place_pair n a b h p)

sent_pair : (n : ℕ) (m : Message) → OutgoingIn n (Some m) → is_pair n m.sender m.receiver ≡ true
unfolding message_in_range
sent_pair n m x = both_left _ _ (both_left _ _ (both_left _ _ (both_left _ _ x)))

raise_sent : (n : ℕ) (l : List ℕ) (o : Option Message) → n ≤ 16 → OutgoingIn n o → raised l (sent_place o) (sent_by o) ≡ with_sent l o
raise_sent n l None h x = raise_none l 0
raise_sent n l (Some m) h x = raise_one n l m.sender m.receiver h (sent_pair n m x)

raise_delivered : (n : ℕ) (l : List ℕ) (e : Event) → n ≤ 16 → wrong_number n e ≡ false → raised l (moved_place e) (delivered_by e) ≡ with_delivered l e
raise_delivered n l (Crash i) h q = raise_none l _
raise_delivered n l (Recover i) h q = raise_none l _
raise_delivered n l (Check i) h q = raise_none l _
raise_delivered n l (Timeout i) h q = raise_none l _
raise_delivered n l (Tick i) h q = raise_none l _
raise_delivered n l (Expire i) h q = raise_none l _
raise_delivered n l (Finish i t) h q = raise_none l _
raise_delivered n l (Deliver a b) h q = raise_one n l a b h (not-false _ q)
raise_delivered n l (Lose a b) h q = raise_none l _

raise_lost : (n : ℕ) (l : List ℕ) (e : Event) → n ≤ 16 → wrong_number n e ≡ false → raised l (moved_place e) (lost_by e) ≡ with_lost l e
raise_lost n l (Crash i) h q = raise_none l _
raise_lost n l (Recover i) h q = raise_none l _
raise_lost n l (Check i) h q = raise_none l _
raise_lost n l (Timeout i) h q = raise_none l _
raise_lost n l (Tick i) h q = raise_none l _
raise_lost n l (Expire i) h q = raise_none l _
raise_lost n l (Finish i t) h q = raise_none l _
raise_lost n l (Deliver a b) h q = raise_none l _
raise_lost n l (Lose a b) h q = raise_one n l a b h (not-false _ q)

-- 17 by the count that the code reads
pub last_is : (n : ℕ) (l : List ℕ) (o : Option Message) → n ≤ 16 → OutgoingIn n o → is_sending o && eqb (get_or l (sent_place o) 0) traffic_end ≡ pair_at_end l o
last_is n l None h x = refl
last_is n l (Some m) h x = ap (λ (k : ℕ). eqb (get_or l k 0) traffic_end) (place_pair n m.sender m.receiver h (sent_pair n m x))

-- no count of a table in range is above the end
each_small : (n j : ℕ) (l : List ℕ) → every (count_in_range n) j l ≡ true → Small l
unfolding every
each_small n j [] e p = omega arith
each_small n j (x ∷ l) e zero = (count_facts n j x (both_left (count_in_range n j x) _ e)).bounded
each_small n j (x ∷ l) e (suc p) = each_small n (j + 1) l (both_right (count_in_range n j x) _ e) p

pub counts_small : (t : Table) → in_range (view t) ≡ true → Small t.sent × Small t.delivered × Small t.lost
counts_small t ok =
    let r = in_range_each (view t) ok in
    (each_small t.n 0 t.sent r.0, each_small t.n 0 t.delivered r.1, each_small t.n 0 t.lost r.2)

module _ (t : Table) (z : Sized t) (ok : in_range (view t) ≡ true) (e : Event) where
  pub small : (1 ≤ t.n) × (t.n ≤ 16) × (t.waiting ≤ 64)
  small =
      let s = in_range_size (view t) ok in
      (s.0, s.1, omega (arith, s.3, first_length t.waiting no_message t.messages))

  module _ (clear : first (number_grounds t.n e) ≡ 0) where
    -- the event's node is one of the table
    pub actor_is : (1 ≤ actor e) × (actor e ≤ t.n)
    unfolding pick
    actor_is = actor_in t.n e (not_met 7 (number_grounds t.n e) refl clear)

    -- its record, as read from the array
    pub node_read : (d : Node) → get_or t.nodes (actor e - 1) d ≡ node_at (view t) (actor e)
    node_read d =
        let a = actor_is in
        first_at t.n (actor e - 1) t.nodes d starting_node (omega arith) (omega (arith, small.1, z.nodes))

    pub node_fits : (c : Node) → c ≡ node_at (view t) (actor e) → Fits (actor e) c
    node_fits c h =
        let a = actor_is in
        rw h (in_range_fits t.n (actor e) (node_at (view t) (actor e)) small.1 a.0 a.1 (in_range_node (view t) (actor e) ok a.0 a.1))

  -- k: where the event's message stands
  module _ (k : ℕ) (hk : k ≡ place_for (view t).queue e) (reach : k ≤ t.waiting) where
    pub found_is : ltb k t.waiting ≡ ltb (place_for (view t).queue e) (length (view t).queue)
    found_is = rw (hk, first_length t.waiting no_message t.messages)

    -- the message, as read from the array
    message_at : k < t.waiting → (d : Message) → get_or t.messages (k % 64) d ≡ get_or (view t).queue (place_for (view t).queue e) no_message
    message_at h d =
        let m : k % 64 ≡ k = mod-eq_of_lt (omega (arith, small.2)) in
        rw (m, ← hk) (first_at t.waiting k t.messages d no_message h (omega (arith, small.2, z.messages)))

    module _ (c : Node) (going : first (state_grounds t.n c e (ltb k t.waiting)) ≡ 0) where
      -- an event that takes a message has found it
      taken_found : takes e ≡ true → k < t.waiting
      unfolding pick
      taken_found q =
          let g11 : takes e && not (ltb k t.waiting) ≡ false = not_met 11 (state_grounds t.n c e (ltb k t.waiting)) refl going in
          ltb-true k t.waiting (not-false _ (rw q at g11))

      pub reaction_is : (d : Message) → c ≡ node_at (view t) (actor e) → reacts_to t.n c (get_or t.messages (k % 64) d) e ≡ reaction_to (view t) e
      reaction_is d h = rw h (sym (reaction_place (view t) e (get_or t.messages (k % 64) d) (λ q. message_at (taken_found q) d)))

      -- a message that is acted on is in range
      pub message_ok : (d : Message) → FitsMessage (get_or t.messages (k % 64) d) e
      message_ok d = by_event e refl
        where
          by_event : (x : Event) → e ≡ x → FitsMessage (get_or t.messages (k % 64) d) x
          by_event (Crash i) q = tt
          by_event (Recover i) q = tt
          by_event (Check i) q = tt
          by_event (Timeout i) q = tt
          by_event (Tick i) q = tt
          by_event (Expire i) q = tt
          by_event (Finish i x) q = tt
          by_event (Deliver a b) q =
              let h : k < t.waiting = taken_found (rw q) in
              let p : place a b (view t).queue ≡ k = sym (hk ∙ ap (place_for (view t).queue) q) in
              let w : waits a b (view t).queue ≡ true = waits_place a b (view t).queue ∙ rw (p, first_length t.waiting no_message t.messages) (lt-ltb k t.waiting h) in
              let m : get_or t.messages (k % 64) d ≡ oldest a b (view t).queue = message_at h d ∙ ap (λ (x : Event). get_or (view t).queue (place_for (view t).queue x) no_message) q ∙ sym (oldest_place a b (view t).queue) in
              rw m (message_fits t.n (oldest a b (view t).queue) small.1 (in_range_oldest (view t) a b ok w))
          by_event (Lose a b) q = tt

    -- left: how many messages wait once the event's own is out
    module _ (left : ℕ) (hl : left ≡ pick (ltb k t.waiting) (t.waiting - 1) t.waiting) where
      by_found : (b : Bool) → ltb k t.waiting ≡ b → Left t.waiting k left
      by_found true q = inl (ltb-true k t.waiting q, omega (arith, ltb-true k t.waiting q, (rw (q, pick_true) at hl)))
      by_found false q = let h = ltb-false k t.waiting q in inr (omega arith, rw (q, pick_false) at hl)

      pub left_is : Left t.waiting k left
      left_is = by_found (ltb k t.waiting) refl

      below : (b : Bool) → ltb k t.waiting ≡ b → k ≤ left
      below true q = omega (arith, ltb-true k t.waiting q, (rw (q, pick_true) at hl))
      below false q = omega (arith, (rw (q, pick_false) at hl))

      pub place_below : k ≤ left
      place_below = below (ltb k t.waiting) refl

      counted : (b : Bool) → ltb k t.waiting ≡ b → left ≡ length (without k (view t).queue)
      counted true q =
          let h = ltb-true k t.waiting q in
          let w = first_length t.waiting no_message t.messages in
          omega (arith, (rw (q, pick_true) at hl), length_without k (view t).queue (omega arith))
      counted false q =
          let h = ltb-false k t.waiting q in
          let w = first_length t.waiting no_message t.messages in
          omega (arith, (rw (q, pick_false) at hl), ap length (without_none (view t).queue k (omega arith)))

      pub left_counts : left ≡ length (remaining (view t) e)
      left_counts = counted (ltb k t.waiting) refl ∙ ap length (sym (remaining_place (view t) e ∙ ap (λ (j : ℕ). without j (view t).queue) (sym hk)))

      -- there is a place for what is sent
      pub room_is : (c : Node) (r : Reaction) → first (end_grounds c r left t.limits.messages) ≡ 0 → Room r.outgoing left
      unfolding pick
      room_is c r h = by_outgoing r.outgoing (not_met 14 (end_grounds c r left t.limits.messages) refl h)
        where
          by_outgoing : (o : Option Message) → is_sending o && eqb left t.limits.messages ≡ false → Room o left
          by_outgoing None q = tt
          by_outgoing (Some m) q = omega (arith, eqb-false left t.limits.messages q, place_few, limit_few)
            where
              place_few : left ≤ t.limits.messages
              place_few = left_few t.limits.messages t.waiting k left left_is (omega (arith, (in_range_own (view t) ok).1, first_length t.waiting no_message t.messages))

              limit_few : t.limits.messages ≤ 64
              limit_few = (in_range_within (view t) ok).1

      -- what is known where none of the grounds but 17 applies
      pub clear_is : (c : Node) → c ≡ node_at (view t) (actor e) → first (number_grounds t.n e) ≡ 0 → first (state_grounds t.n c e (ltb k t.waiting)) ≡ 0 → (r : Reaction) → r ≡ reaction_to (view t) e
          → first (end_grounds c r left t.limits.messages) ≡ 0 → Clear (view t) e
      unfolding pick
      clear_is c hc g h r hr i =
          let numbers = number_grounds t.n e in
          let state = state_grounds t.n c e (ltb k t.waiting) in
          let ends = end_grounds c r left t.limits.messages in
          record {
            in_range_lem = ok;
            number = not_met 7 numbers refl g;
            task = not_met 8 numbers refl g;
            status = rw hc at (not_met 9 state refl h);
            activity = rw hc at (not_met 10 state refl h);
            coordinator = rw hc at (not_met 18 state refl h);
            majority = rw hc at (not_met 19 state refl h);
            waiting = none_place (view t).queue e ∙ rw found_is at (not_met 11 state refl h);
            counter = rw (hr, hc) at (not_met 12 ends refl i);
            calls = rw (hr, hc) at (not_met 13 ends refl i);
            room = rw (hr, left_counts) at (not_met 14 ends refl i);
          }

      pub effect_is : Clear (view t) e → (r : Reaction) (at : ℕ) → r ≡ reaction_to (view t) e → at ≡ actor e - 1 → stored (view t) e k at r ≡ effect (view t) e
      unfolding effect
      effect_is x r at hr ha =
          rw (hr, ha, remaining_place (view t) e, ← hk, raise_sent t.n t.sent (reaction_to (view t) e).outgoing small.1 (event_in (view t) e x).reaction.outgoing, raise_delivered t.n t.delivered e small.1 x.number, raise_lost t.n t.lost e small.1 x.number)
