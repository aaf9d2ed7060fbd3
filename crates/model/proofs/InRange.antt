-- Every table of a run is in range.
use Prim.Native.Nat.{ℕ, zero, suc, ◌+◌, ◌-◌, ◌<◌, ◌≤◌}
use native.Mathlib.Omega.{arith}
use native.Mathlib.Nat.{le_refl, le_trans}
use mathlib.Core.Bool.{Bool, true, false, ◌&&◌, true≢false}
use mathlib.Core.Logic.{inl}
use mathlib.Core.Path.{◌≡◌, refl, sym, ◌∙◌, ap, subst}
use mathlib.Core.List.{List, [], ◌∷◌, ◌++◌}
use lib.Dec.{eqb, leb}
use lib.ListN.{length, set, replicate, length-append, length-set, length-replicate}
use borrow.Author.Tests.{eqb-true, eqb-false, eq-eqb, le-leb, leb-true, not-true, not-false}
use Rattle.node_set.proofs.Laws.{empty_within, empty_lacks}
use Rattle.model.specs.Pick.{pick, by_test}
use Rattle.model.specs.Limits.{counter_end, call_end, traffic_end}
use Rattle.model.specs.Counts.{pair_place, count_at, one_more, no_counts}
use Rattle.model.specs.Range.{PairRule, is_node, is_pair, node_in_range, message_in_range, count_in_range}
use Rattle.model.specs.React.{react}
use Rattle.model.specs.State.{State, starting_node, start_by, node_at, waits, goes, oldest, without_oldest, how_many, every, up_to, adds_up, counts_in_range, traffic_in_range, in_range}
use Rattle.model.specs.Step.{actor, reaction_to, remaining, sent, with_sent, with_delivered, with_lost, effect, wrong_number, wrong_task, wrong_status, none_waits, is_sending, pair_at_end, grounds, refused, step, kept, after, run_from, run_by}
use Rattle.model.specs.Claims.{MayStart, StaysInRange}
use Rattle.model.specs.Traffic.{sends, delivers, loses}
use Rattle.model.proofs.Judged.{Clear, NotAtEnd, by_step, accepted_is, met, passed}
use Rattle.model.proofs.Local.{both_left, both_right}
use Rattle.model.proofs.Locality.{taken_out}
use Rattle.model.proofs.Numbers.{actor_in}
use Rattle.model.proofs.Fields.{node_is, other_is, given_is, NodeFacts, node_facts, message_facts, Counting, count_bounded, in_range_within, in_range_pair, in_range_own, in_range_nodes, in_range_queue, in_range_size, in_range_places, in_range_each, in_range_sum, in_range_node, in_range_oldest, oldest_goes}
use Rattle.model.proofs.Counts.{none_counted, many_append, up_to_all, is_count, pair_counting, sent_more, sent_room, sent_length, delivered_more, delivered_length, lost_more, lost_length, out_counted}
use Rattle.model.proofs.Range.{both, is_node_lem, Numbered, OutgoingIn, ReactionIn, Room, InputIn, react_in}
use Rattle.model.specs.declared.Limits.{Limits}
use Rattle.model.specs.declared.Message.{Message}
use Rattle.std.specs.Prelude.{Option, None, Some}
use Rattle.model.specs.declared.Input.{Input}
use Rattle.model.specs.declared.Event.{Event}
use Rattle.model.specs.declared.Event.TheVariants.{Crash, Recover, Check, Timeout, Tick, Expire, Finish, Deliver, Lose}

-- ── a test of every element ──
pub every_set : {A : Type 0} (f : ℕ → A → Bool) (k : ℕ) (l : List A) (i : ℕ) (x : A) → every f k l ≡ true → f (k + i) x ≡ true → every f k (set l i x) ≡ true
unfolding every
every_set f k [] i x e h = refl
every_set f k (y ∷ l) zero x e h = both (f k x) _ (subst (λ (j : ℕ). f j x ≡ true) (omega arith) h) (both_right (f k y) _ e)
every_set f k (y ∷ l) (suc i) x e h =
    both (f k y) _ (both_left (f k y) _ e)
    (every_set f (k + 1) l i x (both_right (f k y) _ e) (subst (λ (j : ℕ). f j x ≡ true) (omega arith) h))

pub every_replicate : {A : Type 0} (f : ℕ → A → Bool) (k n : ℕ) (x : A) → ((j : ℕ) → f j x ≡ true) → every f k (replicate n x) ≡ true
unfolding every
every_replicate f k zero x h = refl
every_replicate f k (suc n) x h = both (f k x) _ (h k) (every_replicate f (k + 1) n x h)

module _ (f : Message → Bool) where
  -- the numbers do not matter where the test does not look at them
  every_shift : (k j : ℕ) (q : List Message) → every (λ _. f) k q ≡ every (λ _. f) j q
  unfolding every
  every_shift k j [] = refl
  every_shift k j (m ∷ ms) = ap (f m &&◌) (every_shift (k + 1) (j + 1) ms)

  every_append : (k : ℕ) (q r : List Message) → every (λ _. f) k q ≡ true → every (λ _. f) k r ≡ true → every (λ _. f) k (q ++ r) ≡ true
  unfolding every
  every_append k [] r e h = h
  every_append k (m ∷ ms) r e h =
      both (f m) _ (both_left (f m) _ e) (every_append (k + 1) ms r (both_right (f m) _ e) (every_shift (k + 1) k r ∙ h))

  every_without : (a b k : ℕ) (q : List Message) → every (λ _. f) k q ≡ true → every (λ _. f) k (without_oldest a b q) ≡ true
  unfolding every without_oldest
  every_without a b k [] e = refl
  every_without a b k (m ∷ ms) e =
      by_test (λ (q : List Message). every (λ _. f) k q ≡ true)
      (λ _. every_shift k (k + 1) ms ∙ both_right (f m) _ e)
      (λ _. both (f m) _ (both_left (f m) _ e) (every_without a b (k + 1) ms (both_right (f m) _ e)))

-- ── the queue ──
pub without_length : (a b : ℕ) (q : List Message) → waits a b q ≡ true → length (without_oldest a b q) + 1 ≡ length q
without_length a b q w =
    let x = taken_out a b q w in
    omega (arith, ap length x.whole, ap length x.left, length-append x.before (x.taken ∷ x.behind), length-append x.before x.behind)

sent_fits : (limit : ℕ) (q : List Message) (o : Option Message) → length q ≤ limit → is_sending o && eqb (length q) limit ≡ false → length (q ++ sent o) ≤ limit
sent_fits limit q None h e = simp length-append (omega arith)
sent_fits limit q (Some m) h e = let d = eqb-false (length q) limit e in simp length-append (omega arith)

sent_in_lem : (n : ℕ) (o : Option Message) → OutgoingIn n o → every (λ _. message_in_range n) 1 (sent o) ≡ true
unfolding every
sent_in_lem n None x = refl
sent_in_lem n (Some m) x = both (message_in_range n m) _ x refl

-- ── an accepted event ──

-- there is room where the ground of the end of a range does not apply
spare : (x : Bool) (a b : ℕ) → (x && eqb a b) ≡ false → a ≤ b → x ≡ true → a < b
spare true a b e h t = let d = eqb-false a b e in omega arith
spare false a b e h t = absurd (true≢false (sym t))

pub record EventIn (s : State) (e : Event) : Type 0 where
  pub place : Numbered s.n (actor e)
  pub reaction : ReactionIn s.n (actor e) (reaction_to s e)
  pub fewer : length (remaining s e) ≤ length s.queue
  pub stays : every (λ _. message_in_range s.n) 1 (remaining s e) ≡ true

module _ (s : State) (e : Event) (c : Clear s e) where
  place : Numbered s.n (actor e)
  place = let x = actor_in s.n e c.number in record { low = x.0; high = x.1; small = (in_range_size s c.in_range_lem).1 }

  -- the event's node as it stands
  stands : node_in_range s.n (actor e) (node_at s (actor e)) ≡ true
  stands = in_range_node s (actor e) c.in_range_lem place.low place.high

  -- the event's node acts on an input
  acts : (x : Input) → reaction_to s e ≡ react s.n (actor e) (node_at s (actor e)) x → InputIn s.n (actor e) (node_at s (actor e)) x
      → ReactionIn s.n (actor e) (reaction_to s e)
  acts x q h =
      let f = node_facts s.n (actor e) (node_at s (actor e)) stands in
      subst (Room s.n (actor e) (node_at s (actor e))) (sym q) (react_in place (node_at s (actor e)) x f h)
      (spare _ _ counter_end c.counter f.counter) (spare _ _ call_end c.calls f.last)

  -- an event that takes no message out
  alone : remaining s e ≡ s.queue → ReactionIn s.n (actor e) (reaction_to s e) → EventIn s e
  alone q x = record { place = place; reaction = x; fewer = rw q (le_refl _); stays = rw q (in_range_queue s c.in_range_lem) }

  -- an event that takes out the oldest message from a to b
  taking : (a b : ℕ) → waits a b s.queue ≡ true → remaining s e ≡ without_oldest a b s.queue → ReactionIn s.n (actor e) (reaction_to s e) → EventIn s e
  taking a b w q x =
      record {
        place = place;
        reaction = x;
        fewer = rw q (omega (arith, without_length a b s.queue w));
        stays = rw q (every_without (message_in_range s.n) a b 1 s.queue (in_range_queue s c.in_range_lem));
      }

pub event_in : (s : State) (e : Event) → Clear s e → EventIn s e
unfolding reaction_to remaining wrong_task wrong_status none_waits
event_in s (Crash i) c = alone s (Crash i) c refl (acts s (Crash i) c Input.Crash refl tt)
event_in s (Recover i) c = alone s (Recover i) c refl (acts s (Recover i) c Input.Recover refl tt)
event_in s (Check i) c = alone s (Check i) c refl (acts s (Check i) c Input.Check refl c.status)
event_in s (Timeout i) c = alone s (Timeout i) c refl (acts s (Timeout i) c Input.Timeout refl c.status)
event_in s (Tick i) c = alone s (Tick i) c refl (acts s (Tick i) c Input.Tick refl c.status)
event_in s (Expire i) c = alone s (Expire i) c refl (acts s (Expire i) c Input.Expire refl c.status)
event_in s (Finish i t) c =
    alone s (Finish i t) c refl (acts s (Finish i t) c (Input.Finish t) refl (c.status, given_is t.number (not-false _ c.task)))
event_in s (Deliver a b) c =
    let w : waits a b s.queue ≡ true = not-false _ c.waiting in
    let m = oldest a b s.queue in
    taking s (Deliver a b) c a b w refl
    (acts s (Deliver a b) c (Input.Receive m) refl
    (c.status, message_facts s.n m (in_range_oldest s a b c.in_range_lem w), eqb-true m.receiver b (both_right (eqb m.sender a) _ (oldest_goes a b s.queue w))))
event_in s (Lose a b) c =
    taking s (Lose a b) c a b (not-false _ c.waiting) refl (record { node = stands s (Lose a b) c; outgoing = tt })

-- the counts after an accepted event
pub record Counted (s : State) (e : Event) (a b : ℕ) : Type 0 where
  pub sent : count_at (effect s e).sent a b ≡ count_at s.sent a b + sends a b s e
  pub delivered : count_at (effect s e).delivered a b ≡ count_at s.delivered a b + delivers a b s e
  pub lost : count_at (effect s e).lost a b ≡ count_at s.lost a b + loses a b s e
  pub waiting : how_many (goes a b) (effect s e).queue + delivers a b s e + loses a b s e ≡ how_many (goes a b) s.queue + sends a b s e

pub event_counted : (s : State) (e : Event) → Clear s e → (a b : ℕ) → Counting a b → Counted s e a b
unfolding effect
event_counted s e c a b p =
    record {
      sent = sent_more s.n s.sent (reaction_to s e).outgoing a b small size.0 (event_in s e c).reaction.outgoing p;
      delivered = delivered_more s.n s.delivered a b small size.1 p s e c.number;
      lost = lost_more s.n s.lost a b small size.2 p s e c.number;
      waiting = omega (arith, many_append (goes a b) (remaining s e) (sent (reaction_to s e).outgoing), out_counted s e a b c.waiting);
    }
  where
    small : s.n ≤ 16
    small = (in_range_size s c.in_range_lem).1

    size : (length s.sent ≡ 256) × (length s.delivered ≡ 256) × (length s.lost ≡ 256)
    size = in_range_places s c.in_range_lem

-- one more of a pair is in range below the end
pub more_each : (n : ℕ) (l : List ℕ) (a b : ℕ) → n ≤ 16 → is_pair n a b ≡ true → every (count_in_range n) 0 l ≡ true → count_at l a b < traffic_end → every (count_in_range n) 0 (one_more l a b) ≡ true
more_each n l a b h p e k = every_set (count_in_range n) 0 l (pair_place a b) (count_at l a b + 1) e (is_count n a b (count_at l a b + 1) h p (omega arith))

sent_each : (n : ℕ) (l : List ℕ) (o : Option Message) → n ≤ 16 → length l ≡ 256 → OutgoingIn n o → pair_at_end l o ≡ false → every (count_in_range n) 0 l ≡ true → every (count_in_range n) 0 (with_sent l o) ≡ true
unfolding message_in_range
sent_each n l None h k x d e = e
sent_each n l (Some m) h k x d e =
    let p : is_pair n m.sender m.receiver ≡ true = both_left _ _ (both_left _ _ (both_left _ _ (both_left _ _ x))) in
    let b = count_bounded n l m.sender m.receiver k e (pair_counting n m.sender m.receiver h p) in
    let z = eqb-false (count_at l m.sender m.receiver) traffic_end d in
    more_each n l m.sender m.receiver h p e (omega arith)

delivered_each : (n : ℕ) (l : List ℕ) (s : State) (e : Event) → n ≤ 16 → wrong_number n e ≡ false → every (count_in_range n) 0 l ≡ true
    → ((a b : ℕ) → is_pair n a b ≡ true → count_at l a b + delivers a b s e ≤ traffic_end) → every (count_in_range n) 0 (with_delivered l e) ≡ true
delivered_each n l s (Crash i) h q x f = x
delivered_each n l s (Recover i) h q x f = x
delivered_each n l s (Check i) h q x f = x
delivered_each n l s (Timeout i) h q x f = x
delivered_each n l s (Tick i) h q x f = x
delivered_each n l s (Expire i) h q x f = x
delivered_each n l s (Finish i t) h q x f = x
delivered_each n l s (Deliver a b) h q x f =
    let p = not-false _ q in
    let k : count_at l a b + 1 ≤ traffic_end = rw (eq-eqb a a refl, eq-eqb b b refl) at (f a b p) in
    more_each n l a b h p x (omega arith)
delivered_each n l s (Lose a b) h q x f = x

lost_each : (n : ℕ) (l : List ℕ) (s : State) (e : Event) → n ≤ 16 → wrong_number n e ≡ false → every (count_in_range n) 0 l ≡ true
    → ((a b : ℕ) → is_pair n a b ≡ true → count_at l a b + loses a b s e ≤ traffic_end) → every (count_in_range n) 0 (with_lost l e) ≡ true
lost_each n l s (Crash i) h q x f = x
lost_each n l s (Recover i) h q x f = x
lost_each n l s (Check i) h q x f = x
lost_each n l s (Timeout i) h q x f = x
lost_each n l s (Tick i) h q x f = x
lost_each n l s (Expire i) h q x f = x
lost_each n l s (Finish i t) h q x f = x
lost_each n l s (Deliver a b) h q x f = x
lost_each n l s (Lose a b) h q x f =
    let p = not-false _ q in
    let k : count_at l a b + 1 ≤ traffic_end = rw (eq-eqb a a refl, eq-eqb b b refl) at (f a b p) in
    more_each n l a b h p x (omega arith)

-- the counts of a pair of nodes after an accepted event
record PairIn (s : State) (e : Event) (a b : ℕ) : Type 0 where
  pub sum : count_at (effect s e).sent a b ≡ count_at (effect s e).delivered a b + count_at (effect s e).lost a b + how_many (goes a b) (effect s e).queue
  pub delivered : count_at s.delivered a b + delivers a b s e ≤ traffic_end
  pub lost : count_at s.lost a b + loses a b s e ≤ traffic_end

pair_in : (s : State) (e : Event) → Clear s e → NotAtEnd s e → (a b : ℕ) → 1 ≤ a → a ≤ s.n → 1 ≤ b → b ≤ s.n → PairIn s e a b
unfolding effect
pair_in s e c d a b l h m k =
    let n = (in_range_size s c.in_range_lem).1 in
    let p : Counting a b = record { low = l; high = omega (arith, n); low_to = m; high_to = omega (arith, n) } in
    let x = event_counted s e c a b p in
    let r = sent_room s.sent (reaction_to s e).outgoing a b d (count_bounded s.n s.sent a b (in_range_places s c.in_range_lem).0 (in_range_each s c.in_range_lem).0 p) in
    let t = in_range_sum s a b c.in_range_lem l h m k in
    record {
      sum = omega (arith, x.sent, x.delivered, x.lost, x.waiting, t);
      delivered = omega (arith, x.waiting, t, r);
      lost = omega (arith, x.waiting, t, r);
    }

effect_in : (s : State) (e : Event) → Clear s e → NotAtEnd s e → in_range (effect s e) ≡ true
unfolding effect in_range traffic_in_range counts_in_range
effect_in s e c d =
    rw (
      in_range_pair s c.in_range_lem,
      le-leb s.limits.nodes 16 within.0,
      le-leb s.limits.messages 64 within.1,
      le-leb 1 s.n size.0,
      le-leb s.n s.limits.nodes own.0,
      eq-eqb _ s.n (length-set s.nodes (actor e - 1) (reaction_to s e).node ∙ size.2),
      le-leb _ s.limits.messages (sent_fits s.limits.messages (remaining s e) (reaction_to s e).outgoing (omega (arith, x.fewer, own.1)) c.room),
      every_set (node_in_range s.n) 1 s.nodes (actor e - 1) (reaction_to s e).node (in_range_nodes s c.in_range_lem) stored,
      every_append (message_in_range s.n) 1 (remaining s e) (sent (reaction_to s e).outgoing) x.stays (sent_in_lem s.n (reaction_to s e).outgoing x.reaction.outgoing),
      eq-eqb _ 256 (sent_length s.sent (reaction_to s e).outgoing ∙ places.0),
      eq-eqb _ 256 (delivered_length s.delivered e ∙ places.1),
      eq-eqb _ 256 (lost_length s.lost e ∙ places.2),
      sent_each s.n s.sent (reaction_to s e).outgoing size.1 places.0 x.reaction.outgoing d each.0,
      delivered_each s.n s.delivered s e size.1 c.number each.1 (λ a b q. (paired a b q).delivered),
      lost_each s.n s.lost s e size.1 c.number each.2 (λ a b q. (paired a b q).lost),
      up_to_all s.n (λ a. up_to s.n (λ b. adds_up (effect s e) a b)) (λ a l h. up_to_all s.n (λ b. adds_up (effect s e) a b) (λ b m k.
          eq-eqb _ _ (pair_in s e c d a b l h m k).sum)),
    )
  where
    x : EventIn s e
    x = event_in s e c

    size : (1 ≤ s.n) × (s.n ≤ 16) × (length s.nodes ≡ s.n) × (length s.queue ≤ 64)
    size = in_range_size s c.in_range_lem

    within : (s.limits.nodes ≤ 16) × (s.limits.messages ≤ 64)
    within = in_range_within s c.in_range_lem

    own : (s.n ≤ s.limits.nodes) × (length s.queue ≤ s.limits.messages)
    own = in_range_own s c.in_range_lem

    places : (length s.sent ≡ 256) × (length s.delivered ≡ 256) × (length s.lost ≡ 256)
    places = in_range_places s c.in_range_lem

    each : (every (count_in_range s.n) 0 s.sent ≡ true) × (every (count_in_range s.n) 0 s.delivered ≡ true) × (every (count_in_range s.n) 0 s.lost ≡ true)
    each = in_range_each s c.in_range_lem

    paired : (a b : ℕ) → is_pair s.n a b ≡ true → PairIn s e a b
    paired a b q =
        let i = node_is s.n a (both_left _ _ q) in
        let j = other_is s.n a b (both_right (is_node s.n a) _ q) in
        pair_in s e c d a b i.low i.high j.low j.high

    stored : node_in_range s.n (1 + (actor e - 1)) (reaction_to s e).node ≡ true
    stored = subst (λ (j : ℕ). node_in_range s.n j (reaction_to s e).node ≡ true) (omega (arith, x.place.low)) x.reaction.node

-- ── refusals ──

in_range_not_one : (s : State) (e : Event) → in_range s ≡ true → step s e ≡ refused 1 → ⊥
unfolding grounds pick
in_range_not_one s e r q = true≢false (sym r ∙ not-true _ (met s e 1 refl q))

-- a delivery takes a message out, so there is room for another
pub delivery_never_full : (s : State) (a b : ℕ) → step s (Deliver a b) ≡ refused 14 → ⊥
unfolding grounds pick remaining none_waits
delivery_never_full s a b q =
    let e = Deliver a b in
    omega (
      arith,
      eqb-true (length (without_oldest a b s.queue)) s.limits.messages (both_right (is_sending (reaction_to s e).outgoing) _ (met s e 14 refl q)),
      without_length a b s.queue (not-false _ (passed s e 11 14 refl q)),
      (in_range_own s (not-false _ (passed s e 1 14 refl q))).1,
    )

-- ── the claims ──
pub none_in : (n k : ℕ) → count_in_range n k 0 ≡ true
unfolding count_in_range
none_in n k = refl

-- a table that may start has at most 16 nodes
pub start_small : {rule : PairRule} (n : ℕ) (lim : Limits) → MayStart rule n lim → n ≤ 16
start_small n lim s = le_trans s.high (leb-true _ _ (both_left (leb lim.nodes 16) _ s.within))

pub start_in : (rule : PairRule) (n : ℕ) (lim : Limits) → MayStart rule n lim → in_range (start_by rule n lim) ≡ true
unfolding in_range traffic_in_range counts_in_range every how_many
start_in rule n lim s =
    rw (
      s.pair,
      s.within,
      le-leb 1 n s.low,
      le-leb n lim.nodes s.high,
      le-leb 0 lim.messages (omega arith),
      eq-eqb _ n (length-replicate n starting_node),
      every_replicate (node_in_range n) 1 n starting_node (λ j. is_node_lem n j starting_node (starting j)),
      every_replicate (count_in_range n) 0 256 0 (none_in n),
      up_to_all n (λ a. up_to n (λ b. adds_up (start_by rule n lim) a b)) (λ a i j. up_to_all n (λ b. adds_up (start_by rule n lim) a b) (λ b k m.
          let q = none_counted a b (record { low = i; high = omega (arith, small); low_to = k; high_to = omega (arith, small) }) in
          eq-eqb (count_at no_counts a b) (count_at no_counts a b + count_at no_counts a b + 0) (omega (arith, q)))),
    )
  where
    small : n ≤ 16
    small = start_small n lim s

    starting : (j : ℕ) → NodeFacts n j starting_node
    starting j =
        record {
          counter = omega arith;
          group = inl refl;
          coordinator = omega arith;
          task = omega arith;
          members = record { inside = empty_within n; lacks = empty_lacks j };
          last = omega arith;
          grouped = λ e. absurd (true≢false e);
          led = λ e. absurd (true≢false e);
          idle = λ e. refl;
          activity = tt;
        }

pub run_in : (s : State) (es : List Event) → in_range s ≡ true → in_range (run_from s es) ≡ true
unfolding run_from
run_in s [] r = r
run_in s (e ∷ es) r = run_in (after s e) es (by_step (λ x. in_range (kept s x) ≡ true) s e (λ _. r) (λ c d. effect_in s e c d))

pub stays_in_range : StaysInRange
stays_in_range =
    record {
      starts = start_in;
      keeps = λ s e u k q.
          let a = accepted_is s e u k q in
          subst (λ (v : State). in_range v ≡ true) (sym a.state) (effect_in s e a.clear a.not_at_end);
      runs = λ rule n lim m es. run_in (start_by rule n lim) es (start_in rule n lim m);
      never_one = λ rule n lim m es e. in_range_not_one (run_by rule n lim es) e (run_in (start_by rule n lim) es (start_in rule n lim m));
    }
