-- T-05: the records are the counts of the accepted events, each pair's sum holds in every table of a run, and no event of a run meets 17.
use Prim.Native.Nat.{ℕ, zero, suc, ◌+◌, ◌-◌, ◌≤◌, ◌<◌}
use native.Mathlib.Omega.{arith}
use native.Mathlib.Nat.{le_refl}
use mathlib.Core.Bool.{Bool, true, false, not, ◌&&◌, true≢false}
use mathlib.Core.Path.{◌≡◌, refl, sym, ◌∙◌, ap, subst}
use mathlib.Core.List.{List, [], ◌∷◌}
use lib.Dec.{eqb, ltb}
use lib.ListN.{length, get_or, set, replicate, get_or-replicate}
use borrow.Author.Tests.{eqb-true, eqb-false, eq-eqb, ne_eqb, not-false}
use Rattle.model.specs.Pick.{pick}
use Rattle.model.specs.Limits.{call_end, traffic_end}
use Rattle.model.specs.Counts.{pair_place, sender_at, receiver_at, count_at, one_more, total, one}
use Rattle.model.specs.React.{react}
use Rattle.model.specs.Range.{PairRule, is_pair, count_in_range}
use Rattle.model.specs.State.{State, starting_node, start_by, node_at, goes, waits, oldest, how_many, every, in_range}
use Rattle.model.specs.Step.{actor, reaction_to, remaining, sent, with_sent, with_delivered, with_lost, effect, wrong_number, none_waits, is_calling, pair_at_end, grounds, refused, step, kept, after, run_from, run_by}
use Rattle.model.specs.Traffic.{sends, delivers, loses, of_accepted, tally, sends_any, delivers_any, loses_any, sent_in, delivered_in, lost_in}
use Rattle.model.specs.Claims.{MayStart, TrafficAgrees, TrafficRules}
use Rattle.model.proofs.Judged.{Clear, by_step, accepted_is, met, ended_clear}
use Rattle.model.proofs.Local.{both_right}
use Rattle.model.proofs.Fields.{node_facts, message_facts, Counting, CountFacts, count_facts, every_at, oldest_goes, in_range_size, in_range_places, in_range_each, in_range_node, in_range_sum, own_record, other_record}
use Rattle.model.proofs.Range.{OutgoingIn}
use Rattle.model.proofs.Counts.{none_counted, many_append, many_without, pair_counting}
use Rattle.model.proofs.InRange.{EventIn, event_in, event_counted, start_small, start_in, run_in}
use Rattle.model.proofs.Due.{due, call_to, reply_to, From, call_from, WithinDue, react_within}
use Rattle.model.specs.declared.Limits.{Limits}
use Rattle.model.specs.declared.Message.{Message}
use Rattle.std.specs.Prelude.{Option, None, Some}
use Rattle.model.specs.declared.Input.{Input}
use Rattle.model.specs.declared.Event.{Event}
use Rattle.model.specs.declared.Event.TheVariants.{Crash, Recover, Check, Timeout, Tick, Expire, Finish, Deliver, Lose}

-- ── the records are the counts of the accepted events ──
pub tally_is : (get : State → List ℕ) (f : State → Event → ℕ) (a b : ℕ)
    → ((s : State) (e : Event) → Clear s e → count_at (get (effect s e)) a b ≡ count_at (get s) a b + f s e)
    → (s : State) (es : List Event) → count_at (get (run_from s es)) a b ≡ count_at (get s) a b + tally f s es
unfolding run_from tally
tally_is get f a b h s [] = omega arith
tally_is get f a b h s (e ∷ es) =
    omega (
      arith,
      tally_is get f a b h (after s e) es,
      by_step (λ r. count_at (get (kept s r)) a b ≡ count_at (get s) a b + of_accepted (f s e) r) s e (λ x. omega arith) (λ c _. h s e c),
    )

-- ── totals ──

total_set : (l : List ℕ) (p x : ℕ) → p < length l → total (set l p x) + get_or l p 0 ≡ total l + x
unfolding total
total_set [] p x h = absurd (omega arith)
total_set (y ∷ l) zero x h = omega arith
total_set (y ∷ l) (suc p) x h = omega (arith, total_set l p x (omega arith))

total_more : (l : List ℕ) (a b : ℕ) → length l ≡ 256 → Counting a b → total (one_more l a b) ≡ total l + 1
total_more l a b h p = omega (arith, total_set l (pair_place a b) (count_at l a b + 1) (omega (arith, h, p.low, p.high, p.low_to, p.high_to)))

sent_any : (n : ℕ) (l : List ℕ) (o : Option Message) → n ≤ 16 → length l ≡ 256 → OutgoingIn n o → total (with_sent l o) ≡ total l + length (sent o)
sent_any n l None h e x = omega arith
sent_any n l (Some m) h e x =
    let f = message_facts n m x in
    total_more l m.sender m.receiver e
    (record { low = f.sender.low; high = omega (arith, f.sender.high); low_to = f.receiver.low; high_to = omega (arith, f.receiver.high) })

delivered_any : (n : ℕ) (l : List ℕ) (s : State) (e : Event) → n ≤ 16 → length l ≡ 256 → wrong_number n e ≡ false → total (with_delivered l e) ≡ total l + delivers_any s e
delivered_any n l s (Crash i) h k q = omega arith
delivered_any n l s (Recover i) h k q = omega arith
delivered_any n l s (Check i) h k q = omega arith
delivered_any n l s (Timeout i) h k q = omega arith
delivered_any n l s (Tick i) h k q = omega arith
delivered_any n l s (Expire i) h k q = omega arith
delivered_any n l s (Finish i t) h k q = omega arith
delivered_any n l s (Deliver a b) h k q = total_more l a b k (pair_counting n a b h (not-false _ q))
delivered_any n l s (Lose a b) h k q = omega arith

lost_any : (n : ℕ) (l : List ℕ) (s : State) (e : Event) → n ≤ 16 → length l ≡ 256 → wrong_number n e ≡ false → total (with_lost l e) ≡ total l + loses_any s e
lost_any n l s (Crash i) h k q = omega arith
lost_any n l s (Recover i) h k q = omega arith
lost_any n l s (Check i) h k q = omega arith
lost_any n l s (Timeout i) h k q = omega arith
lost_any n l s (Tick i) h k q = omega arith
lost_any n l s (Expire i) h k q = omega arith
lost_any n l s (Finish i t) h k q = omega arith
lost_any n l s (Deliver a b) h k q = omega arith
lost_any n l s (Lose a b) h k q = total_more l a b k (pair_counting n a b h (not-false _ q))

-- the totals after an accepted event
record Totalled (s : State) (e : Event) : Type 0 where
  pub sent : total (effect s e).sent ≡ total s.sent + sends_any s e
  pub delivered : total (effect s e).delivered ≡ total s.delivered + delivers_any s e
  pub lost : total (effect s e).lost ≡ total s.lost + loses_any s e

event_totalled : (s : State) (e : Event) → Clear s e → Totalled s e
unfolding effect
event_totalled s e c =
    let n = (in_range_size s c.in_range_lem).1 in
    let p = in_range_places s c.in_range_lem in
    record {
      sent = sent_any s.n s.sent (reaction_to s e).outgoing n p.0 (event_in s e c).reaction.outgoing;
      delivered = delivered_any s.n s.delivered s e n p.1 c.number;
      lost = lost_any s.n s.lost s e n p.2 c.number;
    }

none_total : (k : ℕ) → total (replicate k 0) ≡ 0
unfolding total
none_total zero = refl
none_total (suc k) = omega (arith, none_total k)

-- the sum of a number over the accepted events of a list is what it grows by
total_is : (get : State → List ℕ) (f : State → Event → ℕ) → ((s : State) (e : Event) → Clear s e → total (get (effect s e)) ≡ total (get s) + f s e)
    → (s : State) (es : List Event) → total (get (run_from s es)) ≡ total (get s) + tally f s es
unfolding run_from tally
total_is get f h s [] = omega arith
total_is get f h s (e ∷ es) =
    omega (
      arith,
      total_is get f h (after s e) es,
      by_step (λ r. total (get (kept s r)) ≡ total (get s) + of_accepted (f s e) r) s e (λ x. omega arith) (λ c _. h s e c),
    )

-- ── calls and answers of an event ──

-- a call from a to b
abbrev is_call_to : ℕ → ℕ → Message → Bool
is_call_to a b m = ltb m.kind 6 && goes a b m

record EventWithin (s : State) (e : Event) : Type 0 where
  pub from : From (actor e) (reaction_to s e).outgoing
  pub numbered : (b : ℕ) → (node_at s (actor e)).last.number + call_to b (reaction_to s e).outgoing ≤ (reaction_to s e).node.last.number
  -- a reply and what is due, with the calls that still wait, are no more than what was due and waited
  pub answered : (b : ℕ) → reply_to b (reaction_to s e).outgoing + due b (reaction_to s e).node.activity + how_many (is_call_to b (actor e)) (remaining s e)
      ≤ due b (node_at s (actor e)).activity + how_many (is_call_to b (actor e)) s.queue
  pub fewer : (a b : ℕ) → how_many (is_call_to a b) (remaining s e) ≤ how_many (is_call_to a b) s.queue

-- an event that takes no message out
alone : (s : State) (e : Event) (x : Input) → reaction_to s e ≡ react s.n (actor e) (node_at s (actor e)) x → remaining s e ≡ s.queue → ((b : ℕ) → call_from b x ≡ 0) → EventWithin s e
alone s e x q r z =
    let p = subst (WithinDue (actor e) (node_at s (actor e)).last.number (λ b. due b (node_at s (actor e)).activity + call_from b x)) (sym q) (react_within s.n (actor e) (node_at s (actor e)) x) in
    record {
      from = p.from;
      numbered = p.numbered;
      answered = λ b. rw r (omega (arith, p.answered b, z b));
      fewer = λ a b. rw r (le_refl _);
    }

-- the message delivered is a call from y to b where it is a call from y
call_here : (t : Bool) (y b x z : ℕ) → z ≡ b → one (t && eqb x y) ≡ one (t && (eqb x y && eqb z b))
call_here true y b x z e = rw (eq-eqb z b e) (both_true (eqb x y))
  where
    both_true : (u : Bool) → one u ≡ one (u && true)
    both_true true = refl
    both_true false = refl
call_here false y b x z e = refl

event_within : (s : State) (e : Event) → none_waits s.queue e ≡ false → EventWithin s e
unfolding reaction_to remaining
event_within s (Crash i) c = alone s (Crash i) Input.Crash refl refl (λ b. refl)
event_within s (Recover i) c = alone s (Recover i) Input.Recover refl refl (λ b. refl)
event_within s (Check i) c = alone s (Check i) Input.Check refl refl (λ b. refl)
event_within s (Timeout i) c = alone s (Timeout i) Input.Timeout refl refl (λ b. refl)
event_within s (Tick i) c = alone s (Tick i) Input.Tick refl refl (λ b. refl)
event_within s (Expire i) c = alone s (Expire i) Input.Expire refl refl (λ b. refl)
event_within s (Finish i t) c = alone s (Finish i t) (Input.Finish t) refl refl (λ b. refl)
event_within s (Deliver a b) c =
    let w : waits a b s.queue ≡ true = not-false _ c in
    let m = oldest a b s.queue in
    let g = eqb-true m.receiver b (both_right (eqb m.sender a) _ (oldest_goes a b s.queue w)) in
    let p = react_within s.n b (node_at s b) (Input.Receive m) in
    record {
      from = p.from;
      numbered = p.numbered;
      answered = λ y. omega (arith, p.answered y, call_here (ltb m.kind 6) y b m.sender m.receiver g, many_without (is_call_to y b) a b s.queue w);
      fewer = λ x y. omega (arith, many_without (is_call_to x y) a b s.queue w);
    }
event_within s (Lose a b) c =
    let w : waits a b s.queue ≡ true = not-false _ c in
    record {
      from = tt;
      numbered = λ y. omega arith;
      answered = λ y. omega (arith, many_without (is_call_to y b) a b s.queue w);
      fewer = λ x y. omega (arith, many_without (is_call_to x y) a b s.queue w);
    }

-- an event's node sends from itself
pub sent_by_node : (s : State) (e : Event) → none_waits s.queue e ≡ false → From (actor e) (reaction_to s e).outgoing
sent_by_node s e c = (event_within s e c).from

-- ── what is sent, by calls and replies ──
split : (t u : Bool) → one u ≡ one (t && u) + one (not t && u)
split true true = refl
split true false = refl
split false true = refl
split false false = refl

sent_split : (i : ℕ) (o : Option Message) (b : ℕ) → From i o → how_many (goes i b) (sent o) ≡ call_to b o + reply_to b o
unfolding how_many
sent_split i None b f = refl
sent_split i (Some m) b f = rw (eq-eqb m.sender i f) (omega (arith, split (ltb m.kind 6) (eqb m.receiver b)))

calls_split : (i : ℕ) (o : Option Message) (b : ℕ) → From i o → how_many (is_call_to i b) (sent o) ≡ call_to b o
unfolding how_many
calls_split i None b f = refl
calls_split i (Some m) b f = rw (eq-eqb m.sender i f) (omega arith)

none_from : (i : ℕ) (o : Option Message) (j b : ℕ) → From i o → (j ≡ i → ⊥) → how_many (goes j b) (sent o) ≡ 0
unfolding how_many
none_from i None j b f d = refl
none_from i (Some m) j b f d = rw (ne_eqb m.sender j (λ e. d (sym e ∙ f))) refl

no_call_from : (i : ℕ) (o : Option Message) (j b : ℕ) → From i o → (j ≡ i → ⊥) → how_many (is_call_to j b) (sent o) ≡ 0
unfolding how_many
no_call_from i None j b f d = refl
no_call_from i (Some m) j b f d = rw (ne_eqb m.sender j (λ e. d (sym e ∙ f))) (never (ltb m.kind 6))
  where
    never : (t : Bool) → one (t && false) + 0 ≡ 0
    never true = refl
    never false = refl

-- ── the invariant ──

-- What was sent from a to b, the answer that a owes b and the calls from b that wait for it are together no more than the two last call numbers: a message from a to
-- b is a call of a's or the answer to a call of b's, and no call is answered twice.
abbrev pub PairWithin : State → ℕ → ℕ → Type 0
PairWithin s a b = count_at s.sent a b + due b (node_at s a).activity + how_many (is_call_to b a) s.queue ≤ (node_at s a).last.number + (node_at s b).last.number

-- of all pairs of nodes
abbrev pub SentWithin : State → Type 0
SentWithin s = (a b : ℕ) → 1 ≤ a → a ≤ s.n → 1 ≤ b → b ≤ s.n → PairWithin s a b

module _ (s : State) (e : Event) (c : Clear s e) where
  x : EventWithin s e
  x = event_within s e c.waiting

  inside : EventIn s e
  inside = event_in s e c

  -- the record that is stored, and the others
  here : node_at (effect s e) (actor e) ≡ (reaction_to s e).node
  here = own_record s e c

  there : (j : ℕ) → 1 ≤ j → (j ≡ actor e → ⊥) → node_at (effect s e) j ≡ node_at s j
  there = other_record s e c

  -- a call takes a new number
  grows : (j b : ℕ) → 1 ≤ j → (node_at s j).last.number + how_many (is_call_to j b) (sent (reaction_to s e).outgoing) ≤ (node_at (effect s e) j).last.number
  grows j b l = by_node (eqb j (actor e)) refl
    where
      by_node : (t : Bool) → eqb j (actor e) ≡ t → (node_at s j).last.number + how_many (is_call_to j b) (sent (reaction_to s e).outgoing) ≤ (node_at (effect s e) j).last.number
      by_node true q =
          rw (eqb-true j (actor e) q, here) (omega (arith, x.numbered b, calls_split (actor e) (reaction_to s e).outgoing b x.from))
      by_node false q =
          let d = eqb-false j (actor e) q in
          rw (there j l d) (omega (arith, no_call_from (actor e) (reaction_to s e).outgoing j b x.from d))

  -- a message is a call, or the answer to one
  within : (j b : ℕ) → 1 ≤ j → how_many (goes j b) (sent (reaction_to s e).outgoing) + due b (node_at (effect s e) j).activity + how_many (is_call_to b j) (remaining s e)
      ≤ due b (node_at s j).activity + how_many (is_call_to b j) s.queue + how_many (is_call_to j b) (sent (reaction_to s e).outgoing)
  within j b l = by_node (eqb j (actor e)) refl
    where
      by_node : (t : Bool) → eqb j (actor e) ≡ t → how_many (goes j b) (sent (reaction_to s e).outgoing) + due b (node_at (effect s e) j).activity + how_many (is_call_to b j) (remaining s e)
          ≤ due b (node_at s j).activity + how_many (is_call_to b j) s.queue + how_many (is_call_to j b) (sent (reaction_to s e).outgoing)
      by_node true q =
          rw (eqb-true j (actor e) q, here)
          (omega (arith, x.answered b, sent_split (actor e) (reaction_to s e).outgoing b x.from, calls_split (actor e) (reaction_to s e).outgoing b x.from))
      by_node false q =
          let d = eqb-false j (actor e) q in
          rw (there j l d)
          (omega (arith, x.fewer b j, none_from (actor e) (reaction_to s e).outgoing j b x.from d))

  counting : (a b : ℕ) → 1 ≤ a → a ≤ s.n → 1 ≤ b → b ≤ s.n → Counting a b
  counting a b l h m k =
      let n = (in_range_size s c.in_range_lem).1 in
      record { low = l; high = omega (arith, n, h); low_to = m; high_to = omega (arith, n, k) }

  pub effect_within : SentWithin s → SentWithin (effect s e)
  unfolding effect
  effect_within w a b l h m k =
      omega (arith, w a b l h m k, (event_counted s e c a b (counting a b l h m k)).sent, many_append (is_call_to b a) (remaining s e) (sent (reaction_to s e).outgoing), within a b l, grows a b l, grows b a m)

  -- there is room for one more in the pair of what is sent
  below : (o : Option Message) → From (actor e) o → OutgoingIn s.n o → is_calling o && eqb (node_at s (actor e)).last.number call_end ≡ false
      → ((b : ℕ) → reply_to b o ≤ due b (node_at s (actor e)).activity + how_many (is_call_to b (actor e)) s.queue) → SentWithin s → pair_at_end s.sent o ≡ true → ⊥
  below None f i r p w t = true≢false (sym t)
  below (Some m) f i r p w t = by_kind (ltb m.kind 6) refl
    where
      b : ℕ
      b = m.receiver

      -- the receiver is a node
      low : 1 ≤ b
      low = (message_facts s.n m i).receiver.low

      high : b ≤ s.n
      high = (message_facts s.n m i).receiver.high

      last_bound : (j : ℕ) → 1 ≤ j → j ≤ s.n → (node_at s j).last.number ≤ call_end
      last_bound j l h = (node_facts s.n j (node_at s j) (in_range_node s j c.in_range_lem l h)).last

      full : count_at s.sent (actor e) b ≡ traffic_end
      full = rw f at (eqb-true (count_at s.sent m.sender b) traffic_end t)

      by_kind : (k : Bool) → ltb m.kind 6 ≡ k → ⊥
      by_kind true q =
          let d = eqb-false (node_at s (actor e)).last.number call_end (rw q at r) in
          omega (arith, full, w (actor e) b inside.place.low inside.place.high low high, last_bound (actor e) inside.place.low inside.place.high, last_bound b low high)
      by_kind false q =
          let a : 1 ≤ due b (node_at s (actor e)).activity + how_many (is_call_to b (actor e)) s.queue = rw (q, eq-eqb b b refl) at (p b) in
          omega (arith, full, a, w (actor e) b inside.place.low inside.place.high low high, last_bound (actor e) inside.place.low inside.place.high, last_bound b low high)

  pub pair_below : SentWithin s → pair_at_end s.sent (reaction_to s e).outgoing ≡ true → ⊥
  pair_below w = below (reaction_to s e).outgoing x.from inside.reaction.outgoing c.calls (λ b. omega (arith, x.answered b)) w

pub within_not_seventeen : (s : State) (e : Event) → SentWithin s → step s e ≡ refused 17 → ⊥
unfolding grounds pick
within_not_seventeen s e w q = pair_below s e (ended_clear s e q) w (met s e 17 refl q)

-- ── runs ──
pub run_within : (s : State) (es : List Event) → SentWithin s → SentWithin (run_from s es)
unfolding run_from
run_within s [] w = w
run_within s (e ∷ es) w = run_within (after s e) es (by_step (λ r. SentWithin (kept s r)) s e (λ _. w) (λ c _. effect_within s e c w))

pub start_within : (rule : PairRule) (n : ℕ) (lim : Limits) → n ≤ 16 → SentWithin (start_by rule n lim)
unfolding how_many
start_within rule n lim small a b l h m k =
    rw (none_counted a b (record { low = l; high = omega arith; low_to = m; high_to = omega arith }), get_or-replicate n (a - 1) starting_node starting_node (omega arith)) (omega arith)

-- every table of a run has as many nodes
pub run_n : (s : State) (es : List Event) → (run_from s es).n ≡ s.n
unfolding run_from effect
run_n s [] = refl
run_n s (e ∷ es) = run_n (after s e) es ∙ by_step (λ r. (kept s r).n ≡ s.n) s e (λ _. refl) (λ c _. refl)

-- and the limits that it started with (T-08)
pub run_limits : (s : State) (es : List Event) → (run_from s es).limits ≡ s.limits
unfolding run_from effect
run_limits s [] = refl
run_limits s (e ∷ es) = run_limits (after s e) es ∙ by_step (λ r. (kept s r).limits ≡ s.limits) s e (λ _. refl) (λ c _. refl)

-- the three counts of a pair in a run, for any n
module _ (rule : PairRule) (n : ℕ) (lim : Limits) (es : List Event) (a b : ℕ) (p : Counting a b) where
  pub sent_in_lem : count_at (run_by rule n lim es).sent a b ≡ sent_in rule n lim es a b
  sent_in_lem = omega (arith, none_counted a b p, tally_is (λ s. s.sent) (sends a b) a b (λ s e c. (event_counted s e c a b p).sent) (start_by rule n lim) es)

  pub delivered_in_lem : count_at (run_by rule n lim es).delivered a b ≡ delivered_in rule n lim es a b
  delivered_in_lem = omega (arith, none_counted a b p, tally_is (λ s. s.delivered) (delivers a b) a b (λ s e c. (event_counted s e c a b p).delivered) (start_by rule n lim) es)

  pub lost_in_lem : count_at (run_by rule n lim es).lost a b ≡ lost_in rule n lim es a b
  lost_in_lem = omega (arith, none_counted a b p, tally_is (λ s. s.lost) (loses a b) a b (λ s e c. (event_counted s e c a b p).lost) (start_by rule n lim) es)

pub traffic_agrees : (rule : PairRule) (n : ℕ) (lim : Limits) → MayStart rule n lim → TrafficAgrees rule n lim
traffic_agrees rule n lim s =
    record {
      sent_counted = λ es a b l h m k. sent_in_lem rule n lim es a b (at a b l h m k);
      delivered_counted = λ es a b l h m k. delivered_in_lem rule n lim es a b (at a b l h m k);
      lost_counted = λ es a b l h m k. lost_in_lem rule n lim es a b (at a b l h m k);
      sent_total = λ es. omega (arith, none_total 256, total_is (λ s. s.sent) sends_any (λ s e c. (event_totalled s e c).sent) (start_by rule n lim) es);
      delivered_total = λ es. omega (arith, none_total 256, total_is (λ s. s.delivered) delivers_any (λ s e c. (event_totalled s e c).delivered) (start_by rule n lim) es);
      lost_total = λ es. omega (arith, none_total 256, total_is (λ s. s.lost) loses_any (λ s e c. (event_totalled s e c).lost) (start_by rule n lim) es);
      adds_up = λ es a b l h m k.
          let q = run_n (start_by rule n lim) es in
          in_range_sum (run_by rule n lim es) a b (run_in (start_by rule n lim) es (start_in rule n lim s)) l (omega (arith, h, q)) m (omega (arith, k, q));
      never_seventeen = λ es e. within_not_seventeen (run_by rule n lim es) e (run_within (start_by rule n lim) es (start_within rule n lim small));
    }
  where
    small : n ≤ 16
    small = start_small n lim s

    at : (a b : ℕ) → 1 ≤ a → a ≤ 16 → 1 ≤ b → b ≤ 16 → Counting a b
    at a b l h m k = record { low = l; high = h; low_to = m; high_to = k }

-- ── every table in range, and every accepted event ──
module _ (s : State) (r : in_range s ≡ true) (a b : ℕ) (p : Counting a b) where
  facts : (l : List ℕ) → length l ≡ 256 → every (count_in_range s.n) 0 l ≡ true → CountFacts s.n (0 + pair_place a b) (count_at l a b)
  facts l h e = count_facts s.n _ _ (every_at (count_in_range s.n) 0 l (pair_place a b) 0 e (omega (arith, h, p.low, p.high, p.low_to, p.high_to)))

  no_pair : (l : List ℕ) → length l ≡ 256 → every (count_in_range s.n) 0 l ≡ true → is_pair s.n a b ≡ false → count_at l a b ≡ 0
  no_pair l h e q =
      let i : sender_at (0 + pair_place a b) ≡ a = omega (arith, p.low, p.low_to, p.high_to) in
      let j : receiver_at (0 + pair_place a b) ≡ b = omega (arith, p.low, p.low_to, p.high_to) in
      (facts l h e).none (rw (i, j) q)

pub traffic_rules : TrafficRules
traffic_rules =
    record {
      place_row = λ a b l h m k. (omega arith, omega arith);
      row_place = λ k. omega arith;
      bounded = λ s r a b l h m k.
          let p = at a b l h m k in
          let z = in_range_places s r in
          let e = in_range_each s r in
          ((facts s r a b p s.sent z.0 e.0).bounded, (facts s r a b p s.delivered z.1 e.1).bounded, (facts s r a b p s.lost z.2 e.2).bounded);
      no_pair = λ s r a b l h m k q.
          let p = at a b l h m k in
          let z = in_range_places s r in
          let e = in_range_each s r in
          (no_pair s r a b p s.sent z.0 e.0 q, no_pair s r a b p s.delivered z.1 e.1 q, no_pair s r a b p s.lost z.2 e.2 q);
      sums = λ s r a b l h m k. in_range_sum s a b r l h m k;
      sent_more = λ s e u c q a b l h m k. let x = accepted_is s e u c q in ap (λ (v : State). count_at v.sent a b) x.state ∙ (event_counted s e x.clear a b (at a b l h m k)).sent;
      delivered_more = λ s e u c q a b l h m k. let x = accepted_is s e u c q in ap (λ (v : State). count_at v.delivered a b) x.state ∙ (event_counted s e x.clear a b (at a b l h m k)).delivered;
      lost_more = λ s e u c q a b l h m k. let x = accepted_is s e u c q in ap (λ (v : State). count_at v.lost a b) x.state ∙ (event_counted s e x.clear a b (at a b l h m k)).lost;
    }
  where
    at : (a b : ℕ) → 1 ≤ a → a ≤ 16 → 1 ≤ b → b ≤ 16 → Counting a b
    at a b l h m k = record { low = l; high = h; low_to = m; high_to = k }
