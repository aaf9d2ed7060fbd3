-- A turn: its refusals, what it does, and that at a pair with a waiting message it takes one out.
use Prim.Native.Nat.{ℕ, ◌<◌}
use native.Mathlib.Omega.{arith}
use mathlib.Core.Bool.{Bool, true, false, not, ◌&&◌, true≢false, and-false}
use mathlib.Core.Logic.{◌⊎◌, inl, inr}
use mathlib.Core.Path.{◌≡◌, refl, sym, ◌∙◌, ap, subst}
use mathlib.Core.List.{List, [], ◌∷◌, ◌++◌, append-nil}
use lib.Dec.{eqb}
use lib.ListN.{length, get_or, drop}
use lib.Seq.{set-get_or}
use borrow.Author.Tests.{eqb-true, eqb-false, eq-eqb, ne_eqb, not-false}
use Rattle.model.specs.Pick.{pick, by_test}
use Rattle.model.specs.Limits.{counter_end, call_end}
use Rattle.model.specs.Counts.{one, one_more}
use Rattle.model.specs.Grounds.{judged}
use Rattle.model.specs.Node.{is_down}
use Rattle.model.specs.State.{State, starting_node, node_at, no_message, waits, oldest, without_oldest, in_range}
use Rattle.model.specs.Step.{reaction_to, remaining, sent, effect, forms, is_calling, is_sending, pair_at_end, grounds, Result, refused, accepted, step, kept, run_from}
use Rattle.model.specs.Traffic.{tally}
use Rattle.model.specs.Claims.{Accepts}
use Rattle.model.proofs.Judged.{Clear, clear_accepts, accepted_apart, accepted_is, passed}
use Rattle.model.proofs.Judged as step_judged
use Rattle.model.proofs.Fields.{in_range_own}
use Rattle.model.proofs.InRange.{without_length}
use Rattle.model.proofs.Due.{From}
use Rattle.model.proofs.Traffic.{sent_by_node}
use Rattle.model.proofs.Refusals.{clear_ends}
use Rattle.model.specs.declared.Node.{Node}
use Rattle.model.specs.declared.Message.{Message}
use Rattle.std.specs.Prelude.{Option, None, Some}
use Rattle.model.specs.declared.Mark.{Mark}
use Rattle.model.specs.declared.Mark.TheVariants.{Plain}
use Rattle.model.specs.declared.Event.{Event}
use Rattle.model.specs.declared.Event.TheVariants.{Deliver, Lose}
use Rattle.round.specs.Order.{pair, is_in_round, next_pair}
use Rattle.round.specs.Turn.{meets_end, turn_does, event_of, Turn, turn_refused, turn_accepted, turn_grounds, looked_at, turn_at, turn_number, table_after, done_in}
use Rattle.round.specs.Schedule.{pair_queue, out_of}
use Rattle.round.specs.Claims.{AtPair, with_loss, TurnRules}
use Rattle.round.specs.declared.Place.{Place}
use Rattle.round.specs.declared.Done.{Done}
use Rattle.round.specs.declared.Done.TheVariants.{Nothing, Delivered, Lost}
use Rattle.round.proofs.Order.{IsPair, pair_is}
use Rattle.round.proofs.PairQueues.{waits_positive, queue_append, queue_size, queue_first, queue_without}

-- ── refusals, and n = 1 ──
not_in_range : (s : State) (p : Place) → in_range s ≡ false → turn_at s p ≡ turn_refused 1
unfolding turn_at turn_grounds judged pick
not_in_range s p h = rw h

alone : (s : State) (p : Place) → in_range s ≡ true → s.n ≡ 1 → turn_at s p ≡ turn_accepted s p Nothing
unfolding turn_at turn_grounds looked_at judged pick
alone s p h e = rw (h, eq-eqb s.n 1 e)

no_pair : (s : State) (p : Place) → in_range s ≡ true → (s.n ≡ 1 → ⊥) → is_in_round s.n p ≡ false → turn_at s p ≡ turn_refused 7
unfolding turn_at turn_grounds judged pick
no_pair s p h e q = rw (h, ne_eqb s.n 1 e, q)

-- no other number
refused_same : {a b : ℕ} → turn_refused a ≡ turn_refused b → a ≡ b
refused_same q = cc

pub turn_apart : {u : State} {q : Place} {d : Done} {r : ℕ} → turn_accepted u q d ≡ turn_refused r → ⊥
turn_apart e = let z : ◌≡◌ {A = ℕ} 0 1 = cc in omega arith

numbers : (s : State) (p : Place) (r : ℕ) → turn_at s p ≡ turn_refused r → (r ≡ 1) ⊎ (r ≡ 7)
unfolding turn_at turn_grounds looked_at judged
numbers s p r =
    by_test P (λ _ q. inl (sym (refused_same q))) (λ _. by_test P (λ _ q. inr (sym (refused_same q))) (λ _. by_test P (λ _ q. absurd (turn_apart q)) (λ _ q. absurd (turn_apart q))))
  where
    P : Turn → Type 0
    P t = t ≡ turn_refused r → (r ≡ 1) ⊎ (r ≡ 7)

-- a turn at a pair of the round
pub turn_is : (s : State) (p : Place) → AtPair s p → turn_at s p ≡ turn_accepted (run_from s (event_of p (turn_does s p))) (next_pair s.n p) (turn_does s p)
unfolding turn_at turn_grounds looked_at judged pick
turn_is s p x = rw (x.in_range_lem, ne_eqb s.n 1 (λ e. single e (pair_is s.n p x.in_round)), x.in_round)
  where
    single : s.n ≡ 1 → IsPair s.n p → ⊥
    single e y = y.other (omega (arith, e, y.sender_low, y.sender_high, y.receiver_low, y.receiver_high))

-- which does d
turn_does_lem : (s : State) (p : Place) (d : Done) → AtPair s p → turn_does s p ≡ d → turn_at s p ≡ turn_accepted (run_from s (event_of p d)) (next_pair s.n p) d
turn_does_lem s p d x e = turn_is s p x ∙ ap (λ (d : Done). turn_accepted (run_from s (event_of p d)) (next_pair s.n p) d) e

pub same_two : (a b : ℕ) → eqb a a && eqb b b ≡ true
same_two a b = rw (eq-eqb a a refl, eq-eqb b b refl)

-- ── a message waits ──
module _ (s : State) (a b : ℕ) (x : AtPair s (pair a b)) (w : waits a b s.queue ≡ true) where
  lose_clear : Clear s (Lose a b)
  unfolding reaction_to
  lose_clear =
      record {
        in_range_lem = x.in_range_lem;
        number = ap not x.in_round;
        task = refl;
        status = refl;
        activity = refl;
        coordinator = refl;
        majority = refl;
        waiting = ap not w;
        counter = refl;
        calls = refl;
        room = refl;
      }

  -- a loss is accepted, and leaves all else as it was
  loss_is : effect s (Lose a b) ≡ with_loss s a b
  unfolding effect reaction_to remaining
  loss_is =
      ap
      (λ (l : List Node). record {
        rule = s.rule;
        n = s.n;
        limits = s.limits;
        nodes = l;
        queue = (effect s (Lose a b)).queue;
        sent = s.sent;
        delivered = s.delivered;
        lost = one_more s.lost a b;
      })
      (set-get_or s.nodes _ starting_node)
      ∙ ap
      (λ (q : List Message). record {
        rule = s.rule;
        n = s.n;
        limits = s.limits;
        nodes = s.nodes;
        queue = q;
        sent = s.sent;
        delivered = s.delivered;
        lost = one_more s.lost a b;
      })
      (append-nil (without_oldest a b s.queue))

  pub lose_accepted : step s (Lose a b) ≡ accepted (with_loss s a b) Plain
  unfolding reaction_to
  lose_accepted = clear_accepts s (Lose a b) lose_clear refl ∙ ap (λ (u : State). accepted u Plain) loss_is

  lost_table : run_from s (Lose a b ∷ []) ≡ with_loss s a b
  unfolding run_from
  lost_table = ap (kept s) lose_accepted

  module _ (up : is_down (node_at s b).status ≡ false) where
    room : is_sending (reaction_to s (Deliver a b)).outgoing && eqb (length (remaining s (Deliver a b))) s.limits.messages ≡ false
    unfolding remaining
    room =
        ap (λ (t : Bool). is_sending (reaction_to s (Deliver a b)).outgoing && t)
        (ne_eqb (length (without_oldest a b s.queue)) s.limits.messages (λ e. omega (arith, e, without_length a b s.queue w, (in_range_own s x.in_range_lem).1)))
        ∙ and-false (is_sending (reaction_to s (Deliver a b)).outgoing)

    -- what a delivery to a node that is not Down meets
    data Delivery : Type 0 where
      twelve : step s (Deliver a b) ≡ refused 12 → Delivery
      thirteen : step s (Deliver a b) ≡ refused 13 → Delivery
      seventeen : step s (Deliver a b) ≡ refused 17 → Delivery
      passes : step s (Deliver a b) ≡ accepted (effect s (Deliver a b)) (reaction_to s (Deliver a b)).mark → Delivery

    at_twelve : forms (reaction_to s (Deliver a b)).mark && eqb (node_at s b).counter counter_end ≡ true → step s (Deliver a b) ≡ refused 12
    unfolding step grounds judged pick
    at_twelve e = rw (x.in_range_lem, x.in_round, up, w, e)

    at_thirteen : forms (reaction_to s (Deliver a b)).mark && eqb (node_at s b).counter counter_end ≡ false
        → is_calling (reaction_to s (Deliver a b)).outgoing && eqb (node_at s b).last.number call_end ≡ true → step s (Deliver a b) ≡ refused 13
    unfolding step grounds judged pick
    at_thirteen d e = rw (x.in_range_lem, x.in_round, up, w, d, e)

    deliver_clear : forms (reaction_to s (Deliver a b)).mark && eqb (node_at s b).counter counter_end ≡ false
        → is_calling (reaction_to s (Deliver a b)).outgoing && eqb (node_at s b).last.number call_end ≡ false → Clear s (Deliver a b)
    deliver_clear d e =
        record {
          in_range_lem = x.in_range_lem;
          number = ap not x.in_round;
          task = refl;
          status = up;
          activity = refl;
          coordinator = refl;
          majority = refl;
          waiting = ap not w;
          counter = d;
          calls = e;
          room = room;
        }

    delivery : Delivery
    delivery =
        by (forms (reaction_to s (Deliver a b)).mark && eqb (node_at s b).counter counter_end) (is_calling (reaction_to s (Deliver a b)).outgoing && eqb (node_at s b).last.number call_end)
        (pair_at_end s.sent (reaction_to s (Deliver a b)).outgoing) refl refl refl
      where
        by : (i j k : Bool) → forms (reaction_to s (Deliver a b)).mark && eqb (node_at s b).counter counter_end ≡ i
            → is_calling (reaction_to s (Deliver a b)).outgoing && eqb (node_at s b).last.number call_end ≡ j → pair_at_end s.sent (reaction_to s (Deliver a b)).outgoing ≡ k → Delivery
        by true j k d e f = twelve (at_twelve d)
        by false true k d e f = thirteen (at_thirteen d e)
        by false false true d e f = seventeen (clear_ends s (Deliver a b) (deliver_clear d e) f)
        by false false false d e f = passes (clear_accepts s (Deliver a b) (deliver_clear d e) f)

    -- so it meets no other ground
    no_other : (r : ℕ) → step s (Deliver a b) ≡ refused r → (r ≡ 12) ⊎ ((r ≡ 13) ⊎ (r ≡ 17))
    no_other r q = by delivery
      where
        by : Delivery → (r ≡ 12) ⊎ ((r ≡ 13) ⊎ (r ≡ 17))
        by (twelve e) = inl (step_judged.refused_same (sym q ∙ e))
        by (thirteen e) = inr (inl (step_judged.refused_same (sym q ∙ e)))
        by (seventeen e) = inr (inr (step_judged.refused_same (sym q ∙ e)))
        by (passes e) = absurd (accepted_apart (sym e ∙ q))

    -- and where it meets none of the three, it is accepted
    delivered_accepted : meets_end (step s (Deliver a b)) ≡ false → step s (Deliver a b) ≡ accepted (effect s (Deliver a b)) (reaction_to s (Deliver a b)).mark
    delivered_accepted h = by delivery
      where
        by : Delivery → step s (Deliver a b) ≡ accepted (effect s (Deliver a b)) (reaction_to s (Deliver a b)).mark
        by (twelve e) = absurd (true≢false (sym (ap meets_end e) ∙ h))
        by (thirteen e) = absurd (true≢false (sym (ap meets_end e) ∙ h))
        by (seventeen e) = absurd (true≢false (sym (ap meets_end e) ∙ h))
        by (passes e) = e

  -- one goes out
  one_same : one (eqb a a && eqb b b) ≡ 1
  one_same = ap one (same_two a b)

  lose_takes : out_of a b s (Lose a b ∷ []) ≡ 1
  unfolding tally
  lose_takes = rw lose_accepted (omega (arith, one_same))

  deliver_takes : is_down (node_at s b).status ≡ false → meets_end (step s (Deliver a b)) ≡ false → out_of a b s (Deliver a b ∷ []) ≡ 1
  unfolding tally
  deliver_takes u h = rw (delivered_accepted u h) (omega (arith, one_same))

  does_take : out_of a b s (event_of (pair a b) (turn_does s (pair a b))) ≡ 1
  unfolding turn_does
  does_take =
      by_test P (λ e. absurd (true≢false (sym e ∙ ap not w)))
      (λ _. by_test P (λ _. lose_takes) (λ u. by_test P (λ _. lose_takes) (λ e. deliver_takes u e)))
    where
      P : Done → Type 0
      P d = out_of a b s (event_of (pair a b) d) ≡ 1

pub takes_one : (s : State) (p : Place) → AtPair s p → waits p.sender p.receiver s.queue ≡ true
    → out_of p.sender p.receiver s (event_of p (done_in (turn_at s p))) ≡ 1
takes_one s p x w = ap (λ (t : Turn). out_of p.sender p.receiver s (event_of p (done_in t))) (turn_is s p x) ∙ does_take s p.sender p.receiver x w

-- ── what a turn does, case by case ──
module _ (s : State) (a b : ℕ) where
  does_nothing : waits a b s.queue ≡ false → turn_does s (pair a b) ≡ Nothing
  unfolding turn_does pick
  does_nothing w = rw w

  does_lose : waits a b s.queue ≡ true → is_down (node_at s b).status ≡ true → turn_does s (pair a b) ≡ Lost
  unfolding turn_does pick
  does_lose w d = rw (w, d)

  does_deliver : waits a b s.queue ≡ true → is_down (node_at s b).status ≡ false → (r : Result) → step s (Deliver a b) ≡ r → meets_end r ≡ false → turn_does s (pair a b) ≡ Delivered
  unfolding turn_does pick
  does_deliver w d r q e = rw (w, d, q, e)

  does_become : waits a b s.queue ≡ true → (r : Result) → step s (Deliver a b) ≡ r → meets_end r ≡ true → turn_does s (pair a b) ≡ Lost
  unfolding turn_does
  does_become w r q e =
      by_test P (λ n. absurd (true≢false (sym n ∙ ap not w))) (λ _. by_test P (λ _. refl) (λ _. by_test P (λ _. refl) (λ n. absurd (true≢false (sym (ap meets_end q ∙ e) ∙ n)))))
    where
      P : Done → Type 0
      P d = d ≡ Lost

  -- a delivery that meets 12, 13 or 17 has a message to deliver
  ends_wait : (r : ℕ) → (r ≡ 12) ⊎ ((r ≡ 13) ⊎ (r ≡ 17)) → step s (Deliver a b) ≡ refused r → (waits a b s.queue ≡ true) × (meets_end (refused r) ≡ true)
  unfolding grounds pick
  ends_wait r (inl e) q = (not-false _ (passed s (Deliver a b) 11 12 refl (q ∙ ap refused e)), rw e)
  ends_wait r (inr (inl e)) q = (not-false _ (passed s (Deliver a b) 11 13 refl (q ∙ ap refused e)), rw e)
  ends_wait r (inr (inr e)) q = (not-false _ (passed s (Deliver a b) 11 17 refl (q ∙ ap refused e)), rw e)

  module _ (x : AtPair s (pair a b)) where
    lost_turn : waits a b s.queue ≡ true → turn_does s (pair a b) ≡ Lost → turn_at s (pair a b) ≡ turn_accepted (with_loss s a b) (next_pair s.n (pair a b)) Lost
    lost_turn w d = turn_does_lem s (pair a b) Lost x d ∙ ap (λ (u : State). turn_accepted u (next_pair s.n (pair a b)) Lost) (lost_table s a b x w)

    no_message_lem : waits a b s.queue ≡ false → turn_at s (pair a b) ≡ turn_accepted s (next_pair s.n (pair a b)) Nothing
    unfolding run_from
    no_message_lem w = turn_does_lem s (pair a b) Nothing x (does_nothing w)

    delivers : (u : State) (k : Mark) → step s (Deliver a b) ≡ accepted u k → turn_at s (pair a b) ≡ turn_accepted u (next_pair s.n (pair a b)) Delivered
    unfolding run_from
    delivers u k q =
        let c = (accepted_is s (Deliver a b) u k q).clear in
        turn_does_lem s (pair a b) Delivered x (does_deliver (not-false _ c.waiting) c.status (accepted u k) q refl)
        ∙ ap (λ (r : Result). turn_accepted (kept s r) (next_pair s.n (pair a b)) Delivered) q

    becomes_loss : (r : ℕ) → (r ≡ 12) ⊎ ((r ≡ 13) ⊎ (r ≡ 17)) → step s (Deliver a b) ≡ refused r → turn_at s (pair a b) ≡ turn_accepted (with_loss s a b) (next_pair s.n (pair a b)) Lost
    becomes_loss r e q = let y = ends_wait r e q in lost_turn y.0 (does_become y.0 (refused r) q y.1)

-- ── every turn does nothing, or an event that is accepted ──
pub data Does (s : State) (p : Place) : Type 0 where
  idles : done_in (turn_at s p) ≡ Nothing → Does s p
  loses : AtPair s p → waits p.sender p.receiver s.queue ≡ true → turn_at s p ≡ turn_accepted (with_loss s p.sender p.receiver) (next_pair s.n p) Lost → Does s p
  passes_on : (u : State) (k : Mark) → step s (Deliver p.sender p.receiver) ≡ accepted u k → turn_at s p ≡ turn_accepted u (next_pair s.n p) Delivered → Does s p

pub turn_cases : (s : State) (p : Place) → Does s p
turn_cases s p = by_range (in_range s) refl
  where
    by_waiting : AtPair s p → (w d : Bool) → waits p.sender p.receiver s.queue ≡ w → is_down (node_at s p.receiver).status ≡ d → Does s p
    by_waiting x false d w h = idles (ap done_in (no_message_lem s p.sender p.receiver x w))
    by_waiting x true true w h = loses x w (lost_turn s p.sender p.receiver x w (does_lose s p.sender p.receiver w h))
    by_waiting x true false w h = by_delivery (delivery s p.sender p.receiver x w h)
      where
        by_delivery : Delivery s p.sender p.receiver x w h → Does s p
        by_delivery (twelve q) = loses x w (becomes_loss s p.sender p.receiver x 12 (inl refl) q)
        by_delivery (thirteen q) = loses x w (becomes_loss s p.sender p.receiver x 13 (inr (inl refl)) q)
        by_delivery (seventeen q) = loses x w (becomes_loss s p.sender p.receiver x 17 (inr (inr refl)) q)
        by_delivery (passes q) = passes_on _ _ q (delivers s p.sender p.receiver x _ _ q)

    by_pair : in_range s ≡ true → (m i : Bool) → eqb s.n 1 ≡ m → is_in_round s.n p ≡ i → Does s p
    by_pair r true i e f = idles (ap done_in (alone s p r (eqb-true s.n 1 e)))
    by_pair r false false e f = idles (ap done_in (no_pair s p r (eqb-false s.n 1 e) f))
    by_pair r false true e f = by_waiting (record { in_range_lem = r; in_round = f }) _ _ refl refl

    by_range : (r : Bool) → in_range s ≡ r → Does s p
    by_range false r = idles (ap done_in (not_in_range s p r))
    by_range true r = by_pair r _ _ refl refl

none_apart : {e : Event} → [] ≡ e ∷ [] → ⊥
none_apart z = let y : ◌≡◌ {A = ℕ} 0 1 = ap length z in omega (arith, y)

-- a turn that is an event is accepted
pub event_accepted : (x : Turn) (p : Place) (e : Event) → event_of p (done_in x) ≡ e ∷ [] → turn_number x ≡ 0
event_accepted (turn_refused r) p e q = absurd (none_apart q)
event_accepted (turn_accepted u v d) p e q = refl

accepts : (s : State) (p : Place) (e : Event) → event_of p (done_in (turn_at s p)) ≡ e ∷ [] → Accepts s e
accepts s p e q = by (turn_cases s p)
  where
    first_same : {f : Event} → f ∷ [] ≡ e ∷ [] → f ≡ e
    first_same z = cc

    by : Does s p → Accepts s e
    by (idles d) = absurd (none_apart (sym (ap (event_of p) d) ∙ q))
    by (loses x w d) =
        subst (Accepts s) (first_same (sym (ap (λ (t : Turn). event_of p (done_in t)) d) ∙ q)) (record { state = with_loss s p.sender p.receiver; mark = Plain; is = lose_accepted s p.sender p.receiver x w })
    by (passes_on u k y d) = subst (Accepts s) (first_same (sym (ap (λ (t : Turn). event_of p (done_in t)) d) ∙ q)) (record { state = u; mark = k; is = y })

-- ── the oldest goes, and the others of the pair stay ──
whole_queue : (q : List Message) (a b : ℕ) → waits a b q ≡ true → pair_queue q a b ≡ oldest a b q ∷ drop 1 (pair_queue q a b)
whole_queue q a b w = by (pair_queue q a b) (queue_first a b q) some
  where
    some : 0 < length (pair_queue q a b)
    some = omega (arith, queue_size a b q, waits_positive a b q w)

    by : (l : List Message) → get_or l 0 no_message ≡ oldest a b q → 0 < length l → l ≡ oldest a b q ∷ drop 1 l
    by [] e h = absurd (omega (arith, h))
    by (m ∷ l) e h = ap (λ (x : Message). x ∷ l) e

-- what node b sends does not go from another
sent_elsewhere : (a b : ℕ) (o : Option Message) → (b ≡ a → ⊥) → From b o → pair_queue (sent o) a b ≡ []
unfolding pair_queue pick
sent_elsewhere a b None d f = refl
sent_elsewhere a b (Some m) d f = rw (ne_eqb m.sender a (λ e. d (sym f ∙ e)))

delivered_queue : (s : State) (a b : ℕ) (u : State) (k : Mark) → AtPair s (pair a b) → step s (Deliver a b) ≡ accepted u k → pair_queue u.queue a b ≡ drop 1 (pair_queue s.queue a b)
unfolding effect remaining
delivered_queue s a b u k x q =
    let c = accepted_is s (Deliver a b) u k q in
    ap (λ (v : State). pair_queue v.queue a b) c.state
    ∙ queue_append a b (without_oldest a b s.queue) (sent (reaction_to s (Deliver a b)).outgoing)
    ∙ ap (λ (l : List Message). pair_queue (without_oldest a b s.queue) a b ++ l)
    (sent_elsewhere a b (reaction_to s (Deliver a b)).outgoing (pair_is s.n (pair a b) x.in_round).other (sent_by_node s (Deliver a b) c.clear.waiting))
    ∙ append-nil (pair_queue (without_oldest a b s.queue) a b)
    ∙ queue_without a b s.queue

-- a turn at a pair with a waiting message does something
pub does_something : (s : State) (p : Place) → AtPair s p → waits p.sender p.receiver s.queue ≡ true → done_in (turn_at s p) ≡ Nothing → ⊥
unfolding tally
does_something s p x w d = omega (arith, takes_one s p x w, ap (λ (d : Done). out_of p.sender p.receiver s (event_of p d)) d)

takes_oldest : (s : State) (a b : ℕ) → AtPair s (pair a b) → waits a b s.queue ≡ true
    → pair_queue s.queue a b ≡ oldest a b s.queue ∷ pair_queue (table_after s (turn_at s (pair a b))).queue a b
takes_oldest s a b x w = whole_queue s.queue a b w ∙ ap (λ (l : List Message). oldest a b s.queue ∷ l) (sym (by (turn_cases s (pair a b))))
  where
    by : Does s (pair a b) → pair_queue (table_after s (turn_at s (pair a b))).queue a b ≡ drop 1 (pair_queue s.queue a b)
    by (idles d) = absurd (does_something s (pair a b) x w d)
    by (loses y v d) = ap (λ (t : Turn). pair_queue (table_after s t).queue a b) d ∙ queue_without a b s.queue
    by (passes_on u k q d) = ap (λ (t : Turn). pair_queue (table_after s t).queue a b) d ∙ delivered_queue s a b u k x q

pub turn_rules : TurnRules
turn_rules =
    record {
      not_in_range = not_in_range;
      alone = alone;
      no_pair = no_pair;
      numbers = numbers;
      no_message_lem = λ s a b x w. no_message_lem s a b x w;
      down = λ s a b x w d. lost_turn s a b x w (does_lose s a b w d);
      delivers = λ s a b u k x q. delivers s a b x u k q;
      becomes_loss = λ s a b r x e q. becomes_loss s a b x r e q;
      no_other = λ s a b r x w u q. no_other s a b x w u r q;
      takes_oldest = takes_oldest;
      takes_one = takes_one;
      accepts = accepts;
    }
