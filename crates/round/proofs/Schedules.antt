-- A schedule is a list of events; and the claim of T-09: how many turns a message waits at most.
use Prim.Native.Nat.{ℕ, zero, suc, ◌+◌, ◌-◌, ◌*◌, ◌≤◌, ◌<◌}
use native.Mathlib.Omega.{arith}
use native.Mathlib.Nat.{suc-mul, mul-le-mul_right}
use mathlib.Core.Bool.{Bool, true, false, ◌&&◌, true≢false}
use mathlib.Core.Path.{◌≡◌, refl, sym, ◌∙◌, ap, subst}
use mathlib.Core.List.{List, [], ◌∷◌, ◌++◌, append_assoc}
use lib.Dec.{eqb, leb}
use lib.ListN.{length, drop, replicate}
use lib.Seq.{drop-append-le, drop-drop}
use borrow.Author.Tests.{eqb-true, leb-true, leb-false}
use Rattle.model.specs.Pick.{by_test}
use Rattle.model.specs.Counts.{count_at, one}
use Rattle.model.specs.State.{State, oldest, in_range}
use Rattle.model.specs.Step.{Result, refused, accepted, step, after, run_from}
use Rattle.model.specs.Traffic.{of_accepted, tally}
use Rattle.model.proofs.Grounds.{judged_by}
use Rattle.model.proofs.Local.{both_left, both_right}
use Rattle.model.proofs.Fields.{message_facts, in_range_size, in_range_oldest, oldest_goes}
use Rattle.model.proofs.Counts.{pair_counting}
use Rattle.model.proofs.InRange.{run_in}
use Rattle.model.proofs.Traffic.{run_n}
use Rattle.model.proofs.Whole.{run_append}
use Rattle.model.specs.declared.Message.{Message}
use Rattle.model.specs.declared.Event.{Event}
use Rattle.model.specs.declared.Event.TheVariants.{Deliver, Lose}
use Rattle.round.specs.Order.{pair, is_in_round, round_size, next_pair, later}
use Rattle.round.specs.Turn.{event_of, Turn, turn_refused, turn_grounds, looked_at, turn_at, table_after, place_after, done_in}
use Rattle.round.specs.Schedule.{Move, turn, event, turns, Drive, drive, moved, driven, move_events, events_of, pair_queue, Waits, message_at, out_of, out_in, came_in_by}
use Rattle.round.specs.Claims.{AtPair, ScheduleIsRun, RoundOfTheCable}
use Rattle.round.specs.declared.Place.{Place}
use Rattle.round.specs.declared.Done.{Done}
use Rattle.round.specs.declared.Done.TheVariants.{Nothing, Delivered, Lost}
use Rattle.round.proofs.Order.{IsPair, pair_is, is_pair, same_pair, next_valid, ahead, ahead_in, ahead_none, ahead_nearer, ahead_again}
use Rattle.round.proofs.PairQueues.{some_waits, oldest_first, out_by_counts}
use Rattle.round.proofs.Turns.{same_two, turn_is, takes_one}

-- ── a schedule is its events ──

-- what a turn leaves is what its event leaves
pub turn_event : (s : State) (p : Place) → table_after s (turn_at s p) ≡ run_from s (event_of p (done_in (turn_at s p)))
unfolding turn_at looked_at run_from
turn_event s p = judged_by turn_refused P (looked_at s p) (turn_grounds s p) (λ _. refl) (λ _. by_test P (λ _. refl) (λ _. refl))
  where
    P : Turn → Type 0
    P t = table_after s t ≡ run_from s (event_of p (done_in t))

move_events_lem : (d : Drive) (m : Move) → (moved d m).table ≡ run_from d.table (move_events d m)
unfolding run_from
move_events_lem d turn = turn_event d.table d.place
move_events_lem d (event e) = refl

schedule_events : (d : Drive) (ms : List Move) → (driven d ms).table ≡ run_from d.table (events_of d ms)
unfolding driven events_of run_from
schedule_events d [] = refl
schedule_events d (m ∷ ms) =
    schedule_events (moved d m) ms
    ∙ ap (λ (s : State). run_from s (events_of (moved d m) ms)) (move_events_lem d m)
    ∙ sym (run_append d.table (move_events d m) (events_of (moved d m) ms))

-- one schedule behind another
events_append : (d : Drive) (ms ns : List Move) → events_of d (ms ++ ns) ≡ events_of d ms ++ events_of (driven d ms) ns
unfolding events_of driven
events_append d [] ns = refl
events_append d (m ∷ ms) ns =
    ap (λ (l : List Event). move_events d m ++ l) (events_append (moved d m) ms ns)
    ∙ sym (append_assoc (move_events d m) (events_of (moved d m) ms) (events_of (driven (moved d m) ms) ns))

-- ── how many go out ──
pub tally_append : (f : State → Event → ℕ) (s : State) (es fs : List Event) → tally f s (es ++ fs) ≡ tally f s es + tally f (run_from s es) fs
unfolding tally run_from
tally_append f s [] fs = omega arith
tally_append f s (e ∷ es) fs = omega (arith, tally_append f (after s e) es fs)

-- in the first move of a schedule, and in the others
out_first : (a b : ℕ) (d : Drive) (m : Move) (ms : List Move) → out_in a b d (m ∷ ms) ≡ out_of a b d.table (move_events d m) + out_in a b (moved d m) ms
unfolding events_of
out_first a b d m ms =
    tally_append _ d.table (move_events d m) (events_of (moved d m) ms)
    ∙ ap (λ (s : State). out_of a b d.table (move_events d m) + out_of a b s (events_of (moved d m) ms)) (sym (move_events_lem d m))

-- ── the message ──

-- the two nodes that a message waits between are a pair
waiting_pair : (s : State) (a b k : ℕ) → in_range s ≡ true → Waits s.queue a b k → IsPair s.n (pair a b)
waiting_pair s a b k r h =
    let w = some_waits a b s.queue (omega (arith, h)) in
    let m = oldest a b s.queue in
    let x = message_facts s.n m (in_range_oldest s a b r w) in
    let g = oldest_goes a b s.queue w in
    let e = eqb-true m.sender a (both_left (eqb m.sender a) _ g) in
    let f = eqb-true m.receiver b (both_right (eqb m.sender a) _ g) in
    record {
      sender_low = omega (arith, x.sender.low, e);
      sender_high = omega (arith, x.sender.high, e);
      receiver_low = omega (arith, x.receiver.low, f);
      receiver_high = omega (arith, x.receiver.high, f);
      other = λ z. x.receiver.other (f ∙ z ∙ sym e);
    }

-- what holds before each move: n nodes, in range, at a pair of the round
record On (n : ℕ) (d : Drive) : Type 0 where
  pub size : d.table.n ≡ n
  pub range : in_range d.table ≡ true
  pub at : IsPair n d.place

module _ (n : ℕ) where
  -- it holds after the move too
  stays_on : (d : Drive) (m : Move) → On n d → IsPair n (moved d m).place → On n (moved d m)
  stays_on d m x p =
      let t = move_events_lem d m in
      record {
        size = ap (λ (s : State). s.n) t ∙ run_n d.table (move_events d m) ∙ x.size;
        range = ap in_range t ∙ run_in d.table (move_events d m) x.range;
        at = p;
      }

  module _ (d : Drive) (x : On n d) where
    looks : AtPair d.table d.place
    looks = record { in_range_lem = x.range; in_round = subst (λ (i : ℕ). is_in_round i d.place ≡ true) (sym x.size) (is_pair n d.place x.at) }

    turned_place : (moved d turn).place ≡ next_pair n d.place
    turned_place = ap (place_after d.place) (turn_is d.table d.place looks) ∙ ap (λ (i : ℕ). next_pair i d.place) x.size

    turned_on : On n (moved d turn)
    turned_on = stays_on d turn x (subst (IsPair n) (sym turned_place) (next_valid n d.place x.at))

    -- how far ahead a pair is then
    turned_ahead : (q : Place) → ahead n (moved d turn).place q ≡ ahead n (next_pair n d.place) q
    turned_ahead q = ap (λ (p : Place). ahead n p q) turned_place

-- whether a turn is at the pair of a and b
here : ℕ → ℕ → Place → Bool
here a b p = eqb p.sender a && eqb p.receiver b

here_is : (a b : ℕ) (p : Place) → here a b p ≡ true → p ≡ pair a b
unfolding here
here_is a b p q =
    same_pair p (pair a b) (eqb-true p.sender a (both_left (eqb p.sender a) _ q)) (eqb-true p.receiver b (both_right (eqb p.sender a) _ q))

not_here : (a b : ℕ) (p : Place) → here a b p ≡ false → p ≡ pair a b → ⊥
unfolding here
not_here a b p q e = true≢false (sym (ap (λ (p : Place). eqb p.sender a && eqb p.receiver b) e ∙ same_two a b) ∙ q)

-- a turn takes one of the pair out at most, and none at another pair
takes_at : (a b : ℕ) (s : State) (p : Place) (d : Done) → out_of a b s (event_of p d) ≤ one (here a b p)
unfolding tally here
takes_at a b s p Nothing = omega arith
takes_at a b s p Delivered = by (step s (Deliver p.sender p.receiver))
  where
    by : (r : Result) → of_accepted (one (eqb p.sender a && eqb p.receiver b) + 0) r + 0 ≤ one (eqb p.sender a && eqb p.receiver b)
    by (refused x) = omega arith
    by (accepted u k) = omega arith
takes_at a b s p Lost = by (step s (Lose p.sender p.receiver))
  where
    by : (r : Result) → of_accepted (0 + one (eqb p.sender a && eqb p.receiver b)) r + 0 ≤ one (eqb p.sender a && eqb p.receiver b)
    by (refused x) = omega arith
    by (accepted u k) = omega arith

module _ (n a b : ℕ) where
  -- where the message waits, with k older ones
  module _ (k : ℕ) (d : Drive) (x : On n d) (w : Waits d.table.queue a b k) where
    to : IsPair n (pair a b)
    to = subst (λ (i : ℕ). IsPair i (pair a b)) x.size (waiting_pair d.table a b k x.range w)

    -- it waits after the move too, where it is not gone
    waits_on : (m : Move) → out_of a b d.table (move_events d m) ≤ k → Waits (moved d m).table.queue a b (k - out_of a b d.table (move_events d m))
    waits_on m h =
        subst (λ (s : State). Waits s.queue a b (k - out_of a b d.table (move_events d m))) (sym (move_events_lem d m)) (oldest_first.same d.table (move_events d m) a b k w h).0

    -- a turn at its pair
    turned_here : d.place ≡ pair a b → out_of a b d.table (move_events d turn) ≡ 1
    turned_here e =
        ap (λ (p : Place). out_of a b d.table (event_of p (done_in (turn_at d.table p)))) e
        ∙ takes_one d.table (pair a b) (subst (AtPair d.table) e (looks n d x)) (some_waits a b d.table.queue (omega (arith, w)))

    -- what is left to show where the move takes no more than k out
    left : (m : Move) (ms : List Move) → (out_of a b d.table (move_events d m) ≤ k → k - out_of a b d.table (move_events d m) < out_in a b (moved d m) ms) → k < out_in a b d (m ∷ ms)
    left m ms f = by (leb (out_of a b d.table (move_events d m)) k) refl
      where
        by : (t : Bool) → leb (out_of a b d.table (move_events d m)) k ≡ t → k < out_in a b d (m ∷ ms)
        by true e = let h = leb-true (out_of a b d.table (move_events d m)) k e in omega (arith, out_first a b d m ms, h, f h)
        by false e = omega (arith, out_first a b d m ms, leb-false (out_of a b d.table (move_events d m)) k e)

  fewer : (j k : ℕ) → j ≤ k → j * round_size n ≤ k * round_size n
  fewer j k h = mul-le-mul_right {m = j} {n = k} (round_size n) h

  -- a round more
  one_more : (j k : ℕ) → k ≡ suc j → k * round_size n ≡ j * round_size n + round_size n
  one_more j k e = ap (◌* round_size n) e ∙ suc-mul j (round_size n)

  -- the turns that are enough: a round for each older message, those to the message's pair, and the one there
  gone_within : (ms : List Move) (k : ℕ) (d : Drive) → On n d → Waits d.table.queue a b k → k * round_size n + ahead n d.place (pair a b) + 1 ≤ turns ms → k < out_in a b d ms
  unfolding turns
  gone_within [] k d x w h = absurd (omega (arith, h))
  gone_within (event e ∷ ms) k d x w h =
      left k d x w (event e) ms (λ l.
      gone_within ms (k - out_of a b d.table (e ∷ [])) (moved d (event e)) (stays_on n d (event e) x x.at) (waits_on k d x w (event e) l)
      (omega (arith, h, fewer (k - out_of a b d.table (e ∷ [])) k (omega arith))))
  gone_within (turn ∷ ms) k d x w h =
      left k d x w turn ms (λ l.
      gone_within ms (k - out_of a b d.table (move_events d turn)) (moved d turn) (turned_on n d x) (waits_on k d x w turn l) (by (here a b d.place) refl l))
    where
      by : (t : Bool) → here a b d.place ≡ t → out_of a b d.table (move_events d turn) ≤ k
          → (k - out_of a b d.table (move_events d turn)) * round_size n + ahead n (moved d turn).place (pair a b) + 1 ≤ turns ms
      by true q l =
          let e = here_is a b d.place q in
          let o = turned_here k d x w e in
          let j : k ≡ suc (k - out_of a b d.table (move_events d turn)) = omega (arith, o, l) in
          omega (
            arith,
            one_more (k - out_of a b d.table (move_events d turn)) k j,
            turned_ahead n d x (pair a b),
            ap (λ (p : Place). ahead n (next_pair n p) (pair a b)) e,
            ahead_again n (pair a b) (to k d x w),
            h,
          )
      by false q l =
          omega (
            arith,
            turned_ahead n d x (pair a b),
            ahead_nearer n d.place x.at (pair a b) (to k d x w) (not_here a b d.place q),
            fewer (k - out_of a b d.table (move_events d turn)) k (omega arith),
            h,
          )

  -- and in turns alone no more than k go out in a round for each of k, and those to the message's pair
  few_within : (m k : ℕ) (d : Drive) → On n d → IsPair n (pair a b) → m ≤ k * round_size n + ahead n d.place (pair a b) → out_in a b d (replicate m turn) ≤ k
  unfolding events_of tally
  few_within zero k d x y h = omega arith
  few_within (suc m) k d x y h = by (here a b d.place) refl (takes_at a b d.table d.place (done_in (turn_at d.table d.place))) (λ j l. few_within m j (moved d turn) (turned_on n d x) y l)
    where
      all : out_in a b d (turn ∷ replicate m turn) ≡ out_of a b d.table (move_events d turn) + out_in a b (moved d turn) (replicate m turn)
      all = out_first a b d turn (replicate m turn)

      by : (t : Bool) → here a b d.place ≡ t → out_of a b d.table (move_events d turn) ≤ one (here a b d.place)
          → ((j : ℕ) → m ≤ j * round_size n + ahead n (moved d turn).place (pair a b) → out_in a b (moved d turn) (replicate m turn) ≤ j)
          → out_in a b d (turn ∷ replicate m turn) ≤ k
      by true q o f =
          let e = here_is a b d.place q in
          let z = ap (λ (p : Place). ahead n p (pair a b)) e ∙ ahead_none n (pair a b) in
          let j = some k (omega (arith, h, z)) in
          let u : out_of a b d.table (move_events d turn) ≤ 1 = subst (λ (t : Bool). out_of a b d.table (move_events d turn) ≤ one t) q o in
          omega (
            arith,
            all,
            u,
            j.1,
            f j.0 (omega (arith, h, z, one_more j.0 k j.1, turned_ahead n d x (pair a b), ap (λ (p : Place). ahead n (next_pair n p) (pair a b)) e, ahead_again n (pair a b) y)),
          )
        where
          some : (k : ℕ) → suc m ≤ k * round_size n → (j : ℕ) × (k ≡ suc j)
          some zero h = absurd (omega (arith, h))
          some (suc j) h = (j, refl)
      by false q o f =
          let u : out_of a b d.table (move_events d turn) ≤ 0 = subst (λ (t : Bool). out_of a b d.table (move_events d turn) ≤ one t) q o in
          omega (arith, all, u, f k (omega (arith, h, turned_ahead n d x (pair a b), ahead_nearer n d.place x.at (pair a b) y (not_here a b d.place q))))

-- ── every later table and place ──
driven_on : (n : ℕ) (d : Drive) (ms : List Move) → On n d → On n (driven d ms) × ((driven d ms).place ≡ later n (turns ms) d.place)
unfolding driven turns later
driven_on n d [] x = (x, refl)
driven_on n d (event e ∷ ms) x = driven_on n (moved d (event e)) ms (stays_on n d (event e) x x.at)
driven_on n d (turn ∷ ms) x =
    let y = driven_on n (moved d turn) ms (turned_on n d x) in
    (y.0, y.1 ∙ ap (later n (turns ms)) (turned_place n d x) ∙ sym (later_first n (turns ms) d.place))
  where
    later_first : (n k : ℕ) (p : Place) → later n (1 + k) p ≡ later n k (next_pair n p)
    later_first n k p = let e : 1 + k ≡ suc k = omega arith in ap (λ (j : ℕ). later n j p) e

-- ── the claim ──
start_on : (s : State) (p : Place) → AtPair s p → On s.n (drive s p)
start_on s p x = record { size = refl; range = x.in_range_lem; at = pair_is s.n p x.in_round }

goes_out : (s : State) (p : Place) (a b k : ℕ) (ms : List Move) → AtPair s p → Waits s.queue a b k → (k + 1) * round_size s.n ≤ turns ms → k < out_in a b (drive s p) ms
goes_out s p a b k ms x w h =
    let y = pair_is s.n p x.in_round in
    let z = waiting_pair s a b k x.in_range_lem w in
    let e : k + 1 ≡ suc k = omega arith in
    gone_within s.n a b ms k (drive s p) (start_on s p x) w
    (omega (arith, h, one_more s.n a b k (k + 1) e, ahead_in s.n p (pair a b) y z))

sharp : (s : State) (a b k : ℕ) → AtPair s (pair a b) → out_in a b (drive s (next_pair s.n (pair a b))) (replicate ((k + 1) * round_size s.n - 1) turn) ≤ k
sharp s a b k x =
    let y = pair_is s.n (pair a b) x.in_round in
    let e : k + 1 ≡ suc k = omega arith in
    few_within s.n a b ((k + 1) * round_size s.n - 1) k (drive s (next_pair s.n (pair a b))) (record { size = refl; range = x.in_range_lem; at = next_valid s.n (pair a b) y }) y
    (omega (arith, one_more s.n a b k (k + 1) e, ahead_again s.n (pair a b) y))

-- what is left where j go out of l and m, one after the other, and i of them stood in l
drop_more : (i j : ℕ) (l m : List Message) → i ≤ j → i ≤ length l → drop j (l ++ m) ≡ drop (j - i) (drop i l ++ m)
drop_more i j l m h k =
    let e : j ≡ i + (j - i) = omega arith in
    ap (λ (o : ℕ). drop o (l ++ m)) e ∙ sym (drop-drop (j - i) i (l ++ m)) ∙ ap (drop (j - i)) (drop-append-le i l m k)

pub round_of_the_cable : RoundOfTheCable
round_of_the_cable =
    record {
      goes_out = goes_out;
      gone = λ s p a b k ms x w h.
          ap (λ (u : State). pair_queue u.queue a b) (schedule_events (drive s p) ms)
          ∙ oldest_first.queue s (events_of (drive s p) ms) a b
          ∙ drop_more (k + 1) (out_in a b (drive s p) ms) (pair_queue s.queue a b) (came_in_by a b (drive s p) ms) (omega (arith, goes_out s p a b k ms x w h)) (omega (arith, w, oldest_first.size s.queue a b));
      counted = λ s p a b k ms x w h.
          subst (λ (u : State). count_at s.delivered a b + count_at s.lost a b + k < count_at u.delivered a b + count_at u.lost a b)
          (sym (schedule_events (drive s p) ms))
          (omega (
            arith,
            goes_out s p a b k ms x w h,
            out_by_counts s (events_of (drive s p) ms) a b (pair_counting s.n a b (in_range_size s x.in_range_lem).1 (is_pair s.n (pair a b) (waiting_pair s a b k x.in_range_lem w))),
          ));
      same = λ s p a b k ms w h.
          subst (λ (u : State). Waits u.queue a b (k - out_in a b (drive s p) ms) × (message_at u.queue a b (k - out_in a b (drive s p) ms) ≡ message_at s.queue a b k))
          (sym (schedule_events (drive s p) ms)) (oldest_first.same s (events_of (drive s p) ms) a b k w h);
      sharp = sharp;
      stays = λ s p ms x. looks s.n (driven (drive s p) ms) (driven_on s.n (drive s p) ms (start_on s p x)).0;
      places = λ s p ms x. (driven_on s.n (drive s p) ms (start_on s p x)).1;
    }

pub schedule_is_run : ScheduleIsRun
schedule_is_run = record { move = move_events_lem; schedule = schedule_events; beginning = events_append }
