-- The driver's turns: the claims `TurnCounts`, `TurnsEnd` and `DriverComesToRest`, and what is left of a run of turns until no message waits.
use Prim.Native.Nat.{ℕ, zero, suc, ◌+◌, ◌-◌, ◌*◌, ◌<◌, ◌≤◌}
use native.Mathlib.Omega.{arith}
use native.Mathlib.Nat.{suc-mul}
use mathlib.Core.Bool.{Bool, true, false, ◌&&◌, true≢false}
use mathlib.Core.Path.{◌≡◌, refl, sym, ◌∙◌, ap, subst}
use mathlib.Core.List.{List, [], ◌∷◌, ◌++◌}
use lib.Dec.{eqb}
use lib.ListN.{length, replicate, replicate-append-replicate}
use borrow.Author.Tests.{not-false, eqb-true, eqb-false, eq-eqb}
use Rattle.model.specs.Pick.{pick_true, pick_false, by_test}
use Rattle.model.specs.Counts.{one}
use Rattle.model.specs.Range.{PairRule, TwoPairs, LeftOut, message_in_range}
use Rattle.model.specs.State.{State, goes, waits, how_many, every, in_range}
use Rattle.model.specs.Step.{Result, refused, accepted, step, after, run_from, run_by}
use Rattle.model.specs.Traffic.{of_accepted, tally, accepted_from}
use Rattle.model.specs.Claims.{RunHolds}
use Rattle.model.proofs.Judged.{accepted_is}
use Rattle.model.proofs.Local.{both_left, both_right}
use Rattle.model.proofs.Fields.{message_facts, in_range_size, in_range_queue}
use Rattle.model.proofs.Range.{both}
use Rattle.model.proofs.InRange.{run_in}
use Rattle.model.proofs.Traffic.{run_n}
use Rattle.model.proofs.TowerAndStand.{tower_and_stand}
use Rattle.model.specs.declared.Limits.{Limits}
use Rattle.model.specs.declared.Message.{Message}
use Rattle.model.specs.declared.Event.{Event}
use Rattle.model.specs.declared.Event.TheVariants.{Crash, Recover, Check, Timeout, Tick, Expire, Finish, Deliver, Lose}
use Rattle.round.specs.Order.{is_in_round, round_size, first_pair}
use Rattle.round.specs.Turn.{Turn, turn_at, table_after, done_in, event_of}
use Rattle.round.specs.Schedule.{Move, turn, event, turns, Drive, drive, moved, driven, move_events, events_of, Waits, takes, out_of}
use Rattle.round.specs.Claims.{AtPair}
use Rattle.round.proofs.Order.{round_order}
use Rattle.round.proofs.Turns.{same_two, Does, idles, loses, passes_on, turn_cases, lose_accepted}
use Rattle.round.proofs.Schedules.{turn_event, tally_append, schedule_is_run, round_of_the_cable}
use Rattle.round.specs.declared.Place.{Place}
use Rattle.round.specs.declared.Done.{Done}
use Rattle.round.specs.declared.Done.TheVariants.{Nothing, Delivered, Lost}
use Rattle.rest_bound.specs.Quiet.{quiet, all_quiet}
use Rattle.rest_bound.specs.Potential.{potential, suited, rest_bound}
use Rattle.rest_bound.specs.Turns.{count_of, turns_counted, quiet_moves, accepted_by, queue_empty, turns_within, turn_bound, turns_to_rest, table_at_rest}
use Rattle.rest_bound.specs.Claims.{TurnCounts, RestsAfter, TurnsEnd, DriverRests, DriverComesToRest}
use Rattle.rest_bound.proofs.Suits.{run_suits, runs_suit}
use Rattle.rest_bound.proofs.Falls.{queue_least, accepted_within, potential_most, run_size, run_potential}

-- ── one turn ──

-- one accepted event counts once
accepted_one : (s : State) (e : Event) (u : State) (r : Result) → step s e ≡ r → of_accepted 1 r ≡ 1 → accepted_from s (e ∷ []) ≡ 1
unfolding tally
accepted_one s e u r z q = let y = ap (of_accepted 1) z in omega (arith, y, q)

counts : (s : State) (p : Place) → accepted_from s (event_of p (done_in (turn_at s p))) ≡ count_of (done_in (turn_at s p))
unfolding tally
counts s p = by (turn_cases s p)
  where
    C : Done → Type 0
    C d = accepted_from s (event_of p d) ≡ count_of d

    by : Does s p → C (done_in (turn_at s p))
    by (idles d) = subst C (sym d) refl
    by (loses x w d) = subst (λ (t : Turn). C (done_in t)) (sym d) (accepted_one s (Lose p.sender p.receiver) s _ (lose_accepted s p.sender p.receiver x w) refl)
    by (passes_on u k q d) = subst (λ (t : Turn). C (done_in t)) (sym d) (accepted_one s (Deliver p.sender p.receiver) s _ q refl)

nothing_stays : (s : State) (p : Place) → done_in (turn_at s p) ≡ Nothing → table_after s (turn_at s p) ≡ s
unfolding run_from
nothing_stays s p d = turn_event s p ∙ ap (λ (d : Done). run_from s (event_of p d)) d

-- where no message waits, none from a to b does
none_waits_lem : (a b : ℕ) (q : List Message) → eqb (length q) 0 ≡ true → waits a b q ≡ true → ⊥
unfolding waits
none_waits_lem a b [] e w = true≢false (sym w)
none_waits_lem a b (m ∷ q) e w = let z = eqb-true (length (m ∷ q)) 0 e in omega (arith, z)

idle_turn : (s : State) (p : Place) → queue_empty s ≡ true → done_in (turn_at s p) ≡ Nothing
idle_turn s p e = by (turn_cases s p)
  where
    by : Does s p → done_in (turn_at s p) ≡ Nothing
    by (idles d) = d
    by (loses x w d) = absurd (none_waits_lem p.sender p.receiver s.queue e w)
    by (passes_on u k q d) = absurd (none_waits_lem p.sender p.receiver s.queue e (not-false _ (accepted_is s (Deliver p.sender p.receiver) u k q).clear.waiting))

pub turn_counts : TurnCounts
turn_counts = record { counts = counts; nothing = nothing_stays; empty = idle_turn }

-- ── schedules ──
quiet_append : (es fs : List Event) → all_quiet es ≡ true → all_quiet fs ≡ true → all_quiet (es ++ fs) ≡ true
unfolding all_quiet
quiet_append [] fs p q = q
quiet_append (e ∷ es) fs p q = both (quiet e) _ (both_left (quiet e) _ p) (quiet_append es fs (both_right (quiet e) _ p) q)

event_quiet : (p : Place) (d : Done) → all_quiet (event_of p d) ≡ true
unfolding all_quiet
event_quiet p Nothing = refl
event_quiet p Delivered = refl
event_quiet p Lost = refl

pub events_quiet : (d : Drive) (ms : List Move) → quiet_moves ms ≡ true → all_quiet (events_of d ms) ≡ true
unfolding events_of all_quiet quiet_moves
events_quiet d [] q = refl
events_quiet d (turn ∷ ms) q = quiet_append (move_events d turn) _ (event_quiet d.place (done_in (turn_at d.table d.place))) (events_quiet (moved d turn) ms q)
events_quiet d (event e ∷ ms) q = both (quiet e) _ (both_left (quiet e) _ q) (events_quiet (moved d (event e)) ms (both_right (quiet e) _ q))

-- what the accepted events of a schedule cost was there
schedule_within : (d : Drive) (ms : List Move) → suited d.table ≡ true → quiet_moves ms ≡ true → accepted_by d ms + potential (driven d ms).table ≤ potential d.table
schedule_within d ms ok q =
    omega (arith, accepted_within d.table (events_of d ms) ok (events_quiet d ms q), ap (λ (s : State). potential s) (schedule_is_run.schedule d ms))

-- in the first move of a schedule, and in the others
accepted_first : (d : Drive) (m : Move) (ms : List Move) → accepted_by d (m ∷ ms) ≡ accepted_from d.table (move_events d m) + accepted_by (moved d m) ms
unfolding events_of
accepted_first d m ms =
    tally_append _ d.table (move_events d m) (events_of (moved d m) ms)
    ∙ ap (λ (s : State). accepted_from d.table (move_events d m) + accepted_from s (events_of (moved d m) ms)) (sym (schedule_is_run.move d m))

-- the turns that count are among the accepted events
turns_among : (d : Drive) (ms : List Move) → turns_counted d ms ≤ accepted_by d ms
unfolding turns_counted
turns_among d [] = omega arith
turns_among d (turn ∷ ms) = omega (arith, accepted_first d turn ms, counts d.table d.place, turns_among (moved d turn) ms)
turns_among d (event e ∷ ms) = omega (arith, accepted_first d (event e) ms, turns_among (moved d (event e)) ms)

driven_append : (d : Drive) (ms ns : List Move) → driven d (ms ++ ns) ≡ driven (driven d ms) ns
unfolding driven
driven_append d [] ns = refl
driven_append d (m ∷ ms) ns = driven_append (moved d m) ms ns

turns_of : (k : ℕ) → turns (replicate k turn) ≡ k
unfolding turns
turns_of zero = refl
turns_of (suc k) = omega (arith, turns_of k)

quiet_turns : (k : ℕ) → quiet_moves (replicate k turn) ≡ true
unfolding quiet_moves
quiet_turns zero = refl
quiet_turns (suc k) = quiet_turns k

-- ── where no message waits ──
pub unchanged : (k : ℕ) (d : Drive) → queue_empty d.table ≡ true → (driven d (replicate k turn)).table ≡ d.table
unfolding driven
unchanged zero d e = refl
unchanged (suc k) d e =
    let t = nothing_stays d.table d.place (idle_turn d.table d.place e) in
    unchanged k (moved d turn) (ap (λ (s : State). queue_empty s) t ∙ e) ∙ t

-- nothing that weighs is left
none_left : (s : State) → potential s ≤ 0 → queue_empty s ≡ true
none_left s h = eq-eqb (length s.queue) 0 (omega (arith, queue_least s.queue))

-- ── a round of turns takes a message out ──
takes_most : (a b : ℕ) (s : State) (e : Event) → takes a b s e ≤ 1
takes_most a b s (Crash i) = omega arith
takes_most a b s (Recover i) = omega arith
takes_most a b s (Check i) = omega arith
takes_most a b s (Timeout i) = omega arith
takes_most a b s (Tick i) = omega arith
takes_most a b s (Expire i) = omega arith
takes_most a b s (Finish i t) = omega arith
takes_most a b s (Deliver x y) = by (eqb x a && eqb y b)
  where
    by : (t : Bool) → one t + 0 ≤ 1
    by true = omega arith
    by false = omega arith
takes_most a b s (Lose x y) = by (eqb x a && eqb y b)
  where
    by : (t : Bool) → 0 + one t ≤ 1
    by true = omega arith
    by false = omega arith

taken_among : (a b : ℕ) (s : State) (es : List Event) → out_of a b s es ≤ accepted_from s es
unfolding tally
taken_among a b s [] = omega arith
taken_among a b s (e ∷ es) = omega (arith, by (step s e), taken_among a b (after s e) es)
  where
    by : (r : Result) → of_accepted (takes a b s e) r ≤ of_accepted 1 r
    by (refused x) = omega arith
    by (accepted u k) = takes_most a b s e

-- some message waits between two nodes
record SomeWaits (q : List Message) : Type 0 where
  pub from : ℕ
  pub to : ℕ
  pub waits : Waits q from to 0

some_waits : (q : List Message) → eqb (length q) 0 ≡ false → SomeWaits q
unfolding how_many
some_waits [] e = absurd (true≢false e)
some_waits (m ∷ q) e =
    record {
      from = m.sender;
      to = m.receiver;
      waits = let g : one (goes m.sender m.receiver m) ≡ 1 = ap one (same_two m.sender m.receiver) in omega (arith, g);
    }

-- a table in range of n nodes to which the potential can be applied, at a pair of the round
record Going (n : ℕ) (d : Drive) : Type 0 where
  pub size : d.table.n ≡ n
  pub at : AtPair d.table d.place
  pub suits : suited d.table ≡ true

going_on : (n : ℕ) (d : Drive) (ms : List Move) → Going n d → Going n (driven d ms)
going_on n d ms x =
    let t = schedule_is_run.schedule d ms in
    record {
      size = ap (λ (s : State). s.n) t ∙ run_n d.table (events_of d ms) ∙ x.size;
      at = round_of_the_cable.stays d.table d.place ms x.at;
      suits = ap (λ (s : State). suited s) t ∙ run_suits d.table (events_of d ms) x.suits;
    }

round_lowers : (n : ℕ) (d : Drive) → Going n d → queue_empty d.table ≡ false → potential (driven d (replicate (round_size n) turn)).table < potential d.table
round_lowers n d x e =
    let y = some_waits d.table.queue e in
    let ms = replicate (round_size n) turn in
    let h : (0 + 1) * round_size d.table.n ≤ turns ms = omega (arith, turns_of (round_size n), ap (λ (k : ℕ). round_size k) x.size) in
    let g = round_of_the_cable.goes_out d.table d.place y.from y.to 0 ms x.at y.waits h in
    omega (arith, g, taken_among y.from y.to d.table (events_of d ms), schedule_within d ms x.suits (quiet_turns (round_size n)))

rests_within : (n w m : ℕ) (d : Drive) → Going n d → potential d.table ≤ w → w * round_size n ≤ m → queue_empty (driven d (replicate m turn)).table ≡ true
rests_within n zero m d x h k = let e = none_left d.table h in ap (λ (s : State). queue_empty s) (unchanged m d e) ∙ e
rests_within n (suc w) m d x h k = by (queue_empty d.table) refl (λ f. rests_within n w (m - round_size n) (driven d (replicate (round_size n) turn)) (going_on n d (replicate (round_size n) turn) x) f (omega (arith, suc-mul w (round_size n), k)))
  where
    by : (t : Bool) → queue_empty d.table ≡ t
        → (potential (driven d (replicate (round_size n) turn)).table ≤ w → queue_empty (driven (driven d (replicate (round_size n) turn)) (replicate (m - round_size n) turn)).table ≡ true)
        → queue_empty (driven d (replicate m turn)).table ≡ true
    by true e f = ap (λ (s : State). queue_empty s) (unchanged m d e) ∙ e
    by false e f =
        let i : round_size n + (m - round_size n) ≡ m = omega (arith, suc-mul w (round_size n), k) in
        let z : driven d (replicate m turn) ≡ driven (driven d (replicate (round_size n) turn)) (replicate (m - round_size n) turn)
        = ap (λ (j : ℕ). driven d (replicate j turn)) (sym i)
        ∙ ap (driven d) (sym (replicate-append-replicate (round_size n) (m - round_size n) turn))
        ∙ driven_append d (replicate (round_size n) turn) (replicate (m - round_size n) turn) in
        ap (λ (v : Drive). queue_empty v.table) z ∙ f (omega (arith, round_lowers n d x e, h))

-- ── the number of turns ──
pub within_empty : (m : ℕ) (d : Drive) → queue_empty d.table ≡ true → turns_within m d ≡ 0
unfolding turns_within
within_empty zero d e = refl
within_empty (suc m) d e = rw (e, pick_true)

within_turn : (m : ℕ) (d : Drive) → queue_empty d.table ≡ false → turns_within (suc m) d ≡ suc (turns_within m (moved d turn))
unfolding turns_within
within_turn m d e = rw (e, pick_false)

within_most : (m : ℕ) (d : Drive) → turns_within m d ≤ m
unfolding turns_within
within_most zero d = omega arith
within_most (suc m) d = by_test (λ (k : ℕ). k ≤ suc m) (λ _. omega arith) (λ _. omega (arith, within_most m (moved d turn)))

none_made : (d : Drive) → queue_empty d.table ≡ true → RestsAfter d 0
unfolding driven
none_made d e = record { empty = e; before = λ j h. absurd (omega (arith, h)) }

one_made : (d : Drive) (k : ℕ) → queue_empty d.table ≡ false → RestsAfter (moved d turn) k → RestsAfter d (suc k)
unfolding driven
one_made d k q x = record { empty = x.empty; before = before }
  where
    before : (j : ℕ) → j < suc k → queue_empty (driven d (replicate j turn)).table ≡ false
    before zero h = q
    before (suc j) h = x.before j (omega (arith, h))

rests_after : (m : ℕ) (d : Drive) → queue_empty (driven d (replicate m turn)).table ≡ true → RestsAfter d (turns_within m d)
unfolding turns_within driven
rests_after zero d e = none_made d e
rests_after (suc m) d e = by_test (RestsAfter d) (λ q. none_made d q) (λ q. one_made d (turns_within m (moved d turn)) q (rests_after m (moved d turn) e))

-- ── what is left of a run of turns until no message waits: k are made, d is where they led, and m more are enough ──
pub record Left (s : State) (m k : ℕ) (d : Drive) : Type 0 where
  pub enough : queue_empty (driven d (replicate m turn)).table ≡ true
  pub number : k + turns_within m d ≡ turns_to_rest s
  pub table : (driven d (replicate (turns_within m d) turn)).table ≡ table_at_rest s

pub left_some : {s : State} {k : ℕ} {d : Drive} (m : ℕ) → Left s m k d → queue_empty d.table ≡ false → 1 ≤ m
unfolding driven
left_some zero x e = absurd (true≢false (sym x.enough ∙ e))
left_some (suc m) x e = omega arith

pub left_turn : {s : State} {k : ℕ} {d : Drive} (m : ℕ) → Left s m k d → queue_empty d.table ≡ false → Left s (m - 1) (k + 1) (moved d turn)
unfolding driven
left_turn zero x e = absurd (true≢false (sym x.enough ∙ e))
left_turn {s} {k} {d} (suc m) x e =
    let z : suc m - 1 ≡ m = omega arith in
    let w = within_turn m d e in
    subst (λ (i : ℕ). Left s i (k + 1) (moved d turn)) (sym z)
    (record {
      enough = x.enough;
      number = omega (arith, x.number, w);
      table = sym (ap (λ (i : ℕ). (driven d (replicate i turn)).table) w) ∙ x.table;
    })

pub left_end : {s : State} {m k : ℕ} {d : Drive} → Left s m k d → queue_empty d.table ≡ true → (k ≡ turns_to_rest s) × (d.table ≡ table_at_rest s)
unfolding driven
left_end {s} {m} {k} {d} x e =
    let w = within_empty m d e in
    (omega (arith, x.number, w), sym (ap (λ (i : ℕ). (driven d (replicate i turn)).table) w) ∙ x.table)

-- the table at rest is one of a run from s, and the number of turns is within the bound, whatever the table
pub rest_is : (s : State) → table_at_rest s ≡ run_from s (events_of (drive s first_pair) (replicate (turns_to_rest s) turn))
rest_is s = schedule_is_run.schedule (drive s first_pair) (replicate (turns_to_rest s) turn)

pub rest_range : (s : State) → in_range s ≡ true → in_range (table_at_rest s) ≡ true
rest_range s r = ap in_range (rest_is s) ∙ run_in s (events_of (drive s first_pair) (replicate (turns_to_rest s) turn)) r

pub rest_within : (s : State) → turns_to_rest s ≤ turn_bound s
rest_within s = within_most (turn_bound s) (drive s first_pair)

-- ── tables of runs ──

-- with one node no message waits
pub alone_empty : (s : State) → in_range s ≡ true → s.n ≡ 1 → queue_empty s ≡ true
unfolding every
alone_empty s r h = by s.queue (subst (λ (k : ℕ). every (λ (i : ℕ). message_in_range k) 1 s.queue ≡ true) h (in_range_queue s r))
  where
    by : (q : List Message) → every (λ (i : ℕ). message_in_range 1) 1 q ≡ true → eqb (length q) 0 ≡ true
    by [] e = refl
    by (m ∷ q) e =
        let x = message_facts 1 m (both_left (message_in_range 1 m) _ e) in
        absurd (x.receiver.other (omega (arith, x.sender.low, x.sender.high, x.receiver.low, x.receiver.high)))

-- from the first pair on, in any table in range to which the potential can be applied
pub first_enough : (s : State) → in_range s ≡ true → suited s ≡ true → queue_empty (driven (drive s first_pair) (replicate (turn_bound s) turn)).table ≡ true
first_enough s r ok = by (eqb s.n 1) refl
  where
    by : (t : Bool) → eqb s.n 1 ≡ t → queue_empty (driven (drive s first_pair) (replicate (turn_bound s) turn)).table ≡ true
    by true e = let z = alone_empty s r (eqb-true s.n 1 e) in ap (λ (u : State). queue_empty u) (unchanged (turn_bound s) (drive s first_pair) z) ∙ z
    by false e =
        let two : 2 ≤ s.n = omega (arith, eqb-false s.n 1 e, (in_range_size s r).0) in
        rests_within s.n (rest_bound s.n (length s.queue)) (turn_bound s) (drive s first_pair)
        (record { size = refl; at = record { in_range_lem = r; in_round = round_order.starts s.n two }; suits = ok })
        (potential_most s r ok) (omega arith)

pub turns_end : TurnsEnd
turns_end =
    record {
      within = λ s p k x ok h. rests_within s.n (potential s) k (drive s p) (record { size = refl; at = x; suits = ok }) (omega arith) h;
      first = λ s r ok. rests_after (turn_bound s) (drive s first_pair) (first_enough s r ok);
    }

pub left_first : (s : State) → in_range s ≡ true → suited s ≡ true → Left s (turn_bound s) 0 (drive s first_pair)
left_first s r ok = record { enough = first_enough s r ok; number = omega arith; table = refl }

module _ (r : PairRule) (n : ℕ) (lim : Limits) (h : RunHolds r n lim) where
  abbrev T : List Event → State
  T es = run_by r n lim es

  accepts : (es : List Event) (p : Place) (ms : List Move) → quiet_moves ms ≡ true → accepted_by (drive (T es) p) ms ≤ rest_bound n (length (T es).queue)
  accepts es p ms q = omega (arith, schedule_within (drive (T es) p) ms (runs_suit r n lim es) q, run_potential r n lim h es)

  pub driver_rests : DriverRests r n lim
  driver_rests =
      record {
        accepts = accepts;
        turns_count = λ es p ms q. omega (arith, accepts es p ms q, turns_among (drive (T es) p) ms);
        empty_after = λ es p ms q k. none_left (driven (drive (T es) p) ms).table (omega (arith, schedule_within (drive (T es) p) ms (runs_suit r n lim es) q, k));
        unchanged = λ es p k e. unchanged k (drive (T es) p) e;
        turns = λ es p k e b.
            rests_within n (rest_bound n (length (T es).queue)) k (drive (T es) p)
            (record {
              size = run_size r n lim h es;
              at = record { in_range_lem = h.in_range_lem es; in_round = subst (λ (i : ℕ). is_in_round i p ≡ true) (sym (run_size r n lim h es)) e };
              suits = runs_suit r n lim es;
            })
            (run_potential r n lim h es) b;
        alone = λ es e. alone_empty (T es) (h.in_range_lem es) (run_size r n lim h es ∙ e);
        first = λ es. turns_end.first (T es) (h.in_range_lem es) (runs_suit r n lim es);
        within = λ es. subst (λ (i : ℕ). turns_to_rest (T es) ≤ rest_bound i (length (T es).queue) * round_size i) (run_size r n lim h es) (within_most (turn_bound (T es)) (drive (T es) first_pair));
      }

pub driver_comes_to_rest : DriverComesToRest
driver_comes_to_rest =
    record {
      for_tower = λ n low high. driver_rests TwoPairs n (record { nodes = 16; messages = 64 }) (tower_and_stand.for_tower n low high);
      for_stand = λ n low high. driver_rests TwoPairs n (record { nodes = 4; messages = 12 }) (tower_and_stand.for_stand n low high);
      any_limits = λ n lim a b low high. driver_rests LeftOut n lim (tower_and_stand.any_limits n lim a b low high);
    }
