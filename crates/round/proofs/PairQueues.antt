-- The queue of a pair, its messages from the oldest on: what an event, and a list of events, leave of it.
use Prim.Native.Nat.{ℕ, ◌+◌, ◌-◌, ◌≤◌, ◌<◌}
use native.Mathlib.Omega.{arith}
use mathlib.Core.Bool.{Bool, true, false, ◌&&◌, ◌||◌}
use mathlib.Core.Path.{◌≡◌, refl, sym, ◌∙◌, ap}
use mathlib.Core.List.{List, [], ◌∷◌, ◌++◌, append-nil, append_assoc}
use lib.Dec.{eqb, ltb}
use lib.ListN.{length, get_or, drop, length-append, length-drop, get_or-append}
use lib.Seq.{drop-append-le, get_or-drop, drop-drop}
use borrow.Author.Tests.{eqb-true, ltb-true, lt-ltb}
use Rattle.model.specs.Pick.{pick, pick_true, pick_false}
use Rattle.model.specs.Counts.{count_at, one}
use Rattle.model.specs.State.{State, no_message, goes, waits, oldest, without_oldest, how_many, waiting}
use Rattle.model.specs.Step.{reaction_to, remaining, sent, effect, Result, refused, accepted, step, kept, after, run_from}
use Rattle.model.specs.Traffic.{delivers, loses, of_accepted, tally}
use Rattle.model.proofs.Judged.{by_step}
use Rattle.model.proofs.Local.{both_left, both_right}
use Rattle.model.proofs.Fields.{Counting}
use Rattle.model.proofs.Counts.{out_counted}
use Rattle.model.proofs.InRange.{event_counted}
use Rattle.model.proofs.Traffic.{tally_is}
use Rattle.model.specs.declared.Message.{Message}
use Rattle.model.specs.declared.Event.{Event}
use Rattle.model.specs.declared.Event.TheVariants.{Crash, Recover, Check, Timeout, Tick, Expire, Finish, Deliver, Lose}
use Rattle.round.specs.Schedule.{pair_queue, Waits, message_at, takes, out_of, comes_in, came_in}
use Rattle.round.specs.Claims.{OldestFirst}

-- ── the queue of a pair ──
-- a message of a pair waits where more than none do
pub waits_some : (a b : ℕ) (q : List Message) → waits a b q ≡ ltb 0 (waiting q a b)
unfolding waits how_many
waits_some a b [] = refl
waits_some a b (m ∷ ms) = by (goes a b m) (waits_some a b ms)
  where
    by : (t : Bool) → waits a b ms ≡ ltb 0 (waiting ms a b) → (t || waits a b ms) ≡ ltb 0 (one t + waiting ms a b)
    by true f = sym (lt-ltb 0 (1 + waiting ms a b) (omega arith))
    by false f = let z : waiting ms a b ≡ 0 + waiting ms a b = omega arith in f ∙ ap (ltb 0) z

pub some_waits : (a b : ℕ) (q : List Message) → 0 < waiting q a b → waits a b q ≡ true
some_waits a b q h = waits_some a b q ∙ lt-ltb 0 (waiting q a b) h

pub waits_positive : (a b : ℕ) (q : List Message) → waits a b q ≡ true → 0 < waiting q a b
waits_positive a b q w = ltb-true 0 (waiting q a b) (sym (waits_some a b q) ∙ w)

pick_append : (t : Bool) (m : Message) (x y z : List Message) → x ≡ y ++ z → pick t (m ∷ x) x ≡ pick t (m ∷ y) y ++ z
unfolding pick
pick_append true m x y z e = ap (λ (l : List Message). m ∷ l) e
pick_append false m x y z e = e

pick_first : (t : Bool) (m o : Message) (l : List Message) → get_or l 0 no_message ≡ o → get_or (pick t (m ∷ l) l) 0 no_message ≡ pick t m o
unfolding pick
pick_first true m o l e = refl
pick_first false m o l e = e

pick_length : (t : Bool) (m : Message) (l : List Message) (k : ℕ) → length l ≡ k → length (pick t (m ∷ l) l) ≡ one t + k
unfolding pick
pick_length true m l k e = omega (arith, e)
pick_length false m l k e = omega (arith, e)

-- a message that goes from x to y does not go from a to b, where these are not the same two
goes_other : (a b x y : ℕ) (m : Message) → eqb x a && eqb y b ≡ false → goes x y m ≡ true → goes a b m ≡ false
goes_other a b x y m d g =
    let e = eqb-true m.sender x (both_left (eqb m.sender x) _ g) in
    let f = eqb-true m.receiver y (both_right (eqb m.sender x) _ g) in
    rw (e, f) d

module _ (a b : ℕ) where
  pub queue_append : (q r : List Message) → pair_queue (q ++ r) a b ≡ pair_queue q a b ++ pair_queue r a b
  unfolding pair_queue
  queue_append [] r = refl
  queue_append (m ∷ q) r = pick_append (goes a b m) m (pair_queue (q ++ r) a b) (pair_queue q a b) (pair_queue r a b) (queue_append q r)

  -- as many as wait
  pub queue_size : (q : List Message) → length (pair_queue q a b) ≡ waiting q a b
  unfolding pair_queue how_many
  queue_size [] = refl
  queue_size (m ∷ q) = pick_length (goes a b m) m (pair_queue q a b) (how_many (goes a b) q) (queue_size q)

  -- the first is the oldest
  pub queue_first : (q : List Message) → message_at q a b 0 ≡ oldest a b q
  unfolding pair_queue oldest
  queue_first [] = refl
  queue_first (m ∷ q) = pick_first (goes a b m) m (oldest a b q) (pair_queue q a b) (queue_first q)

  -- the oldest from a to b taken out
  pub queue_without : (q : List Message) → pair_queue (without_oldest a b q) a b ≡ drop 1 (pair_queue q a b)
  unfolding pair_queue without_oldest
  queue_without [] = refl
  queue_without (m ∷ q) = go (goes a b m) refl (queue_without q)
    where
      go : (t : Bool) → goes a b m ≡ t → pair_queue (without_oldest a b q) a b ≡ drop 1 (pair_queue q a b)
          → pair_queue (pick (goes a b m) q (m ∷ without_oldest a b q)) a b ≡ drop 1 (pick (goes a b m) (m ∷ pair_queue q a b) (pair_queue q a b))
      go true e f = rw (e, pick_true, pick_true)
      go false e f = rw (e, pick_false, pick_false, e, pick_false) f

  -- the oldest from x to y taken out, which are not these two
  queue_other : (x y : ℕ) (q : List Message) → eqb x a && eqb y b ≡ false → pair_queue (without_oldest x y q) a b ≡ pair_queue q a b
  unfolding pair_queue without_oldest
  queue_other x y [] d = refl
  queue_other x y (m ∷ q) d = go (goes x y m) refl (queue_other x y q d)
    where
      go : (t : Bool) → goes x y m ≡ t → pair_queue (without_oldest x y q) a b ≡ pair_queue q a b
          → pair_queue (pick (goes x y m) q (m ∷ without_oldest x y q)) a b ≡ pick (goes a b m) (m ∷ pair_queue q a b) (pair_queue q a b)
      go true e f = rw (e, pick_true, goes_other a b x y m d e, pick_false)
      go false e f = rw (e, pick_false) (ap (λ (l : List Message). pick (goes a b m) (m ∷ l) l) f)

  -- ── an event ──
  without_queue : (x y : ℕ) (q : List Message) (k : ℕ) → k ≡ one (eqb x a && eqb y b) → pair_queue (without_oldest x y q) a b ≡ drop k (pair_queue q a b)
  without_queue x y q k = go (eqb x a && eqb y b) refl
    where
      go : (t : Bool) → eqb x a && eqb y b ≡ t → k ≡ one t → pair_queue (without_oldest x y q) a b ≡ drop k (pair_queue q a b)
      go true e z = rw (z, eqb-true x a (both_left (eqb x a) _ e), eqb-true y b (both_right (eqb x a) _ e)) (queue_without q)
      go false e z = rw z (queue_other x y q e)

  remaining_queue : (s : State) (e : Event) → pair_queue (remaining s e) a b ≡ drop (takes a b s e) (pair_queue s.queue a b)
  unfolding remaining
  remaining_queue s (Crash i) = refl
  remaining_queue s (Recover i) = refl
  remaining_queue s (Check i) = refl
  remaining_queue s (Timeout i) = refl
  remaining_queue s (Tick i) = refl
  remaining_queue s (Expire i) = refl
  remaining_queue s (Finish i t) = refl
  remaining_queue s (Deliver x y) = without_queue x y s.queue (takes a b s (Deliver x y)) (omega arith)
  remaining_queue s (Lose x y) = without_queue x y s.queue (takes a b s (Lose x y)) (omega arith)

  -- what an event takes out of it, and what it puts behind it
  taken : State → Event → ℕ
  taken s e = of_accepted (takes a b s e) (step s e)

  event_queue : (s : State) (e : Event) → pair_queue (after s e).queue a b ≡ drop (taken s e) (pair_queue s.queue a b) ++ pair_queue (comes_in s e (step s e)) a b
  unfolding effect pair_queue taken
  event_queue s e =
      by_step (λ r. pair_queue (kept s r).queue a b ≡ drop (of_accepted (takes a b s e) r) (pair_queue s.queue a b) ++ pair_queue (comes_in s e r) a b) s e
      (λ _. sym (append-nil (pair_queue s.queue a b)))
      (λ _ _. queue_append (remaining s e) (sent (reaction_to s e).outgoing) ∙ ap (λ (l : List Message). l ++ pair_queue (sent (reaction_to s e).outgoing) a b) (remaining_queue s e))

  -- it takes out what was there
  taken_there : (s : State) (e : Event) → taken s e ≤ length (pair_queue s.queue a b)
  unfolding taken
  taken_there s e =
      by_step (λ r. of_accepted (takes a b s e) r ≤ length (pair_queue s.queue a b)) s e (λ _. omega arith)
      (λ c _. omega (arith, queue_size s.queue, out_counted s e a b c.waiting))

  -- ── a list of events ──
  run_queue : (s : State) (es : List Event) → pair_queue (run_from s es).queue a b ≡ drop (out_of a b s es) (pair_queue s.queue a b ++ came_in a b s es)
  unfolding run_from tally came_in taken
  run_queue s [] = sym (append-nil (pair_queue s.queue a b))
  run_queue s (e ∷ es) =
      let x = pair_queue s.queue a b in
      let y = pair_queue (comes_in s e (step s e)) a b in
      let z = came_in a b (after s e) es in
      let o = taken s e in
      let p = out_of a b (after s e) es in
      run_queue (after s e) es
      ∙ ap (λ (l : List Message). drop p (l ++ z)) (event_queue s e)
      ∙ ap (drop p) (append_assoc (drop o x) y z)
      ∙ ap (drop p) (sym (drop-append-le o x (y ++ z) (taken_there s e)))
      ∙ drop-drop p o (x ++ (y ++ z))

  -- one with k older ones, of which no more than k went out
  queue_same : (s : State) (es : List Event) (k : ℕ) → Waits s.queue a b k → out_of a b s es ≤ k
      → Waits (run_from s es).queue a b (k - out_of a b s es) × (message_at (run_from s es).queue a b (k - out_of a b s es) ≡ message_at s.queue a b k)
  queue_same s es k w h =
      let o = out_of a b s es in
      let x = pair_queue s.queue a b in
      let z = came_in a b s es in
      let l = run_queue s es in (
        omega (arith, w, h, queue_size s.queue, queue_size (run_from s es).queue, ap length l, length-drop o (x ++ z), length-append x z),
        ap (λ (r : List Message). get_or r (k - o) no_message) l
            ∙ get_or-drop o (x ++ z) (k - o) no_message
            ∙ ap (λ (j : ℕ). get_or (x ++ z) j no_message) (whole o h)
            ∙ get_or-append x z no_message k (omega (arith, w, queue_size s.queue)),
      )
    where
      whole : (o : ℕ) → o ≤ k → o + (k - o) ≡ k
      whole o h = omega arith

-- what two tests count together
tally_sum : (f g : State → Event → ℕ) (s : State) (es : List Event) → tally (λ u e. f u e + g u e) s es ≡ tally f s es + tally g s es
unfolding tally
tally_sum f g s [] = omega arith
tally_sum f g s (e ∷ es) = omega (arith, tally_sum f g (after s e) es, by (step s e))
  where
    by : (r : Result) → of_accepted (f s e + g s e) r ≡ of_accepted (f s e) r + of_accepted (g s e) r
    by (refused x) = omega arith
    by (accepted u k) = omega arith

-- how many went out, by the table's own counts
pub out_by_counts : (s : State) (es : List Event) (a b : ℕ) → Counting a b
    → count_at (run_from s es).delivered a b + count_at (run_from s es).lost a b ≡ count_at s.delivered a b + count_at s.lost a b + out_of a b s es
out_by_counts s es a b p =
    omega (
      arith,
      tally_is (λ u. u.delivered) (delivers a b) a b (λ u e c. (event_counted u e c a b p).delivered) s es,
      tally_is (λ u. u.lost) (loses a b) a b (λ u e c. (event_counted u e c a b p).lost) s es,
      tally_sum (delivers a b) (loses a b) s es,
    )

pub oldest_first : OldestFirst
oldest_first =
    record {
      size = λ q a b. queue_size a b q;
      first = λ q a b. queue_first a b q;
      queue = λ s es a b. run_queue a b s es;
      same = λ s es a b k. queue_same a b s es k;
      counted = λ s es a b l h m k. out_by_counts s es a b (record { low = l; high = h; low_to = m; high_to = k });
    }
