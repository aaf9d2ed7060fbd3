-- The cases of T-05.
use Prim.Native.Nat.{ℕ, zero, suc, ◌+◌, ◌≤◌, ◌<◌}
use native.Mathlib.Omega.{arith}
use mathlib.Core.Bool.{Bool, true, false, ◌&&◌}
use mathlib.Core.Path.{◌≡◌, refl, ◌∙◌, ap, subst}
use mathlib.Core.List.{List, [], ◌∷◌}
use lib.Dec.{eqb, leb, ltb}
use lib.ListN.{length, set, replicate, length-set, length-replicate}
use lib.Seq.{get_or-set_same, get_or-set_other}
use lib.Count.{ones_in, ones, count_leading_zeros}
use lib.Bits.{bit_and, bit_or}
use borrow.Author.Tests.{eqb-true, eqb-false, eq-eqb, leb-true, ltb-true}
use Rattle.model.specs.Pick.{pick, pick_true, pick_false}
use Rattle.model.specs.Limits.{tower, stand, traffic_end}
use Rattle.model.specs.Counts.{pair_place, count_at, no_counts}
use Rattle.model.specs.Node.{asks}
use Rattle.model.specs.Procedures.{invite_next, merges, hand_next, finishes, forward_next, asked_all, ask_at, ask_after}
use Rattle.model.specs.React.{checked, timed_out, ticked, expired, resumed, on_are_you_coordinator, on_are_you_there, on_invitation, on_accept, on_ready, on_reply, received, react}
use Rattle.model.specs.Range.{is_tower_or_stand, TwoPairs, activity_in_range, node_in_range, message_in_range, is_node, is_pair, count_in_range}
use Rattle.model.specs.State.{in_range, State, starting_node, all_waiting, waits, oldest, without_oldest, how_many, waiting, counts_of, every, up_to, adds_up, base_in_range, counts_in_range, traffic_in_range}
use Rattle.model.specs.Grounds.{judged}
use Rattle.model.specs.Step.{step, grounds, reaction_to, remaining, effect, wrong_number, wrong_task, wrong_status, wrong_activity, not_coordinator, none_waits, Result, refused, accepted, kept, after}
use Rattle.model.specs.Cases.{k10, past, only, with_counts, some_wait, among, TrafficCases}
use Rattle.model.proofs.Fields.{parts, Counting, in_range_pair, node_is, other_is, in_range_size, in_range_places, in_range_each, in_range_sum}
use Rattle.model.proofs.Counts.{same_pair, up_to_all, pair_counting, is_count}
use Rattle.model.proofs.InRange.{every_set, every_replicate, none_in}
use Rattle.model.proofs.Aside.{in_range_base, later}
use Rattle.model.proofs.Local.{both_left, both_right}
use Rattle.model.proofs.Waiting.{waiting_in}
use Rattle.model.proofs.Pairs.{pair_within}
use Rattle.model.proofs.Cases.{two_counting, among_same}
use Rattle.model.specs.declared.Limits.{Limits}
use Rattle.model.specs.declared.Node.{Node}
use Rattle.model.specs.declared.Message.{Message}
use Rattle.model.specs.declared.Event.{Event}
use Rattle.model.specs.declared.Event.TheVariants.{Crash}

and_true : (t : Bool) → (t && true) ≡ t
and_true true = refl
and_true false = refl

-- ── a table with more messages of a pair behind it ──
module _ (s : State) (a b d l : ℕ) (r : in_range s ≡ true) (p : is_pair s.n a b ≡ true) (h : count_at s.sent a b + d + l ≤ traffic_end) where
  small : s.n ≤ 16
  small = (in_range_size s r).1

  here : Counting a b
  here = pair_counting s.n a b small p

  places : (length s.sent ≡ 256) × (length s.delivered ≡ 256) × (length s.lost ≡ 256)
  places = in_range_places s r

  each : (every (count_in_range s.n) 0 s.sent ≡ true) × (every (count_in_range s.n) 0 s.delivered ≡ true) × (every (count_in_range s.n) 0 s.lost ≡ true)
  each = in_range_each s r

  nodes : (1 ≤ a) × (a ≤ s.n) × (1 ≤ b) × (b ≤ s.n)
  nodes =
      let x = node_is s.n a (both_left _ _ p) in
      let y = other_is s.n a b (both_right (is_node s.n a) _ p) in
      (x.low, x.high, y.low, y.high)

  sum_here : count_at s.sent a b ≡ count_at s.delivered a b + count_at s.lost a b + waiting s.queue a b
  sum_here = in_range_sum s a b r nodes.0 nodes.1 nodes.2 nodes.3

  set_here : (k : List ℕ) (v : ℕ) → length k ≡ 256 → count_at (set k (pair_place a b) v) a b ≡ v
  set_here k v e = get_or-set_same k (pair_place a b) v 0 (omega (arith, e, here.low, here.high, here.low_to, here.high_to))

  set_there : (k : List ℕ) (v x y : ℕ) → Counting x y → ((a ≡ x) × (b ≡ y) → ⊥) → count_at (set k (pair_place a b) v) x y ≡ count_at k x y
  set_there k v x y q f = get_or-set_other k (pair_place a b) (pair_place x y) v 0 (λ e. f (same_pair a b x y here q e))

  sums : (x y : ℕ) → 1 ≤ x → x ≤ s.n → 1 ≤ y → y ≤ s.n → adds_up (past a b d l s) x y ≡ true
  sums x y i j k m = by (eqb a x) (eqb b y) refl refl
    where
      there : ((a ≡ x) × (b ≡ y) → ⊥) → adds_up (past a b d l s) x y ≡ true
      there f =
          let q : Counting x y = record { low = i; high = omega (arith, small); low_to = k; high_to = omega (arith, small) } in
          eq-eqb (count_at (past a b d l s).sent x y) (count_at (past a b d l s).delivered x y + count_at (past a b d l s).lost x y + waiting s.queue x y)
          (omega (arith, set_there s.sent (count_at s.sent a b + d + l) x y q f, set_there s.delivered (count_at s.delivered a b + d) x y q f, set_there s.lost (count_at s.lost a b + l) x y q f, in_range_sum s x y r i j k m))

      by : (t u : Bool) → eqb a x ≡ t → eqb b y ≡ u → adds_up (past a b d l s) x y ≡ true
      by true true e f =
          subst (λ (z : ℕ). adds_up (past a b d l s) z y ≡ true) (eqb-true a x e)
          (subst (λ (z : ℕ). adds_up (past a b d l s) a z ≡ true) (eqb-true b y f)
          (eq-eqb (count_at (past a b d l s).sent a b) (count_at (past a b d l s).delivered a b + count_at (past a b d l s).lost a b + waiting s.queue a b)
          (omega (arith, set_here s.sent (count_at s.sent a b + d + l) places.0, set_here s.delivered (count_at s.delivered a b + d) places.1, set_here s.lost (count_at s.lost a b + l) places.2, sum_here))))
      by true false e f = there (λ z. eqb-false b y f z.1)
      by false u e f = there (λ z. eqb-false a x e z.0)

  pub past_in : in_range (past a b d l s) ≡ true
  unfolding in_range traffic_in_range counts_in_range
  past_in =
      rw (
        in_range_pair s r,
        (in_range_base s r).0,
        (in_range_base s r).1,
        eq-eqb _ 256 (length-set s.sent (pair_place a b) (count_at s.sent a b + d + l) ∙ places.0),
        eq-eqb _ 256 (length-set s.delivered (pair_place a b) (count_at s.delivered a b + d) ∙ places.1),
        eq-eqb _ 256 (length-set s.lost (pair_place a b) (count_at s.lost a b + l) ∙ places.2),
        every_set (count_in_range s.n) 0 s.sent (pair_place a b) (count_at s.sent a b + d + l) each.0 (is_count s.n a b (count_at s.sent a b + d + l) small p h),
        every_set (count_in_range s.n) 0 s.delivered (pair_place a b) (count_at s.delivered a b + d) each.1 (is_count s.n a b (count_at s.delivered a b + d) small p (omega (arith, h, sum_here))),
        every_set (count_in_range s.n) 0 s.lost (pair_place a b) (count_at s.lost a b + l) each.2 (is_count s.n a b (count_at s.lost a b + l) small p (omega (arith, h, sum_here))),
        up_to_all s.n (λ x. up_to s.n (λ y. adds_up (past a b d l s) x y)) (λ x i j. up_to_all s.n (λ y. adds_up (past a b d l s) x y) (λ y k m. sums x y i j k m)),
      )

-- ── a step from a table in range: by the grounds after the first ──
abbrev pub known : State → Event → Result
known s e = judged refused (accepted (effect s e) (reaction_to s e).mark) (later (grounds s e))

pub known_is : (s : State) (e : Event) → in_range s ≡ true → step s e ≡ known s e
unfolding step grounds judged
known_is s e r = rw (r, pick_false) refl

after_many_in : (lim : Limits) → is_tower_or_stand lim ≡ true → (n : ℕ) (cs : List Node) (q : List Message) (a b d l : ℕ) (e : Event) → base_in_range lim n cs q ≡ true → is_pair n a b ≡ true
    → leb (count_at (counts_of q) a b + d + l) traffic_end ≡ true → step (past a b d l (all_waiting n lim cs q)) e ≡ known (past a b d l (all_waiting n lim cs q)) e
after_many_in lim o n cs q a b d l e r p h =
    known_is (past a b d l (all_waiting n lim cs q)) e (past_in (all_waiting n lim cs q) a b d l (waiting_in TwoPairs n lim cs q o (pair_within lim o) r) p (leb-true _ traffic_end h))

after_many : (n : ℕ) (cs : List Node) (q : List Message) (a b d l : ℕ) (e : Event) → base_in_range tower n cs q ≡ true → is_pair n a b ≡ true → leb (count_at (counts_of q) a b + d + l) traffic_end ≡ true
    → step (past a b d l (all_waiting n tower cs q)) e ≡ known (past a b d l (all_waiting n tower cs q)) e
after_many = after_many_in tower refl

once : (n : ℕ) (cs : List Node) (q : List Message) (e : Event) → base_in_range tower n cs q ≡ true → after (all_waiting n tower cs q) e ≡ kept (all_waiting n tower cs q) (known (all_waiting n tower cs q) e)
once n cs q e r = ap (kept (all_waiting n tower cs q)) (known_is (all_waiting n tower cs q) e (waiting_in TwoPairs n tower cs q refl refl r))

by_range : (s : State) (e : Event) → in_range s ≡ false → step s e ≡ refused 1
unfolding step grounds judged
by_range s e r = rw (r, pick_true) refl

-- ── counts of which one is not 0: only that one is computed ──
every_only : (f : ℕ → ℕ → Bool) (j m k x : ℕ) → ((i : ℕ) → f i 0 ≡ true) → k < m → every f j (set (replicate m 0) k x) ≡ f (j + k) x
unfolding every
every_only f j zero k x z h = absurd (omega arith)
every_only f j (suc m) zero x z h =
    ap (λ (t : Bool). f j x && t) (every_replicate f (j + 1) m 0 z) ∙ and_true (f j x) ∙ ap (λ (i : ℕ). f i x) (omega arith)
every_only f j (suc m) (suc k) x z h =
    ap (λ (t : Bool). t && every f (j + 1) (set (replicate m 0) k x)) (z j) ∙ every_only f (j + 1) m k x z (omega arith) ∙ ap (λ (i : ℕ). f i x) (omega arith)

counts_only : (n a b x : ℕ) → ltb (pair_place a b) 256 ≡ true → counts_in_range n (only a b x) ≡ count_in_range n (pair_place a b) x
unfolding counts_in_range
counts_only n a b x h =
    ap (λ (t : Bool). t && every (count_in_range n) 0 (only a b x)) (eq-eqb _ 256 (length-set no_counts (pair_place a b) x ∙ length-replicate {A = ℕ} 256 0))
    ∙ every_only (count_in_range n) 0 256 (pair_place a b) x (none_in n) (ltb-true _ 256 h)
    ∙ ap (λ (i : ℕ). count_in_range n i x) (omega arith)

abbrev pub only_in_range : List Message → ℕ → ℕ → ℕ → ℕ → ℕ → ℕ → ℕ → ℕ → ℕ → Bool
only_in_range q a b x c d y e f z =
    base_in_range tower 3 (replicate 3 starting_node) q
    && (count_in_range 3 (pair_place a b) x
    && count_in_range 3 (pair_place c d) y
    && count_in_range 3 (pair_place e f) z
    && up_to 3 (λ i. up_to 3 (λ j. adds_up (with_counts q (only a b x) (only c d y) (only e f z)) i j)))

pub only_in_range_lem : (q : List Message) (a b x c d y e f z : ℕ) → (ltb (pair_place a b) 256 && ltb (pair_place c d) 256 && ltb (pair_place e f) 256) ≡ true
    → in_range (with_counts q (only a b x) (only c d y) (only e f z)) ≡ only_in_range q a b x c d y e f z
unfolding in_range traffic_in_range
only_in_range_lem q a b x c d y e f z h =
    let r = parts (ltb (pair_place a b) 256) (ltb (pair_place c d) 256 ∷ ltb (pair_place e f) 256 ∷ []) h in
    rw (counts_only 3 a b x r.0, counts_only 3 c d y r.1.0, counts_only 3 e f z r.1.1.0)

-- the same where f and g agree on the numbers of the list
abbrev Agree : (f g : ℕ → Bool) → List ℕ → Type 0
Agree f g [] = Unit {0}
Agree f g (x ∷ l) = (f x ≡ g x) × Agree f g l

among_agree : (f g : ℕ → Bool) (l : List ℕ) → Agree f g l → among f l ≡ among g l
among_agree f g [] h = refl
among_agree f g (x ∷ l) h = ap (λ (t : Bool). pick t (x ∷ among f l) (among f l)) h.0 ∙ ap (λ (k : List ℕ). pick (g x) (x ∷ k) k) (among_agree f g l h.1)

pub traffic_cases : TrafficCases
unfolding pick ones_in ones count_leading_zeros bit_and bit_or invite_next merges hand_next finishes forward_next asked_all ask_at ask_after checked timed_out ticked expired resumed on_are_you_coordinator on_are_you_there on_invitation on_accept on_ready on_reply received react activity_in_range node_in_range message_in_range count_in_range counts_of how_many up_to counts_in_range waits oldest without_oldest every reaction_to remaining effect wrong_number wrong_task wrong_status wrong_activity not_coordinator none_waits grounds judged
traffic_cases =
    record {
      k10_sent = ap (λ (s : State). count_at s.sent 1 2 ∷ count_at s.sent 2 1 ∷ []) (two_counting k10 (omega arith));
      k10_delivered = ap (λ (s : State). count_at s.delivered 1 2 ∷ count_at s.delivered 2 1 ∷ []) (two_counting k10 (omega arith));
      at_end = after_many _ _ _ 2 1 33554430 0 _ refl refl refl;
      below_end = after_many _ _ _ 2 1 33554429 0 _ refl refl refl;
      at_end_lost = after_many _ _ _ 2 1 0 33554430 _ refl refl refl;
      at_end_waiting = after_many _ _ _ 2 1 33554429 0 _ refl refl refl;
      at_end_reply = after_many _ _ _ 2 1 33554430 0 _ refl refl refl;
      other_pair = after_many _ _ _ 1 2 33554430 0 _ refl refl refl;
      half_at_end = after_many _ _ _ 1 2 33554430 0 _ refl refl refl;
      half_at_end_above = after_many _ _ _ 1 2 33554430 0 _ refl refl refl;
      majority_at_end = after_many _ _ _ 1 2 33554430 0 _ refl refl refl;
      member_at_end = after_many _ _ _ 2 1 33554430 0 _ refl refl refl;
      nothing_sent = after_many _ _ _ 2 1 33554430 0 _ refl refl refl;
      lose_at_end = after_many _ _ _ 2 1 33554429 0 _ refl refl refl;
      deliver_at_end = after_many _ _ _ 2 1 33554429 0 _ refl refl refl;
      ends_twelve = after_many _ _ _ 2 1 33554366 0 _ refl refl refl;
      ends_thirteen = after_many _ _ _ 2 1 33554366 0 _ refl refl refl;
      ends_fourteen = after_many _ _ _ 2 1 33554366 0 _ refl refl refl;
      ends_seventeen = after_many _ _ _ 2 1 33554367 0 _ refl refl refl;
      stand_fourteen = after_many_in stand refl _ _ _ 2 1 33554418 0 _ refl refl refl;
      stand_seventeen = after_many_in stand refl _ _ _ 2 1 33554419 0 _ refl refl refl;
      delivery_counts = once _ _ _ _ refl;
      loss_counts = once _ _ _ _ refl;
      refused_counts = once _ _ _ _ refl;
      sum_sent = among_same (λ (x : ℕ). in_range (with_counts (some_wait 2) (only 1 2 x) (only 1 2 3) (only 1 2 4))) (λ (x : ℕ). only_in_range (some_wait 2) 1 2 x 1 2 3 1 2 4) (λ (x : ℕ). only_in_range_lem (some_wait 2) 1 2 x 1 2 3 1 2 4 refl) (8 ∷ 9 ∷ 10 ∷ []);
      sum_delivered = among_same (λ (x : ℕ). in_range (with_counts (some_wait 2) (only 1 2 9) (only 1 2 x) (only 1 2 4))) (λ (x : ℕ). only_in_range (some_wait 2) 1 2 9 1 2 x 1 2 4) (λ (x : ℕ). only_in_range_lem (some_wait 2) 1 2 9 1 2 x 1 2 4 refl) (2 ∷ 3 ∷ 4 ∷ []);
      sum_lost = among_same (λ (x : ℕ). in_range (with_counts (some_wait 2) (only 1 2 9) (only 1 2 3) (only 1 2 x))) (λ (x : ℕ). only_in_range (some_wait 2) 1 2 9 1 2 3 1 2 x) (λ (x : ℕ). only_in_range_lem (some_wait 2) 1 2 9 1 2 3 1 2 x refl) (3 ∷ 4 ∷ 5 ∷ []);
      sum_waiting = among_same (λ (x : ℕ). in_range (with_counts (some_wait x) (only 1 2 9) (only 1 2 3) (only 1 2 4))) (λ (x : ℕ). only_in_range (some_wait x) 1 2 9 1 2 3 1 2 4) (λ (x : ℕ). only_in_range_lem (some_wait x) 1 2 9 1 2 3 1 2 4 refl) (1 ∷ 2 ∷ 3 ∷ []);
      sum_two = among_same (λ (x : ℕ). in_range (with_counts [] (only 2 3 x) (only 1 2 0) (only 1 2 0))) (λ (x : ℕ). only_in_range [] 2 3 x 1 2 0 1 2 0) (λ (x : ℕ). only_in_range_lem [] 2 3 x 1 2 0 1 2 0 refl) (0 ∷ 1 ∷ []);
      sum_three = among_same (λ (x : ℕ). in_range (with_counts [] (only 3 2 x) (only 1 2 0) (only 1 2 0))) (λ (x : ℕ). only_in_range [] 3 2 x 1 2 0 1 2 0) (λ (x : ℕ). only_in_range_lem [] 3 2 x 1 2 0 1 2 0 refl) (0 ∷ 1 ∷ []);
      sum_sender = among_agree (λ (a : ℕ). in_range (with_counts (asks 1 3 (record { number = 1 }) ∷ []) (only a 3 1) (only 1 2 0) (only 1 2 0))) (λ (a : ℕ). only_in_range (asks 1 3 (record { number = 1 }) ∷ []) a 3 1 1 2 0 1 2 0) (1 ∷ 2 ∷ []) (only_in_range_lem (asks 1 3 (record { number = 1 }) ∷ []) 1 3 1 1 2 0 1 2 0 refl, (only_in_range_lem (asks 1 3 (record { number = 1 }) ∷ []) 2 3 1 1 2 0 1 2 0 refl, tt));
      sum_receiver = among_agree (λ (b : ℕ). in_range (with_counts (asks 1 3 (record { number = 1 }) ∷ []) (only 1 b 1) (only 1 2 0) (only 1 2 0))) (λ (b : ℕ). only_in_range (asks 1 3 (record { number = 1 }) ∷ []) 1 b 1 1 2 0 1 2 0) (2 ∷ 3 ∷ []) (only_in_range_lem (asks 1 3 (record { number = 1 }) ∷ []) 1 2 1 1 2 0 1 2 0 refl, (only_in_range_lem (asks 1 3 (record { number = 1 }) ∷ []) 1 3 1 1 2 0 1 2 0 refl, tt));
      pair_sender = among_agree (λ (a : ℕ). in_range (with_counts [] (only a 2 1) (only a 2 1) (only 1 2 0))) (λ (a : ℕ). only_in_range [] a 2 1 a 2 1 1 2 0) (1 ∷ 2 ∷ 3 ∷ 4 ∷ 16 ∷ []) (only_in_range_lem [] 1 2 1 1 2 1 1 2 0 refl, (only_in_range_lem [] 2 2 1 2 2 1 1 2 0 refl, (only_in_range_lem [] 3 2 1 3 2 1 1 2 0 refl, (only_in_range_lem [] 4 2 1 4 2 1 1 2 0 refl, (only_in_range_lem [] 16 2 1 16 2 1 1 2 0 refl, tt)))));
      pair_receiver = among_agree (λ (b : ℕ). in_range (with_counts [] (only 2 b 1) (only 1 2 0) (only 2 b 1))) (λ (b : ℕ). only_in_range [] 2 b 1 1 2 0 2 b 1) (1 ∷ 2 ∷ 3 ∷ 4 ∷ 16 ∷ []) (only_in_range_lem [] 2 1 1 1 2 0 2 1 1 refl, (only_in_range_lem [] 2 2 1 1 2 0 2 2 1 refl, (only_in_range_lem [] 2 3 1 1 2 0 2 3 1 refl, (only_in_range_lem [] 2 4 1 1 2 0 2 4 1 refl, (only_in_range_lem [] 2 16 1 1 2 0 2 16 1 refl, tt)))));
      pair_sent = only_in_range_lem [] 4 5 1 1 2 0 1 2 0 refl;
      pair_delivered = only_in_range_lem [] 1 2 0 4 5 1 1 2 0 refl;
      pair_lost = only_in_range_lem [] 1 2 0 1 2 0 4 5 1 refl;
      count_sent = among_same (λ (x : ℕ). in_range (with_counts (some_wait x) (only 1 2 (33554429 + x)) (only 1 2 33554429) (only 1 2 0))) (λ (x : ℕ). only_in_range (some_wait x) 1 2 (33554429 + x) 1 2 33554429 1 2 0) (λ (x : ℕ). only_in_range_lem (some_wait x) 1 2 (33554429 + x) 1 2 33554429 1 2 0 refl) (1 ∷ 2 ∷ []);
      count_delivered = among_same (λ (x : ℕ). in_range (with_counts [] (only 1 2 x) (only 1 2 x) (only 1 2 0))) (λ (x : ℕ). only_in_range [] 1 2 x 1 2 x 1 2 0) (λ (x : ℕ). only_in_range_lem [] 1 2 x 1 2 x 1 2 0 refl) (33554430 ∷ 33554431 ∷ []);
      count_lost = among_same (λ (x : ℕ). in_range (with_counts [] (only 1 2 x) (only 1 2 0) (only 1 2 x))) (λ (x : ℕ). only_in_range [] 1 2 x 1 2 0 1 2 x) (λ (x : ℕ). only_in_range_lem [] 1 2 x 1 2 0 1 2 x refl) (33554430 ∷ 33554431 ∷ []);
      places = refl;
      range_first = by_range (with_counts [] (only 1 2 1) (only 1 2 0) (only 1 2 0)) (Crash 9) (only_in_range_lem [] 1 2 1 1 2 0 1 2 0 refl);
      range_pair = by_range (with_counts [] (only 2 2 1) (only 2 2 1) (only 1 2 0)) (Crash 9) (only_in_range_lem [] 2 2 1 2 2 1 1 2 0 refl);
      range_end = by_range (with_counts (some_wait 2) (only 1 2 33554431) (only 1 2 33554429) (only 1 2 0)) (Crash 9) (only_in_range_lem (some_wait 2) 1 2 33554431 1 2 33554429 1 2 0 refl);
      number = refl;
      rows = refl;
    }
