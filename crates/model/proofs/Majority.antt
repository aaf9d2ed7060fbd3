-- Full peal only by a majority (02, T-10): the claims `MajorityRules`.
use Prim.Native.Nat.{ℕ, zero, suc, ◌+◌, ◌*◌, ◌≤◌, ◌<◌}
use native.Mathlib.Nat.{lt_of_not-le}
use native.Mathlib.Omega.{arith}
use mathlib.Core.Bool.{Bool, true, false, not, ◌&&◌, true≢false}
use mathlib.Core.Logic.{◌⊎◌, inl, inr}
use mathlib.Core.Path.{◌≡◌, refl, sym, ◌∙◌, ap, subst}
use mathlib.Core.List.{List, [], ◌∷◌, append-nil}
use lib.Dec.{eqb, leb}
use lib.ListN.{length}
use borrow.Author.Tests.{not-false, eqb-true, eqb-false, eq-eqb, ne_eqb, le-leb, leb-true}
use Rattle.node_set.specs.NodeSet.{has, with, within, highest, count}
use Rattle.node_set.proofs.Laws.{set_laws}
use Rattle.model.specs.Pick.{pick, pick_false}
use Rattle.model.specs.Limits.{call_end, traffic_end}
use Rattle.model.specs.Counts.{count_at}
use Rattle.model.specs.Procedures.{hand_next, finishes}
use Rattle.model.specs.React.{react}
use Rattle.model.specs.Range.{is_full_peal}
use Rattle.model.specs.State.{State, node_at}
use Rattle.model.specs.Grounds.{ground, judged}
use Rattle.model.specs.Step.{step, grounds, actor, reaction_to, remaining, effect, no_majority, Result, refused, accepted, run}
use Rattle.model.specs.Claims.{FullPeal, MoreThanHalf, IsCountedBy, CountedByBoth, finish_grounds, with_finish, FinishReaches, WithoutMajority, MeetsNineteen, MayHand, step_without_nineteen, MajorityRules}
use Rattle.model.proofs.Grounds.{judged_by, judged_without}
use Rattle.model.proofs.Judged.{accepted_apart, accepted_is, refused_same, met, passed, one_ground, ends_by}
use Rattle.model.proofs.Local.{both_left, both_right, right_fails}
use Rattle.model.proofs.Fields.{node_is, node_facts, in_range_size, in_range_node}
use Rattle.model.proofs.Early.{early_collects}
use Rattle.model.specs.declared.Limits.{Limits}
use Rattle.model.specs.declared.Node.{Node}
use Rattle.model.specs.declared.TaskNo.{TaskNo}
use Rattle.model.specs.declared.Mark.{Mark}
use Rattle.model.specs.declared.Mark.TheVariants.{Plain}
use Rattle.model.specs.declared.Event.{Event}
use Rattle.model.specs.declared.Event.TheVariants.{Crash, Recover, Check, Timeout, Tick, Expire, Finish, Deliver, Lose}

-- ── tests and statements ──
full_peal_is : (t : ℕ) → is_full_peal t ≡ true → FullPeal t
full_peal_is t e = (leb-true 100 t (both_left (leb 100 t) _ e), leb-true t 199 (both_right (leb 100 t) _ e))

full_peal_test : (t : ℕ) → FullPeal t → is_full_peal t ≡ true
full_peal_test t f = rw (le-leb 100 t f.0, le-leb t 199 f.1)

at_most : (n : ℕ) (c : Node) → 2 * count c.members + 2 ≤ n → MoreThanHalf n c → ⊥
at_most n c a m = omega arith

else_more : (n : ℕ) (c : Node) → (2 * count c.members + 2 ≤ n → ⊥) → MoreThanHalf n c
else_more n c f = let x : n < 2 * count c.members + 2 = lt_of_not-le f in omega arith

-- ── all of a finish ──
module _ (s : State) (i : ℕ) (t : TaskNo) where
  abbrev members : ℕ
  members = (node_at s i).members

  -- the ends of the ranges as the claim has them
  abbrev claimed : Result
  claimed =
      judged refused (accepted (with_finish s i t) Plain)
      (ground 13 (not (eqb members 0) && eqb (node_at s i).last.number call_end)
      ∷ ground 14 (not (eqb members 0) && eqb (length s.queue) s.limits.messages)
      ∷ ground 17 (not (eqb members 0) && eqb (count_at s.sent i (highest members)) traffic_end)
      ∷ [])

  ends_claimed : ends_by s i (finishes i (node_at s i) t) ≡ claimed
  unfolding finishes hand_next judged pick
  ends_claimed = by (eqb members 0) refl
    where
      by : (v : Bool) → eqb members 0 ≡ v → ends_by s i (finishes i (node_at s i) t) ≡ claimed
      by true e = rw (e, append-nil s.queue)
      by false e = rw e

  finish : step s (Finish i t) ≡ judged refused (accepted (with_finish s i t) Plain) (finish_grounds s i t)
  unfolding step grounds judged reaction_to react remaining effect
  finish =
      one_ground 1 _ _ _ _ refl
      (λ _. one_ground 7 _ _ _ _ refl
      (λ _. one_ground 8 _ _ _ _ refl
      (λ _. one_ground 9 _ _ _ _ refl
      (λ _. one_ground 10 _ _ _ _ refl
      (λ _. pick_false _ _ ∙ one_ground 19 _ _ _ _ refl (λ _. pick_false _ _ ∙ ends_claimed))))))

leaves : (s : State) (i : ℕ) (t : TaskNo) (u : State) (k : Mark) → step s (Finish i t) ≡ accepted u k → u ≡ with_finish s i t
leaves s i t u k q =
    judged_by refused (λ (r : Result). r ≡ accepted u k → u ≡ with_finish s i t) (accepted (with_finish s i t) Plain) (finish_grounds s i t)
    (λ r e. absurd (accepted_apart (sym e))) (λ _ e. cc) (sym (finish s i t) ∙ q)

-- ── one finish ──
more_than_half : (n : ℕ) (c : Node) (t : ℕ) → is_full_peal t && leb (2 * count c.members + 2) n ≡ false → FullPeal t → MoreThanHalf n c
more_than_half n c t e f =
    else_more n c (λ a. true≢false (sym (rw (full_peal_test t f) (le-leb (2 * count c.members + 2) n a)) ∙ e))

only_if : (s : State) (i : ℕ) (t : TaskNo) (u : State) (k : Mark) → step s (Finish i t) ≡ accepted u k → FullPeal t.number → MoreThanHalf s.n (node_at s i)
only_if s i t u k q = more_than_half s.n (node_at s i) t.number (accepted_is s (Finish i t) u k q).clear.majority

turned_away : (s : State) (i : ℕ) (t : TaskNo) → WithoutMajority s i t → step s (Finish i t) ≡ refused 19
unfolding judged pick
turned_away s i t x = by (leb (2 * count (node_at s i).members + 2) s.n) refl
  where
    by : (v : Bool) → leb (2 * count (node_at s i).members + 2) s.n ≡ v → step s (Finish i t) ≡ refused 19
    by true e =
        finish s i t
        ∙ rw (x.reaches.in_range_lem, x.reaches.number, x.reaches.given, x.reaches.not_down, x.reaches.collects, full_peal_test t.number x.full_peal, e)
    by false e =
        absurd (x.no_majority_lem (else_more s.n (node_at s i) (λ a. true≢false (sym (le-leb _ s.n a) ∙ e))))

passes : (s : State) (i : ℕ) (t : TaskNo) → FinishReaches s i t → (FullPeal t.number → MoreThanHalf s.n (node_at s i)) → MayHand s i
    → step s (Finish i t) ≡ accepted (with_finish s i t) Plain
unfolding judged pick
passes s i t x f h = finish s i t ∙ rw (x.in_range_lem, x.number, x.given, x.not_down, x.collects, no_nineteen) (by h)
  where
    clear : (v : Bool) → is_full_peal t.number && leb (2 * count (node_at s i).members + 2) s.n ≡ v → v ≡ false
    clear true e =
        absurd
        (at_most s.n (node_at s i) (leb-true _ s.n (both_right (is_full_peal t.number) _ e)) (f (full_peal_is t.number (both_left (is_full_peal t.number) _ e))))
    clear false e = refl

    no_nineteen : is_full_peal t.number && leb (2 * count (node_at s i).members + 2) s.n ≡ false
    no_nineteen = clear _ refl

    by : MayHand s i → claimed s i t ≡ accepted (with_finish s i t) Plain
    by (inl e) = rw (eq-eqb (node_at s i).members 0 e)
    by (inr m) =
        rw (
          right_fails (not (eqb (node_at s i).members 0)) (ne_eqb (node_at s i).last.number call_end (λ e. omega (arith, m.0))),
          right_fails (not (eqb (node_at s i).members 0)) (ne_eqb (length s.queue) s.limits.messages (λ e. omega (arith, m.1))),
          right_fails (not (eqb (node_at s i).members 0)) (ne_eqb (count_at s.sent i (highest (node_at s i).members)) traffic_end m.2),
        )

-- ── 19 ──
module _ (s : State) where
  nineteen_finish : (i : ℕ) (t : TaskNo) → step s (Finish i t) ≡ refused 19 → WithoutMajority s i t
  unfolding grounds pick
  nineteen_finish i t q =
      let a = met s (Finish i t) 19 refl q in
      record {
        reaches = record {
          in_range_lem = not-false _ (passed s (Finish i t) 1 19 refl q);
          number = not-false _ (passed s (Finish i t) 7 19 refl q);
          given = not-false _ (passed s (Finish i t) 8 19 refl q);
          not_down = passed s (Finish i t) 9 19 refl q;
          collects = not-false _ (passed s (Finish i t) 10 19 refl q);
        };
        full_peal = full_peal_is t.number (both_left (is_full_peal t.number) _ a);
        no_majority_lem = at_most s.n (node_at s i) (leb-true _ s.n (both_right (is_full_peal t.number) _ a));
      }

  -- no other event asks for a majority
  only_finish : (e : Event) → step s e ≡ refused 19 → no_majority s.n (node_at s (actor e)) e ≡ true → MeetsNineteen s e
  only_finish (Crash i) q a = absurd (true≢false (sym a))
  only_finish (Recover i) q a = absurd (true≢false (sym a))
  only_finish (Check i) q a = absurd (true≢false (sym a))
  only_finish (Timeout i) q a = absurd (true≢false (sym a))
  only_finish (Tick i) q a = absurd (true≢false (sym a))
  only_finish (Expire i) q a = absurd (true≢false (sym a))
  only_finish (Finish i t) q a = record { node = i; task = t; event = refl; is = nineteen_finish i t q }
  only_finish (Deliver a b) q x = absurd (true≢false (sym x))
  only_finish (Lose a b) q x = absurd (true≢false (sym x))

  nineteen : (e : Event) → step s e ≡ refused 19 → MeetsNineteen s e
  unfolding grounds pick
  nineteen e q = only_finish e q (met s e 19 refl q)

  -- and such a finish does meet it
  pub met_nineteen : (e : Event) → MeetsNineteen s e → step s e ≡ refused 19
  met_nineteen e x = ap (step s) x.event ∙ turned_away s x.node x.task x.is

  as_before : (e : Event) → (MeetsNineteen s e → ⊥) → step s e ≡ step_without_nineteen s e
  unfolding step
  as_before e f = judged_without refused (λ a b. refused_same) _ (λ x. accepted_apart) 19 (grounds s e) (λ q. f (nineteen e q))

  other_tasks : (i : ℕ) (t : TaskNo) → (FullPeal t.number → ⊥) → step s (Finish i t) ≡ step_without_nineteen s (Finish i t)
  other_tasks i t f = as_before (Finish i t) (λ x. f (nineteen_finish i t (met_nineteen (Finish i t) x)).full_peal)

  one : (e : Event) → s.n ≡ 1 → step s e ≡ refused 19 → ⊥
  one e h q = (nineteen e q).is.no_majority_lem (omega arith)

-- ── two full peals ──

-- a node of 1 to n that is in both sets
record InBoth (n a b : ℕ) : Type 0 where
  node : ℕ
  low : 1 ≤ node
  high : node ≤ n
  first : has a node ≡ true
  second : has b node ≡ true

-- there is one, or none
common : (n a b : ℕ) → InBoth n a b ⊎ ((j : ℕ) → 1 ≤ j → j ≤ n → has a j ≡ true → has b j ≡ true → ⊥)
common zero a b = inr (λ j l h. omega arith)
common (suc n) a b = by (common n a b) (has a (suc n) && has b (suc n)) refl
  where
    by : InBoth n a b ⊎ ((j : ℕ) → 1 ≤ j → j ≤ n → has a j ≡ true → has b j ≡ true → ⊥) → (t : Bool) → has a (suc n) && has b (suc n) ≡ t
        → InBoth (suc n) a b ⊎ ((j : ℕ) → 1 ≤ j → j ≤ suc n → has a j ≡ true → has b j ≡ true → ⊥)
    by (inl x) t e = inl (record { node = x.node; low = x.low; high = omega (arith, x.high); first = x.first; second = x.second })
    by (inr f) true e = inl (record { node = suc n; low = omega arith; high = omega arith; first = both_left (has a (suc n)) _ e; second = both_right (has a (suc n)) _ e })
    by (inr f) false e = inr (λ j l h p q. last j l h p q (eqb j (suc n)) refl)
      where
        last : (j : ℕ) → 1 ≤ j → j ≤ suc n → has a j ≡ true → has b j ≡ true → (t : Bool) → eqb j (suc n) ≡ t → ⊥
        last j l h p q true x =
            let y = eqb-true j (suc n) x in
            true≢false (sym (rw (subst (λ (k : ℕ). has a k ≡ true) y p) (subst (λ (k : ℕ). has b k ≡ true) y q)) ∙ e)
        last j l h p q false x = let y = eqb-false j (suc n) x in f j l (omega arith) p q

-- who is in the set of a coordinator and its members is counted by it
counted : (s : State) (i k : ℕ) → 1 ≤ i → 1 ≤ k → has (with (node_at s i).members i) k ≡ true → IsCountedBy s i k
counted s i k li lk e = by (eqb k i) refl
  where
    by : (t : Bool) → eqb k i ≡ t → IsCountedBy s i k
    by true q = inl (eqb-true k i q)
    by false q = inr (sym ((set_laws 16 (omega arith)).with_others (node_at s i).members i k li lk (eqb-false k i q)) ∙ e)

-- an accepted finish is by a node, which is not in its own set of members
record Counting (s : State) (i : ℕ) : Type 0 where
  small : s.n ≤ 16
  low : 1 ≤ i
  whole : within s.n (with (node_at s i).members i) ≡ true
  counts : count (with (node_at s i).members i) ≡ count (node_at s i).members + 1

counting : (s : State) (i : ℕ) (t : TaskNo) (u : State) (k : Mark) → step s (Finish i t) ≡ accepted u k → Counting s i
counting s i t u k q =
    let c = (accepted_is s (Finish i t) u k q).clear in
    let p = node_is s.n i (not-false _ c.number) in
    let m = (node_facts s.n i (node_at s i) (in_range_node s i c.in_range_lem p.low p.high)).members in
    let l = set_laws s.n (in_range_size s c.in_range_lem).1 in
    record {
      small = (in_range_size s c.in_range_lem).1;
      low = p.low;
      whole = l.with_within (node_at s i).members i m.inside p.low p.high;
      counts = l.count_with (node_at s i).members i m.inside p.low p.high m.lacks;
    }

share : (s u : State) (i j : ℕ) (t v : TaskNo) (x y : State) (k m : Mark) → s.n ≡ u.n → step s (Finish i t) ≡ accepted x k → FullPeal t.number
    → step u (Finish j v) ≡ accepted y m → FullPeal v.number → CountedByBoth s.n s i u j
share s u i j t v x y k m h p f q g = by (common s.n (with (node_at s i).members i) (with (node_at u j).members j))
  where
    a : Counting s i
    a = counting s i t x k p

    b : Counting u j
    b = counting u j v y m q

    by : InBoth s.n (with (node_at s i).members i) (with (node_at u j).members j)
        ⊎ ((w : ℕ) → 1 ≤ w → w ≤ s.n → has (with (node_at s i).members i) w ≡ true → has (with (node_at u j).members j) w ≡ true → ⊥) → CountedByBoth s.n s i u j
    by (inl z) =
        record {
          node = z.node;
          low = z.low;
          high = z.high;
          first = counted s i z.node a.low z.low z.first;
          second = counted u j z.node b.low z.low z.second;
        }
    by (inr z) =
        let together = (set_laws s.n a.small).count_disjoint _ _ a.whole (subst (λ (n : ℕ). within n (with (node_at u j).members j) ≡ true) (sym h) b.whole) z in
        absurd (omega (arith, together, a.counts, b.counts, only_if s i t x k p f, only_if u j v y m q g, h))

not_early : (n : ℕ) (lim : Limits) (es : List Event) (e : Event) → length es ≤ 5 → step (run n lim es) e ≡ refused 19 → ⊥
not_early n lim es e few q =
    let x = nineteen (run n lim es) e q in
    let p = node_is (run n lim es).n x.node x.is.reaches.number in
    early_collects n lim es few x.node p.low p.high x.is.reaches.not_down x.is.reaches.collects

pub majority_rules : MajorityRules
majority_rules = record { finishes = finish; leaves = leaves; only_if = only_if; turned_away = turned_away; nineteen = nineteen; nineteen_finish = nineteen_finish; at_most = at_most; else_more = else_more; passes = passes; as_before = as_before; other_tasks = other_tasks; one = one; not_early = not_early; share = share }
