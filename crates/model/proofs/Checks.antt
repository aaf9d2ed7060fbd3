-- Checks only by a coordinator (02, T-06): the claims `CheckRules`.
use Prim.Native.Nat.{ℕ, ◌-◌, ◌≤◌, ◌<◌}
use native.Mathlib.Omega.{arith}
use mathlib.Core.Bool.{Bool, true, false, not, ◌&&◌, ◌||◌, true≢false}
use mathlib.Core.Logic.{◌⊎◌, inl, inr, ⊎_elim}
use mathlib.Core.Path.{◌≡◌, refl, sym, ◌∙◌, ap}
use mathlib.Core.List.{List, [], ◌∷◌, ◌++◌, append-nil}
use lib.Dec.{eqb, ltb}
use lib.ListN.{length}
use lib.Seq.{set-get_or}
use borrow.Author.Tests.{not-false, not-true, eqb-true, eqb-false, eq-eqb, ne_eqb, le-leb, lt-ltb, ltb-true}
use Rattle.model.specs.Pick.{pick, pick_true, pick_false}
use Rattle.model.specs.Limits.{call_end, traffic_end}
use Rattle.model.specs.Counts.{count_at}
use Rattle.model.specs.Node.{is_normal, next_call, calling, asks}
use Rattle.model.specs.Procedures.{reaction, stays, ask_at, ask_after}
use Rattle.model.specs.React.{leads, checked, react}
use Rattle.model.specs.State.{State, starting_node, node_at}
use Rattle.model.specs.Grounds.{ground, judged}
use Rattle.model.specs.Step.{step, grounds, actor, reaction_to, remaining, effect, not_coordinator, Result, refused, accepted, run}
use Rattle.model.specs.Claims.{MaySend, first_other, check_grounds, with_question, with_check, CheckReaches, DoesNotLead, CheckRules}
use Rattle.model.proofs.Grounds.{judged_by}
use Rattle.model.proofs.Judged.{accepted_apart, accepted_is, met, passed, one_ground, left_by, ends_by}
use Rattle.model.proofs.Local.{both_left, both_right}
use Rattle.model.proofs.Fields.{IsNode, node_is}
use Rattle.model.proofs.CallOrder.{or_right}
use Rattle.model.proofs.Early.{early_leads}
use Rattle.model.proofs.Members.{NodeRests, idle_rests, run_rests}
use Rattle.model.specs.declared.Limits.{Limits}
use Rattle.model.specs.declared.Status.{Status}
use Rattle.model.specs.declared.Status.TheVariants.{Down, Election, Reorganization, Normal}
use Rattle.model.specs.declared.Activity.TheVariants.{Asking}
use Rattle.model.specs.declared.Node.{Node}
use Rattle.std.specs.Prelude.{Some}
use Rattle.model.specs.declared.Mark.{Mark}
use Rattle.model.specs.declared.Mark.TheVariants.{Plain}
use Rattle.model.specs.declared.Reaction.{Reaction}
use Rattle.model.specs.declared.Event.{Event}
use Rattle.model.specs.declared.Event.TheVariants.{Crash, Recover, Check, Timeout, Tick, Expire, Finish, Deliver, Lose}

-- ── what a node that checks does ──

-- the first other one is asked
first_asked : (n i : ℕ) (c : Node) → 1 < n → ask_after n i c 0 0 ≡ reaction (calling c (Asking (first_other i) 0)) (Some (asks i (first_other i) (next_call c))) Plain
unfolding ask_after ask_at
first_asked n i c h = by (eqb i 1) refl
  where
    asked : ℕ → Reaction
    asked j = reaction (calling c (Asking j 0)) (Some (asks i j (next_call c))) Plain

    by : (t : Bool) → eqb i 1 ≡ t → ask_after n i c 0 0 ≡ asked (pick (eqb i 1) 2 1)
    by true e =
        let x : 1 ≡ i = sym (eqb-true i 1 e) in
        rw (e, eq-eqb 1 i x, le-leb 2 n h, pick_true, pick_true, pick_true)
    by false e =
        let x : 1 ≡ i → ⊥ = λ q. eqb-false i 1 e (sym q) in
        let y : 1 ≤ n = omega arith in
        rw (e, ne_eqb 1 i x, le-leb 1 n y, pick_false, pick_false, pick_true)

-- ── all of a check ──

not_both : (a b : Bool) → not (a && b) ≡ not a || not b
not_both true b = refl
not_both false b = refl

module _ (s : State) (i : ℕ) where
  -- the ends of the ranges as the claim has them
  abbrev claimed : Result
  claimed =
      judged refused (accepted (with_check s i) Plain)
      (ground 13 (ltb 1 s.n && eqb (node_at s i).last.number call_end)
      ∷ ground 14 (ltb 1 s.n && eqb (length s.queue) s.limits.messages)
      ∷ ground 17 (ltb 1 s.n && eqb (count_at s.sent i (first_other i)) traffic_end)
      ∷ [])

  -- with n = 1 nothing changes
  same : left_by s i (stays (node_at s i)) ≡ s
  same =
      ap (λ (l : List Node). record { rule = s.rule; n = s.n; limits = s.limits; nodes = l; queue = s.queue ++ []; sent = s.sent; delivered = s.delivered; lost = s.lost }) (set-get_or s.nodes (i - 1) starting_node)
      ∙ ap (λ q. record { rule = s.rule; n = s.n; limits = s.limits; nodes = s.nodes; queue = q; sent = s.sent; delivered = s.delivered; lost = s.lost }) (append-nil s.queue)

  ends_claimed : ends_by s i (checked s.n i (node_at s i)) ≡ claimed
  unfolding checked judged
  ends_claimed = by (ltb 1 s.n) refl
    where
      by : (t : Bool) → ltb 1 s.n ≡ t → ends_by s i (checked s.n i (node_at s i)) ≡ claimed
      by true e = rw (e, first_asked s.n i (node_at s i) (ltb-true 1 s.n e), pick_true, pick_true, pick_false)
      by false e = rw (e, pick_false, same, pick_false, pick_false, pick_false, pick_false, pick_false, pick_false, pick_false, pick_false)

  checks : step s (Check i) ≡ judged refused (accepted (with_check s i) Plain) (check_grounds s i)
  unfolding step grounds judged reaction_to react remaining effect
  checks =
      one_ground 1 _ _ _ _ refl
      (λ _. one_ground 7 _ _ _ _ refl
      (λ _. pick_false _ _ ∙ one_ground 9 _ _ _ _ refl
      (λ _. one_ground 10 _ _ _ _ refl
      (λ _. one_ground 18 _ _ _ _ (not_both (is_normal (node_at s i).status) (eqb (node_at s i).coordinator i)) (λ _. pick_false _ _ ∙ pick_false _ _ ∙ ends_claimed)))))

leaves : (s : State) (i : ℕ) (u : State) (k : Mark) → step s (Check i) ≡ accepted u k → u ≡ with_check s i
leaves s i u k q =
    judged_by refused (λ (r : Result). r ≡ accepted u k → u ≡ with_check s i) (accepted (with_check s i) Plain) (check_grounds s i)
    (λ r e. absurd (accepted_apart (sym e))) (λ _ e. cc) (sym (checks s i) ∙ q)

-- ── statuses ──
normal_is : (t : Status) → is_normal t ≡ true → t ≡ Normal
normal_is Down e = absurd (true≢false (sym e))
normal_is Election e = absurd (true≢false (sym e))
normal_is Reorganization e = absurd (true≢false (sym e))
normal_is Normal e = refl

not_normal_is : (t : Status) → (t ≡ Normal → ⊥) → is_normal t ≡ false
not_normal_is Down d = refl
not_normal_is Election d = refl
not_normal_is Reorganization d = refl
not_normal_is Normal d = absurd (d refl)

-- ── one check ──
module _ (s : State) (i : ℕ) (x : CheckReaches s i) where
  by_eighteen : not (is_normal (node_at s i).status) || not (eqb (node_at s i).coordinator i) ≡ true → step s (Check i) ≡ refused 18
  unfolding judged
  by_eighteen e = checks s i ∙ rw (x.in_range_lem, x.number, x.not_down, x.idle, e, pick_false, pick_false, pick_false, pick_false, pick_true)

  turned_away : DoesNotLead s i → step s (Check i) ≡ refused 18
  turned_away (inl d) = by_eighteen (ap (λ (t : Bool). not t || not (eqb (node_at s i).coordinator i)) (not_normal_is (node_at s i).status d))
  turned_away (inr d) =
      by_eighteen
      (ap (λ (t : Bool). not (is_normal (node_at s i).status) || not t) (ne_eqb (node_at s i).coordinator i d) ∙ or_right (not (is_normal (node_at s i).status)) true refl)

  asking : 1 < s.n → (node_at s i).status ≡ Normal → (node_at s i).coordinator ≡ i → (node_at s i).last.number < call_end → length s.queue < s.limits.messages → MaySend s i (first_other i)
      → step s (Check i) ≡ accepted (with_question s i) Plain
  unfolding judged pick
  asking n a b l q m =
      checks s i
      ∙ rw (
        x.in_range_lem,
        x.number,
        x.not_down,
        x.idle,
        lt-ltb 1 s.n n,
        ap is_normal a,
        eq-eqb (node_at s i).coordinator i b,
        ne_eqb (node_at s i).last.number call_end (λ e. omega arith),
        ne_eqb (length s.queue) s.limits.messages (λ e. omega arith),
        ne_eqb (count_at s.sent i (first_other i)) traffic_end m,
      )

  one : s.n ≡ 1 → (node_at s i).status ≡ Normal → (node_at s i).coordinator ≡ i → step s (Check i) ≡ accepted s Plain
  unfolding judged pick
  one n a b = checks s i ∙ rw (x.in_range_lem, x.number, x.not_down, x.idle, n, ap is_normal a, eq-eqb (node_at s i).coordinator i b)

passes : (s : State) (i : ℕ) (u : State) (k : Mark) → step s (Check i) ≡ accepted u k → ((node_at s i).status ≡ Normal) × ((node_at s i).coordinator ≡ i)
passes s i u k q =
    let e : leads i (node_at s i) ≡ true = not-false _ (accepted_is s (Check i) u k q).clear.coordinator in
    (normal_is (node_at s i).status (both_left (is_normal (node_at s i).status) _ e), eqb-true (node_at s i).coordinator i (both_right (is_normal (node_at s i).status) _ e))

-- ── 18 ──
module _ (s : State) where
  -- 18 is that of a check
  only_check : (e : Event) → not_coordinator (node_at s (actor e)) e ≡ true → (e ≡ Check (actor e)) × (leads (actor e) (node_at s (actor e)) ≡ false)
  only_check (Crash i) t = absurd (true≢false (sym t))
  only_check (Recover i) t = absurd (true≢false (sym t))
  only_check (Check i) t = (refl, not-true _ t)
  only_check (Timeout i) t = absurd (true≢false (sym t))
  only_check (Tick i) t = absurd (true≢false (sym t))
  only_check (Expire i) t = absurd (true≢false (sym t))
  only_check (Finish i v) t = absurd (true≢false (sym t))
  only_check (Deliver a b) t = absurd (true≢false (sym t))
  only_check (Lose a b) t = absurd (true≢false (sym t))

  reaches : (i : ℕ) → step s (Check i) ≡ refused 18 → CheckReaches s i
  unfolding grounds pick
  reaches i q =
      record {
        in_range_lem = not-false _ (passed s (Check i) 1 18 refl q);
        number = not-false _ (passed s (Check i) 7 18 refl q);
        not_down = passed s (Check i) 9 18 refl q;
        idle = not-false _ (passed s (Check i) 10 18 refl q);
      }

  which : (i : ℕ) → leads i (node_at s i) ≡ false → DoesNotLead s i
  which i f = by (is_normal (node_at s i).status) refl
    where
      by : (t : Bool) → is_normal (node_at s i).status ≡ t → DoesNotLead s i
      by true e = inr (λ q. true≢false (sym (ap (λ (t : Bool). t && eqb (node_at s i).coordinator i) e ∙ eq-eqb (node_at s i).coordinator i q) ∙ f))
      by false e = inl (λ q. true≢false (sym (ap is_normal q) ∙ e))

  not_leading : (e : Event) → step s e ≡ refused 18 → (e ≡ Check (actor e)) × (leads (actor e) (node_at s (actor e)) ≡ false)
  unfolding grounds pick
  not_leading e q = only_check e (met s e 18 refl q)

  eighteen : (e : Event) → step s e ≡ refused 18 → (e ≡ Check (actor e)) × CheckReaches s (actor e) × DoesNotLead s (actor e)
  eighteen e q =
      let x = not_leading e q in
      (x.0, reaches (actor e) (ap (step s) (sym x.0) ∙ q), which (actor e) x.1)

not_early : (n : ℕ) (lim : Limits) (es : List Event) (e : Event) → length es ≤ 6 → step (run n lim es) e ≡ refused 18 → ⊥
not_early n lim es e few q =
    let x = not_leading (run n lim es) e q in
    let y = reaches (run n lim es) (actor e) (ap (step (run n lim es)) (sym x.0) ∙ q) in
    let p = node_is (run n lim es).n (actor e) y.number in
    true≢false (sym (early_leads n lim es few (actor e) p.low p.high y.not_down y.idle) ∙ x.1)

members_only : (n : ℕ) (lim : Limits) (es : List Event) (i : ℕ) → step (run n lim es) (Check i) ≡ refused 18
    → ((node_at (run n lim es) i).coordinator ≡ i → ⊥) × (((node_at (run n lim es) i).status ≡ Reorganization) ⊎ ((node_at (run n lim es) i).status ≡ Normal))
members_only n lim es i q = by (run_rests n lim es i p.low p.high)
  where
    y : CheckReaches (run n lim es) i
    y = reaches (run n lim es) i q

    p : IsNode (run n lim es).n i
    p = node_is (run n lim es).n i y.number

    idle : ((node_at (run n lim es) i).status ≡ Normal) ⊎ (((node_at (run n lim es) i).status ≡ Reorganization) × ((node_at (run n lim es) i).coordinator ≡ i → ⊥))
        → ((node_at (run n lim es) i).coordinator ≡ i → ⊥) × (((node_at (run n lim es) i).status ≡ Reorganization) ⊎ ((node_at (run n lim es) i).status ≡ Normal))
    idle (inl e) = (⊎_elim (λ d. absurd (d e)) (λ d. d) (which (run n lim es) i (not_leading (run n lim es) (Check i) q).1), inr e)
    idle (inr e) = (e.1, inl e.0)

    by : NodeRests i (node_at (run n lim es) i) → ((node_at (run n lim es) i).coordinator ≡ i → ⊥) × (((node_at (run n lim es) i).status ≡ Reorganization) ⊎ ((node_at (run n lim es) i).status ≡ Normal))
    by (inl d) = absurd (true≢false (sym d ∙ y.not_down))
    by (inr r) = idle (idle_rests i (node_at (run n lim es) i).status (node_at (run n lim es) i).coordinator (node_at (run n lim es) i).activity y.idle r)

pub check_rules : CheckRules
check_rules = record { checks = checks; leaves = leaves; turned_away = turned_away; passes = passes; asks = asking; one = one; eighteen = eighteen; members_only = members_only; not_early = not_early }
