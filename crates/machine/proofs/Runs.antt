-- What ties the code to demand 3: the tables that the code's step returns, one after another, are those of the model's run.
use Prim.Native.Nat.{ℕ, zero, suc, ◌+◌, ◌≤◌}
use native.Mathlib.Omega.{arith}
use mathlib.Core.Path.{◌≡◌, refl, sym, ◌∙◌, ap, subst}
use mathlib.Core.List.{List, [], ◌++◌}
use mathlib.Core.Bool.{true, false}
use lib.ListN.{get_or, replicate}
use Rattle.model.specs.Range.{TwoPairs}
use Rattle.model.specs.Limits.{node_limit, tower, stand}
use Rattle.model.specs.Counts.{count_at, total}
use Rattle.model.specs.State.{State, starting_node, start, node_at, in_range, view, waiting}
use Rattle.model.specs.Step.{actor, reaction_to, Result, refused, accepted, step, kept, run_from, run}
use Rattle.model.specs.Answers.{answer_number, result_number}
use Rattle.model.proofs.Answers.{answer_of, answer_back}
use Rattle.model.specs.History.{Task, coming, history}
use Rattle.model.specs.Node.{is_down, is_active, is_collecting}
use Rattle.model.specs.Claims.{Lacks, Fixes, FullPeal, MoreThanHalf, PealStarted, CountedByBoth, MayStart, EachGroup}
use Rattle.model.proofs.Judged.{accepted_is}
use Rattle.model.proofs.Traffic.{run_n, run_limits, traffic_agrees}
use Rattle.model.proofs.Refusals.{refuses_by_ground}
use Rattle.model.proofs.Whole.{run_fixes}
use Rattle.model.proofs.Fixed.{task_from_list}
use Rattle.model.proofs.Peals.{peals_by_majority}
use Rattle.model.proofs.InRange.{start_small, stays_in_range}
use Rattle.model.specs.declared.Limits.{Limits}
use Rattle.model.specs.declared.Status.TheVariants.{Normal}
use Rattle.model.specs.declared.Table.{Table}
use Rattle.model.specs.declared.Event.{Event}
use Rattle.model.specs.declared.Mark.{Mark}
use Rattle.model.specs.declared.Outcome.{Outcome}
use Rattle.model.specs.Answers.{Answer}
use Rattle.model.specs.Answers.{Accepted}
use Rattle.machine.specs.Stepped.{Stepped}
use Rattle.machine.specs.Folded.{Folded, none, more}
use Rattle.machine.specs.Claims.{AcceptedAlike, SteppedAlike, is_forming, Chain, Reached, CodeRuns, CodeFixes, CodeTraffic, CodePeals, CodeHolds, CodeTowerAndStand}

-- ── the tables of a chain are those of the model's run ──

-- from any table
pub folded_runs : {t u : Table} {es : List Event} → Folded t es u → view u ≡ run_from (view t) es
unfolding run_from
folded_runs none = refl
folded_runs (more {es = es} s f) = folded_runs f ∙ ap (λ (v : State). run_from v es) s.table

-- two chains, one after the other
pub folded_append : {t u v : Table} {es fs : List Event} → Folded t es u → Folded u fs v → Folded t (es ++ fs) v
folded_append none g = g
folded_append (more s f) g = more s (folded_append f g)

-- a run keeps the number of nodes
pub run_nodes : (n : ℕ) (lim : Limits) (es : List Event) → (run n lim es).n ≡ n
run_nodes n lim es = run_n (start n lim) es

-- every node of a starting table
pub start_node : (n k : ℕ) → get_or (replicate n starting_node) k starting_node ≡ starting_node
start_node zero k = refl
start_node (suc n) zero = refl
start_node (suc n) (suc k) = start_node n k

-- ── Accepted, of the code and of the model ──

pub answer_known : (a b : Answer) → answer_number a ≡ answer_number b → a ≡ b
answer_known a b e = sym (answer_back a) ∙ ap answer_of e ∙ answer_back b

-- a result with a number is that refusal
pub by_number : (x : Result) (r : ℕ) → 1 ≤ r → r ≡ result_number x → x ≡ refused r
by_number (refused k) r l h = ap refused (sym h)
by_number (accepted u m) r l h = absurd (omega arith)

pub stepped_alike : SteppedAlike
stepped_alike =
    record {
      answer = alike;
      table = λ x y. x.table ∙ sym y.table;
      same = λ x y h. x.same h ∙ sym (y.same (λ a. h (alike x y ∙ a)));
    }
  where
    alike : {t : Table} {e : Event} {r q : Outcome} → Stepped t e r → Stepped t e q → r.answer ≡ q.answer
    alike {r = r} {q = q} x y = answer_known r.answer q.answer (x.answer ∙ sym y.answer)

pub accepted_alike : AcceptedAlike
accepted_alike =
    record {
      model_accepts = λ {t} {e} {r} x. by x (step (view t) e) refl;
      code_accepts = λ {t} {e} {r} x u k i. answer_known r.answer Accepted (x.answer ∙ ap result_number i);
    }
  where
    by : {t : Table} {e : Event} {r : Outcome} → Stepped t e r → (q : Result) → step (view t) e ≡ q → r.answer ≡ Accepted
        → step (view t) e ≡ accepted (view r.table) (reaction_to (view t) e).mark
    by {t} {e} {r} x (refused k) i a =
        let z : k ≡ 0 = sym (ap result_number i) ∙ sym x.answer ∙ ap answer_number a in
        absurd (refuses_by_ground.never_zero (view t) e (i ∙ ap refused z))
    by {t} {e} {r} x (accepted u k) i a =
        let z : view r.table ≡ u = x.table ∙ ap (kept (view t)) i in
        i ∙ ap (λ (m : Mark). accepted u m) (accepted_is (view t) e u k i).mark ∙ ap (λ (v : State). accepted v (reaction_to (view t) e).mark) (sym z)

-- ── demand 3 ──

-- of any chain that is one of steps
module _ (chain : Chain) (folds : (t : Table) (es : List Event) (u : Table) → chain t es u → Folded t es u) where
  runs : {n : ℕ} {lim : Limits} {es : List Event} {t : Table} → Reached chain n lim es t → view t ≡ run n lim es
  runs {es = es} c = folded_runs (folds _ _ _ c.led) ∙ ap (λ (v : State). run_from v es) c.begun.table

  runs_on : {n : ℕ} {lim : Limits} {es fs : List Event} {t u : Table} → Reached chain n lim es t → chain t fs u → view u ≡ run n lim (es ++ fs)
  runs_on {es = es} {fs = fs} c d = folded_runs (folded_append (folds _ _ _ c.led) (folds _ _ _ d)) ∙ ap (λ (v : State). run_from v (es ++ fs)) c.begun.table

  pub chain_runs : CodeRuns chain
  chain_runs =
      record {
        from_any = λ t es u c. folded_runs (folds t es u c);
        from_start = λ n lim es t c. runs c;
        in_range_lem = λ n lim s es t c. ap in_range (runs c) ∙ stays_in_range.runs TwoPairs n lim s es;
      }

  -- the model's step, where the code accepts e on a table that es led to
  steps : (n : ℕ) (lim : Limits) (es : List Event) {u : Table} {e : Event} {r : Outcome} → view u ≡ run n lim es → Stepped u e r → r.answer ≡ Accepted → step (run n lim es) e ≡ accepted (view r.table) (reaction_to (view u) e).mark
  steps n lim es {e = e} z x a = ap (λ (s : State). step s e) (sym z) ∙ accepted_alike.model_accepts x a

  -- two Normal nodes with the same group have the same task
  same : (n : ℕ) (lim : Limits) → n ≤ node_limit → (es : List Event) (i j : ℕ) → 1 ≤ i → i ≤ n → 1 ≤ j → j ≤ n
      → (node_at (run n lim es) i).status ≡ Normal → (node_at (run n lim es) j).status ≡ Normal
      → (node_at (run n lim es) i).group.number ≡ (node_at (run n lim es) j).group.number
      → (node_at (run n lim es) i).task.number ≡ (node_at (run n lim es) j).task.number
  same n lim h es i j i₁ i₂ j₁ j₂ p q s =
      let a = (run_fixes TwoPairs n lim h).fixed_task es [] i i₁ i₂ p in
      let b = (run_fixes TwoPairs n lim h).fixed_task es [] j j₁ j₂ q in
      let z : Task (node_at (run n lim es) i).task.number ≡ Task (node_at (run n lim es) j).task.number = sym a ∙ rw s b in
      cc

  pub chain_fixes : (n : ℕ) (lim : Limits) → n ≤ node_limit → CodeFixes chain n lim
  chain_fixes n lim h =
      record {
        same_coordinator = λ {es} {t} c.
            subst
            (λ (s : State). (i j : ℕ) → 1 ≤ i → i ≤ n → 1 ≤ j → j ≤ n
            → is_active (node_at s i).status ≡ true → is_active (node_at s j).status ≡ true
            → (node_at s i).group.number ≡ (node_at s j).group.number
            → (node_at s i).coordinator ≡ (node_at s j).coordinator)
            (sym (runs c)) ((run_fixes TwoPairs n lim h).same_coordinator es);
        fixed_task = λ {es} {t} c fs.
            subst
            (λ (s : State). (i : ℕ) → 1 ≤ i → i ≤ n → (node_at s i).status ≡ Normal
            → (history n lim (es ++ fs)).entry (node_at s i).group.number ≡ Task (node_at s i).task.number)
            (sym (runs c)) ((run_fixes TwoPairs n lim h).fixed_task es fs);
        same_task = λ {es} {t} c.
            subst
            (λ (s : State). (i j : ℕ) → 1 ≤ i → i ≤ n → 1 ≤ j → j ≤ n
            → (node_at s i).status ≡ Normal → (node_at s j).status ≡ Normal
            → (node_at s i).group.number ≡ (node_at s j).group.number
            → (node_at s i).task.number ≡ (node_at s j).task.number)
            (sym (runs c)) (same n lim h es);
        numbered = λ {es} {u} {e} {r} c x a f. (run_fixes TwoPairs n lim h).numbered es e _ _ (steps n lim es (runs c) x a) f;
        fresh = λ {es} {fs} {t} {u} {e} {r} c d x a f.
            subst (λ (s : State). Lacks s (coming (history n lim (es ++ fs)) (actor e))) (sym (runs c)) ((run_fixes TwoPairs n lim h).fresh es fs e _ _ (steps n lim (es ++ fs) (runs_on c d) x a) f);
        borrowed = λ {es} {u} {e} {r} c x a f j l k q.
            (run_fixes TwoPairs n lim h).borrowed es e _ _ (steps n lim es (runs c) x a) f j l k (subst (λ (s : State). Lacks s (node_at (view r.table) j).group.number) (runs c) q);
        borrowed_messages = λ {es} {u} {e} {r} c x a.
            subst (λ (s : State). EachGroup (λ g. Lacks s g → (is_forming u e ≡ true) × (g ≡ coming (history n lim es) (actor e))) (view r.table).queue) (sym (runs c))
            ((run_fixes TwoPairs n lim h).borrowed_messages es e _ _ (steps n lim es (runs c) x a));
        formed_once = λ {es} {u} {e} {r} c x a f. (run_fixes TwoPairs n lim h).formed_once es e _ _ (steps n lim es (runs c) x a) f;
        given_once = λ {es} {u} {i} {x} {r} c s a. (run_fixes TwoPairs n lim h).given_once es i x _ _ (steps n lim es (runs c) s a);
        own_group = λ {es} {u} {i} {x} {r} c s a. ap (λ (v : State). (node_at v i).group.number) (runs c) ∙ (run_fixes TwoPairs n lim h).own_group es i x _ _ (steps n lim es (runs c) s a);
        lasts = (run_fixes TwoPairs n lim h).lasts;
        from_list = λ {es} {t} c.
            subst
            (λ (s : State). (i : ℕ) → 1 ≤ i → i ≤ n → (node_at s i).status ≡ Normal
            → Fixes TwoPairs n lim es (node_at s i).group.number (node_at s i).task.number)
            (sym (runs c)) ((task_from_list TwoPairs n lim h).task es);
      }

  pub chain_traffic : (n : ℕ) (lim : Limits) → MayStart TwoPairs n lim → CodeTraffic chain n lim
  chain_traffic n lim s =
      record {
        sent_counted = λ {es} {t} c a b p q i j. ap (λ (s : State). count_at s.sent a b) (runs c) ∙ (traffic_agrees TwoPairs n lim s).sent_counted es a b p q i j;
        delivered_counted = λ {es} {t} c a b p q i j. ap (λ (s : State). count_at s.delivered a b) (runs c) ∙ (traffic_agrees TwoPairs n lim s).delivered_counted es a b p q i j;
        lost_counted = λ {es} {t} c a b p q i j. ap (λ (s : State). count_at s.lost a b) (runs c) ∙ (traffic_agrees TwoPairs n lim s).lost_counted es a b p q i j;
        sent_total = λ {es} {t} c. ap (λ (s : State). total s.sent) (runs c) ∙ (traffic_agrees TwoPairs n lim s).sent_total es;
        delivered_total = λ {es} {t} c. ap (λ (s : State). total s.delivered) (runs c) ∙ (traffic_agrees TwoPairs n lim s).delivered_total es;
        lost_total = λ {es} {t} c. ap (λ (s : State). total s.lost) (runs c) ∙ (traffic_agrees TwoPairs n lim s).lost_total es;
        adds_up = λ {es} {t} c a b p q i j.
            subst (λ (s : State). count_at s.sent a b ≡ count_at s.delivered a b + count_at s.lost a b + waiting s.queue a b) (sym (runs c))
            ((traffic_agrees TwoPairs n lim s).adds_up es a b p q i j);
        never_seventeen = λ {es} {u} {e} {r} c x a.
            (traffic_agrees TwoPairs n lim s).never_seventeen es e
            (ap (λ (s : State). step s e) (sym (runs c)) ∙ by_number (step (view u) e) 17 (omega arith) (sym (ap answer_number a) ∙ x.answer));
      }

  pub chain_peals : (n : ℕ) (lim : Limits) → n ≤ node_limit → CodePeals chain n lim
  chain_peals n lim h =
      record {
        only_if = λ {es} {u} {i} {x} {r} c s a p.
            subst (λ (v : State). MoreThanHalf n (node_at v i)) (sym (runs c)) ((peals_by_majority TwoPairs n lim h).only_if es i x _ _ (steps n lim es (runs c) s a) p);
        by_coordinator = λ {es} {t} c.
            subst
            (λ (s : State). (i : ℕ) → 1 ≤ i → i ≤ n → is_down (node_at s i).status ≡ false → is_collecting (node_at s i).activity ≡ true → (node_at s i).coordinator ≡ i)
            (sym (runs c)) ((peals_by_majority TwoPairs n lim h).by_coordinator es);
        normal = λ {es} {t} c.
            subst
            (λ (s : State). (i : ℕ) → 1 ≤ i → i ≤ n → (node_at s i).status ≡ Normal → FullPeal (node_at s i).task.number
            → PealStarted TwoPairs n lim es (node_at s i).group.number (node_at s i).task.number)
            (sym (runs c)) ((peals_by_majority TwoPairs n lim h).normal es);
        share = λ {es} {fs} {t} {u} {i} {j} {x} {y} {r} {q} c d s a p v b w.
            subst (λ (z : State). CountedByBoth n z i (view u) j) (sym (runs c))
            (subst (λ (z : State). CountedByBoth n (run n lim es) i z j) (sym (runs d))
            ((peals_by_majority TwoPairs n lim h).share es fs i j x y _ _ _ _ (steps n lim es (runs c) s a) p (steps n lim fs (runs d) v b) w));
        of_acceptances = λ {es} {t} c i low high. ap (λ (s : State). (node_at s i).members) (runs c) ∙ (peals_by_majority TwoPairs n lim h).of_acceptances es i low high;
      }

  -- 02, T-08
  pub chain_holds : (n : ℕ) (lim : Limits) → MayStart TwoPairs n lim → CodeHolds chain n lim
  chain_holds n lim s =
      record {
        fixes = chain_fixes n lim (start_small n lim s);
        traffic = chain_traffic n lim s;
        peals = chain_peals n lim (start_small n lim s);
        in_range_lem = λ {es} {t} c. chain_runs.in_range_lem n lim s es t c;
        never_one = λ {es} {u} {e} {r} c x a.
            stays_in_range.never_one TwoPairs n lim s es e
            (ap (λ (s : State). step s e) (sym (runs c)) ∙ by_number (step (view u) e) 1 (omega arith) (sym (ap answer_number a) ∙ x.answer));
        same_limits = λ {es} {t} c. ap (λ (s : State). s.limits) (runs c) ∙ run_limits (start n lim) es;
      }

  pub chain_both : CodeTowerAndStand chain
  chain_both =
      record {
        for_tower = λ n low high. chain_holds n tower (record { within = refl; pair = refl; low = low; high = high });
        for_stand = λ n low high. chain_holds n stand (record { within = refl; pair = refl; low = low; high = high });
      }

-- of the step by value
folded : (t : Table) (es : List Event) (u : Table) → Folded t es u → Folded t es u
folded t es u f = f

-- events led on from a table that events led to
pub folded_reached : {n : ℕ} {lim : Limits} {es fs : List Event} {t u : Table} → Reached Folded n lim es t → Folded t fs u → Reached Folded n lim (es ++ fs) u
folded_reached c d = record { first = c.first; begun = c.begun; led = folded_append c.led d }

pub code_runs : CodeRuns Folded
code_runs = chain_runs Folded folded

pub code_fixes : (n : ℕ) (lim : Limits) → n ≤ node_limit → CodeFixes Folded n lim
code_fixes = chain_fixes Folded folded

pub code_traffic : (n : ℕ) (lim : Limits) → MayStart TwoPairs n lim → CodeTraffic Folded n lim
code_traffic = chain_traffic Folded folded

pub code_peals : (n : ℕ) (lim : Limits) → n ≤ node_limit → CodePeals Folded n lim
code_peals = chain_peals Folded folded

pub code_both : CodeTowerAndStand Folded
code_both = chain_both Folded folded
