-- T-08: demand 3, the traffic, T-10 and the range for any limits not above the tower's, with the rule of the two pairs left out; and for the tower and the stand.
use Prim.Native.Nat.{ℕ}
use mathlib.Core.Bool.{Bool, true, false, not}
use mathlib.Core.Path.{◌≡◌, refl, sym, ◌∙◌, ap, subst}
use mathlib.Core.List.{List, [], ◌∷◌}
use borrow.Author.Tests.{le-leb}
use Rattle.model.specs.Pick.{pick_true}
use Rattle.model.specs.Limits.{tower, stand}
use Rattle.model.specs.Range.{PairRule, TwoPairs, LeftOut, pair_rule, is_tower_or_stand}
use Rattle.model.specs.State.{State, start_by, start, traffic_in_range, in_range}
use Rattle.model.specs.Grounds.{ground, judged}
use Rattle.model.specs.Step.{reaction_to, remaining, effect, grounds, Result, refused, accepted, step, kept, changed, after, run_from}
use Rattle.model.specs.History.{History, blank, noted, history_from}
use Rattle.model.specs.Claims.{MayStart, RunHolds, left_out, TowerAndStand}
use Rattle.model.proofs.Whole.{run_fixes}
use Rattle.model.proofs.Fixed.{task_from_list}
use Rattle.model.proofs.InRange.{start_small, stays_in_range}
use Rattle.model.proofs.Range.{both}
use Rattle.model.proofs.Pairs.{pair_allowed}
use Rattle.model.proofs.Aside.{changed_judged, changed_kept, changed_noted, later}
use Rattle.model.proofs.Traffic.{run_limits, traffic_agrees}
use Rattle.model.proofs.Peals.{peals_by_majority}
use Rattle.model.specs.declared.Limits.{Limits}
use Rattle.model.specs.declared.Event.{Event}
use Rattle.model.specs.declared.Event.TheVariants.{Crash, Recover, Check, Timeout, Tick, Expire, Finish, Deliver, Lose}

pub holds : (rule : PairRule) (n : ℕ) (lim : Limits) → MayStart rule n lim → RunHolds rule n lim
holds rule n lim s =
    record {
      fixes = run_fixes rule n lim (start_small n lim s);
      from_list = task_from_list rule n lim (start_small n lim s);
      traffic = traffic_agrees rule n lim s;
      peals = peals_by_majority rule n lim (start_small n lim s);
      in_range_lem = stays_in_range.runs rule n lim s;
      never_one = stays_in_range.never_one rule n lim s;
      same_limits = λ es. run_limits (start_by rule n lim) es;
    }

-- ── with the rule and without it ──
module _ (s : State) (p : is_tower_or_stand s.limits ≡ true) where
  same_range : in_range (left_out s) ≡ in_range s
  unfolding in_range traffic_in_range
  same_range = rw (pair_allowed s.rule s.limits p)

  same_grounds : (e : Event) → grounds (left_out s) e ≡ grounds s e
  unfolding grounds reaction_to remaining
  same_grounds (Crash i) = ap (λ (t : Bool). ground 1 (not t) ∷ later (grounds s (Crash i))) same_range
  same_grounds (Recover i) = ap (λ (t : Bool). ground 1 (not t) ∷ later (grounds s (Recover i))) same_range
  same_grounds (Check i) = ap (λ (t : Bool). ground 1 (not t) ∷ later (grounds s (Check i))) same_range
  same_grounds (Timeout i) = ap (λ (t : Bool). ground 1 (not t) ∷ later (grounds s (Timeout i))) same_range
  same_grounds (Tick i) = ap (λ (t : Bool). ground 1 (not t) ∷ later (grounds s (Tick i))) same_range
  same_grounds (Expire i) = ap (λ (t : Bool). ground 1 (not t) ∷ later (grounds s (Expire i))) same_range
  same_grounds (Finish i t) = ap (λ (x : Bool). ground 1 (not x) ∷ later (grounds s (Finish i t))) same_range
  same_grounds (Deliver a b) = ap (λ (t : Bool). ground 1 (not t) ∷ later (grounds s (Deliver a b))) same_range
  same_grounds (Lose a b) = ap (λ (t : Bool). ground 1 (not t) ∷ later (grounds s (Lose a b))) same_range

accepted_left : State → Event → Result
accepted_left s e = accepted (left_out (effect s e)) (reaction_to s e).mark

same_effect : (s : State) (e : Event) → accepted (effect (left_out s) e) (reaction_to (left_out s) e).mark ≡ accepted_left s e
unfolding accepted_left effect reaction_to remaining
same_effect s (Crash i) = refl
same_effect s (Recover i) = refl
same_effect s (Check i) = refl
same_effect s (Timeout i) = refl
same_effect s (Tick i) = refl
same_effect s (Expire i) = refl
same_effect s (Finish i t) = refl
same_effect s (Deliver a b) = refl
same_effect s (Lose a b) = refl

same_step : (s : State) (e : Event) → is_tower_or_stand s.limits ≡ true → step (left_out s) e ≡ changed left_out (step s e)
unfolding step accepted_left
same_step s e p =
    ap (λ (x : Result). judged refused x (grounds (left_out s) e)) (same_effect s e)
    ∙ ap (judged refused (accepted_left s e)) (same_grounds s p e)
    ∙ sym (changed_judged left_out (effect s e) (reaction_to s e).mark (grounds s e))

module _ (s : State) (e : Event) (p : is_tower_or_stand s.limits ≡ true) where
  pair_after : is_tower_or_stand (after s e).limits ≡ true
  unfolding run_from
  pair_after = subst (λ (l : Limits). is_tower_or_stand l ≡ true) (sym (run_limits s (e ∷ []))) p

  same_after : after (left_out s) e ≡ left_out (after s e)
  same_after = ap (kept (left_out s)) (same_step s e p) ∙ sym (changed_kept left_out s (step s e))

  same_noted : (h : History) → noted h e (step (left_out s) e) ≡ noted h e (step s e)
  same_noted h = ap (noted h e) (same_step s e p) ∙ sym (changed_noted left_out h e (step s e))

same_from : (s : State) (es : List Event) → is_tower_or_stand s.limits ≡ true → run_from (left_out s) es ≡ left_out (run_from s es)
unfolding run_from
same_from s [] p = refl
same_from s (e ∷ es) p = ap (λ (u : State). run_from u es) (same_after s e p) ∙ same_from (after s e) es (pair_after s e p)

same_book : (s : State) (h : History) (es : List Event) → is_tower_or_stand s.limits ≡ true → history_from (left_out s) h es ≡ history_from s h es
unfolding history_from
same_book s h [] p = refl
same_book s h (e ∷ es) p =
    ap (λ (u : State). history_from u (noted h e (step (left_out s) e)) es) (same_after s e p)
    ∙ ap (λ (d : History). history_from (left_out (after s e)) d es) (same_noted s e p h)
    ∙ same_book (after s e) (noted h e (step s e)) es (pair_after s e p)

-- ── other limits ──
no_other : (s : State) → s.rule ≡ TwoPairs → is_tower_or_stand s.limits ≡ false → in_range s ≡ false
unfolding in_range
no_other s k p = rw (ap (λ (r : PairRule). pair_rule r s.limits) k ∙ p)

no_other_step : (s : State) (e : Event) → s.rule ≡ TwoPairs → is_tower_or_stand s.limits ≡ false → step s e ≡ refused 1
unfolding step grounds judged
no_other_step s e k p = rw (no_other s k p, pick_true) refl

pub tower_and_stand : TowerAndStand
tower_and_stand =
    record {
      any_limits = λ n lim a b low high.
          holds LeftOut n lim (record { within = both _ _ (le-leb lim.nodes 16 a) (le-leb lim.messages 64 b); pair = refl; low = low; high = high });
      for_tower = λ n low high. holds TwoPairs n tower (record { within = refl; pair = refl; low = low; high = high });
      for_stand = λ n low high. holds TwoPairs n stand (record { within = refl; pair = refl; low = low; high = high });
      same_step = same_step;
      same_run = λ n lim es p. same_from (start n lim) es p;
      same_history = λ n lim es p. same_book (start n lim) blank es p;
      no_other = no_other;
      no_other_step = no_other_step;
    }
