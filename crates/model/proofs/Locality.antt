-- How little a step changes: a refused event nothing; an accepted one one record, one message out, one message in.
use Prim.Native.Nat.{ℕ, ◌-◌, ◌≤◌}
use native.Mathlib.Omega.{arith}
use mathlib.Core.Bool.{Bool, true, false, ◌||◌, true≢false}
use mathlib.Core.Path.{◌≡◌, refl, sym, ◌∙◌, ap, subst}
use mathlib.Core.List.{List, [], ◌∷◌, ◌++◌}
use lib.ListN.{length, length-set, length-append}
use lib.Seq.{get_or-set_other}
use borrow.Author.Tests.{not-false}
use Rattle.model.specs.Pick.{pick_true, pick_false}
use Rattle.model.specs.State.{State, starting_node, start, goes, waits, oldest, without_oldest}
use Rattle.model.specs.Step.{run_from, actor, reaction_to, remaining, sent, effect, none_waits, Result, refused, step, kept, run}
use Rattle.model.specs.Claims.{WithoutOldest, TakesOut, ChangesLittle, StepIsLocal}
use Rattle.model.proofs.Judged.{Clear, accepted_is}
use Rattle.model.proofs.Numbers.{actor_in}
use Rattle.model.proofs.Whole.{run_append}
use Rattle.model.specs.declared.Limits.{Limits}
use Rattle.model.specs.declared.Message.{Message}
use Rattle.std.specs.Prelude.{Option, None, Some}
use Rattle.model.specs.declared.Event.{Event}
use Rattle.model.specs.declared.Event.TheVariants.{Crash, Recover, Check, Timeout, Tick, Expire, Finish, Deliver, Lose}

-- ── the message that is taken out ──
first_out : (a b : ℕ) (m : Message) (ms : List Message) → goes a b m ≡ true → WithoutOldest a b (m ∷ ms) (without_oldest a b (m ∷ ms))
unfolding waits oldest without_oldest
first_out a b m ms g =
    record {
      before = [];
      taken = m;
      behind = ms;
      whole = refl;
      left = rw (g, pick_true);
      goes_there = g;
      none_older = refl;
      oldest_is = rw (g, pick_true);
    }

later_out : (a b : ℕ) (m : Message) (ms : List Message) → goes a b m ≡ false → WithoutOldest a b ms (without_oldest a b ms) → WithoutOldest a b (m ∷ ms) (without_oldest a b (m ∷ ms))
unfolding waits oldest without_oldest
later_out a b m ms g r =
    record {
      before = m ∷ r.before;
      taken = r.taken;
      behind = r.behind;
      whole = ap (λ (l : List Message). m ∷ l) r.whole;
      left = rw (g, pick_false) (ap (λ (l : List Message). m ∷ l) r.left);
      goes_there = r.goes_there;
      none_older = rw g r.none_older;
      oldest_is = rw (g, pick_false) r.oldest_is;
    }

pub taken_out : (a b : ℕ) (q : List Message) → waits a b q ≡ true → WithoutOldest a b q (without_oldest a b q)
unfolding waits
taken_out a b [] w = absurd (true≢false (sym w))
taken_out a b (m ∷ ms) w = by_cases (goes a b m) refl (λ v. taken_out a b ms v)
  where
    later : (x y : Bool) → x ≡ false → (x || y) ≡ true → y ≡ true
    later true y t e = absurd (true≢false t)
    later false y t e = e

    by_cases : (t : Bool) → goes a b m ≡ t → (waits a b ms ≡ true → WithoutOldest a b ms (without_oldest a b ms)) → WithoutOldest a b (m ∷ ms) (without_oldest a b (m ∷ ms))
    by_cases true g f = first_out a b m ms g
    by_cases false g f = later_out a b m ms g (f (later (goes a b m) (waits a b ms) g w))

takes_out : (s : State) (e : Event) → Clear s e → TakesOut s.queue e (remaining s e)
unfolding remaining none_waits
takes_out s (Crash i) c = refl
takes_out s (Recover i) c = refl
takes_out s (Check i) c = refl
takes_out s (Timeout i) c = refl
takes_out s (Tick i) c = refl
takes_out s (Expire i) c = refl
takes_out s (Finish i t) c = refl
takes_out s (Deliver a b) c = taken_out a b s.queue (not-false _ c.waiting)
takes_out s (Lose a b) c = taken_out a b s.queue (not-false _ c.waiting)

-- ── the numbers of messages ──
without_short : (a b : ℕ) (q r : List Message) → WithoutOldest a b q r → length r ≤ length q
without_short a b q r x =
    omega (arith, ap length x.whole, ap length x.left, length-append x.before (x.taken ∷ x.behind), length-append x.before x.behind)

out_short : (q : List Message) (e : Event) (r : List Message) → TakesOut q e r → length r ≤ length q
out_short q (Crash i) r x = omega (arith, ap length x)
out_short q (Recover i) r x = omega (arith, ap length x)
out_short q (Check i) r x = omega (arith, ap length x)
out_short q (Timeout i) r x = omega (arith, ap length x)
out_short q (Tick i) r x = omega (arith, ap length x)
out_short q (Expire i) r x = omega (arith, ap length x)
out_short q (Finish i t) r x = omega (arith, ap length x)
out_short q (Deliver a b) r x = without_short a b q r x
out_short q (Lose a b) r x = without_short a b q r x

sent_short : (o : Option Message) → length (sent o) ≤ 1
sent_short None = omega arith
sent_short (Some m) = omega arith

-- ── the claim ──
effect_little : (s : State) (e : Event) → Clear s e → 1 ≤ actor e → ChangesLittle s e (effect s e)
unfolding effect
effect_little s e c low =
    record {
      same_n = refl;
      same_rule = refl;
      same_limits = refl;
      same_length = length-set s.nodes (actor e - 1) (reaction_to s e).node;
      others_kept = λ j l q. get_or-set_other s.nodes (actor e - 1) (j - 1) (reaction_to s e).node starting_node (λ z. q (omega arith));
      one_out = takes_out s e c;
      one_in = refl;
      few = omega (arith, length-append (remaining s e) (sent (reaction_to s e).outgoing), out_short s.queue e (remaining s e) (takes_out s e c), sent_short (reaction_to s e).outgoing);
      sent_counts = refl;
      delivered_counts = refl;
      lost_counts = refl;
    }

skips : (n : ℕ) (lim : Limits) (es : List Event) (e : Event) (fs : List Event) (r : ℕ) → step (run n lim es) e ≡ refused r → run n lim (es ++ (e ∷ fs)) ≡ run n lim (es ++ fs)
unfolding run_from
skips n lim es e fs r q =
    run_append (start n lim) es (e ∷ fs)
    ∙ ap (λ (x : Result). run_from (kept (run n lim es) x) fs) q
    ∙ sym (run_append (start n lim) es fs)

pub step_is_local : StepIsLocal
step_is_local =
    record {
      refused_nothing = λ s e r q. ap (kept s) q;
      refused_skips = skips;
      accepted_little = λ s e u k q.
          let a = accepted_is s e u k q in
          subst (ChangesLittle s e) (sym a.state) (effect_little s e a.clear (actor_in s.n e a.clear.number).0);
    }
