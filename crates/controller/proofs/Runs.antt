-- Lists of events lead n controllers over one queue to the records and messages of the table: the claims `RunsAsTable`.
use Prim.Native.Nat.{ℕ}
use mathlib.Core.Bool.{Bool, true, false}
use mathlib.Core.Path.{◌≡◌, refl}
use mathlib.Core.Logic.{◌⊎◌, inl, inr, ⊎_elim}
use mathlib.Core.List.{List, [], ◌∷◌}
use Rattle.model.specs.Range.{PairRule}
use Rattle.model.specs.State.{State, start_by, waits, in_range}
use Rattle.model.specs.Step as table
use Rattle.model.specs.Step.{step, after, run_from}
use Rattle.model.specs.Claims.{MayStart}
use Rattle.model.proofs.InRange.{start_small, start_in, run_in}
use Rattle.model.proofs.Traffic.{SentWithin, within_not_seventeen, run_within, start_within}
use Rattle.model.specs.declared.Limits.{Limits}
use Rattle.model.specs.declared.Event.{Event}
use Rattle.controller.specs.Controller.{controller_step}
use Rattle.controller.specs.Network.{network_of, refused, network_after, run_by, network_step, network_run}
use Rattle.controller.specs.Claims.{result_of, NeverSeventeen, RunsAsTable}
use Rattle.controller.proofs.Alike.{same, answers_as_table}

by_result : (s : State) (x : table.Result) → network_after (network_of s) (result_of x) ≡ network_of (table.kept s x)
by_result s (table.refused r) = refl
by_result s (table.accepted u k) = refl

-- where nothing waits, the queue refuses with 11, and so does the table, by 7, 9 or 11
pub record BothRefuse (s : State) (e : Event) : Type 0 where
  pub network : network_step (network_of s) e ≡ refused 11
  pub number : ℕ
  pub refuses : step s e ≡ table.refused number

both_refuse : (s : State) (e : Event) (r : ℕ) → network_step (network_of s) e ≡ refused 11 → step s e ≡ table.refused r → BothRefuse s e
both_refuse s e r h k = record { network = h; number = r; refuses = k }

-- the network answers as the table, or nothing waits
pub network_or : (s : State) → in_range s ≡ true → (e : Event) → (step s e ≡ table.refused 17 → ⊥) → (network_step (network_of s) e ≡ result_of (step s e)) ⊎ BothRefuse s e
network_or s ok (Event.Crash i) f = inl (same s ok (Event.Crash i) refl f)
network_or s ok (Event.Recover i) f = inl (same s ok (Event.Recover i) refl f)
network_or s ok (Event.Check i) f = inl (same s ok (Event.Check i) refl f)
network_or s ok (Event.Timeout i) f = inl (same s ok (Event.Timeout i) refl f)
network_or s ok (Event.Tick i) f = inl (same s ok (Event.Tick i) refl f)
network_or s ok (Event.Expire i) f = inl (same s ok (Event.Expire i) refl f)
network_or s ok (Event.Finish i t) f = inl (same s ok (Event.Finish i t) refl f)
network_or s ok (Event.Deliver a b) f = by (waits a b s.queue) refl
  where
    by : (t : Bool) → waits a b s.queue ≡ t → (network_step (network_of s) (Event.Deliver a b) ≡ result_of (step s (Event.Deliver a b))) ⊎ BothRefuse s (Event.Deliver a b)
    by true w = inl (same s ok (Event.Deliver a b) (rw w) f)
    by false w =
        let h = (answers_as_table.none_waits_lem s a b ok w).0 in
        inr (⊎_elim (both_refuse s (Event.Deliver a b) 7 h) (⊎_elim (both_refuse s (Event.Deliver a b) 9 h) (both_refuse s (Event.Deliver a b) 11 h)) (answers_as_table.none_waits_deliver s a b ok w))
network_or s ok (Event.Lose a b) f = by (waits a b s.queue) refl
  where
    by : (t : Bool) → waits a b s.queue ≡ t → (network_step (network_of s) (Event.Lose a b) ≡ result_of (step s (Event.Lose a b))) ⊎ BothRefuse s (Event.Lose a b)
    by true w = inl (answers_as_table.lose s a b ok w)
    by false w =
        let h = (answers_as_table.none_waits_lem s a b ok w).1 in
        inr (⊎_elim (both_refuse s (Event.Lose a b) 7 h) (both_refuse s (Event.Lose a b) 11 h) (answers_as_table.none_waits_lose s a b ok w))

-- one event
after_is : (s : State) → in_range s ≡ true → (e : Event) → (step s e ≡ table.refused 17 → ⊥) → network_after (network_of s) (network_step (network_of s) e) ≡ network_of (after s e)
after_is s ok e f = ⊎_elim (λ h. rw h (by_result s (step s e))) (λ h. rw (h.network, h.refuses)) (network_or s ok e f)

-- ── lists of events ──
after_in : (s : State) (e : Event) → in_range s ≡ true → in_range (after s e) ≡ true
unfolding run_from
after_in s e ok = run_in s (e ∷ []) ok

from_any : (s : State) (es : List Event) → in_range s ≡ true → NeverSeventeen s es → run_by controller_step (network_of s) es ≡ network_of (run_from s es)
unfolding run_by run_from
from_any s [] ok free = refl
from_any s (e ∷ es) ok free = rw (after_is s ok e free.0) (from_any (after s e) es (after_in s e ok) free.1)

after_within : (s : State) (e : Event) → SentWithin s → SentWithin (after s e)
unfolding run_from
after_within s e h = run_within s (e ∷ []) h

never_seventeen : (s : State) (es : List Event) → SentWithin s → NeverSeventeen s es
never_seventeen s [] h = tt
never_seventeen s (e ∷ es) h = (within_not_seventeen s e h, never_seventeen (after s e) es (after_within s e h))

module _ (r : PairRule) (n : ℕ) (l : Limits) (m : MayStart r n l) where
  pub runs : (es : List Event) → network_run n l.messages es ≡ network_of (table.run_by r n l es)
  runs es = from_any (start_by r n l) es (start_in r n l m) (never_seventeen (start_by r n l) es (start_within r n l (start_small n l m)))

  pub run_range : (es : List Event) → in_range (table.run_by r n l es) ≡ true
  run_range es = run_in (start_by r n l) es (start_in r n l m)

  pub run_free : (es : List Event) (e : Event) → step (table.run_by r n l es) e ≡ table.refused 17 → ⊥
  run_free es e = within_not_seventeen (table.run_by r n l es) e (run_within (start_by r n l) es (start_within r n l (start_small n l m)))

pub runs_as_table : RunsAsTable
runs_as_table =
    record {
      from_any = from_any;
      runs = runs;
      answers = λ r n l m es e h. rw (runs r n l m es) (same (table.run_by r n l es) (run_range r n l m es) e h (run_free r n l m es e));
    }
