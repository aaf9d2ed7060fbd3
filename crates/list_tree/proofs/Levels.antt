-- The lists of one event more are those that come next to each list, one behind the other.
use Prim.Native.Nat.{ℕ, zero, suc, ◌+◌}
use native.Mathlib.Omega.{arith}
use mathlib.Core.Path.{◌≡◌, refl, sym, ◌∙◌, ap}
use mathlib.Core.List.{List, [], ◌∷◌, ◌++◌, append-nil, map}
use lib.ListN.{length, drop, length-append}
use lib.Seq.{drop_at}
use Rattle.model.specs.State.{State}
use Rattle.model.specs.Step.{Result, refused, accepted, step, kept, run_from}
use Rattle.model.specs.declared.Mark.{Mark}
use Rattle.model.specs.declared.Event.{Event}
use Rattle.short_lists_text.specs.Rows.{concat_map}
use Rattle.short_lists_text.specs.Lists.{alphabet, continued, lists_from}
use Rattle.short_lists_text.proofs.Few.{same_n}
use Rattle.short_lists_text.proofs.Rows.{same_rows, rows_rows, rows_map, map_rows}
use Rattle.aldebaran_text.specs.System.{states}
use Rattle.list_tree.specs.Tree.{extended, next_of}

-- an event before a list stays before what comes next to it
before : (e : Event) (l : List Event) (d : Event) (r : Result) → map (λ k. e ∷ k) (extended l d r) ≡ extended (e ∷ l) d r
before e l d (refused x) = refl
before e l d (accepted u m) = refl

next_behind : (s u : State) (m : Mark) (e : Event) (l : List Event) → step s e ≡ accepted u m → map (λ k. e ∷ k) (next_of u l) ≡ next_of s (e ∷ l)
unfolding next_of run_from
next_behind s u m e l q =
    map_rows (λ k. e ∷ k) (λ d. extended l d (step (run_from u l) d)) (alphabet u.n)
    ∙ (same_rows _ _ (λ d. before e l d (step (run_from u l) d)) (alphabet u.n)
    ∙ (ap (λ c. concat_map (λ d. extended (e ∷ l) d (step (run_from u l) d)) (alphabet c)) (same_n s e u m q)
    ∙ ap (λ v. concat_map (λ d. extended (e ∷ l) d (step (run_from v l) d)) (alphabet s.n)) (sym (ap (kept s) q))))

-- next to the list of no events
from_none : (s : State) (e : Event) (r : Result) → continued e r (lists_from 0) ≡ extended [] e r
unfolding lists_from
from_none s e (refused x) = refl
from_none s e (accepted u m) = refl

pub lists_next : (m : ℕ) (s : State) → lists_from (suc m) s ≡ concat_map (next_of s) (lists_from m s)
unfolding lists_from next_of run_from
lists_next zero s = same_rows _ _ (λ e. from_none s e (step s e)) (alphabet s.n) ∙ sym (append-nil _)
lists_next (suc m) s =
    same_rows _ _ (λ e. each e (step s e) refl (lists_next m)) (alphabet s.n)
    ∙ sym (rows_rows (next_of s) (λ e. continued e (step s e) (lists_from m)) (alphabet s.n))
  where
    each : (e : Event) (r : Result) → step s e ≡ r → ((u : State) → lists_from (suc m) u ≡ concat_map (next_of u) (lists_from m u)) → continued e r (lists_from (suc m)) ≡ concat_map (next_of s) (continued e r (lists_from m))
    each e (refused x) q f = refl
    each e (accepted u k) q f =
        ap (λ ls. map (λ l. e ∷ l) ls) (f u)
        ∙ (map_rows (λ l. e ∷ l) (next_of u) (lists_from m u)
        ∙ (same_rows _ _ (λ l. next_behind s u k e l q) (lists_from m u)
        ∙ sym (rows_map (next_of s) (λ l. e ∷ l) (lists_from m u))))

-- ── levels ──

-- of no events there is one, the first
pub first_level : (s : State) → (([] ∷ []) ≡ states 0 s) × (0 + length (lists_from 0 s) ≡ length (states 0 s))
unfolding states lists_from
first_level s = (refl, omega arith)

-- the lists of the greatest length stand behind all others
pub last_level : (k : ℕ) (s : State) (first : ℕ) → first + length (lists_from k s) ≡ length (states k s) → drop first (states k s) ≡ lists_from k s
unfolding states
last_level zero s first q = let z : first ≡ 0 = omega arith in ap (λ i. drop i (lists_from 0 s)) z
last_level (suc k) s first q = drop_at (states k s) (lists_from (suc k) s) first (omega (arith, q, length-append (states k s) (lists_from (suc k) s)))

-- and next to them come those of the next length
pub next_level : (k : ℕ) (s : State) → states k s ++ concat_map (next_of s) (lists_from k s) ≡ states (k + 1) s
unfolding states
next_level k s = let z : suc k ≡ k + 1 = omega arith in ap (λ (l : List (List Event)). states k s ++ l) (sym (lists_next k s)) ∙ ap (λ i. states i s) z

-- so many are they
pub level_long : (k : ℕ) (s : State) → length (states k s) + length (lists_from (k + 1) s) ≡ length (states (k + 1) s)
unfolding states
level_long k s = let z : suc k ≡ k + 1 = omega arith in rw (← z) (omega (arith, length-append (states k s) (lists_from (suc k) s)))
