-- The states are the accepted lists of up to so many events, each once, by length and then by T-01's order.
use Prim.Native.Nat.{ℕ, zero, suc, ◌+◌, ◌≤◌}
use native.Mathlib.Omega.{arith}
use mathlib.Core.Bool.{Bool, true, false}
use mathlib.Core.Path.{◌≡◌, refl, sym, ◌∙◌, subst}
use mathlib.Core.Logic.{inl, inr}
use mathlib.Core.List.{List, [], ◌∷◌, ◌++◌}
use lib.Dec.{ltb}
use lib.ListN.{length, get_or, length-append, get_or-append}
use borrow.Author.Tests.{ltb-true, ltb-false}
use Rattle.model.specs.State.{State}
use Rattle.model.specs.declared.Event.{Event}
use Rattle.short_lists_text.specs.Rows.{Among, All, Ascending}
use Rattle.short_lists_text.specs.Order.{ListBefore}
use Rattle.short_lists_text.specs.Lists.{lists_from, Legal}
use Rattle.short_lists_text.proofs.Rows.{all_of, all_by, all_weaken, all_append, among_left, among_right, ascending_append, alone}
use Rattle.short_lists_text.proofs.Order.{strict_order}
use Rattle.short_lists_text.proofs.Whole.{all_lists}
use Rattle.aldebaran_text.specs.System.{states}
use Rattle.aldebaran_text.specs.Claims.{StateBefore, EveryState}
use Rattle.aldebaran_text.proofs.Numbers.{number_at_lem}

-- ── only accepted lists ──

-- an accepted list of up to m events
abbrev Fits : ℕ → State → List Event → Type 0
Fits m s l = Legal (length l) s l × (length l ≤ m)

long_as : (k : ℕ) (s : State) (l : List Event) → Legal k s l → Legal (length l) s l
long_as k s l x = subst (λ j. Legal j s l) (sym x.long) x

lists_fit : (k m : ℕ) (s : State) → k ≤ m → All (Fits m s) (lists_from k s)
lists_fit k m s h = all_by (Fits m s) (lists_from k s) (λ l a. let x = (all_lists k s).only l a in let e = x.long in (long_as k s l x, omega (arith, e, h)))

pub states_fit : (m : ℕ) (s : State) → All (Fits m s) (states m s)
unfolding states
states_fit zero s = lists_fit 0 0 s (omega arith)
states_fit (suc m) s =
    all_append (Fits (suc m) s) (states m s) (lists_from (suc m) s)
    (all_weaken (Fits m s) (Fits (suc m) s) (states m s) (λ l x. let h = x.1 in (x.0, omega (arith, h))) (states_fit m s))
    (lists_fit (suc m) (suc m) s (omega arith))

-- ── every accepted list ──

pub none_missing : (m k : ℕ) (s : State) (l : List Event) → k ≤ m → Legal k s l → Among l (states m s)
unfolding states
none_missing zero zero s l h x = (all_lists 0 s).complete l x
none_missing zero (suc k) s l h x = absurd (omega arith)
none_missing (suc m) k s l h x = by (ltb m k) refl (λ j. none_missing m k s l j x)
  where
    by : (t : Bool) → ltb m k ≡ t → (k ≤ m → Among l (states m s)) → Among l (states m s ++ lists_from (suc m) s)
    by true q f =
        let j = ltb-true m k q in
        let e : k ≡ suc m = omega arith in
        among_right l (states m s) (lists_from (suc m) s) ((all_lists (suc m) s).complete l (subst (λ i. Legal i s l) e x))
    by false q f = let j = ltb-false m k q in among_left l (states m s) (lists_from (suc m) s) (f (omega arith))

-- ── in order ──

pub never_itself : (l : List Event) → StateBefore l l → ⊥
never_itself l (inl h) = omega arith
never_itself l (inr h) = strict_order.never_itself l h.1

-- lists of one length that ascend in T-01's order
same_length : (k : ℕ) (ls : List (List Event)) → All (λ l. length l ≡ k) ls → Ascending ListBefore ls → Ascending StateBefore ls
same_length k [] e a = tt
same_length k (l ∷ ls) e a = (behind ls e.1 a.0, same_length k ls e.1 a.1)
  where
    behind : (rs : List (List Event)) → All (λ r. length r ≡ k) rs → All (ListBefore l) rs → All (StateBefore l) rs
    behind [] f b = tt
    behind (r ∷ rs) f b = (inr (e.0 ∙ sym f.0, b.0), behind rs f.1 b.1)

lists_long : (k : ℕ) (s : State) → All (λ l. length l ≡ k) (lists_from k s)
lists_long k s = all_by (λ l. length l ≡ k) (lists_from k s) (λ l a. ((all_lists k s).only l a).long)

lists_ascend : (k : ℕ) (s : State) → Ascending StateBefore (lists_from k s)
lists_ascend k s = same_length k (lists_from k s) (lists_long k s) (all_lists k s).ascending

pub states_ascend : (m : ℕ) (s : State) → Ascending StateBefore (states m s)
unfolding states
states_ascend zero s = lists_ascend 0 s
states_ascend (suc m) s =
    ascending_append StateBefore (states m s) (lists_from (suc m) s) (states_ascend m s) (lists_ascend (suc m) s)
    (all_weaken (Fits m s) (λ l. All (StateBefore l) (lists_from (suc m) s)) (states m s)
    (λ l x. let h = x.1 in all_weaken (λ r. length r ≡ suc m) (StateBefore l) (lists_from (suc m) s) (λ r e. inl (omega (arith, h, e))) (lists_long (suc m) s))
    (states_fit m s))

-- ── the first ──

pub some_state : (m : ℕ) (s : State) → 1 ≤ length (states m s)
unfolding states lists_from
some_state zero s = omega arith
some_state (suc m) s = let h = some_state m s in simp length-append (omega arith)

pub first_empty : (m : ℕ) (s : State) → get_or (states m s) 0 [] ≡ []
unfolding states lists_from
first_empty zero s = refl
first_empty (suc m) s = get_or-append (states m s) (lists_from (suc m) s) [] 0 (some_state m s) ∙ first_empty m s

more_behind : (m : ℕ) (s : State) → states (m + 1) s ≡ states m s ++ lists_from (m + 1) s
unfolding states
more_behind m s = let e : m + 1 ≡ suc m = omega arith in rw e

pub all_states : EveryState
all_states m s = record {
  only = λ l a. all_of (Fits m s) l (states m s) (states_fit m s) a;
  complete = λ k l h x. none_missing m k s l h x;
  ascending = states_ascend m s;
  once = λ l before rest q. alone StateBefore never_itself l before rest (subst (Ascending StateBefore) q (states_ascend m s));
  number = λ b h. number_at_lem StateBefore never_itself (states m s) (states_ascend m s) b h;
  some = some_state m s;
  first = first_empty m s;
  next_length = more_behind m s;
}
