-- The lists are exactly the legal ones, each once, in order.
use Prim.Native.Nat.{ℕ, zero, suc}
use native.Mathlib.Omega.{arith}
use mathlib.Core.Bool.{true, true≢false}
use mathlib.Core.Path.{◌≡◌, refl, sym, ap, subst}
use mathlib.Core.Logic.{inl, inr}
use mathlib.Core.List.{List, [], ◌∷◌}
use lib.ListN.{length}
use Rattle.model.specs.State.{State}
use Rattle.model.specs.Step.{Result, refused, accepted, step, kept}
use Rattle.model.specs.declared.Mark.{Mark}
use Rattle.model.specs.declared.Event.{Event}
use Rattle.model.proofs.Judged.{accepted_is}
use Rattle.short_lists_text.specs.Rows.{Among, All, Ascending}
use Rattle.short_lists_text.specs.Order.{Before, ListBefore}
use Rattle.short_lists_text.specs.Lists.{alphabet, continued, lists_from, is_accepted, AcceptedFrom, TaskFits, Legal}
use Rattle.short_lists_text.specs.Claims.{EveryList}
use Rattle.short_lists_text.proofs.Rows.{all_of, all_map, map_by, all_rows, among_map, among_rows, ascending_map, ascending_rows, alone}
use Rattle.short_lists_text.proofs.Order.{strict_order, alphabet_ascends}
use Rattle.short_lists_text.proofs.Members.{among_alphabet, alphabet_fits}

-- ── only legal lists ──

one_more : (k : ℕ) (s u : State) (m : Mark) (e : Event) (l : List Event) → step s e ≡ accepted u m → TaskFits e → Legal k u l → Legal (suc k) s (e ∷ l)
one_more k s u m e l q t x = record {
  long = omega (arith, x.long);
  tasks = (t, x.tasks);
  taken = (ap is_accepted q, subst (λ r. AcceptedFrom (kept s r) l) (sym q) x.taken);
}

all_legal : (k : ℕ) (s : State) → All (Legal k s) (lists_from k s)
unfolding lists_from
all_legal zero s = (record { long = refl; tasks = tt; taken = tt }, tt)
all_legal (suc k) s = all_rows TaskFits (Legal (suc k) s) (λ e. continued e (step s e) (lists_from k)) (alphabet s.n) (λ e t. by (all_legal k) e t (step s e) refl) (alphabet_fits s.n)
  where
    by : ((u : State) → All (Legal k u) (lists_from k u)) → (e : Event) → TaskFits e → (r : Result) → step s e ≡ r → All (Legal (suc k) s) (continued e r (lists_from k))
    by f e t (refused x) q = tt
    by f e t (accepted u m) q = all_map (Legal k u) (Legal (suc k) s) (λ l. e ∷ l) (lists_from k u) (λ l x. one_more k s u m e l q t x) (f u)

-- ── every legal list ──

module _ (k : ℕ) (s : State) (e : Event) (l : List Event) (h : (u : State) → AcceptedFrom u l → Among l (lists_from k u)) where
  there : (r : Result) → step s e ≡ r → is_accepted r ≡ true → AcceptedFrom (kept s r) l → Among (e ∷ l) (continued e r (lists_from k))
  there (refused x) q b a = absurd (true≢false (sym b))
  there (accepted u m) q b a = among_map (λ l. e ∷ l) l (lists_from k u) (h u a)

  in_alphabet : (r : Result) → step s e ≡ r → is_accepted r ≡ true → TaskFits e → Among e (alphabet s.n)
  in_alphabet (refused x) q b t = absurd (true≢false (sym b))
  in_alphabet (accepted u m) q b t = among_alphabet s.n e (accepted_is s e u m q).clear.number t

none_missing : (k : ℕ) (s : State) (l : List Event) → length l ≡ k → All TaskFits l → AcceptedFrom s l → Among l (lists_from k s)
unfolding lists_from
none_missing zero s [] n t a = inl refl
none_missing zero s (e ∷ l) n t a = absurd (omega (arith, n))
none_missing (suc k) s [] n t a = absurd (omega (arith, n))
none_missing (suc k) s (e ∷ l) n t a =
    let h : (u : State) → AcceptedFrom u l → Among l (lists_from k u) = λ u b. none_missing k u l (omega (arith, n)) t.1 b in
    among_rows (λ e. continued e (step s e) (lists_from k)) e (e ∷ l) (alphabet s.n)
    (in_alphabet k s e l h (step s e) refl a.0 t.0) (there k s e l h (step s e) refl a.0 a.1)

-- ── in order ──

all_ascend : (k : ℕ) (s : State) → Ascending ListBefore (lists_from k s)
unfolding lists_from
all_ascend zero s = (tt, tt)
all_ascend (suc k) s = ascending_rows Before ListBefore (λ e. continued e (step s e) (lists_from k)) (λ e. inside (all_ascend k) e (step s e)) (λ e f b. across e f b (step s e) (step s f)) (alphabet s.n) (alphabet_ascends s.n)
  where
    inside : ((u : State) → Ascending ListBefore (lists_from k u)) → (e : Event) (r : Result) → Ascending ListBefore (continued e r (lists_from k))
    inside g e (refused x) = tt
    inside g e (accepted u m) = ascending_map ListBefore ListBefore (λ l. e ∷ l) (lists_from k u) (λ l r b. inr (refl, b)) (g u)

    above : (e f : Event) → Before e f → (l : List Event) (r : Result) → All (ListBefore (e ∷ l)) (continued f r (lists_from k))
    above e f b l (refused x) = tt
    above e f b l (accepted u m) = map_by (ListBefore (e ∷ l)) (λ r. f ∷ r) (lists_from k u) (λ r. inl b)

    across : (e f : Event) → Before e f → (r q : Result) → All (λ l. All (ListBefore l) (continued f q (lists_from k))) (continued e r (lists_from k))
    across e f b (refused x) q = tt
    across e f b (accepted u m) q = map_by (λ l. All (ListBefore l) (continued f q (lists_from k))) (λ l. e ∷ l) (lists_from k u) (λ l. above e f b l q)

pub all_lists : EveryList
all_lists k s = record {
  only = λ l m. all_of (Legal k s) l (lists_from k s) (all_legal k s) m;
  complete = λ l x. none_missing k s l x.long x.tasks x.taken;
  ascending = all_ascend k s;
  once = λ l before behind q. alone ListBefore strict_order.never_itself l before behind (subst (Ascending ListBefore) q (all_ascend k s));
}
