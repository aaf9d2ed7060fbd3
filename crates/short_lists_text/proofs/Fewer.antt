-- T-01's lists are those of the step without 19, but for those in which an event meets 19 (02, T-10).
use Prim.Native.Nat.{ℕ, zero, suc, ◌≤◌}
use native.Mathlib.Omega.{arith}
use mathlib.Core.Bool.{Bool, true, false}
use mathlib.Core.Path.{◌≡◌, refl, sym, ◌∙◌, ap}
use mathlib.Core.List.{List, [], ◌∷◌, ◌++◌, map}
use lib.Dec.{eqb}
use borrow.Author.Tests.{eqb-true, eqb-false}
use Rattle.model.specs.Limits.{tower}
use Rattle.model.specs.Pick.{pick, pick_true}
use Rattle.model.specs.State.{State, start}
use Rattle.model.specs.Step.{Result, refused, accepted, step, kept, run}
use Rattle.model.specs.Answers.{result_number}
use Rattle.model.specs.Claims.{step_without_nineteen}
use Rattle.model.proofs.Judged.{accepted_apart, refused_same}
use Rattle.model.proofs.Majority.{met_nineteen, majority_rules}
use Rattle.model.proofs.Traffic.{run_n}
use Rattle.model.specs.declared.Event.{Event}
use Rattle.listing.specs.Printing.{joined}
use Rattle.short_lists_text.specs.Rows.{concat_map}
use Rattle.short_lists_text.specs.Lists.{alphabet, continued, lists_from}
use Rattle.short_lists_text.specs.Text.{lines_of, text_of}
use Rattle.short_lists_text.specs.Claims.{lists_by, answers_by, is_one_of, without_nineteen, ListsFewer}
use Rattle.short_lists_text.proofs.Rows.{same_rows}
use Rattle.short_lists_text.proofs.Stay.{from_start, text_of_lem}

-- where 19 is not met, the machine's step is the one without it
not_met : (s : State) (e : Event) → (step s e ≡ refused 19 → ⊥) → step s e ≡ step_without_nineteen s e
not_met s e f = majority_rules.as_before s e (λ z. f (met_nineteen s e z))

-- ── leaving lists out ──
module _ (s : State) where
  out_append : (xs ys : List (List Event)) → without_nineteen s (xs ++ ys) ≡ without_nineteen s xs ++ without_nineteen s ys
  unfolding without_nineteen pick
  out_append [] ys = refl
  out_append (l ∷ ls) ys = by (is_one_of 19 (answers_by step s l)) (out_append ls ys)
    where
      by : (t : Bool) → without_nineteen s (ls ++ ys) ≡ without_nineteen s ls ++ without_nineteen s ys
          → pick t (without_nineteen s (ls ++ ys)) (l ∷ without_nineteen s (ls ++ ys)) ≡ pick t (without_nineteen s ls) (l ∷ without_nineteen s ls) ++ without_nineteen s ys
      by true h = h
      by false h = ap (λ (k : List (List Event)). l ∷ k) h

  out_rows : (f : Event → List (List Event)) (es : List Event) → without_nineteen s (concat_map f es) ≡ concat_map (λ e. without_nineteen s (f e)) es
  unfolding without_nineteen
  out_rows f [] = refl
  out_rows f (e ∷ es) = out_append (f e) (concat_map f es) ∙ ap (λ (k : List (List Event)). without_nineteen s (f e) ++ k) (out_rows f es)

  -- where the first event meets 19
  all_out : (e : Event) → step s e ≡ refused 19 → (ls : List (List Event)) → without_nineteen s (map (λ l. e ∷ l) ls) ≡ []
  unfolding without_nineteen
  all_out e q [] = refl
  all_out e q (l ∷ ls) = rw (q, pick_true) (all_out e q ls)

  -- where it is accepted
  each_on : (e : Event) (u : State) → kept s (step s e) ≡ u → eqb (result_number (step s e)) 19 ≡ false
      → (ls : List (List Event)) → without_nineteen s (map (λ l. e ∷ l) ls) ≡ map (λ l. e ∷ l) (without_nineteen u ls)
  unfolding without_nineteen pick
  each_on e u k q [] = refl
  each_on e u k q (l ∷ ls) = rw (q, k) (by (is_one_of 19 (answers_by step u l)) (each_on e u k q ls))
    where
      by : (t : Bool) → without_nineteen s (map (λ l. e ∷ l) ls) ≡ map (λ l. e ∷ l) (without_nineteen u ls)
          → pick t (without_nineteen s (map (λ l. e ∷ l) ls)) ((e ∷ l) ∷ without_nineteen s (map (λ l. e ∷ l) ls)) ≡ map (λ l. e ∷ l) (pick t (without_nineteen u ls) (l ∷ without_nineteen u ls))
      by true h = h
      by false h = ap (λ (x : List (List Event)). (e ∷ l) ∷ x) h

-- ── all lists ──

-- one event before the lists that follow it
module _ (m : ℕ) (on : (u : State) → lists_from m u ≡ without_nineteen u (lists_by step_without_nineteen m u)) (s : State) (e : Event) where
  -- 19 takes all of them out
  turned : step s e ≡ refused 19 → (x : Result) → [] ≡ without_nineteen s (continued e x (lists_by step_without_nineteen m))
  unfolding without_nineteen
  turned q (refused r) = refl
  turned q (accepted u k) = sym (all_out s e q (lists_by step_without_nineteen m u))

  -- any other result is what it was
  same : (x : Result) → step s e ≡ x → (x ≡ refused 19 → ⊥) → continued e x (lists_from m) ≡ without_nineteen s (continued e x (lists_by step_without_nineteen m))
  unfolding without_nineteen
  same (refused r) q f = refl
  same (accepted u k) q f =
      ap (map (λ l. e ∷ l)) (on u) ∙ sym (each_on s e u (ap (kept s) q) (ap (λ (x : Result). eqb (result_number x) 19) q) (lists_by step_without_nineteen m u))

  one : continued e (step s e) (lists_from m) ≡ without_nineteen s (continued e (step_without_nineteen s e) (lists_by step_without_nineteen m))
  one = by (step s e) refl
    where
      other : (step s e ≡ refused 19 → ⊥) → continued e (step s e) (lists_from m) ≡ without_nineteen s (continued e (step_without_nineteen s e) (lists_by step_without_nineteen m))
      other f = same (step s e) refl f ∙ ap (λ (x : Result). without_nineteen s (continued e x (lists_by step_without_nineteen m))) (not_met s e f)

      by_number : (r : ℕ) → step s e ≡ refused r → (t : Bool) → eqb r 19 ≡ t
          → continued e (step s e) (lists_from m) ≡ without_nineteen s (continued e (step_without_nineteen s e) (lists_by step_without_nineteen m))
      by_number r q true h =
          let z = q ∙ ap refused (eqb-true r 19 h) in
          ap (λ (x : Result). continued e x (lists_from m)) z ∙ turned z (step_without_nineteen s e)
      by_number r q false h = other (λ z. eqb-false r 19 h (refused_same (sym q ∙ z)))

      by : (x : Result) → step s e ≡ x → continued e (step s e) (lists_from m) ≡ without_nineteen s (continued e (step_without_nineteen s e) (lists_by step_without_nineteen m))
      by (refused r) q = by_number r q (eqb r 19) refl
      by (accepted u k) q = other (λ z. accepted_apart (sym q ∙ z))

lists : (m : ℕ) (s : State) → lists_from m s ≡ without_nineteen s (lists_by step_without_nineteen m s)
unfolding lists_from lists_by without_nineteen pick
lists zero s = refl
lists (suc m) s =
    same_rows _ _ (one m (lists m) s) (alphabet s.n) ∙ sym (out_rows s (λ e. continued e (step_without_nineteen s e) (lists_by step_without_nineteen m)) (alphabet s.n))

same_lists : (n m : ℕ) → m ≤ 6 → lists_from m (start n tower) ≡ lists_by step_without_nineteen m (start n tower)
same_lists n m h =
    sym (from_start step_without_nineteen n 6 (λ es e l. sym (not_met (run n tower es) e (majority_rules.not_early n tower es e (omega (arith, l))))) m h)

texts : (n m : ℕ) → 1 ≤ n → n ≤ 3 → m ≤ 7 → text_of (n ∷ m ∷ []) ≡ joined (lines_of (without_nineteen (start n tower) (lists_by step_without_nineteen m (start n tower))))
texts n m l h k = text_of_lem n m l h k ∙ ap (λ (ls : List (List Event)). joined (lines_of ls)) (lists m (start n tower))

-- with one node
alone : (m : ℕ) → lists_from m (start 1 tower) ≡ lists_by step_without_nineteen m (start 1 tower)
alone m =
    sym
    (from_start step_without_nineteen 1 m (λ es e l. sym (not_met (run 1 tower es) e (majority_rules.one (run 1 tower es) e (run_n (start 1 tower) es)))) m (omega arith))

own : (m : ℕ) (s : State) → lists_by step m s ≡ lists_from m s
unfolding lists_by lists_from
own zero s = refl
own (suc m) s = same_rows _ _ (λ e. each e (step s e) (own m)) (alphabet s.n)
  where
    each : (e : Event) (x : Result) → ((u : State) → lists_by step m u ≡ lists_from m u) → continued e x (lists_by step m) ≡ continued e x (lists_from m)
    each e (refused r) f = refl
    each e (accepted u k) f = ap (map (λ es. e ∷ es)) (f u)

pub lists_fewer : ListsFewer
lists_fewer = record { own = own; lists = lists; texts = texts; same = same_lists; alone = alone }
