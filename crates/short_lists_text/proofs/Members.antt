-- What is in the alphabet.
use Prim.Native.Nat.{ℕ, zero, suc, ◌+◌, ◌<◌, ◌≤◌}
use native.Mathlib.Omega.{arith}
use mathlib.Core.Bool.{Bool, true, false, not, ◌&&◌}
use mathlib.Core.Path.{◌≡◌, refl, sym, ap, subst}
use mathlib.Core.Logic.{◌⊎◌, inl, inr}
use mathlib.Core.List.{List, [], ◌∷◌, ◌++◌, map}
use lib.Dec.{eqb}
use borrow.Author.Tests.{not-true, not-false, eqb-true, eqb-false}
use Rattle.model.specs.Pick.{pick, pick_true, pick_false}
use Rattle.model.specs.Range.{is_node, is_other}
use Rattle.model.specs.Step.{wrong_number}
use Rattle.model.specs.declared.Event.{Event}
use Rattle.model.specs.declared.Event.TheVariants.{Crash, Recover, Check, Timeout, Tick, Expire, Finish, Deliver, Lose}
use Rattle.model.proofs.Local.{both_left, both_right}
use Rattle.model.proofs.Numbers.{is_node_lem}
use Rattle.short_lists_text.specs.Rows.{Among, All}
use Rattle.short_lists_text.specs.Lists.{only_task, up_from, nodes_of, without, pairs_of, alphabet, TaskFits}
use Rattle.short_lists_text.proofs.Rows.{all_append, map_by, rows_by, among_left, among_right, among_map, among_rows}

-- ── numbers ──

among_numbers : (k c j : ℕ) → k ≤ j → j < k + c → Among j (up_from k c)
unfolding up_from
among_numbers k zero j a b = absurd (omega arith)
among_numbers k (suc c) j a b = by (eqb j k) refl (λ h. among_numbers (suc k) c j h (omega arith))
  where
    by : (t : Bool) → eqb j k ≡ t → (suc k ≤ j → Among j (up_from (suc k) c)) → (j ≡ k) ⊎ Among j (up_from (suc k) c)
    by true q f = inl (eqb-true j k q)
    by false q f = let d = eqb-false j k q in inr (f (omega arith))

among_nodes : (n j : ℕ) → is_node n j ≡ true → Among j (nodes_of n)
among_nodes n j q = let h = is_node_lem n j q in among_numbers 1 n j h.0 (omega (arith, h.1))

among_others : (i j : ℕ) (js : List ℕ) → eqb j i ≡ false → Among j js → Among j (without i js)
unfolding without
among_others i j (k ∷ js) d (inl e) = rw (← e, d, pick_false) (inl refl)
among_others i j (k ∷ js) d (inr m) = by (eqb k i) refl (among_others i j js d m)
  where
    by : (t : Bool) → eqb k i ≡ t → Among j (without i js) → Among j (pick (eqb k i) (without i js) (k ∷ without i js))
    by true q r = rw (q, pick_true) r
    by false q r = rw (q, pick_false) (inr r)
among_others i j [] d x'' = elim x'' [ ]

among_pairs : (f : ℕ → ℕ → Event) (n a b : ℕ) → not (is_node n a && is_other n a b) ≡ false → Among (f a b) (pairs_of f n)
unfolding pairs_of
among_pairs f n a b q =
    let h : is_node n a && is_other n a b ≡ true = not-false _ q in
    let o : is_other n a b ≡ true = both_right (is_node n a) _ h in
    let d : eqb b a ≡ false = not-true _ (both_right (is_node n b) _ o) in
    among_rows (λ x. map (f x) (without x (nodes_of n))) a (f a b) (nodes_of n) (among_nodes n a (both_left _ _ h))
    (among_map (f a) b (without a (nodes_of n)) (among_others a b (nodes_of n) d (among_nodes n b (both_left _ _ o))))

-- ── every event with numbers of n nodes and a task that fits ──

module _ (n : ℕ) where
  abbrev lasts : List Event
  lasts = pairs_of Deliver n ++ pairs_of Lose n

  abbrev finishes : List Event
  finishes = map (λ i. Finish i (record { number = only_task })) (nodes_of n) ++ lasts

  abbrev expires : List Event
  expires = map Expire (nodes_of n) ++ finishes

  abbrev ticks : List Event
  ticks = map Tick (nodes_of n) ++ expires

  abbrev timeouts : List Event
  timeouts = map Timeout (nodes_of n) ++ ticks

  abbrev checks : List Event
  checks = map Check (nodes_of n) ++ timeouts

  abbrev recovers : List Event
  recovers = map Recover (nodes_of n) ++ checks

  abbrev crashes : List Event
  crashes = map Crash (nodes_of n) ++ recovers

  one_of : (f : ℕ → Event) (i : ℕ) (fs : List Event) → not (is_node n i) ≡ false → Among (f i) (map f (nodes_of n) ++ fs)
  one_of f i fs q = among_left (f i) (map f (nodes_of n)) fs (among_map f i (nodes_of n) (among_nodes n i (not-false _ q)))

  behind : (f : ℕ → Event) (e : Event) (fs : List Event) → Among e fs → Among e (map f (nodes_of n) ++ fs)
  behind f e fs m = among_right e (map f (nodes_of n)) fs m

  from_recovers : (e : Event) → Among e recovers → Among e crashes
  from_recovers e m = behind Crash e _ m

  from_checks : (e : Event) → Among e checks → Among e crashes
  from_checks e m = from_recovers e (behind Recover e _ m)

  from_timeouts : (e : Event) → Among e timeouts → Among e crashes
  from_timeouts e m = from_checks e (behind Check e _ m)

  from_ticks : (e : Event) → Among e ticks → Among e crashes
  from_ticks e m = from_timeouts e (behind Timeout e _ m)

  from_expires : (e : Event) → Among e expires → Among e crashes
  from_expires e m = from_ticks e (behind Tick e _ m)

  from_finishes : (e : Event) → Among e finishes → Among e crashes
  from_finishes e m = from_expires e (behind Expire e _ m)

  from_lasts : (e : Event) → Among e lasts → Among e crashes
  from_lasts e m = from_finishes e (behind (λ i. Finish i (record { number = only_task })) e _ m)

  pub among_alphabet : (e : Event) → wrong_number n e ≡ false → TaskFits e → Among e (alphabet n)
  unfolding alphabet
  among_alphabet (Crash i) q t = one_of Crash i recovers q
  among_alphabet (Recover i) q t = from_recovers (Recover i) (one_of Recover i checks q)
  among_alphabet (Check i) q t = from_checks (Check i) (one_of Check i timeouts q)
  among_alphabet (Timeout i) q t = from_timeouts (Timeout i) (one_of Timeout i ticks q)
  among_alphabet (Tick i) q t = from_ticks (Tick i) (one_of Tick i expires q)
  among_alphabet (Expire i) q t = from_expires (Expire i) (one_of Expire i finishes q)
  among_alphabet (Finish i t) q h =
      let z : Finish i (record { number = only_task }) ≡ Finish i t = ap (λ x. Finish i (record { number = x })) (sym h) in
      subst (λ e. Among e crashes) z (from_finishes (Finish i (record { number = only_task })) (one_of (λ j. Finish j (record { number = only_task })) i lasts q))
  among_alphabet (Deliver a b) q t = from_lasts (Deliver a b) (among_left (Deliver a b) (pairs_of Deliver n) (pairs_of Lose n) (among_pairs Deliver n a b q))
  among_alphabet (Lose a b) q t = from_lasts (Lose a b) (among_right (Lose a b) (pairs_of Deliver n) (pairs_of Lose n) (among_pairs Lose n a b q))

  pairs_fit : (f : ℕ → ℕ → Event) → ((a b : ℕ) → TaskFits (f a b)) → All TaskFits (pairs_of f n)
  unfolding pairs_of
  pairs_fit f h = rows_by TaskFits (λ a. map (f a) (without a (nodes_of n))) (nodes_of n) (λ a. map_by TaskFits (f a) (without a (nodes_of n)) (h a))

  fit : (f : ℕ → Event) (fs : List Event) → ((i : ℕ) → TaskFits (f i)) → All TaskFits fs → All TaskFits (map f (nodes_of n) ++ fs)
  fit f fs h a = all_append TaskFits (map f (nodes_of n)) fs (map_by TaskFits f (nodes_of n) h) a

  pub alphabet_fits : All TaskFits (alphabet n)
  unfolding alphabet
  alphabet_fits =
      fit Crash _ (λ i. tt) (fit Recover _ (λ i. tt) (fit Check _ (λ i. tt) (fit Timeout _ (λ i. tt) (fit Tick _ (λ i. tt) (fit Expire _ (λ i. tt)
      (fit (λ i. Finish i (record { number = only_task })) _ (λ i. refl)
      (all_append TaskFits (pairs_of Deliver n) (pairs_of Lose n) (pairs_fit Deliver (λ a b. tt)) (pairs_fit Lose (λ a b. tt)))))))))
