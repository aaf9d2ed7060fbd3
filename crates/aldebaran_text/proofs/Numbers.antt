-- The number of a list among others: the test of equal lists, places in lists that ascend, and what is numbered.
use Prim.Native.Nat.{ℕ, zero, suc, ◌+◌, ◌<◌}
use native.Mathlib.Omega.{arith}
use mathlib.Core.Bool.{Bool, true, false, true≢false}
use mathlib.Core.Path.{◌≡◌, refl, sym, ◌∙◌, ap, subst}
use mathlib.Core.Logic.{inl, inr}
use mathlib.Core.List.{List, [], ◌∷◌, ◌++◌}
use lib.Dec.{eqb}
use lib.ListN.{length, get_or}
use borrow.Author.Tests.{eqb-true, eq-eqb}
use Rattle.model.specs.Pick.{pick, pick_true, pick_false}
use Rattle.model.specs.declared.Event.{Event}
use Rattle.model.proofs.Local.{both_left, both_right}
use Rattle.number_bytes.proofs.Same.{same_self, same_is}
use Rattle.short_lists_text.specs.Rows.{Among, All, Ascending}
use Rattle.short_lists_text.specs.Order.{tag, contents}
use Rattle.short_lists_text.proofs.Order.{same_event_lem}
use Rattle.short_lists_text.proofs.Rows.{all_of}
use Rattle.aldebaran_text.specs.System.{same_event, same_list, number_in, numbered}

-- ── the same list ──

pub list_same : (l m : List Event) → same_list l m ≡ true → l ≡ m
unfolding same_list same_event
list_same [] [] q = refl
list_same [] (f ∷ fs) q = absurd (true≢false (sym q))
list_same (e ∷ es) [] q = absurd (true≢false (sym q))
list_same (e ∷ es) (f ∷ fs) q =
    let o = both_left (same_event e f) _ q in
    let h = same_event_lem e f (eqb-true (tag e) (tag f) (both_left (eqb (tag e) (tag f)) _ o)) (same_is (contents e) (contents f) (both_right (eqb (tag e) (tag f)) _ o)) in
    let t = list_same es fs (both_right (same_event e f) _ q) in
    rw (h, t)

pub list_self : (l : List Event) → same_list l l ≡ true
unfolding same_list same_event
list_self [] = refl
list_self (e ∷ es) = rw (eq-eqb (tag e) (tag e) refl, same_self (contents e)) (list_self es)

-- ── places ──

pub at_place : {A : Type 0} (d : A) (xs : List A) (i : ℕ) → i < length xs → Among (get_or xs i d) xs
at_place d [] i h = absurd (omega arith)
at_place d (x ∷ xs) zero h = inl refl
at_place d (x ∷ xs) (suc i) h = inr (at_place d xs i (omega arith))

pub all_at : {A : Type 0} (P : A → Type 0) (d : A) (xs : List A) (i : ℕ) → All P xs → i < length xs → P (get_or xs i d)
all_at P d xs i a h = all_of P (get_or xs i d) xs a (at_place d xs i h)

pub ascending_at : {A : Type 0} (R : A → A → Type 0) (d : A) (xs : List A) (i j : ℕ) → Ascending R xs → i < j → j < length xs → R (get_or xs i d) (get_or xs j d)
ascending_at R d [] i j a h k = absurd (omega arith)
ascending_at R d (x ∷ xs) zero zero a h k = absurd (omega arith)
ascending_at R d (x ∷ xs) zero (suc j) a h k = all_at (R x) d xs j a.0 (omega arith)
ascending_at R d (x ∷ xs) (suc i) zero a h k = absurd (omega arith)
ascending_at R d (x ∷ xs) (suc i) (suc j) a h k = ascending_at R d xs i j a.1 (omega arith) (omega arith)

-- ── numbers ──

-- a list that is among them has the number of a place where it is
pub number_of : (ls : List (List Event)) (l : List Event) → Among l ls → (number_in ls l < length ls) × (get_or ls (number_in ls l) [] ≡ l)
unfolding number_in
number_of (m ∷ ms) l a = by (same_list m l) refl a (number_of ms l)
  where
    by : (t : Bool) → same_list m l ≡ t → Among l (m ∷ ms) → (Among l ms → (number_in ms l < length ms) × (get_or ms (number_in ms l) [] ≡ l)) → (pick (same_list m l) 0 (suc (number_in ms l)) < length (m ∷ ms)) × (get_or (m ∷ ms) (pick (same_list m l) 0 (suc (number_in ms l))) [] ≡ l)
    by true q b f = rw (q, pick_true) (omega arith, list_same m l q)
    by false q (inl e) f = absurd (true≢false (sym (list_self l) ∙ subst (λ x. same_list x l ≡ false) (sym e) q))
    by false q (inr b) f = let r = f b in let h = r.0 in rw (q, pick_false) (omega (arith, h), r.1)
number_of [] l a = elim a [ ]

-- where they ascend in an order in which nothing is before itself, the list at place b has the number b
module _ (R : List Event → List Event → Type 0) (never : (l : List Event) → R l l → ⊥) where
  other : (l m : List Event) → R l m → same_list l m ≡ false
  other l m r = by (same_list l m) refl
    where
      by : (t : Bool) → same_list l m ≡ t → t ≡ false
      by true q = absurd (never m (subst (λ x. R x m) (list_same l m q) r))
      by false q = refl

  pub number_at_lem : (ls : List (List Event)) → Ascending R ls → (b : ℕ) → b < length ls → number_in ls (get_or ls b []) ≡ b
  unfolding number_in
  number_at_lem [] a b h = absurd (omega arith)
  number_at_lem (l ∷ ls) a zero h = rw (list_self l, pick_true)
  number_at_lem (l ∷ ls) a (suc b) h = rw (other l (get_or ls b []) (all_at (R l) [] ls b a.0 (omega arith)), pick_false) (ap suc (number_at_lem ls a.1 b (omega arith)))

-- ── what is numbered ──

module _ {A B : Type 0} (f : ℕ → A → B) where
  pub numbered_long : (b : ℕ) (xs : List A) → length (numbered f b xs) ≡ length xs
  unfolding numbered
  numbered_long b [] = refl
  numbered_long b (x ∷ xs) = ap suc (numbered_long (suc b) xs)

  pub numbered_at : (b : ℕ) (xs : List A) (k : ℕ) (d : B) (e : A) → k < length xs → get_or (numbered f b xs) k d ≡ f (b + k) (get_or xs k e)
  unfolding numbered
  numbered_at b [] k d e h = absurd (omega arith)
  numbered_at b (x ∷ xs) zero d e h = let z : b ≡ b + 0 = omega arith in ap (λ c. f c x) z
  numbered_at b (x ∷ xs) (suc k) d e h = let z : suc b + k ≡ b + suc k = omega arith in numbered_at (suc b) xs k d e (omega arith) ∙ ap (λ c. f c (get_or xs k e)) z

  pub numbered_more : (b : ℕ) (xs : List A) (x : A) → numbered f b (xs ++ (x ∷ [])) ≡ numbered f b xs ++ (f (b + length xs) x ∷ [])
  unfolding numbered
  numbered_more b [] x = let z : b ≡ b + 0 = omega arith in ap (λ c. f c x ∷ []) z
  numbered_more b (y ∷ xs) x =
      let z : suc b + length xs ≡ b + suc (length xs) = omega arith in
      ap (λ l. f b y ∷ l) (numbered_more (suc b) xs x ∙ ap (λ c. numbered f (suc b) xs ++ (f c x ∷ [])) z)
