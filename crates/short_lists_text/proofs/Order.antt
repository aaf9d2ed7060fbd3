-- The order is strict, and the alphabet ascends in it.
use Prim.Native.Nat.{ℕ, zero, suc, ◌+◌, ◌*◌, ◌/◌, ◌%◌, ◌<◌, ◌≤◌}
use native.Mathlib.Omega.{arith}
use mathlib.Core.Bool.{Bool, true, false}
use mathlib.Core.Path.{◌≡◌, refl, sym, ◌∙◌, ap, subst}
use mathlib.Core.Logic.{◌⊎◌, inl, inr}
use mathlib.Core.List.{List, [], ◌∷◌, ◌++◌, map}
use lib.Dec.{eqb, ltb}
use borrow.Author.Tests.{ltb-true, ltb-false, eqb-true, eqb-false}
use Rattle.model.specs.Pick.{pick, by_test}
use Rattle.model.specs.declared.Event.{Event}
use Rattle.model.specs.declared.Event.TheVariants.{Crash, Recover, Check, Timeout, Tick, Expire, Finish, Deliver, Lose}
use Rattle.event_list.specs.Format.{event_of}
use Rattle.short_lists_text.specs.Rows.{All, Ascending}
use Rattle.short_lists_text.specs.Order.{tag, contents, BytesBefore, Before, ListBefore}
use Rattle.short_lists_text.specs.Lists.{only_task, up_from, nodes_of, without, pairs_of, alphabet}
use Rattle.short_lists_text.specs.Claims.{StrictOrder}
use Rattle.short_lists_text.proofs.Rows.{all_weaken, all_append, map_by, rows_by, ascending_append, ascending_map, ascending_rows}

-- ── strict ──

bytes_never : (xs : List ℕ) → BytesBefore xs xs → ⊥
bytes_never (x ∷ xs) (inl h) = omega arith
bytes_never (x ∷ xs) (inr h) = bytes_never xs h.1
bytes_never [] x' = elim x' [ ]

pub event_never : (e : Event) → Before e e → ⊥
event_never e (inl h) = omega arith
event_never e (inr h) = bytes_never (contents e) h.1

list_never : (l : List Event) → ListBefore l l → ⊥
list_never (e ∷ es) (inl h) = event_never e h
list_never (e ∷ es) (inr h) = list_never es h.1
list_never [] x' = elim x' [ ]

bytes_on : (xs ys zs : List ℕ) → BytesBefore xs ys → BytesBefore ys zs → BytesBefore xs zs
bytes_on [] (y ∷ ys) (z ∷ zs) a b = tt
bytes_on (x ∷ xs) (y ∷ ys) (z ∷ zs) (inl a) (inl b) = inl (omega arith)
bytes_on (x ∷ xs) (y ∷ ys) (z ∷ zs) (inl a) (inr b) = let q = b.0 in inl (omega arith)
bytes_on (x ∷ xs) (y ∷ ys) (z ∷ zs) (inr a) (inl b) = let q = a.0 in inl (omega arith)
bytes_on (x ∷ xs) (y ∷ ys) (z ∷ zs) (inr a) (inr b) = inr (a.0 ∙ b.0, bytes_on xs ys zs a.1 b.1)
bytes_on [] [] zs a b = elim a [ ]
bytes_on [] (y ∷ ys) [] a b = elim b [ ]
bytes_on (x ∷ xs) [] zs a b = elim a [ ]
bytes_on (x ∷ xs) (y ∷ ys) [] a b = elim b [ ]

event_on : (e f g : Event) → Before e f → Before f g → Before e g
event_on e f g (inl a) (inl b) = inl (omega arith)
event_on e f g (inl a) (inr b) = let q = b.0 in inl (omega arith)
event_on e f g (inr a) (inl b) = let q = a.0 in inl (omega arith)
event_on e f g (inr a) (inr b) = inr (a.0 ∙ b.0, bytes_on (contents e) (contents f) (contents g) a.1 b.1)

list_on : (l m r : List Event) → ListBefore l m → ListBefore m r → ListBefore l r
list_on [] (f ∷ m) (g ∷ r) a b = tt
list_on (e ∷ l) (f ∷ m) (g ∷ r) (inl a) (inl b) = inl (event_on e f g a b)
list_on (e ∷ l) (f ∷ m) (g ∷ r) (inl a) (inr b) = inl (subst (λ x. Before e x) b.0 a)
list_on (e ∷ l) (f ∷ m) (g ∷ r) (inr a) (inl b) = inl (subst (λ x. Before x g) (sym a.0) b)
list_on (e ∷ l) (f ∷ m) (g ∷ r) (inr a) (inr b) = inr (a.0 ∙ b.0, list_on l m r a.1 b.1)
list_on [] [] r a b = elim a [ ]
list_on [] (f ∷ m) [] a b = elim b [ ]
list_on (e ∷ l) [] r a b = elim a [ ]
list_on (e ∷ l) (f ∷ m) [] a b = elim b [ ]

numbers_compare : (x y : ℕ) → (x < y) ⊎ ((x ≡ y) ⊎ (y < x))
numbers_compare x y = by (ltb x y) (eqb x y) refl refl
  where
    by : (s t : Bool) → ltb x y ≡ s → eqb x y ≡ t → (x < y) ⊎ ((x ≡ y) ⊎ (y < x))
    by true t p q = inl (ltb-true x y p)
    by false true p q = inr (inl (eqb-true x y q))
    by false false p q = let a = ltb-false x y p in let b = eqb-false x y q in inr (inr (omega arith))

bytes_compare : (xs ys : List ℕ) → BytesBefore xs ys ⊎ ((xs ≡ ys) ⊎ BytesBefore ys xs)
bytes_compare [] [] = inr (inl refl)
bytes_compare [] (y ∷ ys) = inl tt
bytes_compare (x ∷ xs) [] = inr (inr tt)
bytes_compare (x ∷ xs) (y ∷ ys) = by (numbers_compare x y) (bytes_compare xs ys)
  where
    by : (x < y) ⊎ ((x ≡ y) ⊎ (y < x)) → BytesBefore xs ys ⊎ ((xs ≡ ys) ⊎ BytesBefore ys xs) → BytesBefore (x ∷ xs) (y ∷ ys) ⊎ (((x ∷ xs) ≡ (y ∷ ys)) ⊎ BytesBefore (y ∷ ys) (x ∷ xs))
    by (inl a) b = inl (inl a)
    by (inr (inr a)) b = inr (inr (inl a))
    by (inr (inl a)) (inl b) = inl (inr (a, b))
    by (inr (inl a)) (inr (inl b)) = inr (inl (cc))
    by (inr (inl a)) (inr (inr b)) = inr (inr (inr (sym a, b)))

-- the event is that of its tag and contents
pub read : (e : Event) → event_of (tag e) (contents e) ≡ e
unfolding event_of pick
read (Crash i) = refl
read (Recover i) = refl
read (Check i) = refl
read (Timeout i) = refl
read (Tick i) = refl
read (Expire i) = refl
read (Finish i t) = let z : t.number / 256 * 256 + t.number % 256 ≡ t.number = omega arith in ap (λ x. Finish i (record { number = x })) z
read (Deliver a b) = refl
read (Lose a b) = refl

pub same_event_lem : (e f : Event) → tag e ≡ tag f → contents e ≡ contents f → e ≡ f
same_event_lem e f p q = sym (read e) ∙ (ap (λ t. event_of t (contents e)) p ∙ (ap (λ c. event_of (tag f) c) q ∙ read f))

event_compare : (e f : Event) → Before e f ⊎ ((e ≡ f) ⊎ Before f e)
event_compare e f = by (numbers_compare (tag e) (tag f)) (bytes_compare (contents e) (contents f))
  where
    by : (tag e < tag f) ⊎ ((tag e ≡ tag f) ⊎ (tag f < tag e)) → BytesBefore (contents e) (contents f) ⊎ ((contents e ≡ contents f) ⊎ BytesBefore (contents f) (contents e)) → Before e f ⊎ ((e ≡ f) ⊎ Before f e)
    by (inl a) b = inl (inl a)
    by (inr (inr a)) b = inr (inr (inl a))
    by (inr (inl a)) (inl b) = inl (inr (a, b))
    by (inr (inl a)) (inr (inl b)) = inr (inl (same_event_lem e f a b))
    by (inr (inl a)) (inr (inr b)) = inr (inr (inr (sym a, b)))

list_compare : (l m : List Event) → ListBefore l m ⊎ ((l ≡ m) ⊎ ListBefore m l)
list_compare [] [] = inr (inl refl)
list_compare [] (f ∷ m) = inl tt
list_compare (e ∷ l) [] = inr (inr tt)
list_compare (e ∷ l) (f ∷ m) = by (event_compare e f) (list_compare l m)
  where
    by : Before e f ⊎ ((e ≡ f) ⊎ Before f e) → ListBefore l m ⊎ ((l ≡ m) ⊎ ListBefore m l) → ListBefore (e ∷ l) (f ∷ m) ⊎ (((e ∷ l) ≡ (f ∷ m)) ⊎ ListBefore (f ∷ m) (e ∷ l))
    by (inl a) b = inl (inl a)
    by (inr (inr a)) b = inr (inr (inl a))
    by (inr (inl a)) (inl b) = inl (inr (a, b))
    by (inr (inl a)) (inr (inl b)) = inr (inl (cc))
    by (inr (inl a)) (inr (inr b)) = inr (inr (inr (sym a, b)))

pub strict_order : StrictOrder
strict_order = record { never_itself = list_never; passes_on = list_on; compares = list_compare }

-- ── numbers ──

from_above : (j k c : ℕ) → j < k → All (λ x. j < x) (up_from k c)
unfolding up_from
from_above j k zero h = tt
from_above j k (suc c) h = (h, from_above j (suc k) c (omega arith))

numbers_ascend : (k c : ℕ) → Ascending ◌<◌ (up_from k c)
unfolding up_from
numbers_ascend k zero = tt
numbers_ascend k (suc c) = (from_above k (suc k) c (omega arith), numbers_ascend (suc k) c)

without_all : (P : ℕ → Type 0) (i : ℕ) (js : List ℕ) → All P js → All P (without i js)
unfolding without
without_all P i [] a = tt
without_all P i (j ∷ js) a = by_test (All P) (λ _. without_all P i js a.1) (λ _. (a.0, without_all P i js a.1))

without_ascends : (i : ℕ) (js : List ℕ) → Ascending ◌<◌ js → Ascending ◌<◌ (without i js)
unfolding without
without_ascends i [] a = tt
without_ascends i (j ∷ js) a = by_test (Ascending ◌<◌) (λ _. without_ascends i js a.1) (λ _. (without_all (λ x. j < x) i js a.0, without_ascends i js a.1))

-- ── the events of one tag ──

pub record Block (t : ℕ) (es : List Event) : Type 0 where
  pub ascends : Ascending Before es
  pub tags : All (λ e. tag e ≡ t) es

single : (t n : ℕ) (f : ℕ → Event) → ((i j : ℕ) → i < j → Before (f i) (f j)) → ((i : ℕ) → tag (f i) ≡ t) → Block t (map f (nodes_of n))
single t n f g h = record {
  ascends = ascending_map ◌<◌ Before f (nodes_of n) g (numbers_ascend 1 n);
  tags = map_by (λ e. tag e ≡ t) f (nodes_of n) h;
}

double : (t n : ℕ) (f : ℕ → ℕ → Event) → ((a b i j : ℕ) → a < b → Before (f a i) (f b j)) → ((a i j : ℕ) → i < j → Before (f a i) (f a j))
    → ((i j : ℕ) → tag (f i j) ≡ t) → Block t (pairs_of f n)
unfolding pairs_of
double t n f g h k = record {
  ascends = ascending_rows ◌<◌ Before (λ a. map (f a) (without a (nodes_of n)))
      (λ a. ascending_map ◌<◌ Before (f a) (without a (nodes_of n)) (h a) (without_ascends a (nodes_of n) (numbers_ascend 1 n)))
      (λ a b r. map_by (λ u. All (Before u) (map (f b) (without b (nodes_of n)))) (f a) (without a (nodes_of n))
      (λ i. map_by (Before (f a i)) (f b) (without b (nodes_of n)) (λ j. g a b i j r)))
      (nodes_of n) (numbers_ascend 1 n);
  tags = rows_by (λ e. tag e ≡ t) (λ a. map (f a) (without a (nodes_of n))) (nodes_of n) (λ a. map_by (λ e. tag e ≡ t) (f a) (without a (nodes_of n)) (k a));
}

-- ── blocks one behind the other ──

pub record From (t : ℕ) (es : List Event) : Type 0 where
  pub ascends : Ascending Before es
  pub tags : All (λ e. t ≤ tag e) es

last_block : (t : ℕ) (es : List Event) → Block t es → From t es
last_block t es b = record { ascends = b.ascends; tags = all_weaken (λ e. tag e ≡ t) (λ e. t ≤ tag e) es (λ e q. omega arith) b.tags }

then_block : (t : ℕ) (es fs : List Event) → Block t es → From (suc t) fs → From t (es ++ fs)
then_block t es fs b c = record {
  ascends = ascending_append Before es fs b.ascends c.ascends
      (all_weaken (λ e. tag e ≡ t) (λ e. All (Before e) fs) es (λ e q. all_weaken (λ f. suc t ≤ tag f) (Before e) fs (λ f h. inl (omega arith)) c.tags) b.tags);
  tags = all_append (λ e. t ≤ tag e) es fs
      (all_weaken (λ e. tag e ≡ t) (λ e. t ≤ tag e) es (λ e q. omega arith) b.tags)
      (all_weaken (λ e. suc t ≤ tag e) (λ e. t ≤ tag e) fs (λ e q. omega arith) c.tags);
}

pub alphabet_ascends : (n : ℕ) → Ascending Before (alphabet n)
unfolding alphabet
alphabet_ascends n =
    (then_block 0x10 _ _ (single 0x10 n Crash (λ i j h. inr (refl, inl h)) (λ i. refl))
    (then_block 0x11 _ _ (single 0x11 n Recover (λ i j h. inr (refl, inl h)) (λ i. refl))
    (then_block 0x12 _ _ (single 0x12 n Check (λ i j h. inr (refl, inl h)) (λ i. refl))
    (then_block 0x13 _ _ (single 0x13 n Timeout (λ i j h. inr (refl, inl h)) (λ i. refl))
    (then_block 0x14 _ _ (single 0x14 n Tick (λ i j h. inr (refl, inl h)) (λ i. refl))
    (then_block 0x15 _ _ (single 0x15 n Expire (λ i j h. inr (refl, inl h)) (λ i. refl))
    (then_block 0x16 _ _ (single 0x16 n (λ i. Finish i (record { number = only_task })) (λ i j h. inr (refl, inl h)) (λ i. refl))
    (then_block 0x17 _ _ (double 0x17 n Deliver (λ a b i j h. inr (refl, inl h)) (λ a i j h. inr (refl, inr (refl, inl h))) (λ i j. refl))
    (last_block 0x18 _ (double 0x18 n Lose (λ a b i j h. inr (refl, inl h)) (λ a i j h. inr (refl, inr (refl, inl h))) (λ i j. refl))))))))))).ascends
