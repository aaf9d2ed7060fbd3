-- Records of one size, one after another: a turn of a loop that reads them, one of a loop that writes them, and that they are read back.
use Prim.Native.Nat.{ℕ, zero, suc, ◌+◌, ◌*◌, ◌≤◌, ◌<◌}
use native.Mathlib.Nat.{suc-mul, zero-mul}
use native.Mathlib.Numerals.{add-one}
use native.Mathlib.Omega.{arith}
use mathlib.Core.Path.{◌≡◌, refl, sym, ◌∙◌, ap, subst}
use mathlib.Core.Bool.{Bool, true, false}
use mathlib.Core.List.{List, [], ◌∷◌, ◌++◌, append_assoc}
use lib.ListN.{length, get_or, take, drop, set, length-append, drop_of_length-le}
use lib.Seq.{drop-cons, drop-drop, drop_at, take-suc-set, take_all}
use lib.Dec.{leb}
use borrow.Author.Tests.{leb-true, leb-false}
use denote.Param.Members.{Mut}
use Rattle.std.specs.Fn.{Called}
use Rattle.std.specs.Array.{IsFromFnResultFrom, IsFromFnResult}
use Rattle.model.specs.Pick.{pick}
use Rattle.model.specs.Answers.{status_number}
use Rattle.model.specs.declared.Status.{Status}
use Rattle.model.specs.declared.Status.TheVariants.{Down, Election, Reorganization, Normal}
use Rattle.number_bytes.specs.Bytes.{many, all, Each, written, status_of, yes_of, yes_number}
use Rattle.number_bytes.proofs.Numbers.{written_append}

-- ── reading ──

module _ {A : Type 0} (f : List ℕ → A) (size : ℕ) where
  -- one record more
  many_more : (k : ℕ) (l : List ℕ) → many f size (suc k) l ≡ many f size k l ++ (f (drop (k * size) l) ∷ [])
  unfolding many
  many_more zero l = rw (zero-mul size)
  many_more (suc k) l =
      let e : size + k * size ≡ suc k * size = rw (suc-mul k size) (omega arith) in
      ap (λ (r : List A). f l ∷ r) (many_more k (drop size l) ∙ rw (drop-drop (k * size) size l, e))

  module _ (l : List ℕ) (xs : List A) (i : ℕ) (read : take i xs ≡ many f size i l) where
    pub many_turn : i < length xs → (x : A) → x ≡ f (drop (i * size) l) → take (i + 1) (set xs i x) ≡ many f size (i + 1) l
    many_turn h x e = rw (add-one, take-suc-set, many_more, read, e)

    pub many_end : (n : ℕ) → length xs ≡ n → i ≤ n → n ≤ i → xs ≡ many f size n l
    many_end n long a b =
        let e : i ≡ n = omega arith in
        rw (← e) (sym (take_all i xs (omega arith)) ∙ read)

-- what is read record by record, given what each is
many_each : {A : Type 0} (f : List ℕ → A) (size k : ℕ) (l : List ℕ) (xs : List A) → length xs ≡ k
    → ((i : ℕ) (d : A) → i < k → get_or xs i d ≡ f (drop (i * size) l)) → xs ≡ many f size k l
unfolding many
many_each f size zero l [] e h = refl
many_each f size zero l (x ∷ xs) e h = absurd (omega arith)
many_each f size (suc k) l [] e h = absurd (omega arith)
many_each f size (suc k) l (x ∷ xs) e h =
    let first : x ≡ f l = h 0 x (omega arith) ∙ rw zero-mul in
    let later : xs ≡ many f size k (drop size l) =
    many_each f size k (drop size l) xs (omega arith)
    (λ i d q. let e : size + i * size ≡ suc i * size = rw (suc-mul i size) (omega arith) in h (suc i) d (omega arith) ∙ rw (drop-drop (i * size) size l, e)) in
    rw (← first, ← later)

-- the same of the answers of a closure s that no call changes
module _ {F A : Type 0} (g : Mut F (ℕ × Unit {0}) A) (f : List ℕ → A) (size : ℕ) (l : List ℕ) (s : F) (xs : List A)
    (h : (i : ℕ) (x : A) (q : F) → Called g s (i, tt) x q → (x ≡ f (drop (i * size) l)) × (q ≡ s)) where
  each_call : (i n : ℕ) (q : F) → q ≡ s → IsFromFnResultFrom g q xs i n → (j : ℕ) (d : A) → i ≤ j → j < i + n → get_or xs j d ≡ f (drop (j * size) l)
  each_call i zero q u k j d a b = absurd (omega arith)
  each_call i (suc n) q u k j d a b =
      let one = h i k.1 k.0 (subst (λ (y : F). Called g y (i, tt) k.1 k.0) u k.3) in
      by (leb (i + 1) j) refl (λ w. each_call (i + 1) n k.0 one.1 k.4 j d w (omega arith)) one.0
    where
      by : (t : Bool) → leb (i + 1) j ≡ t → (i + 1 ≤ j → get_or xs j d ≡ f (drop (j * size) l)) → k.1 ≡ f (drop (i * size) l) → get_or xs j d ≡ f (drop (j * size) l)
      by true e later one = later (leb-true (i + 1) j e)
      by false e later one = let w = leb-false (i + 1) j e in let same : j ≡ i = omega arith in rw same (k.2.1 d ∙ one)

  pub many_made : (n : ℕ) → IsFromFnResult g s xs n → xs ≡ many f size n l
  many_made n made = many_each f size n l xs made.long (λ i d q. each_call 0 n s refl made.each i d (omega arith) (omega arith))

-- ── writing ──

pub all_long : {A : Type 0} (g : A → List ℕ) (size : ℕ) (long : (x : A) → length (g x) ≡ size) (xs : List A) → length (all g xs) ≡ length xs * size
unfolding all
all_long g size long [] = sym (zero-mul size)
all_long g size long (x ∷ xs) = rw (length-append, long, all_long g size long xs, suc-mul) (omega arith)

module _ {A : Type 0} (g : A → List ℕ) (size : ℕ) (long : (x : A) → length (g x) ≡ size) (xs : List A) (i : ℕ) where
  -- what is left from i on is written at `at`, and one record less right behind it
  pub all_turn : i < length xs → (at next : ℕ) → next ≡ at + size → (d : A) (out o : List ℕ) → o ≡ written out at (g (get_or xs i d)) → written out at (all g (drop i xs)) ≡ written o next (all g (drop (i + 1) xs))
  unfolding all
  all_turn h at next n d out o e = rw (drop-cons xs i d h, written_append, long, ← e, add-one i, n)

  pub all_end : length xs ≤ i → (at : ℕ) (out : List ℕ) → written out at (all g (drop i xs)) ≡ out
  unfolding all written
  all_end h at out = rw (drop_of_length-le xs h)

-- the same of single bytes
module _ (xs : List ℕ) (i : ℕ) where
  pub bytes_turn : i < length xs → (at next : ℕ) → next ≡ at + 1 → (out o : List ℕ) → o ≡ set out at (get_or xs i 0) → written out at (drop i xs) ≡ written o next (drop (i + 1) xs)
  unfolding written
  bytes_turn h at next n out o e = rw (drop-cons xs i 0 h, e, add-one i, n)

  pub bytes_end : length xs ≤ i → (at : ℕ) (out : List ℕ) → written out at (drop i xs) ≡ out
  unfolding written
  bytes_end h at out = rw (drop_of_length-le xs h)

-- ── read back ──

module _ {A : Type 0} (f : List ℕ → A) (g : A → List ℕ) (size : ℕ) (long : (x : A) → length (g x) ≡ size) (P : A → Type 0) (back : (x : A) → P x → (l : List ℕ) → f (g x ++ l) ≡ x) where
  many_all : (xs : List A) → Each P xs → (l : List ℕ) → many f size (length xs) (all g xs ++ l) ≡ xs
  unfolding many all Each
  many_all [] h l = refl
  many_all (x ∷ xs) h l =
      rw (append_assoc (g x) (all g xs) l, back x h.0, drop_at (g x) (all g xs ++ l) size (long x), many_all xs h.1 l)

  -- k of them that stand behind n bytes
  pub many_back : (k n : ℕ) (a : List ℕ) (xs : List A) → length a ≡ n → (length xs ≡ k) × Each P xs → (l : List ℕ) → many f size k (drop n (a ++ (all g xs ++ l))) ≡ xs
  many_back k n a xs e h l = rw (drop_at a (all g xs ++ l) n e, ← h.0) (many_all xs h.1 l)

-- ── a status, and a yes or no ──

pub status_back : (s : Status) → status_of (status_number s) ≡ s
unfolding status_of pick
status_back Down = refl
status_back Election = refl
status_back Reorganization = refl
status_back Normal = refl

pub status_small : (s : Status) → status_number s < 256
status_small Down = omega arith
status_small Election = omega arith
status_small Reorganization = omega arith
status_small Normal = omega arith

pub yes_back : (b : Bool) → yes_of (yes_number b) ≡ b
yes_back true = refl
yes_back false = refl

pub yes_small : (b : Bool) → yes_number b < 256
yes_small true = omega arith
yes_small false = omega arith
