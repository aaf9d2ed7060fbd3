-- Laws of concat_map.
use mathlib.Core.Path.{◌≡◌, refl, sym, ◌∙◌, ap, subst}
use mathlib.Core.Logic.{inl, inr}
use mathlib.Core.List.{List, [], ◌∷◌, ◌++◌, append_assoc, map}
use Rattle.model.proofs.Lists.{map_append}
use Rattle.short_lists_text.specs.Rows.{Among, All, Ascending, concat_map}

-- ── what holds of all ──

pub all_of : {A : Type 0} (P : A → Type 0) (x : A) (xs : List A) → All P xs → Among x xs → P x
all_of P x (y ∷ ys) a (inl e) = subst P (sym e) a.0
all_of P x (y ∷ ys) a (inr m) = all_of P x ys a.1 m
all_of {A = A} P x [] a x3 = elim x3 [ ]

-- what is so of each that is among them is so of all
pub all_by : {A : Type 0} (P : A → Type 0) (xs : List A) → ((x : A) → Among x xs → P x) → All P xs
all_by P [] f = tt
all_by P (x ∷ xs) f = (f x (inl refl), all_by P xs (λ y m. f y (inr m)))

pub all_weaken : {A : Type 0} (P Q : A → Type 0) (xs : List A) → ((x : A) → P x → Q x) → All P xs → All Q xs
all_weaken P Q [] f a = tt
all_weaken P Q (x ∷ xs) f a = (f x a.0, all_weaken P Q xs f a.1)

pub all_append : {A : Type 0} (P : A → Type 0) (xs ys : List A) → All P xs → All P ys → All P (xs ++ ys)
all_append P [] ys a b = b
all_append P (x ∷ xs) ys a b = (a.0, all_append P xs ys a.1 b)

-- P of f of each, where Q of each gives it
pub all_map : {A B : Type 0} (Q : A → Type 0) (P : B → Type 0) (f : A → B) (xs : List A) → ((x : A) → Q x → P (f x)) → All Q xs → All P (map f xs)
all_map Q P f [] g a = tt
all_map Q P f (x ∷ xs) g a = (g x a.0, all_map Q P f xs g a.1)

pub all_rows : {A B : Type 0} (Q : A → Type 0) (P : B → Type 0) (f : A → List B) (xs : List A) → ((x : A) → Q x → All P (f x)) → All Q xs → All P (concat_map f xs)
all_rows Q P f [] g a = tt
all_rows Q P f (x ∷ xs) g a = all_append P (f x) (concat_map f xs) (g x a.0) (all_rows Q P f xs g a.1)

-- the same of f of anything
pub map_by : {A B : Type 0} (P : B → Type 0) (f : A → B) (xs : List A) → ((x : A) → P (f x)) → All P (map f xs)
map_by P f [] g = tt
map_by P f (x ∷ xs) g = (g x, map_by P f xs g)

pub rows_by : {A B : Type 0} (P : B → Type 0) (f : A → List B) (xs : List A) → ((x : A) → All P (f x)) → All P (concat_map f xs)
rows_by P f [] g = tt
rows_by P f (x ∷ xs) g = all_append P (f x) (concat_map f xs) (g x) (rows_by P f xs g)

-- ── what is among them ──

pub among_left : {A : Type 0} (x : A) (xs ys : List A) → Among x xs → Among x (xs ++ ys)
among_left x (y ∷ xs) ys (inl e) = inl e
among_left x (y ∷ xs) ys (inr m) = inr (among_left x xs ys m)
among_left {A = A} x [] ys x'' = elim x'' [ ]

pub among_right : {A : Type 0} (x : A) (xs ys : List A) → Among x ys → Among x (xs ++ ys)
among_right x [] ys m = m
among_right x (y ∷ xs) ys m = inr (among_right x xs ys m)

pub among_map : {A B : Type 0} (f : A → B) (x : A) (xs : List A) → Among x xs → Among (f x) (map f xs)
among_map f x (y ∷ ys) (inl e) = inl (ap f e)
among_map f x (y ∷ ys) (inr m) = inr (among_map f x ys m)
among_map {A = A} {B = B} f x [] x'' = elim x'' [ ]

pub among_rows : {A B : Type 0} (f : A → List B) (x : A) (y : B) (xs : List A) → Among x xs → Among y (f x) → Among y (concat_map f xs)
among_rows f x y (z ∷ zs) (inl e) m = among_left y (f z) (concat_map f zs) (subst (λ w. Among y (f w)) e m)
among_rows f x y (z ∷ zs) (inr n) m = among_right y (f z) (concat_map f zs) (among_rows f x y zs n m)
among_rows {A = A} {B = B} f x y [] x3 m = elim x3 [ ]

-- ── ascending ──

pub ascending_append : {A : Type 0} (R : A → A → Type 0) (xs ys : List A) → Ascending R xs → Ascending R ys → All (λ x. All (R x) ys) xs → Ascending R (xs ++ ys)
ascending_append R [] ys a b c = b
ascending_append R (x ∷ xs) ys a b c = (all_append (R x) xs ys a.0 c.0, ascending_append R xs ys a.1 b c.1)

pub ascending_map : {A B : Type 0} (R : A → A → Type 0) (S : B → B → Type 0) (f : A → B) (xs : List A) → ((x y : A) → R x y → S (f x) (f y)) → Ascending R xs → Ascending S (map f xs)
ascending_map R S f [] g a = tt
ascending_map R S f (x ∷ xs) g a = (all_map (R x) (S (f x)) f xs (g x) a.0, ascending_map R S f xs g a.1)

-- concat_map one behind the other ascend, where each does and a row is below those of what is above
module _ {A B : Type 0} (R : A → A → Type 0) (S : B → B → Type 0) (f : A → List B) (g : (x : A) → Ascending S (f x)) (h : (x y : A) → R x y → All (λ u. All (S u) (f y)) (f x)) where
  turned : (ls : List B) (x : A) (ys : List A) → ((y : A) → R x y → All (λ u. All (S u) (f y)) ls) → All (R x) ys → All (λ u. All (S u) (concat_map f ys)) ls
  turned [] x ys k a = tt
  turned (u ∷ us) x ys k a = (all_rows (R x) (S u) f ys (λ y r. (k y r).0) a, turned us x ys (λ y r. (k y r).1) a)

  pub ascending_rows : (xs : List A) → Ascending R xs → Ascending S (concat_map f xs)
  ascending_rows [] a = tt
  ascending_rows (x ∷ xs) a = ascending_append S (f x) (concat_map f xs) (g x) (ascending_rows xs a.1) (turned (f x) x xs (h x) a.0)

-- what ascends in an order in which nothing is below itself has each once
pub alone : {A : Type 0} (R : A → A → Type 0) → ((x : A) → R x x → ⊥) → (x : A) (xs ys : List A) → Ascending R (xs ++ (x ∷ ys)) → (Among x xs → ⊥) × (Among x ys → ⊥)
alone R never x [] ys a = ((λ m. m), (λ m. never x (all_of (R x) x ys a.0 m)))
alone R never x (z ∷ zs) ys a = let r = alone R never x zs ys a.1 in (first r.0, r.1)
  where
    here : z ≡ x → ⊥
    here e = never x (subst (λ w. R w x) e (all_of (R z) x (zs ++ (x ∷ ys)) a.0 (among_right x zs (x ∷ ys) (inl refl))))

    first : (Among x zs → ⊥) → Among x (z ∷ zs) → ⊥
    first r (inl e) = here (sym e)
    first r (inr m) = r m

-- ── rows of rows ──

pub same_rows : {A B : Type 0} (f g : A → List B) → ((x : A) → f x ≡ g x) → (xs : List A) → concat_map f xs ≡ concat_map g xs
same_rows f g h [] = refl
same_rows f g h (x ∷ xs) = let p = h x in let q = same_rows f g h xs in rw (p, q)

pub rows_append : {A B : Type 0} (f : A → List B) (xs ys : List A) → concat_map f (xs ++ ys) ≡ concat_map f xs ++ concat_map f ys
rows_append f [] ys = refl
rows_append f (x ∷ xs) ys = rw (rows_append f xs ys, append_assoc)

pub rows_rows : {A B C : Type 0} (f : B → List C) (g : A → List B) (xs : List A) → concat_map f (concat_map g xs) ≡ concat_map (λ x. concat_map f (g x)) xs
rows_rows f g [] = refl
rows_rows f g (x ∷ xs) = rows_append f (g x) (concat_map g xs) ∙ ap (λ l. concat_map f (g x) ++ l) (rows_rows f g xs)

pub rows_map : {A B C : Type 0} (f : B → List C) (g : A → B) (xs : List A) → concat_map f (map g xs) ≡ concat_map (λ x. f (g x)) xs
rows_map f g [] = refl
rows_map f g (x ∷ xs) = ap (λ l. f (g x) ++ l) (rows_map f g xs)

pub map_rows : {A B C : Type 0} (f : B → C) (g : A → List B) (xs : List A) → map f (concat_map g xs) ≡ concat_map (λ x. map f (g x)) xs
map_rows f g [] = refl
map_rows f g (x ∷ xs) = map_append f (g x) (concat_map g xs) ∙ ap (λ l. map f (g x) ++ l) (map_rows f g xs)
