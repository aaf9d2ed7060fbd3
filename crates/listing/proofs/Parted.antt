-- Lists taken apart: at the first element that does not fit, and bytes at the end of each line.
use Prim.Native.Nat.{ℕ, zero, suc, ◌<◌}
use native.Mathlib.Omega.{arith}
use mathlib.Core.Path.{◌≡◌, refl, sym, ◌∙◌, ap, subst}
use mathlib.Core.List.{List, [], ◌∷◌, ◌++◌, append_assoc, head-eq_of_cons-eq, tail-eq_of_cons-eq}
use lib.ListN.{length, get_or, length-append}
use Rattle.listing.specs.Printing.{joined}

-- P holds of each element
abbrev pub Each : {A : Type 0} → (A → Type 0) → List A → Type 0
Each P [] = Unit {0}
Each P (x ∷ l) = P x × Each P l

-- P does not hold of the first element
abbrev pub Stops : {A : Type 0} → (A → Type 0) → List A → Type 0
Stops P [] = Unit {0}
Stops P (x ∷ l) = P x → ⊥

pub each_append : {A : Type 0} (P : A → Type 0) (a b : List A) → Each P a → Each P b → Each P (a ++ b)
each_append P [] b f g = g
each_append P (x ∷ a) b f g = (f.0, each_append P a b f.1 g)

pub each_map : {A : Type 0} (P Q : A → Type 0) → ((x : A) → P x → Q x) → (l : List A) → Each P l → Each Q l
each_map P Q f [] h = tt
each_map P Q f (x ∷ l) h = (f x h.0, each_map P Q f l h.1)

-- from the elements by their places
pub each_at : (P : ℕ → Type 0) (l : List ℕ) → ((k : ℕ) → k < length l → P (get_or l k 0)) → Each P l
each_at P [] f = tt
each_at P (x ∷ l) f = (f zero (omega arith), each_at P l (λ k h. f (suc k) (omega arith)))

-- Of two equal lists, the parts before the first element that is not P are equal, and so is what stands behind.
pub parted : {A : Type 0} (P : A → Type 0) (a b : List A) {x y : List A} → Each P a → Each P b → Stops P x → Stops P y → a ++ x ≡ b ++ y → (a ≡ b) × (x ≡ y)
parted P [] [] p q f g e = (refl, e)
parted P [] (v ∷ b) p q f g e = absurd (subst (Stops P) e f q.0)
parted P (u ∷ a) [] p q f g e = absurd (subst (Stops P) (sym e) g p.0)
parted P (u ∷ a) (v ∷ b) p q f g e =
    let r = parted P a b p.1 q.1 f g (tail-eq_of_cons-eq e) in
    let h = head-eq_of_cons-eq e in
    (rw (h, r.0), r.1)

-- a byte inside a line
abbrev pub Inside : ℕ → Type 0
Inside b = b ≡ 10 → ⊥

-- x is one line: "0x0A ends each line", and stands nowhere else in it
pub record IsLine (x : List ℕ) : Type 0 where
  pub body : List ℕ
  pub ends : x ≡ body ++ (10 ∷ [])
  pub inside : Each Inside body

pub line_after : (a x : List ℕ) → Each Inside a → IsLine x → IsLine (a ++ x)
line_after a x f p =
    record {
      body = a ++ p.body;
      ends = ap (λ (l : List ℕ). a ++ l) p.ends ∙ sym (append_assoc a p.body (10 ∷ []));
      inside = each_append Inside a p.body f p.inside;
    }

lined : (x u : List ℕ) (p : IsLine x) → x ++ u ≡ p.body ++ (10 ∷ u)
lined x u p = ap (λ (l : List ℕ). l ++ u) p.ends ∙ append_assoc p.body (10 ∷ []) u

line_first : (x y u v : List ℕ) → IsLine x → IsLine y → x ++ u ≡ y ++ v → (x ≡ y) × (u ≡ v)
line_first x y u v p q e =
    let r = parted Inside p.body q.body {x = 10 ∷ u} {y = 10 ∷ v} p.inside q.inside (λ f. f refl) (λ f. f refl) (sym (lined x u p) ∙ e ∙ lined y v q) in
    (p.ends ∙ ap (λ (l : List ℕ). l ++ (10 ∷ [])) r.0 ∙ sym q.ends, tail-eq_of_cons-eq r.1)

line_some : (x u : List ℕ) → IsLine x → [] ≡ x ++ u → ⊥
line_some x u p e = let h = simp length-append at (ap length (e ∙ lined x u p)) in omega arith

-- Bytes are those of one list of lines only.
pub joined_same : (xs ys : List (List ℕ)) → Each IsLine xs → Each IsLine ys → joined xs ≡ joined ys → xs ≡ ys
unfolding joined
joined_same [] [] p q e = refl
joined_same [] (y ∷ ys) p q e = absurd (line_some y (joined ys) q.0 e)
joined_same (x ∷ xs) [] p q e = absurd (line_some x (joined xs) p.0 (sym e))
joined_same (x ∷ xs) (y ∷ ys) p q e =
    let r = line_first x y (joined xs) (joined ys) p.0 q.0 e in
    let h = joined_same xs ys p.1 q.1 r.1 in
    rw (r.0, h)
