-- Laws for loops over a text: what is found from an offset on, by the byte that stands there.
use Prim.Native.Nat.{ℕ, suc, ◌+◌, ◌-◌, ◌≤◌, ◌<◌}
use native.Mathlib.Omega.{arith}
use mathlib.Core.Path.{◌≡◌, refl, ◌∙◌, ap}
use mathlib.Core.Bool.{Bool, true, false, not, ◌&&◌}
use mathlib.Core.List.{List, [], ◌∷◌}
use lib.ListN.{length, get_or, take, drop, drop_of_length-le, length-drop}
use lib.Seq.{drop-cons}
use lib.Dec.{eqb, leb, ltb}
use borrow.Author.Tests.{not-false, leb-true}
use Rattle.std.specs.Prelude.{Option, Some, None, MatchOption, HoldsAt, bytes_eq}
use Rattle.std.specs.List.{AllWithin}
use Rattle.std.specs.Option.{unwrap_or}
use Rattle.std.proofs.lemmas.List.{take_all}
use Rattle.std.proofs.lemmas.Iterator.{index_from_first}
use Rattle.model.specs.Pick.{pick}
use Rattle.list_text.specs.Words.{span, past, is_skipped, comment_behind, skipped, same, is_digit, append_digit, value_behind}

-- what is left at an offset is the byte there, and what is left behind it
pub left_at : (l : List ℕ) (i : ℕ) → i < length l → drop i l ≡ get_or l i 0 ∷ drop (i + 1) l
left_at l i h = let e : suc i ≡ i + 1 = omega arith in drop-cons l i 0 h ∙ ap (λ k. get_or l i 0 ∷ drop k l) e

-- ── a stretch of one kind ──

-- a byte of the kind is passed
pub past_on : (f : ℕ → Bool) (t : List ℕ) (i : ℕ) → i < length t → f (get_or t i 0) ≡ true → past f t i ≡ past f t (i + 1)
unfolding past span pick
past_on f t i h e = rw (left_at t i h, e) (omega arith)

-- at another one the stretch ends
pub past_here : (f : ℕ → Bool) (t : List ℕ) (i : ℕ) → i < length t → f (get_or t i 0) ≡ false → past f t i ≡ i
unfolding past span pick
past_here f t i h e = rw (left_at t i h, e) (omega arith)

-- and at the end of the text
pub past_end : (f : ℕ → Bool) (t : List ℕ) (i : ℕ) → length t ≤ i → past f t i ≡ i
unfolding past span
past_end f t i h = rw (drop_of_length-le t {i = i} h) (omega arith)

-- what `position` finds among the bytes s: the first that is not of the kind, if there is one
abbrev pub FirstOther : (ℕ → Bool) → List ℕ → Option ℕ → Type 0
FirstOther f s r =
    MatchOption r (AllWithin (λ b. f b ≡ true) s 0 (length s)) (λ i. (i < length s) × HoldsAt (λ b. f b ≡ false) s i × AllWithin (λ b. f b ≡ true) s 0 i)

span_found : (f : ℕ → Bool) (s : List ℕ) (r : Option ℕ) → FirstOther f s r → span f s ≡ unwrap_or r (length s)
unfolding span pick
span_found f s r h = index_from_first (span f) (λ b. f b ≡ false) (λ b. f b ≡ true) refl (λ b w e. rw e refl) (λ b w e. rw e (omega arith)) s r h

-- among the bytes of t from at on
module _ (f : ℕ → Bool) (t : List ℕ) (at : ℕ) (r : Option ℕ) (h : FirstOther f (take (length t - at) (drop at t)) r) where
  left_long : length (drop at t) ≡ length t - at
  left_long = length-drop at t

  left_found : span f (drop at t) ≡ unwrap_or r (length t - at)
  left_found =
      let l = left_long in
      let e : take (length t - at) (drop at t) ≡ drop at t = take_all (length t - at) (drop at t) (omega arith) in
      let g : FirstOther f (drop at t) r = rw e at h in
      rw (← left_long) (span_found f (drop at t) r g)

  pub past_some : (n : ℕ) → r ≡ Some n → at + n ≡ past f t at
  unfolding past
  past_some n e = rw (left_found, e) refl

  pub past_none : at ≤ length t → r ≡ None → length t ≡ past f t at
  unfolding past
  past_none i e = rw (left_found, e) (omega arith)

-- ── what is skipped ──

-- the offset of the first byte from i on that is not skipped; c says whether i is in a comment
abbrev pub skipped_to : Bool → List ℕ → ℕ → ℕ
skipped_to c t i = i + skipped c (drop i t)

pub skipped_on : (c : Bool) (t : List ℕ) (i : ℕ) → i < length t → is_skipped c (get_or t i 0) ≡ true → skipped_to c t i ≡ skipped_to (comment_behind c (get_or t i 0)) t (i + 1)
unfolding skipped pick
skipped_on c t i h e = rw (left_at t i h, e) (omega arith)

pub skipped_here : (c : Bool) (t : List ℕ) (i : ℕ) → i < length t → is_skipped c (get_or t i 0) ≡ false → skipped_to c t i ≡ i
unfolding skipped pick
skipped_here c t i h e = rw (left_at t i h, e) (omega arith)

pub skipped_end : (c : Bool) (t : List ℕ) (i : ℕ) → length t ≤ i → skipped_to c t i ≡ i
unfolding skipped
skipped_end c t i h = rw (drop_of_length-le t {i = i} h) (omega arith)

-- ── two words ──

-- they are as `==` answers
pub same_is : (v w : List ℕ) → bytes_eq v w ≡ same v w
unfolding same
same_is [] [] = refl
same_is [] (y ∷ w) = refl
same_is (x ∷ v) [] = refl
same_is (x ∷ v) (y ∷ w) = rw (same_is v w)

-- words of different lengths are not the same
pub other_long : (v w : List ℕ) → (length v ≡ length w → ⊥) → false ≡ same v w
unfolding same
other_long [] [] h = absurd (h refl)
other_long [] (y ∷ w) h = refl
other_long (x ∷ v) [] h = refl
other_long (x ∷ v) (y ∷ w) h = ends (eqb x y) (same v w) (other_long v w (λ e. h (ap suc e)))
  where
    ends : (p q : Bool) → false ≡ q → false ≡ (p && q)
    ends true q e = e
    ends false q e = refl

pub same_on : (v w : List ℕ) (i : ℕ) → i < length v → i < length w → eqb (get_or v i 0) (get_or w i 0) ≡ true → same (drop i v) (drop i w) ≡ same (drop (i + 1) v) (drop (i + 1) w)
unfolding same
same_on v w i h k e = rw (left_at v i h, left_at w i k, e) refl

pub same_not : (v w : List ℕ) (i : ℕ) → i < length v → i < length w → eqb (get_or v i 0) (get_or w i 0) ≡ false → same (drop i v) (drop i w) ≡ false
unfolding same
same_not v w i h k e = rw (left_at v i h, left_at w i k, e) refl

pub same_end : (v w : List ℕ) (i : ℕ) → length v ≤ i → length w ≤ i → same (drop i v) (drop i w) ≡ true
unfolding same
same_end v w i h k = rw (drop_of_length-le v {i = i} h, drop_of_length-le w {i = i} k) refl

-- ── a number ──

pub value_on : (most v : ℕ) (w : List ℕ) (i : ℕ) → i < length w → not (is_digit (get_or w i 0)) ≡ false → ltb most (append_digit v (get_or w i 0)) ≡ false
    → value_behind most v (drop i w) ≡ value_behind most (append_digit v (get_or w i 0)) (drop (i + 1) w)
unfolding value_behind pick
value_on most v w i h d e = rw (left_at w i h, d, e) refl

pub value_other : (most v : ℕ) (w : List ℕ) (i : ℕ) → i < length w → not (is_digit (get_or w i 0)) ≡ true → value_behind most v (drop i w) ≡ None
unfolding value_behind pick
value_other most v w i h d = rw (left_at w i h, d) refl

pub value_over : (most v : ℕ) (w : List ℕ) (i : ℕ) → i < length w → not (is_digit (get_or w i 0)) ≡ false → ltb most (append_digit v (get_or w i 0)) ≡ true → value_behind most v (drop i w) ≡ None
unfolding value_behind pick
value_over most v w i h d e = rw (left_at w i h, d, e) refl

pub value_end : (most v : ℕ) (w : List ℕ) (i : ℕ) → length w ≤ i → value_behind most v (drop i w) ≡ Some v
unfolding value_behind
value_end most v w i h = rw (drop_of_length-le w {i = i} h) refl

-- a digit as bounds
pub digit_between : (b : ℕ) → not (is_digit b) ≡ false → (48 ≤ b) × (b ≤ 57)
digit_between b e = let h = both (leb 48 b) (leb b 57) (not-false _ e) in (leb-true 48 b h.0, leb-true b 57 h.1)
  where
    both : (p q : Bool) → (p && q) ≡ true → (p ≡ true) × (q ≡ true)
    both true q e = (refl, e)
    both false q e = let z : ◌≡◌ {A = ℕ} 0 1 = cc in absurd (omega arith)
