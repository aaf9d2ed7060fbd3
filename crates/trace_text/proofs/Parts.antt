-- Texts taken apart at a byte, and words that do not have it: 32 is a space, 10 a line end.
use Prim.Native.Nat.{ℕ, suc, ◌≤◌}
use native.Mathlib.Omega.{arith}
use mathlib.Core.Bool.{Bool, true, false, not, ◌&&◌}
use mathlib.Core.Path.{◌≡◌, refl, ◌∙◌, ap}
use mathlib.Core.List.{List, [], ◌∷◌, ◌++◌, append_assoc, map}
use lib.Dec.{eqb}
use lib.ListN.{length, get_or, length-append}
use borrow.Author.Tests.{not-true, eqb-false, eq-eqb, ne_eqb, lt-leb}
use Rattle.model.specs.Pick.{pick}
use Rattle.model.proofs.Local.{both_left, both_right}
use Rattle.listing.specs.Decimal.{digits, decimal}
use Rattle.listing.proofs.Parted.{Each, each_append, each_map}
use Rattle.short_lists_text.specs.Text.{spaced}
use Rattle.short_lists_text.proofs.Lines.{Digit, decimal_digits}
use Rattle.trace_text.specs.ReadOff.{in_front, parts_at, words_of, is_letter}

-- ── parts ──

-- a byte other than x
abbrev pub Not : ℕ → ℕ → Type 0
Not x b = b ≡ x → ⊥

pub parts_behind : (x : ℕ) (w t : List ℕ) → Each (Not x) w → parts_at x (w ++ (x ∷ t)) ≡ w ∷ parts_at x t
unfolding parts_at pick
parts_behind x [] t h = rw (eq-eqb x x refl)
parts_behind x (b ∷ w) t h = rw (ne_eqb b x h.0, parts_behind x w t h.1)

pub parts_end : (x : ℕ) (w : List ℕ) → Each (Not x) w → parts_at x w ≡ w ∷ []
unfolding parts_at pick
parts_end x [] h = refl
parts_end x (b ∷ w) h = rw (ne_eqb b x h.0, parts_end x w h.1)

-- the first byte of the first part
front_first : (b : ℕ) (ws : List (List ℕ)) → get_or (get_or (in_front b ws) 0 []) 0 0 ≡ b
front_first b [] = refl
front_first b (w ∷ ws) = refl

parts_first : (x b : ℕ) (t : List ℕ) → Not x b → get_or (get_or (parts_at x (b ∷ t)) 0 []) 0 0 ≡ b
unfolding parts_at pick
parts_first x b t h = rw (ne_eqb b x h) (front_first b (parts_at x t))

-- ── words ──

-- the byte x is not in w
abbrev pub lacks : ℕ → List ℕ → Bool
lacks x [] = true
lacks x (b ∷ w) = not (eqb b x) && lacks x w

pub each_not : (x : ℕ) (w : List ℕ) → lacks x w ≡ true → Each (Not x) w
each_not x [] h = tt
each_not x (b ∷ w) h = (eqb-false b x (not-true (eqb b x) (both_left (not (eqb b x)) (lacks x w) h)), each_not x w (both_right (not (eqb b x)) (lacks x w) h))

-- ── numbers ──

digit_not : (x : ℕ) → suc x ≤ 48 → (b : ℕ) → Digit b → Not x b
digit_not x h b d e = omega arith

pub decimal_not : (k x : ℕ) → suc k ≤ 48 → Each (Not k) (decimal x)
decimal_not k x h = each_map Digit (Not k) (digit_not k h) (decimal x) (decimal_digits x)

pub decimal_some : (x : ℕ) → 1 ≤ length (decimal x)
unfolding decimal digits
decimal_some x = simp length-append (omega arith)

-- the first digit of a number, and the others
pub record Begins (w : List ℕ) : Type 0 where
  pub first : ℕ
  pub others : List ℕ
  pub whole : w ≡ first ∷ others
  pub digit : Digit first

begins : (w : List ℕ) → 1 ≤ length w → Each Digit w → Begins w
begins [] h a = absurd (omega arith)
begins (b ∷ w) h a = record { first = b; others = w; whole = refl; digit = a.0 }

pub decimal_begins : (x : ℕ) → Begins (decimal x)
decimal_begins x = begins (decimal x) (decimal_some x) (decimal_digits x)

-- a word that starts with a number starts with no letter
pub number_no_letter : (x : ℕ) (t : List ℕ) → is_letter (get_or (get_or (words_of (decimal x ++ t)) 0 []) 0 0) ≡ false
number_no_letter x t =
    let p = decimal_begins x in
    let d = p.digit in
    rw (p.whole, parts_first 32 p.first (p.others ++ t) (digit_not 32 (omega arith) p.first d), lt-leb 0x61 p.first (omega arith))

-- ── words and numbers behind one another ──

pub spaced_not : (xs : List ℕ) → Each (Not 10) (spaced xs)
unfolding spaced
spaced_not [] = tt
spaced_not (x ∷ xs) = (λ e. omega arith, each_append (Not 10) (decimal x) (spaced xs) (decimal_not 10 x (omega arith)) (spaced_not xs))

words_behind : (t w xs : List ℕ) → Each (Not 32) w → words_of (w ++ (spaced xs ++ (32 ∷ t))) ≡ w ∷ (map decimal xs ++ words_of t)
unfolding spaced
words_behind t w [] h = parts_behind 32 w t h
words_behind t w (x ∷ xs) h =
    ap (λ (l : List ℕ). words_of (w ++ (32 ∷ l))) (append_assoc (decimal x) (spaced xs) (32 ∷ t))
    ∙ parts_behind 32 w (decimal x ++ (spaced xs ++ (32 ∷ t))) h
    ∙ ap (λ (l : List (List ℕ)). w ∷ l) (words_behind t (decimal x) xs (decimal_not 32 x (omega arith)))

pub spaced_words : (w xs t : List ℕ) → Each (Not 32) w → words_of ((w ++ spaced xs) ++ (32 ∷ t)) ≡ w ∷ (map decimal xs ++ words_of t)
spaced_words w xs t h = ap words_of (append_assoc w (spaced xs) (32 ∷ t)) ∙ words_behind t w xs h
