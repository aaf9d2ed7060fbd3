-- Capital letters, as std and as 02 have them; and what a change of all bytes of a piece behind others does.
use Prim.Native.Nat.{ℕ, ◌+◌, ◌-◌, ◌≤◌}
use native.Mathlib.Omega.{arith}
use mathlib.Core.Bool.{Bool, true, false}
use mathlib.Core.Path.{◌≡◌, refl, sym, ◌∙◌, ap}
use mathlib.Core.List.{List, [], ◌∷◌, ◌++◌, map}
use lib.Dec.{leb}
use lib.ListN.{length, take, drop, length-map}
use lib.Seq.{length-take-le, take_at, drop_at}
use borrow.Author.Tests.{leb-true, leb-false, lt-ltb, le-ltb}
use Rattle.std.specs.Char.{to_ascii_uppercase}
use Rattle.model.specs.Pick.{pick}
use Rattle.listing.specs.Printing.{Appended}
use Rattle.listing.proofs.Appended.{appended, appended_written}
use Rattle.aldebaran_text.specs.Text.{capital}

-- std's capital letter is 02's
upper_same : (b : ℕ) → to_ascii_uppercase b ≡ capital b
unfolding capital pick
upper_same b = by (leb 97 b) (leb b 122) refl refl
  where
    by : (s t : Bool) → leb 97 b ≡ s → leb b 122 ≡ t → to_ascii_uppercase b ≡ capital b
    by false t q r = rw (q, lt-ltb b 97 (omega (arith, leb-false 97 b q)))
    by true true q r = rw (q, r, le-ltb b 97 (leb-true 97 b q), lt-ltb b 123 (omega (arith, leb-true b 122 r)))
    by true false q r = rw (q, r, le-ltb b 97 (leb-true 97 b q), le-ltb b 123 (omega (arith, leb-false b 122 r)))

pub all_upper_same : (l : List ℕ) → map to_ascii_uppercase l ≡ map capital l
all_upper_same [] = refl
all_upper_same (b ∷ l) = rw (upper_same b, all_upper_same l)

module _ (f : ℕ → ℕ) where
  -- a piece behind others, with all its bytes changed
  pub changed : (b s o v : List ℕ) (p r : ℕ) → p ≤ length b → Appended b p s o r → v ≡ map f (take (r - p) (drop p o)) → Appended b p (map f s) (take p o ++ (v ++ drop (r - p) (drop p o))) r
  changed b s o v p r h a q =
      let n = a.next in
      let w = appended_written a in
      let l : length (take p b) ≡ p = length-take-le p b h in
      let z : length s ≡ r - p = omega arith in
      let t : take p o ≡ take p b = ap (take p) w ∙ take_at (take p b) _ p l in
      let d : drop p o ≡ s ++ drop (p + length s) b = ap (drop p) w ∙ drop_at (take p b) _ p l in
      let u : take (r - p) (drop p o) ≡ s = ap (take (r - p)) d ∙ take_at s _ (r - p) z in
      let x : drop (r - p) (drop p o) ≡ drop (p + length s) b = ap (drop (r - p)) d ∙ drop_at s _ (r - p) z in
      let y : length (map f s) ≡ length s = length-map s f in
      let i = a.fits in
      let j = a.long in
      appended b _ (map f s) p r (omega arith)
      (ap (λ (m : List ℕ). m ++ (v ++ drop (r - p) (drop p o))) t
      ∙ (ap (λ (m : List ℕ). take p b ++ (v ++ m)) x
      ∙ (ap (λ (m : List ℕ). take p b ++ (m ++ drop (p + length s) b)) (q ∙ ap (map f) u) ∙ ap (λ k. take p b ++ (map f s ++ drop (p + k) b)) (sym y)))) (omega arith)
