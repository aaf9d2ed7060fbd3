-- A line of a word and numbers, written piece by piece where there is room for all of it.
use Prim.Native.Nat.{ℕ, ◌+◌, ◌-◌, ◌≤◌, ◌<◌}
use native.Mathlib.Numerals.{add-one}
use native.Mathlib.Omega.{arith}
use mathlib.Core.Path.{◌≡◌, refl, sym, ◌∙◌}
use mathlib.Core.List.{List, [], ◌∷◌, ◌++◌, append_assoc, append-nil}
use lib.ListN.{length, get_or, take, drop, set, length-append, drop_of_length-le}
use lib.Seq.{drop-cons}
use Rattle.std.specs.Prelude.{Ok}
use Rattle.listing.specs.Decimal.{decimal}
use Rattle.listing.specs.Lines.{row}
use Rattle.listing.specs.Printing.{shown, printed, Appended}
use Rattle.listing.proofs.Printing.{line_next}
use Rattle.listing.proofs.Making.{byte_piece}
use Rattle.listing.proofs.Appended.{appended, appended_written, appended_twice}

-- The numbers of a row from the i-th on: the next of them, and the end of the line behind the last.
row_turn : (l : List ℕ) (i : ℕ) → i < length l → row (drop i l) ≡ (32 ∷ decimal (get_or l i 0)) ++ row (drop (i + 1) l)
unfolding row
row_turn l i h = rw (drop-cons l i 0 h, add-one i)

row_end : (l : List ℕ) (i : ℕ) → length l ≤ i → row (drop i l) ≡ 10 ∷ []
unfolding row
row_end l i h = rw (drop_of_length-le l {i = i} h)

pub row_turn_long : (l : List ℕ) (i : ℕ) → i < length l → length (row (drop i l)) ≡ 1 + length (decimal (get_or l i 0)) + length (row (drop (i + 1) l))
row_turn_long l i h = rw (row_turn l i h) (simp length-append (omega arith))

pub row_end_long : (l : List ℕ) (i : ℕ) → length l ≤ i → length (row (drop i l)) ≡ 1
row_end_long l i h = rw (row_end l i h)

-- One byte more.
pub byte_put : (b : List ℕ) (p v : ℕ) → p < length b → Appended b p (v ∷ []) (set b p v) (p + 1)
byte_put b p v h = appended b _ (v ∷ []) p (p + 1) (omega arith) (byte_piece b p v h) refl

-- Of the line, some text is written into b from at on, up to p, so that it holds o; what is left is rest.
pub record Begun (b : List ℕ) (at : ℕ) (line o : List ℕ) (p : ℕ) (rest : List ℕ) : Type 0 where
  pub text : List ℕ
  pub put : Appended b at text o p
  pub left : text ++ rest ≡ line

pub begun : (b : List ℕ) (at : ℕ) (line : List ℕ) → at ≤ length b → Begun b at line b at line
begun b at line h =
    record {
      text = [];
      put = record { long = refl; next = omega arith; fits = h; text = sym (append-nil (take at b)); behind = refl };
      left = refl;
    }

module _ {b : List ℕ} {at : ℕ} {line o : List ℕ} {p : ℕ} where
  -- There is room for the next piece, and it is written.
  pub piece_room : (s rest : List ℕ) → Begun b at line o p (s ++ rest) → at + length line ≤ length b → p + length s ≤ length o
  piece_room s rest g h =
      let n : length line ≡ length g.text + (length s + length rest) = rw (← g.left) (simp length-append) in
      omega (arith, g.put.long, g.put.next)

  pub piece_put : {s rest u : List ℕ} {q : ℕ} → Begun b at line o p (s ++ rest) → Appended o p s u q → Begun b at line u q rest
  piece_put {s} {rest} g f = record { text = g.text ++ s; put = appended_twice g.put f; left = append_assoc g.text s rest ∙ g.left }

  -- One turn of the loop, and the end of the line.
  module _ (l : List ℕ) (i : ℕ) (g : Begun b at line o p (row (drop i l))) (h : at + length line ≤ length b) where
    number_left : i < length l → Begun b at line o p ((32 ∷ decimal (get_or l i 0)) ++ row (drop (i + 1) l))
    number_left k = rw (row_turn l i k) at g

    pub number_room : i < length l → p + length (32 ∷ decimal (get_or l i 0)) ≤ length o
    number_room k = piece_room (32 ∷ decimal (get_or l i 0)) (row (drop (i + 1) l)) (number_left k) h

    pub number_put : i < length l → {u : List ℕ} {q : ℕ} → Appended o p (32 ∷ decimal (get_or l i 0)) u q → Begun b at line u q (row (drop (i + 1) l))
    number_put k f = piece_put (number_left k) f

    end_left : length l ≤ i → Begun b at line o p ((10 ∷ []) ++ [])
    end_left k = rw (row_end l i k) at g

    pub end_room : length l ≤ i → p < length o
    end_room k = let r = piece_room (10 ∷ []) [] (end_left k) h in omega arith

    pub end_put : length l ≤ i → shown (Ok (p + 1)) (set o p 10) ≡ printed b at (line ∷ [])
    end_put k =
        let f = piece_put (end_left k) (byte_put o p 10 (end_room k)) in
        let e : f.text ≡ line = sym (append-nil f.text) ∙ f.left in
        let w = rw e at f.put in
        line_next b _ line at (p + 1) w.next (rw (← w.long) w.fits) (appended_written w)

-- A line of a word and k bytes behind it: whether there is room for it from at on, in m bytes.
pub line_room : (w t : List ℕ) (m at : ℕ) {k : ℕ} → k ≡ length t → at ≤ m → length w + k ≤ m - at → at + length (w ++ t) ≤ m
line_room w t m at e h i = rw (length-append w t) (omega arith)

pub line_short : (w t : List ℕ) (m at : ℕ) {k : ℕ} → k ≡ length t → at ≤ m → m - at < length w + k → m < at + length (w ++ t)
line_short w t m at e h i = rw (length-append w t) (omega arith)

pub line_fits : (w t : List ℕ) (m : ℕ) {k : ℕ} → k ≡ length t → length w + k ≤ m → 0 + length (w ++ t) ≤ m
line_fits w t m e h = rw (length-append w t) (omega arith)
