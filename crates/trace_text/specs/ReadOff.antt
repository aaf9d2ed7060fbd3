-- "The bench's text can be read off it": how, line by line. No machine is needed for it.
use Rattle.std.specs.Prelude.{ℕ, ◌-◌, Bool, ◌&&◌, List, [], ◌∷◌, ◌++◌, eqb, leb, length, get_or}
use Rattle.model.specs.Pick.{pick}
use Rattle.listing.specs.Ascii.{bytes}
use Rattle.list_text.specs.Words.{same}

-- one byte more in front of the first of some parts
abbrev pub in_front : ℕ → List (List ℕ) → List (List ℕ)
in_front b [] = (b ∷ []) ∷ []
in_front b (w ∷ ws) = (b ∷ w) ∷ ws

-- the parts of s between the bytes x, which are left out: one part more than there are such bytes
unfoldable pub parts_at : ℕ → List ℕ → List (List ℕ)
parts_at x [] = [] ∷ []
parts_at x (b ∷ s) = pick (eqb b x) ([] ∷ parts_at x s) (in_front b (parts_at x s))

-- the words of a line, which single spaces part
abbrev pub words_of : List ℕ → List (List ℕ)
words_of s = parts_at 0x20 s

-- "a" to "z"
abbrev pub is_letter : ℕ → Bool
is_letter b = leb 0x61 b && leb b 0x7a

-- word k, from 0 on
abbrev pub word : List (List ℕ) → ℕ → List ℕ
word ws k = get_or ws k []

-- the line of an event with these words: its number first, at last `accepted`, or `refused` and a number. Of a refused one the bench has `refused e r`, of an accepted one nothing.
unfoldable pub read_event : List (List ℕ) → List ℕ
read_event ws = pick (same (word ws (length ws - 2)) (bytes "refused")) (bytes "refused " ++ (word ws 0 ++ (bytes " " ++ (word ws (length ws - 1) ++ bytes "\n")))) []

-- one line s of the trace, without its end, whose words are ws: an indented line is the trace's alone; the line of an event is known by a letter behind its number; all others are the bench's
unfoldable pub read_words : List ℕ → List (List ℕ) → List ℕ
read_words s ws =
    pick (eqb (length (word ws 0)) 0) []
    (pick (is_letter (get_or (word ws 1) 0 0)) (read_event ws)
    (s ++ bytes "\n"))

abbrev pub read_line : List ℕ → List ℕ
read_line s = read_words s (words_of s)

-- all lines
unfoldable pub read_lines : List (List ℕ) → List ℕ
read_lines [] = []
read_lines (s ∷ ss) = read_line s ++ read_lines ss

-- the whole text: "0x0A ends each line", so behind the last there is an empty part, of which nothing is read
unfoldable pub read_off : List ℕ → List ℕ
read_off t = read_lines (parts_at 0x0a t)
