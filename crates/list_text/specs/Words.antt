-- The bytes of a text by their kinds, its words, and numbers among them. An offset counts bytes from 0.
use Rattle.std.specs.Prelude.{ℕ, ◌+◌, ◌-◌, ◌*◌, ◌<◌, Bool, true, false, not, ◌&&◌, ◌||◌, List, [], ◌∷◌, length, take, drop, eqb, leb, ltb, Option, None, Some, Result, Ok, Err}
use Rattle.model.specs.Pick.{pick}
use Rattle.short_lists_text.specs.Rows.{All}

-- ── bytes ──

-- each is one byte
abbrev pub AllBytes : List ℕ → Type 0
AllBytes l = All (λ b. b < 256) l

-- "line ends": 0x0A
abbrev pub is_line_end : ℕ → Bool
is_line_end b = eqb b 0x0a

-- "#": 0x23
abbrev pub is_hash : ℕ → Bool
is_hash b = eqb b 0x23

-- "a comma": 0x2C
abbrev pub is_comma : ℕ → Bool
is_comma b = eqb b 0x2c

-- a space, a tab, or a carriage return, which some editors put before a line end
abbrev pub is_blank : ℕ → Bool
is_blank b = eqb b 0x20 || eqb b 0x09 || eqb b 0x0d

-- a byte of a word: none of these
abbrev pub is_word_byte : ℕ → Bool
is_word_byte b = not (is_blank b || is_line_end b || is_hash b || is_comma b)

-- ── stretches ──

-- how many bytes at the start of s, up to the first other one, are of the kind f
unfoldable pub span : (ℕ → Bool) → List ℕ → ℕ
span f [] = 0
span f (b ∷ s) = pick (f b) (1 + span f s) 0

-- the offset of the first byte from at on that is not of the kind f, or the end
unfoldable pub past : (ℕ → Bool) → List ℕ → ℕ → ℕ
past f t at = at + span f (drop at t)

-- "empty lines and `#` to the end of a line are skipped": whether b is skipped, in a comment (c) or not
abbrev pub is_skipped : Bool → ℕ → Bool
is_skipped c b = c || is_blank b || is_line_end b || is_hash b

-- whether what stands behind b is in a comment, where b is (c) or not: a comment goes from "#" "to the end of a line"
abbrev pub comment_behind : Bool → ℕ → Bool
comment_behind c b = (c || is_hash b) && not (is_line_end b)

-- how many bytes at the start of s are skipped; c says whether it starts in a comment
unfoldable pub skipped : Bool → List ℕ → ℕ
skipped c [] = 0
skipped c (b ∷ s) = pick (is_skipped c b) (1 + skipped (comment_behind c b) s) 0

-- the offset of the first byte from at on that is not skipped, or the end; at is not in a comment
unfoldable pub past_skipped : List ℕ → ℕ → ℕ
past_skipped t at = at + skipped false (drop at t)

-- ── words ──

-- the word that starts at an offset: all bytes from there on that are a word's
unfoldable pub word_at : List ℕ → ℕ → List ℕ
word_at t at = take (span is_word_byte (drop at t)) (drop at t)

-- the offset behind the word that starts at an offset
abbrev pub behind_word : List ℕ → ℕ → ℕ
behind_word t at = past is_word_byte t at

-- two words, or two rows of numbers, are the same
unfoldable pub same : List ℕ → List ℕ → Bool
same [] [] = true
same [] (y ∷ ys) = false
same (x ∷ xs) [] = false
same (x ∷ xs) (y ∷ ys) = eqb x y && same xs ys

-- ── numbers ──

-- "0" to "9"
abbrev pub is_digit : ℕ → Bool
is_digit b = leb 0x30 b && leb b 0x39

-- the value of the digits v with one more behind them
abbrev pub append_digit : ℕ → ℕ → ℕ
append_digit v b = v * 10 + (b - 0x30)

-- what w gives behind digits whose value is v: a value, if each byte of w is a digit and none takes the value above most
unfoldable pub value_behind : ℕ → ℕ → List ℕ → Option ℕ
value_behind most v [] = Some v
value_behind most v (b ∷ w) =
    pick (not (is_digit b)) None
    (pick (ltb most (append_digit v b)) None
    (value_behind most (append_digit v b) w))

-- what a word is as a number from 0 to most: one digit or more in decimal. Zeros before it change nothing.
unfoldable pub value_up_to : ℕ → List ℕ → Option ℕ
value_up_to most w = pick (eqb (length w) 0) None (value_behind most 0 w)

-- what stands where a number is due: its value, and the offset behind it; or the offset where it was due
abbrev pub Number : Type 0
Number = Result (ℕ × ℕ) ℕ

-- what was found at an offset, the word there ending at e
abbrev pub found_at : ℕ → ℕ → Option ℕ → Number
found_at at e None = Err at
found_at at e (Some v) = Ok (v, e)

-- a number from 0 to most as the next word from at on, on the same line
unfoldable pub number_at : ℕ → List ℕ → ℕ → Number
number_at most t at = found_at (past is_blank t at) (behind_word t (past is_blank t at)) (value_up_to most (word_at t (past is_blank t at)))
