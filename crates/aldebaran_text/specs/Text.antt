-- The text of T-12, in the Aldebaran form: one definition from input bytes to printed bytes.
use Rattle.std.specs.Prelude.{ℕ, ◌-◌, Bool, ◌&&◌, List, ◌∷◌, ◌++◌, map, leb, length, get_or}
use Rattle.model.specs.Limits.{tower}
use Rattle.model.specs.Pick.{pick}
use Rattle.model.specs.State.{start}
use Rattle.model.specs.declared.Event.{Event}
use Rattle.listing.specs.Ascii.{bytes}
use Rattle.listing.specs.Decimal.{decimal}
use Rattle.listing.specs.Lines.{stopped_line}
use Rattle.listing.specs.Printing.{joined}
use Rattle.short_lists_text.specs.Text.{name_of, numbers_of, spaced, fits_to}
use Rattle.aldebaran_text.specs.System.{states, Transition, transitions}

-- ── a line ──

-- a small letter of ASCII as a capital one; any other byte as it is
unfoldable pub capital : ℕ → ℕ
capital b = pick (leb 97 b && leb b 122) (b - 32) b

-- "The label is the event's name in capitals and its numbers, parted by single spaces.": name and numbers are those of T-01
unfoldable pub label : Event → List ℕ
label e = map capital (name_of e) ++ spaced (numbers_of e)

-- "The first line is `des (0, t, s)` with the counts of transitions and states." 02 leaves a line's end and the form of numbers to 01: "numbers have no leading zeros, and 0x0A ends each
-- line"
unfoldable pub first_line : ℕ → ℕ → List ℕ
first_line t s = bytes "des (0, " ++ (decimal t ++ (bytes ", " ++ (decimal s ++ bytes ")\n")))

-- "t lines `(a, "LABEL", b)`"
unfoldable pub transition_line : Transition → List ℕ
transition_line x = bytes "(" ++ (decimal x.source ++ (bytes ", \"" ++ (label x.event ++ (bytes "\", " ++ (decimal x.target ++ bytes ")\n")))))

-- ── the text ──

-- the states of lists of up to m events among n nodes, from the tower's starting table (T-08)
abbrev pub states_of : ℕ → ℕ → List (List Event)
states_of n m = states m (start n tower)

-- the lines of the system whose states have these lists
abbrev pub lines_of : List (List Event) → List (List ℕ)
lines_of ls = first_line (length (transitions ls)) (length ls) ∷ map transition_line (transitions ls)

-- 22 is met where it does not hold: "input not exactly the two bytes n and L, n outside 1 to 3 or L outside 0 to 4"
abbrev pub fits : List ℕ → Bool
fits l = fits_to 4 l

-- "then `stopped 0 22` alone is printed"
abbrev pub refusal_text : List ℕ
refusal_text = stopped_line 0 22

-- all that is printed for the input l: "Print the lists of T-01 up to a length L from 0 to 4 as one", a transition system
unfoldable pub text_of : List ℕ → List ℕ
text_of l = pick (fits l) (joined (lines_of (states_of (get_or l 0 0) (get_or l 1 0)))) refusal_text
