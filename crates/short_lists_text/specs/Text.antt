-- The text of T-01: one definition from input bytes to printed bytes.
use Rattle.std.specs.Prelude.{ℕ, Bool, ◌&&◌, List, [], ◌∷◌, ◌++◌, map, length, get_or, eqb, leb}
use Rattle.model.specs.Limits.{tower}
use Rattle.model.specs.Pick.{pick}
use Rattle.model.specs.State.{start}
use Rattle.model.specs.declared.Event.{Event}
use Rattle.model.specs.declared.Event.TheVariants.{Crash, Recover, Check, Timeout, Tick, Expire, Finish, Deliver, Lose}
use Rattle.listing.specs.Ascii.{bytes}
use Rattle.listing.specs.Decimal.{decimal}
use Rattle.listing.specs.Lines.{row, stopped_line}
use Rattle.listing.specs.Printing.{joined}
use Rattle.short_lists_text.specs.Lists.{lists_from}

-- ── a line ──

-- "each event's name": as 01 names the events
unfoldable pub name_of : Event → List ℕ
name_of (Crash i) = bytes "crash"
name_of (Recover i) = bytes "recover"
name_of (Check i) = bytes "check"
name_of (Timeout i) = bytes "timeout"
name_of (Tick i) = bytes "tick"
name_of (Expire i) = bytes "expire"
name_of (Finish i t) = bytes "finish"
name_of (Deliver a b) = bytes "deliver"
name_of (Lose a b) = bytes "lose"

-- "and numbers": finish has its node's and its task's, deliver and lose the sender's and the receiver's
abbrev pub numbers_of : Event → List ℕ
numbers_of (Crash i) = i ∷ []
numbers_of (Recover i) = i ∷ []
numbers_of (Check i) = i ∷ []
numbers_of (Timeout i) = i ∷ []
numbers_of (Tick i) = i ∷ []
numbers_of (Expire i) = i ∷ []
numbers_of (Finish i t) = i ∷ t.number ∷ []
numbers_of (Deliver a b) = a ∷ b ∷ []
numbers_of (Lose a b) = a ∷ b ∷ []

-- each number after a space
unfoldable pub spaced : List ℕ → List ℕ
spaced [] = []
spaced (x ∷ xs) = bytes " " ++ (decimal x ++ spaced xs)

-- "each event's name and numbers parted by single spaces"
unfoldable pub event_text : Event → List ℕ
event_text e = name_of e ++ spaced (numbers_of e)

-- the events after a list's first, each after "a comma and a space"
unfoldable pub more_text : List Event → List ℕ
more_text [] = []
more_text (e ∷ es) = bytes ", " ++ (event_text e ++ more_text es)

-- "events parted by a comma and a space"
unfoldable pub events_text : List Event → List ℕ
events_text [] = []
events_text (e ∷ es) = event_text e ++ more_text es

-- "A list is one line: .. as in `recover 1, check 1`; the list of no events is an empty line."
unfoldable pub list_line : List Event → List ℕ
list_line l = events_text l ++ bytes "\n"

-- "a last line `lists k` gives their count"
unfoldable pub count_line : ℕ → List ℕ
count_line k = bytes "lists" ++ row (k ∷ [])

-- ── the text ──

-- the lines of these lists, and the last one
abbrev pub lines_of : List (List Event) → List (List ℕ)
lines_of ls = map list_line ls ++ (count_line (length ls) ∷ [])

-- the two bytes n and a length: n from 1 to 3, and the length from 0 to most
unfoldable pub fits_to : ℕ → List ℕ → Bool
fits_to most l = eqb (length l) 2 && leb 1 (get_or l 0 0) && leb (get_or l 0 0) 3 && leb (get_or l 1 0) most

-- "n from 1 to 3 and a length from 0 to 7, as two bytes", n first. Where it does not hold 16 is met: "not exactly two bytes, or one outside its range"
abbrev pub fits : List ℕ → Bool
fits l = fits_to 7 l

-- "A refusal prints `stopped 0 16` alone."
abbrev pub refusal_text : List ℕ
refusal_text = stopped_line 0 16

-- all that is printed for the input l: "print every list of exactly that many events that the machine accepts one after another from the starting table", the tower's
-- (T-08); 16 is looked at "before anything is printed"
unfoldable pub text_of : List ℕ → List ℕ
text_of l = pick (fits l) (joined (lines_of (lists_from (get_or l 1 0) (start (get_or l 0 0) tower)))) refusal_text
