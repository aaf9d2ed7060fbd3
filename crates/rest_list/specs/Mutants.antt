-- Wrong programs of T-13: what no printer leaves in its buffer that meets `Whole` for its lines. The proofs are in proofs/Mutants.
use Rattle.std.specs.Prelude.{ℕ, ◌≡◌, List, ◌++◌, take}
use Rattle.event_list.specs.Cases.{nodes}
use Rattle.listing.specs.Ascii.{bytes}
use Rattle.listing.specs.Printing.{Whole}
use Rattle.rest_list.specs.Text.{rest_lines_of}
use Rattle.rest_list.specs.Cases.{asking_events}

-- no text of the list begins with x
abbrev pub NeverBegins : List ℕ → List ℕ → Type 0
NeverBegins l x = (b o y : List ℕ) (r : ℕ) → Whole (rest_lines_of l) b o r → take r o ≡ x ++ y → ⊥

pub record NoOtherRest : Type 0 where
  -- one text meets it, one length, and one buffer where the same stood in it
  pub only : (l : List ℕ) {b o p : List ℕ} {r q : ℕ} → Whole (rest_lines_of l) b o r → Whole (rest_lines_of l) b p q → (o ≡ p) × (r ≡ q)
  -- Of the list in which two nodes recover and node 2 asks node 1: a program that makes no turn, one that stops a turn early, counts only the turns that accept an event (six), or makes one too many,
  pub no_turn : NeverBegins (nodes 2 ++ asking_events) (bytes "cabinets 2\nturns 0\n")
  pub early : NeverBegins (nodes 2 ++ asking_events) (bytes "cabinets 2\nturns 6\n")
  pub late : NeverBegins (nodes 2 ++ asking_events) (bytes "cabinets 2\nturns 8\n")
  -- one that prints the table of the list, and one that leaves the number out
  pub before_turns : NeverBegins (nodes 2 ++ asking_events) (bytes "cabinets 2\nturns 7\n1 3 1 16")
  pub no_number : NeverBegins (nodes 2 ++ asking_events) (bytes "cabinets 2\n1 ")
