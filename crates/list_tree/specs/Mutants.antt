-- Wrong programs that cannot meet the promise of `put_text`, whatever the buffer held before. Most claims give only the beginning of the wrong text, and any bytes y may follow. The proofs
-- are in proofs/Mutants.
use Rattle.std.specs.Prelude.{ℕ, ◌≡◌, List, [], ◌∷◌, ◌++◌, take}
use Rattle.listing.specs.Ascii.{bytes}
use Rattle.list_tree.specs.Printed.{SystemPrinted}

-- where the promise is met for the input l, the text is not x
abbrev pub Never : List ℕ → List ℕ → Type 0
Never l x = (b o : List ℕ) (r : ℕ) → SystemPrinted l b o r → take r o ≡ x → ⊥

pub record NoOtherText : Type 0 where
  -- the promise leaves nothing free: for one input and one buffer there is one answer, and one buffer after it
  pub only : {l b o p : List ℕ} {r q : ℕ} → SystemPrinted l b o r → SystemPrinted l b p q → (o ≡ p) × (r ≡ q)
  -- one that prints nothing
  pub silent : (l : List ℕ) → Never l []
  -- one that prints the same text for all inputs
  pub same : {b c o p : List ℕ} {r q : ℕ} → SystemPrinted (1 ∷ 0 ∷ []) b o r → SystemPrinted (1 ∷ 1 ∷ []) c p q → take r o ≡ take q p → ⊥
  -- one that turns every input away
  pub turns_away : Never (1 ∷ 0 ∷ []) (bytes "stopped 0 22\n")
  -- one that refuses with T-01's number, and one that takes a length that T-01 takes
  pub other_number : (y : List ℕ) → Never (0 ∷ 0 ∷ []) (bytes "stopped 0 16" ++ y)
  pub length_five : (y : List ℕ) → Never (1 ∷ 5 ∷ []) (bytes "des" ++ y)
  -- one that prints the lists of T-01, and one that prints T-01's last line too
  pub lists : (y : List ℕ) → Never (1 ∷ 1 ∷ []) (bytes "recover 1" ++ y)
  pub last_line : (y : List ℕ) → Never (1 ∷ 0 ∷ []) (bytes "des (0, 0, 1)\nlists 1" ++ y)
  -- one whose states are tables, not lists: with one node a check changes nothing
  pub by_table : (y : List ℕ) → Never (1 ∷ 3 ∷ []) (bytes "des (0, 5, 4)" ++ y)
  -- one with the two counts the other way round, and one that prints no spaces
  pub counts : (y : List ℕ) → Never (1 ∷ 1 ∷ []) (bytes "des (0, 2, 1)" ++ y)
  pub no_spaces : (y : List ℕ) → Never (1 ∷ 1 ∷ []) (bytes "des (0,1,2)" ++ y)
  -- one that numbers the states from 1
  pub from_one : (y : List ℕ) → Never (1 ∷ 1 ∷ []) (bytes "des (0, 1, 2)\n(1" ++ y)
  -- one that prints no quotation marks, and one that prints the name in small letters
  pub unquoted : (y : List ℕ) → Never (1 ∷ 1 ∷ []) (bytes "des (0, 1, 2)\n(0, RECOVER 1" ++ y)
  pub small : (y : List ℕ) → Never (1 ∷ 1 ∷ []) (bytes "des (0, 1, 2)\n(0, \"recover 1" ++ y)
  -- one whose transitions all come from the state 0, and one whose label is all of b's list
  pub from_start : (y : List ℕ) → Never (1 ∷ 3 ∷ []) (bytes "des (0, 11, 12)\n(0, \"RECOVER 1\", 1)\n(0, \"CRASH 1\", 2)" ++ y)
  pub whole_list : (y : List ℕ) → Never (1 ∷ 3 ∷ []) (bytes "des (0, 11, 12)\n(0, \"RECOVER 1\", 1)\n(1, \"RECOVER 1, CRASH 1\", 2)" ++ y)
  -- one that numbers each list right behind the one that it goes on from, not by length
  pub depth_first : (y : List ℕ) → Never (1 ∷ 3 ∷ []) (bytes "des (0, 11, 12)\n(0, \"RECOVER 1\", 1)\n(1, \"CRASH 1\", 2)\n(2, \"RECOVER 1\", 3)" ++ y)
