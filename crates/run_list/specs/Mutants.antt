-- "Try these impostors", of the printed text: what no printer leaves in its buffer that meets `Printed` or `Whole` (mutant: 01's impostor). Each field takes as
-- little of the text as shuts the mutant out, and lets any bytes y follow. Where no list is named it is K10's, of which no event is refused. The proofs are in proofs/Mutants.
use Rattle.std.specs.Prelude.{ℕ, ◌≤◌, ◌≡◌, List, [], ◌∷◌, ◌++◌, length}
use Rattle.model.specs.State.{node_at}
use Rattle.model.specs.Step.{run}
use Rattle.model.specs.Answers.{status_number}
use Rattle.model.specs.declared.Limits.{Limits}
use Rattle.model.specs.declared.Node.{Node}
use Rattle.event_list.specs.Format.{Reading, begun, reading}
use Rattle.listing.specs.Lines.{node_line}
use Rattle.listing.specs.Printing.{Put, refused, joined, Printed, Whole}
use Rattle.listing.specs.Decimal.{decimal}
use Rattle.run_list.specs.Text.{lines_of, text_of}
use Rattle.run_list.specs.Claims.{lines_before}
use Rattle.event_list.specs.Cases.{nodes, recover}
use Rattle.listing.specs.Ascii.{bytes}
use Rattle.run_list.specs.Cases.{k10_list}

-- o is what a printer of the list l left in its buffer: one that meets `Printed`, where there was room, or one that meets `Whole`
pub data Holds (l o : List ℕ) : Type 0 where
  by_print : {b : List ℕ} {a : Put} → Printed (lines_of l) b o a → length (text_of l) ≤ length b → Holds l o
  by_whole : {b : List ℕ} {r : ℕ} → Whole (lines_of l) b o r → Holds l o

-- numbers, each behind a space
unfoldable pub spaced : List ℕ → List ℕ
spaced [] = []
spaced (x ∷ xs) = bytes " " ++ (decimal x ++ spaced xs)

-- the line of node i up to the count of members, which comes last: "number, status, coordinator, group, task, counter"
abbrev pub before_count : ℕ → Node → List ℕ
before_count i c = decimal i ++ (spaced (status_number c.status ∷ c.coordinator ∷ c.group.number ∷ c.task.number ∷ c.counter ∷ []) ++ bytes " ")

pub record NoMutantText : Type 0 where
  -- "a machine that turns every event away", or any: behind `cabinets 2` comes no line `refused e r`
  pub turns_away : (o y : List ℕ) → Holds k10_list o → o ≡ bytes "cabinets 2\nr" ++ y → ⊥
  -- "one that returns the same table always", "one that answers 'accepted' and moves nothing": node 1 is not Down any more
  pub same_table : (o y : List ℕ) → Holds k10_list o → o ≡ bytes "cabinets 2\n1 0" ++ y → ⊥
  -- "one that works on the first event and then idles": node 1, which recovered in it, does not lead itself any more
  pub idles : (o y : List ℕ) → Holds k10_list o → o ≡ bytes "cabinets 2\n1 3 1" ++ y → ⊥
  -- nor one that works on all events but the last, in which node 2 turns from Reorganization to Normal
  pub idles_last : (o y : List ℕ) → Holds k10_list o → o ≡ bytes "cabinets 2\n1 3 2 33 100 1 0\n2 2" ++ y → ⊥
  -- "one that prints a member count out of thin air": of any list l that says n, limits and r, and any node i, no number k stands where the count of i's members stands,
  -- before the line's end, but the one in i's own line, whose last field is that count (listing/specs/Lines: node_line)
  pub thin_air : (l o y : List ℕ) (n : ℕ) (lim : Limits) (r : Reading) (i k : ℕ) → reading l ≡ begun n lim r → 1 ≤ i → i ≤ n → Holds l o
      → o ≡ joined (lines_before n lim r i) ++ (before_count i (node_at (run n lim r.events) i) ++ (decimal k ++ (10 ∷ y)))
      → (node_line i (node_at (run n lim r.events) i) ≡ before_count i (node_at (run n lim r.events) i) ++ (decimal k ++ (10 ∷ [])) → ⊥) → ⊥
  -- for one: node 2 has one member, and no other number k stands there
  pub thin_one : (o y : List ℕ) (k : ℕ) → Holds k10_list o → o ≡ bytes "cabinets 2\n1 3 2 33 100 1 0\n2 3 2 33 100 2 " ++ (decimal k ++ (10 ∷ y)) → (k ≡ 1 → ⊥) → ⊥
  -- nor one that counts events from 0, that gives the next ground's number, or that stops at another offset: the second recovery is refused with 9, and the field
  -- at 4 is cut short
  pub from_zero : (o y : List ℕ) → Holds (nodes 2 ++ (recover 1 ++ recover 1)) o → o ≡ bytes "cabinets 2\nrefused 1" ++ y → ⊥
  pub next_ground : (o y : List ℕ) → Holds (nodes 2 ++ (recover 1 ++ recover 1)) o → o ≡ bytes "cabinets 2\nrefused 2 1" ++ y → ⊥
  pub stops_elsewhere : (o y : List ℕ) → Holds (nodes 2 ++ (0x11 ∷ [])) o → o ≡ bytes "cabinets 2\nstopped 0" ++ y → ⊥
  -- and none that finds no room where there is
  pub no_room : (b o : List ℕ) {a : Put} → Printed (lines_of k10_list) b o a → length (text_of k10_list) ≤ length b → a ≡ refused → ⊥
