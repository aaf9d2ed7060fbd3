-- What a printed text tells: two lists with the same text have the same n, the same refused events with their numbers, the same ending, and tables that show the same.
-- The proof is in proofs/Shows.
use Rattle.std.specs.Prelude.{ℕ, ◌+◌, ◌≡◌, List, [], ◌∷◌, ◌++◌, eqb}
use Rattle.model.specs.Pick.{pick}
use Rattle.model.specs.State.{State, start}
use Rattle.model.specs.Step.{step, after, run}
use Rattle.model.specs.Answers.{result_number}
use Rattle.model.specs.declared.Limits.{Limits}
use Rattle.model.specs.declared.Event.{Event}
use Rattle.event_list.specs.declared.Stop.{Stop}
use Rattle.event_list.specs.Format.{Reading, failed, begun, reading}
use Rattle.listing.specs.Claims.{SameTable}
use Rattle.run_list.specs.Text.{text_of}

-- "e counts events from 1, r the number"
pub record Refusal : Type 0 where
  pub event : ℕ
  pub number : ℕ

-- the refused events of a run from s, the first event of which is event e
unfoldable pub refusals : State → ℕ → List Event → List Refusal
refusals s e [] = []
refusals s e (v ∷ vs) = pick (eqb (result_number (step s v)) 0) [] (record { event = e; number = result_number (step s v) } ∷ []) ++ refusals (after s v) (e + 1) vs

-- all that the texts of two lists show is equal, where these have n and m nodes with the limits x and y, which are not shown, and say r and q behind the first field
pub record SameText (n : ℕ) (x : Limits) (r : Reading) (m : ℕ) (y : Limits) (q : Reading) : Type 0 where
  pub nodes : n ≡ m
  pub refused : refusals (start n x) 1 r.events ≡ refusals (start m y) 1 q.events
  pub ending : r.ending ≡ q.ending
  -- the last table, "the table so far"
  pub table : SameTable (run n x r.events) (run m y q.events)

-- Of any bytes l and k:
pub record TextDetermines : Type 0 where
  pub read : (l k : List ℕ) (n m : ℕ) (x y : Limits) (r q : Reading) → reading l ≡ begun n x r → reading k ≡ begun m y q → text_of l ≡ text_of k → SameText n x r m y q
  -- where the whole list or the first field failed: by the same refusal
  pub refused : (l k : List ℕ) (s t : Stop) → reading l ≡ failed s → reading k ≡ failed t → text_of l ≡ text_of k → s ≡ t
  -- and such a text is no text of the others
  pub apart : (l k : List ℕ) (s : Stop) (m : ℕ) (y : Limits) (q : Reading) → reading l ≡ failed s → reading k ≡ begun m y q → text_of l ≡ text_of k → ⊥
