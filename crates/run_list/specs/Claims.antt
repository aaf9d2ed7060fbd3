-- What is claimed of the run behind a printed text. The proof is in proofs/Behind.
use Rattle.std.specs.Prelude.{ℕ, ◌+◌, ◌-◌, ◌≤◌, ◌≡◌, List, ◌∷◌, ◌++◌, length, take, drop}
use Rattle.model.specs.Range.{TwoPairs}
use Rattle.model.specs.State.{start, node_at}
use Rattle.model.specs.Step.{run}
use Rattle.model.specs.Claims.{MayStart, RunHolds}
use Rattle.model.specs.declared.Limits.{Limits}
use Rattle.model.specs.declared.Status.TheVariants.{Normal}
use Rattle.event_list.specs.Format.{Reading}
use Rattle.listing.specs.Lines.{cabinets_line, node_line, messages_line, node_lines, total_lines}
use Rattle.listing.specs.Printing.{joined}
use Rattle.run_list.specs.Text.{refused_lines, ending_lines, run_lines, lines_of, text_of}

-- In the text of the run of r's events: the lines before that of node i,
abbrev pub lines_before : ℕ → Limits → Reading → ℕ → List (List ℕ)
lines_before n lim r i =
    cabinets_line n
    ∷ (refused_lines (start n lim) 1 r.events ++ (ending_lines r.ending ++ node_lines 1 (take (i - 1) (run n lim r.events).nodes)))

-- and those behind it
abbrev pub lines_behind : ℕ → Limits → Reading → ℕ → List (List ℕ)
lines_behind n lim r i = node_lines (i + 1) (drop i (run n lim r.events).nodes) ++ (messages_line (length (run n lim r.events).queue) ∷ total_lines (run n lim r.events))

-- Of any bytes l whose first field is good with n and the limits lim, and which say r behind it: the text is that of a run of r's events, and demand 3 holds of that run.
pub record Behind (l : List ℕ) (n : ℕ) (lim : Limits) (r : Reading) : Type 0 where
  -- the limits are the tower's or the stand's (T-08), and allow n
  pub starts : MayStart TwoPairs n lim
  -- the text is that of the run of r's events from the starting table: the last table printed is `run n lim r.events`
  pub text : text_of l ≡ joined (cabinets_line n ∷ run_lines (start n lim) 1 r)
  -- the line of each node: its fields are those that the run's table has for it, the count of its members too
  pub node_line_lem : (i : ℕ) → 1 ≤ i → i ≤ n → lines_of l ≡ lines_before n lim r i ++ (node_line i (node_at (run n lim r.events) i) ∷ lines_behind n lim r i)
  -- demand 3 of every list of events with n nodes and these limits, so of r's events and each beginning of them; where in the list each task comes from; T-05: the records behind
  -- the totals printed are the counts of the list's accepted events, and no event meets 17; T-10: who starts a full peal counts more than half of n (and what is not claimed:
  -- `PealsByMajority` of model/specs/Claims); and every table is in range
  pub holds : RunHolds TwoPairs n lim
  -- so in the table printed, nodes that are Normal with the same group have the same coordinator and the same task
  pub agree : (i j : ℕ) → 1 ≤ i → i ≤ n → 1 ≤ j → j ≤ n
      → (node_at (run n lim r.events) i).status ≡ Normal → (node_at (run n lim r.events) j).status ≡ Normal
      → (node_at (run n lim r.events) i).group.number ≡ (node_at (run n lim r.events) j).group.number
      → ((node_at (run n lim r.events) i).coordinator ≡ (node_at (run n lim r.events) j).coordinator) × ((node_at (run n lim r.events) i).task.number ≡ (node_at (run n lim r.events) j).task.number)
