-- What is claimed of the turns behind a printed text. The proof is in proofs/Behind.
use Rattle.std.specs.Prelude.{ℕ, ◌≤◌, ◌*◌, ◌≡◌, List, ◌∷◌, ◌++◌, length, replicate}
use Rattle.model.specs.Range.{TwoPairs}
use Rattle.model.specs.State.{State, start, node_at}
use Rattle.model.specs.Step.{run}
use Rattle.model.specs.Claims.{MayStart, RunHolds}
use Rattle.model.specs.declared.Limits.{Limits}
use Rattle.model.specs.declared.Event.{Event}
use Rattle.model.specs.declared.Status.TheVariants.{Normal}
use Rattle.event_list.specs.Format.{Reading, begun, reading}
use Rattle.listing.specs.Lines.{cabinets_line, messages_line, total_lines, node_lines, table_lines}
use Rattle.listing.specs.Printing.{joined}
use Rattle.round.specs.Order.{round_size, first_pair}
use Rattle.round.specs.Schedule.{turn, drive, events_of}
use Rattle.run_list.specs.Text.{run_lines_with}
use Rattle.rest_bound.specs.Potential.{rest_bound}
use Rattle.rest_bound.specs.Turns.{turns_to_rest, table_at_rest}
use Rattle.rest_bound.specs.Claims.{RestsAfter}
use Rattle.rest_list.specs.Text.{rest_lines, rest_text_of}

-- the last table of the list's run, before the turns
abbrev pub last_table : ℕ → Limits → Reading → State
last_table n lim r = run n lim r.events

-- the events of the turns behind it: each a deliver or a lose
abbrev pub turn_events : ℕ → Limits → Reading → List Event
turn_events n lim r = events_of (drive (last_table n lim r) first_pair) (replicate (turns_to_rest (last_table n lim r)) turn)

-- Of any bytes l whose first field is good with n and the limits lim, and which say r behind it:
pub record RestBehind (l : List ℕ) (n : ℕ) (lim : Limits) (r : Reading) : Type 0 where
  -- the limits are the tower's or the stand's (T-08), and allow n
  pub starts : MayStart TwoPairs n lim
  -- the text is the bench program's, and in place of its table the number of turns and the table behind them
  pub text : rest_text_of l ≡ joined (cabinets_line n ∷ run_lines_with rest_lines (start n lim) 1 r)
  -- after so many turns from the first pair on no message waits, and after fewer some did
  pub rests : RestsAfter (drive (last_table n lim r) first_pair) (turns_to_rest (last_table n lim r))
  -- they are at most bound × n × (n − 1), by the definition of their number; that these are enough is said in `rests`
  pub within : turns_to_rest (last_table n lim r) ≤ rest_bound n (length (last_table n lim r).queue) * round_size n
  -- so the line behind those of the nodes is `messages 0`
  pub messages : table_lines (table_at_rest (last_table n lim r)) ≡ node_lines 1 (table_at_rest (last_table n lim r)).nodes ++ (messages_line 0 ∷ total_lines (table_at_rest (last_table n lim r)))
  -- The table printed is that of a run: of the list's events, and behind them those of the turns.
  pub is_run : table_at_rest (last_table n lim r) ≡ run n lim (r.events ++ turn_events n lim r)
  -- So demand 3 and all else that holds of runs holds of it;
  pub holds : RunHolds TwoPairs n lim
  -- and nodes that are Normal in it with the same group have the same coordinator and the same task
  pub agree : (i j : ℕ) → 1 ≤ i → i ≤ n → 1 ≤ j → j ≤ n
      → (node_at (table_at_rest (last_table n lim r)) i).status ≡ Normal → (node_at (table_at_rest (last_table n lim r)) j).status ≡ Normal
      → (node_at (table_at_rest (last_table n lim r)) i).group.number ≡ (node_at (table_at_rest (last_table n lim r)) j).group.number
      → ((node_at (table_at_rest (last_table n lim r)) i).coordinator ≡ (node_at (table_at_rest (last_table n lim r)) j).coordinator)
      × ((node_at (table_at_rest (last_table n lim r)) i).task.number ≡ (node_at (table_at_rest (last_table n lim r)) j).task.number)

-- of all such bytes
abbrev pub AllRestBehind : Type 0
AllRestBehind = (l : List ℕ) (n : ℕ) (lim : Limits) (r : Reading) → reading l ≡ begun n lim r → RestBehind l n lim r
