-- What is claimed of the run step by step. The proofs are in proofs/.
use Rattle.std.specs.Prelude.{ℕ, ◌≤◌, true, ◌≡◌, List, ◌++◌, length}
use Rattle.model.specs.State.{State}
use Rattle.model.specs.Step.{effect}
use Rattle.model.specs.declared.Node.{Node}
use Rattle.model.specs.declared.Event.{Event}
use Rattle.listing.specs.Ascii.{bytes}
use Rattle.listing.specs.Decimal.{decimal}
use Rattle.listing.specs.Lines.{node_line}
use Rattle.short_lists_text.specs.Text.{spaced}
use Rattle.run_list.specs.Text.{text_of}
use Rattle.trace_text.specs.Words.{shown_numbers, same_node}
use Rattle.trace_text.specs.Trace.{changed_lines, trace_text}
use Rattle.trace_text.specs.ReadOff.{read_off}

-- "The bench's text can be read off it": of any bytes at all
abbrev pub BenchReadOff : Type 0
BenchReadOff = (l : List ℕ) → read_off (trace_text l) ≡ text_of l

-- "each record that changed": the records that `same_node` takes for the same are the same
pub record SameRecords : Type 0 where
  pub same : (c d : Node) → same_node c d ≡ true → c ≡ d
  pub itself : (c : Node) → same_node c c ≡ true

-- "as the bench prints it": the bench's line of a node is its number, what the trace shows behind that, and the line's end
abbrev pub ShownAsBench : Type 0
ShownAsBench = (i : ℕ) (c : Node) → node_line i c ≡ decimal i ++ (spaced (shown_numbers c) ++ bytes "\n")

-- an event changes one record at most, so there is one such line at most
abbrev pub OneRecord : Type 0
OneRecord = (s : State) (v : Event) → length (changed_lines 1 s.nodes (effect s v).nodes) ≤ 1
