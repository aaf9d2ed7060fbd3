-- The table of T-07 as a state, n nodes; and what the code's table means as one.
use Rattle.std.specs.Prelude.{ℕ, ◌-◌, Bool, false, ◌&&◌, List, ◌∷◌, eqb, leb, length, get_or, set, replicate}
use Rattle.model.specs.Limits.{node_limit}
use Rattle.model.specs.State.{every, first_of}
use Rattle.model.specs.declared.Status.TheVariants.{Down}
use Rattle.bully_model.specs.Range.{node_in_range}
use Rattle.bully_model.specs.declared.Place.TheVariants.{Idle}
use Rattle.bully_model.specs.declared.Node.{Node}
use Rattle.bully_model.specs.declared.Table.{Table}

pub record State : Type 0 where
  pub n : ℕ
  pub nodes : List Node

-- 02: "all Down", as in 01's starting table, "all Down and idle, every number 0, every set empty"; and it does not run
abbrev pub starting_node : Node
starting_node = record { runs = false; status = Down; coordinator = 0; task = record { number = 0 }; halter = 0; up = 0; place = Idle }

abbrev pub start : ℕ → State
start n = record { n = n; nodes = replicate n starting_node }

-- The record of node i, 1 to n. Another number is nobody's, as in 02's "coordinator 0": its record is the starting one, which does not run.
abbrev pub node_at : State → ℕ → Node
node_at s i = get_or (starting_node ∷ s.nodes) i starting_node

-- the state with the record c for node i, 1 to n
abbrev pub stored : State → ℕ → Node → State
stored s i c = record { n = s.n; nodes = set s.nodes (i - 1) c }

-- 1: "n outside 1 to 16" is not in range, nor is a table with a record that is not. There is a record for each node in every state that a table means.
unfoldable pub in_range : State → Bool
in_range s = leb 1 s.n && leb s.n node_limit && eqb (length s.nodes) s.n && every (node_in_range s.n) 1 s.nodes

-- ── the code's table ──

-- What a table means: its first n records. Nothing else of it is looked at.
abbrev pub view : Table → State
view t = record { n = t.n; nodes = first_of t.n starting_node t.nodes }

-- The table of a state. Nothing of it is free: past its n records stands the starting record.
abbrev pub table_of : State → Table
table_of s = record { n = s.n; nodes = first_of node_limit starting_node s.nodes }
