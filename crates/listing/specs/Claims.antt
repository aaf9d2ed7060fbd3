-- What is claimed of the printed lines. The proofs are in proofs/Claims.
use Rattle.std.specs.Prelude.{ℕ, ◌^◌, ◌≤◌, ◌<◌, ◌≡◌, true, List, [], ◌∷◌, ◌++◌, length, take, get_or}
use Rattle.node_set.specs.NodeSet.{count}
use Rattle.model.specs.declared.Node.{Node}
use Rattle.model.specs.Counts.{count_places, total}
use Rattle.model.specs.Range.{node_in_range}
use Rattle.model.specs.State.{State, node_at, in_range}
use Rattle.listing.specs.Ascii.{bytes}
use Rattle.listing.specs.Decimal.{decimal, Denotes}
use Rattle.listing.specs.Lines.{cabinets_line, refused_line, stopped_line, node_line, messages_line, turns_line, sent_word, delivered_word, lost_word, total_line, node_lines, table_lines}
use Rattle.listing.specs.Printing.{printed, joined}

-- "numbers have no leading zeros": the digits of every number of 64 bits denote it
abbrev pub DecimalDenotes : Type 0
DecimalDenotes = (x : ℕ) → x < 2 ^ 64 → Denotes (decimal x) x

-- Whatever lines are printed from an offset on, with room or without:
pub record BufferKept : Type 0 where
  -- "bytes before the offset unchanged"
  pub before : (b : List ℕ) (p : ℕ) (xs : List (List ℕ)) → take p (printed b p xs).bytes ≡ take p b
  -- and there are as many bytes as before
  pub long : (b : List ℕ) (p : ℕ) (xs : List (List ℕ)) → length (printed b p xs).bytes ≡ length b

-- of two nodes, all that their lines show behind the number of the node is equal
pub record SameShown (c d : Node) : Type 0 where
  pub status : c.status ≡ d.status
  pub coordinator : c.coordinator ≡ d.coordinator
  pub group : c.group.number ≡ d.group.number
  pub task : c.task.number ≡ d.task.number
  pub counter : c.counter ≡ d.counter
  pub members : count c.members ≡ count d.members

-- of two tables, all that their lines show is equal
pub record SameTable (s t : State) : Type 0 where
  pub n : s.n ≡ t.n
  pub node : (i : ℕ) → 1 ≤ i → i ≤ s.n → SameShown (node_at s i) (node_at t i)
  pub waiting : length s.queue ≡ length t.queue
  pub sent : total s.sent ≡ total t.sent
  pub delivered : total s.delivered ≡ total t.delivered
  pub lost : total s.lost ≡ total t.lost

-- a node whose line has numbers of 32 bits only
pub record SmallNode (c : Node) : Type 0 where
  pub coordinator : c.coordinator < 2 ^ 32
  pub group : c.group.number < 2 ^ 32
  pub task : c.task.number < 2 ^ 32
  pub counter : c.counter < 2 ^ 32
  pub members : count c.members < 2 ^ 32

-- a table whose totals have 64 bits
pub record SmallTotals (s : State) : Type 0 where
  pub sent : total s.sent < 2 ^ 64
  pub delivered : total s.delivered < 2 ^ 64
  pub lost : total s.lost < 2 ^ 64

-- a table whose lines have numbers of 32 bits only, and totals of 64, with as many records as it says
pub record SmallTable (s : State) : Type 0 where
  pub long : length s.nodes ≡ s.n
  pub n : s.n < 2 ^ 32
  pub node : (i : ℕ) → 1 ≤ i → i ≤ s.n → SmallNode (node_at s i)
  pub waiting : length s.queue < 2 ^ 32
  pub totals : SmallTotals s

-- Equal lines have equal numbers, and from the bytes of a table's lines all that they show can be told.
pub record LinesDetermine : Type 0 where
  pub cabinets : (n m : ℕ) → n < 2 ^ 32 → m < 2 ^ 32 → cabinets_line n ≡ cabinets_line m → n ≡ m
  pub refused : (e r f q : ℕ) → e < 2 ^ 32 → r < 2 ^ 32 → f < 2 ^ 32 → q < 2 ^ 32 → refused_line e r ≡ refused_line f q → (e ≡ f) × (r ≡ q)
  pub stopped : (a r b q : ℕ) → a < 2 ^ 32 → r < 2 ^ 32 → b < 2 ^ 32 → q < 2 ^ 32 → stopped_line a r ≡ stopped_line b q → (a ≡ b) × (r ≡ q)
  pub messages : (k j : ℕ) → k < 2 ^ 32 → j < 2 ^ 32 → messages_line k ≡ messages_line j → k ≡ j
  pub turns : (k j : ℕ) → k < 2 ^ 32 → j < 2 ^ 32 → turns_line k ≡ turns_line j → k ≡ j
  pub totals : (word : List ℕ) (x y : ℕ) → x < 2 ^ 64 → y < 2 ^ 64 → total_line word x ≡ total_line word y → x ≡ y
  pub node : (i : ℕ) (c : Node) (j : ℕ) (d : Node) → i < 2 ^ 32 → SmallNode c → j < 2 ^ 32 → SmallNode d → node_line i c ≡ node_line j d → (i ≡ j) × SameShown c d
  -- the lines after one another, as bytes
  pub table : (s t : State) → SmallTable s → SmallTable t → joined (table_lines s) ≡ joined (table_lines t) → SameTable s t
  -- and behind `cabinets n`
  pub whole : (n m : ℕ) (s t : State) → n < 2 ^ 32 → m < 2 ^ 32 → SmallTable s → SmallTable t
      → joined (cabinets_line n ∷ table_lines s) ≡ joined (cabinets_line m ∷ table_lines t) → (n ≡ m) × SameTable s t
  -- what is in range is such
  pub node_in_range_lem : (n i : ℕ) (c : Node) → n ≤ 16 → node_in_range n i c ≡ true → SmallNode c
  pub table_in_range : (s : State) → in_range s ≡ true → SmallTable s

-- ── T-05 ──

-- l is the line of a word and x: the word, a space, digits that denote x, and the line's end
pub record IsTotal (word : List ℕ) (x : ℕ) (l : List ℕ) : Type 0 where
  pub number : List ℕ
  pub denotes : Denotes number x
  pub whole : l ≡ word ++ (bytes " " ++ (number ++ bytes "\n"))

-- "The listing ends with three more lines, `sent`, `delivered` and `lost`, each with its total. The totals equal the sums of the records."
pub record EndsWithTotals (s : State) : Type 0 where
  pub sent : List ℕ
  pub delivered : List ℕ
  pub lost : List ℕ
  pub ends : table_lines s ≡ (node_lines 1 s.nodes ++ (messages_line (length s.queue) ∷ [])) ++ (sent ∷ delivered ∷ lost ∷ [])
  pub is_sent : IsTotal sent_word (total s.sent) sent
  pub is_delivered : IsTotal delivered_word (total s.delivered) delivered
  pub is_lost : IsTotal lost_word (total s.lost) lost

pub record TotalsDenote : Type 0 where
  pub ends : (s : State) → SmallTotals s → EndsWithTotals s
  -- every table has such totals: they are of 256 counts of 32 bits
  pub small : (l : List ℕ) → length l ≡ count_places → ((k : ℕ) → get_or l k 0 < 2 ^ 32) → total l < 2 ^ 40
