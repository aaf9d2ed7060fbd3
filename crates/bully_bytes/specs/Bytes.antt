-- A table of the Bully machine (02, T-07) as 193 bytes, and the table of any bytes. Numbers have their high byte first.
--   table   n 1, 16 nodes of 12 bytes
--   node    runs 1, status 1, coordinator 1, task 2, last halter 1, Up 2, place 4
--   place   tag 1, node 1, still 2; what a place does not have is 0
-- Numbers, records of one size and what a status byte means are in `number_bytes/specs/Bytes`. That a table is read back from its bytes is claimed in Claims.
use Rattle.std.specs.Prelude.{ℕ, ◌%◌, ◌≤◌, ◌<◌, ◌≡◌, List, ◌++◌, eqb, length, drop}
use Rattle.model.specs.Pick.{pick}
use Rattle.model.specs.Answers.{status_number}
use Rattle.number_bytes.specs.Bytes.{number, bytes, many, all, Each, written, status_of, yes_of, yes_number}
use Rattle.bully_model.specs.declared.Place.{Place}
use Rattle.bully_model.specs.declared.Place.TheVariants.{Idle, Asking, Halting, Announcing, Point, Handing, Checking, Contacting}
use Rattle.bully_model.specs.declared.Node.{Node}
use Rattle.bully_model.specs.declared.Table.{Table}
use Rattle.bully_bytes.specs.declared.PlaceParts.{PlaceParts}

-- ── places ──

-- room for each thing that a place can hold
abbrev pub parts : ℕ → ℕ → ℕ → PlaceParts
parts tag node still = record { tag = tag; node = node; still = still }

-- the places in their order, 0 to 7, each with what it holds
abbrev pub parts_of : Place → PlaceParts
parts_of Idle = parts 0 0 0
parts_of (Asking node) = parts 1 node 0
parts_of (Halting node) = parts 2 node 0
parts_of (Announcing still now) = parts 3 now still
parts_of Point = parts 4 0 0
parts_of (Handing still now) = parts 5 now still
parts_of (Checking node) = parts 6 node 0
parts_of Contacting = parts 7 0 0

-- the place of any parts: the tag counts modulo 8, and what the place does not have is not looked at
unfoldable pub place_of : PlaceParts → Place
place_of p =
    pick (eqb (p.tag % 8) 0) Idle
    (pick (eqb (p.tag % 8) 1) (Asking p.node)
    (pick (eqb (p.tag % 8) 2) (Halting p.node)
    (pick (eqb (p.tag % 8) 3) (Announcing p.still p.node)
    (pick (eqb (p.tag % 8) 4) Point
    (pick (eqb (p.tag % 8) 5) (Handing p.still p.node)
    (pick (eqb (p.tag % 8) 6) (Checking p.node)
    Contacting))))))

-- ── what bytes mean ──

unfoldable pub node_of : List ℕ → Node
node_of l = record {
  runs = yes_of (number 1 l 0);
  status = status_of (number 1 l 1);
  coordinator = number 1 l 2;
  task = record { number = number 2 l 3 };
  halter = number 1 l 5;
  up = number 2 l 6;
  place = place_of (parts (number 1 l 8) (number 1 l 9) (number 2 l 10));
}

-- the table of any bytes, in range or not
unfoldable pub decoded : List ℕ → Table
decoded l = record {
  n = number 1 l 0;
  nodes = many node_of 12 16 (drop 1 l);
}

-- ── the bytes of a table ──

unfoldable pub parts_bytes : PlaceParts → List ℕ
parts_bytes p = bytes 1 p.tag ++ bytes 1 p.node ++ bytes 2 p.still

unfoldable pub node_bytes : Node → List ℕ
node_bytes c =
    bytes 1 (yes_number c.runs) ++ bytes 1 (status_number c.status) ++ bytes 1 c.coordinator ++ bytes 2 c.task.number
    ++ bytes 1 c.halter ++ bytes 2 c.up ++ parts_bytes (parts_of c.place)

-- how many they are
abbrev pub size : ℕ
size = 193

unfoldable pub encoded : Table → List ℕ
encoded t = bytes 1 t.n ++ all node_bytes t.nodes

-- What writing the table t into a buffer that held b leaves there, o.
pub record Stored (t : Table) (b o : List ℕ) : Type 0 where
  -- its bytes over the start of b, as many as b has room for
  pub bytes : o ≡ written b 0 (encoded t)
  -- where b has room for all, they stand there whole, and behind them what was there
  pub whole : size ≤ length b → o ≡ encoded t ++ drop size b
  -- and the very same table is read back
  pub back : size ≤ length b → decoded o ≡ t

-- ── what the types of a table's fields hold: every table of the code fits, `table_fits` of proofs/Widths ──

pub record PartsFit (p : PlaceParts) : Type 0 where
  pub tag : p.tag < 256
  pub node : p.node < 256
  pub still : p.still < 65536

pub record NodeFits (c : Node) : Type 0 where
  pub coordinator : c.coordinator < 256
  pub task : c.task.number < 65536
  pub halter : c.halter < 256
  pub up : c.up < 65536
  pub place : PartsFit (parts_of c.place)

pub record Fits (t : Table) : Type 0 where
  pub n : t.n < 256
  pub nodes : (length t.nodes ≡ 16) × Each NodeFits t.nodes
