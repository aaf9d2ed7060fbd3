-- What owning an outcome tells of it; how many bytes it has, and what is read back from them.
use Prim.Native.Nat.{ℕ, ◌/◌, ◌%◌, ◌≤◌}
use native.Mathlib.Omega.{arith}
use mathlib.Core.Path.{◌≡◌}
use mathlib.Core.List.{List, ◌++◌, append_assoc}
use lib.ListN.{length, get_or, take, drop, replicate, length-append, length-drop}
use lib.Seq.{take-append_seam}
use mir.Val.{Val}
use denote.Laws.{Is}
use denote.Struct.Declared.{row}
use Rattle.model.specs.declared.Node.{Node}
use Rattle.number_bytes.specs.Bytes.{bytes}
use Rattle.number_bytes.proofs.Numbers.{length_bytes, written_over}
use Rattle.table_bytes.specs.Bytes.{node_bytes, parts_bytes, NodeFits}
use Rattle.table_bytes.proofs.Records.{node_long}
use Rattle.table_bytes.proofs.Widths.{node_fits}
use Rattle.message_fields.specs.Fields.{most_bytes, padded}
use Rattle.message_fields.specs.declared.Packet.{Packet}
use Rattle.message_fields.specs.contracts.Packet as packet
use Rattle.controller.specs.declared.ControllerOutcome.{ControllerOutcome}
use Rattle.controller.specs.contracts.ControllerOutcome as outcome
use Rattle.exports_controller.specs.Boundary.{outcome_size}

-- ── what owning an outcome, or a packet, tells of it ──

pub packet_long : (p : Packet) {vs : List Val} → Is (row packet.the_type) p vs → length p.bytes ≡ most_bytes
packet_long p g = g.1.1.0.1.0.1

pub outcome_fits : (q : ControllerOutcome) {vs : List Val} → Is (row outcome.the_type) q vs → NodeFits q.node × (length q.packet.bytes ≡ most_bytes)
outcome_fits q g = (node_fits q.node g.1.1.1.0, packet_long q.packet g.1.1.1.1.0)

-- ── read back ──

-- the record d, and the bytes l of a message or of none
module _ (d : Node) (l : List ℕ) (short : length l ≤ most_bytes) where
  abbrev given : List ℕ
  given = node_bytes d ++ (bytes 1 (length l) ++ padded l)

  over : padded l ≡ l ++ drop (length l) (replicate most_bytes 0)
  over = written_over (replicate most_bytes 0) l short

  padded_long : length (padded l) ≡ most_bytes
  padded_long = rw (over, length-append, length-drop) (omega arith)

  pub given_long : length given ≡ outcome_size
  given_long = rw (length-append, node_long, length-append, length_bytes, padded_long)

  pub given_sent : (r : List ℕ) → take (get_or (given ++ r) 29 0) (drop 30 (given ++ r)) ≡ l
  unfolding bytes parts_bytes node_bytes
  given_sent r =
      let e : length l / 1 % 256 ≡ length l = omega arith in
      rw (e, over, append_assoc) (take-append_seam l _)
