-- What the inner functions read, and leave in a buffer. No promise of a public function needs this file.
use Rattle.std.specs.Prelude.{Some, None, Ok, Err, ◌≡◌, List, ◌++◌, ℕ}
use Rattle.model.specs.Answers.{answer_number}
use Rattle.number_bytes.specs.Bytes.{bytes, buffer_in}
use Rattle.table_bytes.specs.Bytes.{node_of, node_bytes}
use Rattle.event_list.specs.declared.Stop.TheVariants.{CutShort}
use Rattle.event_list.specs.Format.{Next}
use Rattle.message_fields.specs.declared.Packet.{Packet}
use Rattle.controller.specs.declared.ControllerOutcome.{ControllerOutcome}
use Rattle.exports_controller.specs.Field.{FieldRead, local_of}
use Rattle.exports_controller.specs.Boundary.{outcome_size}

-- what the list reader's answer is to a controller
abbrev pub read_as : Next → FieldRead
read_as (Ok None) = Err CutShort
read_as (Err s) = Err s
read_as (Ok (Some (e, k))) = local_of e

-- a packet: how many of its bytes are a message's, and all of its bytes
abbrev pub packet_bytes : Packet → List ℕ
packet_bytes p = bytes 1 p.length ++ p.bytes

-- the outcome q over the start of a buffer with room for it, which held b and then holds o; x: what is answered
pub record Answered (q : ControllerOutcome) (b o : List ℕ) (x : ℕ) : Type 0 where
  pub number : x ≡ answer_number q.answer
  pub buffer : o ≡ buffer_in outcome_size b x (node_bytes q.node ++ packet_bytes q.packet)
  -- handed in again as a record, where it is accepted
  pub back : x ≡ 0 → node_of o ≡ q.node
