-- A table that fits is read back from its bytes: the claims `ReadBack`.
use Prim.Native.Nat.{ℕ, ◌≤◌}
use mathlib.Core.Path.{◌≡◌, refl, ◌∙◌, ap}
use mathlib.Core.List.{List, [], ◌++◌, append_assoc, append-nil}
use lib.ListN.{length, drop}
use Rattle.model.specs.Pick.{pick}
use Rattle.model.specs.Answers.{status_number}
use Rattle.number_bytes.specs.Bytes.{number, bytes, many, written, yes_number}
use Rattle.number_bytes.proofs.Numbers.{read, length_bytes, written_over}
use Rattle.number_bytes.proofs.Records.{many_back, status_back, status_small, yes_back, yes_small}
use Rattle.bully_model.specs.declared.Place.{Place}
use Rattle.bully_model.specs.declared.Place.TheVariants.{Idle, Asking, Halting, Announcing, Point, Handing, Checking, Contacting}
use Rattle.bully_model.specs.declared.Node.{Node}
use Rattle.bully_model.specs.declared.Table.{Table}
use Rattle.bully_bytes.specs.Bytes.{parts_of, place_of, node_of, decoded, parts_bytes, node_bytes, size, encoded, Stored, NodeFits, Fits}
use Rattle.bully_bytes.specs.Claims.{ReadBack}
use Rattle.bully_bytes.proofs.Records.{node_long, encoded_size}

place_back : (a : Place) → place_of (parts_of a) ≡ a
unfolding place_of pick
place_back Idle = refl
place_back (Asking node) = refl
place_back (Halting node) = refl
place_back (Announcing still now) = refl
place_back Point = refl
place_back (Handing still now) = refl
place_back (Checking node) = refl
place_back Contacting = refl

node_back : (c : Node) → NodeFits c → (l : List ℕ) → node_of (node_bytes c ++ l) ≡ c
unfolding number bytes node_of parts_bytes node_bytes
node_back c h l =
    let p = parts_of c.place in
    let a = h.place in
    rw (read 1 (yes_number c.runs) (yes_small c.runs), read 1 (status_number c.status) (status_small c.status), read 1 c.coordinator h.coordinator, read 2 c.task.number h.task, read 1 c.halter h.halter, read 2 c.up h.up)
    (rw (read 1 p.tag a.tag, read 1 p.node a.node, read 2 p.still a.still, yes_back, status_back, place_back c.place))

module _ (t : Table) (h : Fits t) (l : List ℕ) where
  n_back : number 1 (encoded t ++ l) 0 ≡ t.n
  unfolding number bytes encoded
  n_back = read 1 t.n h.n

  nodes_back : many node_of 12 16 (drop 1 (encoded t ++ l)) ≡ t.nodes
  unfolding encoded
  nodes_back = rw append_assoc (many_back node_of node_bytes 12 node_long NodeFits node_back 16 1 (bytes 1 t.n) t.nodes (length_bytes 1 t.n) h.nodes l)

  -- also where more bytes come after them
  decode_more : decoded (encoded t ++ l) ≡ t
  unfolding decoded
  decode_more = rw (n_back, nodes_back)

decode_encode : (t : Table) → Fits t → decoded (encoded t) ≡ t
decode_encode t h = rw (← append-nil (encoded t)) (decode_more t h [])

encoded_long : (t : Table) → Fits t → length (encoded t) ≡ size
encoded_long t h = encoded_size t h.nodes.0

over : (t : Table) → Fits t → (out : List ℕ) → size ≤ length out → written out 0 (encoded t) ≡ encoded t ++ drop size out
over t h out room =
    let e = encoded_long t h in
    written_over out (encoded t) (rw e room) ∙ rw e

round_trip : (t : Table) → Fits t → (out : List ℕ) → size ≤ length out → decoded (written out 0 (encoded t)) ≡ t
round_trip t h out room = rw (over t h out room) (decode_more t h _)

pub read_back : ReadBack
read_back = record { long = encoded_long; decode_encode = decode_encode; decode_more = decode_more; round_trip = round_trip }

-- what `encode` leaves in a buffer
pub stored : (t : Table) → Fits t → (b o : List ℕ) → o ≡ written b 0 (encoded t) → Stored t b o
stored t h b o e = record { bytes = e; whole = λ room. e ∙ over t h b room; back = λ room. ap decoded e ∙ round_trip t h b room }
