-- What owning a table, or eight records, tells of it: the arrays' lengths, and that each number fits its width. The paths below follow the order of the fields in crate model.
use Prim.Native.Nat.{ℕ}
use mathlib.Core.Path.{◌≡◌, refl, sym, ap, subst}
use mathlib.Core.List.{List, [], ◌∷◌, map}
use native.Mathlib.Omega.{arith}
use lib.ListN.{length}
use mir.Val.{Val}
use denote.Laws.{Is}
use denote.Array.{Array}
use denote.Builtin.{u32}
use denote.RattleType.{RattleType}
use denote.Struct.Declared as struct
use denote.Enum.Declared as enum
use Rattle.model.specs.declared.Activity.{Activity}
use Rattle.model.specs.declared.Activity.TheVariants.{Idle, Asking, Waiting, Inviting, Collecting, Handing, Contacting, Forwarding, Accepting}
use Rattle.model.specs.declared.Node.{Node}
use Rattle.model.specs.declared.Message.{Message}
use Rattle.model.specs.declared.Table.{Table}
use Rattle.model.specs.contracts.Activity as activity
use Rattle.model.specs.contracts.Node as node
use Rattle.model.specs.contracts.Message as message
use Rattle.model.specs.contracts.Table as table
use Rattle.number_bytes.specs.Bytes.{Each}
use Rattle.number_bytes.proofs.Widths.{array_fits}
use Rattle.table_bytes.specs.Bytes.{parts_of, PartsFit, NodeFits, MessageFits, CountFits, Fits}

parts_fit : (a : Activity) {vs : List Val} → Is (enum.row activity.the_type) a vs → PartsFit (parts_of a)
parts_fit Idle g = record { tag = omega arith; set = omega arith; former = omega arith; node = omega arith; caller = omega arith; call = omega arith }
parts_fit (Asking asked found) g =
    let f = g.1.1.1.1 in
    record { tag = omega arith; set = f.1.0.1; former = omega arith; node = f.0.1; caller = omega arith; call = omega arith }
parts_fit (Waiting ticks found) g =
    let f = g.1.1.1.1 in
    record { tag = omega arith; set = f.1.0.1; former = omega arith; node = f.0.1; caller = omega arith; call = omega arith }
parts_fit (Inviting found former now) g =
    let f = g.1.1.1.1 in
    record { tag = omega arith; set = f.0.1; former = f.1.0.1; node = f.1.1.0.1; caller = omega arith; call = omega arith }
parts_fit Collecting g = record { tag = omega arith; set = omega arith; former = omega arith; node = omega arith; caller = omega arith; call = omega arith }
parts_fit (Handing rest now) g =
    let f = g.1.1.1.1 in
    record { tag = omega arith; set = f.0.1; former = omega arith; node = f.1.0.1; caller = omega arith; call = omega arith }
parts_fit Contacting g = record { tag = omega arith; set = omega arith; former = omega arith; node = omega arith; caller = omega arith; call = omega arith }
parts_fit (Forwarding rest now caller call) g =
    let f = g.1.1.1.1 in
    record { tag = omega arith; set = f.0.1; former = omega arith; node = f.1.0.1; caller = f.1.1.0.1; call = f.1.1.1.0.1.1.0.1 }
parts_fit (Accepting caller call) g =
    let f = g.1.1.1.1 in
    record { tag = omega arith; set = omega arith; former = omega arith; node = omega arith; caller = f.0.1; call = f.1.0.1.1.0.1 }

pub node_fits : (c : Node) {vs : List Val} → Is (struct.row node.the_type) c vs → NodeFits c
node_fits c g =
    let f = g.1.1 in
    let h = f.1.1.1.1 in
    record {
      counter = f.1.0.1;
      group = f.1.1.0.1.1.0.1;
      coordinator = f.1.1.1.0.1;
      task = h.0.1.1.0.1;
      members = h.1.0.1;
      last = h.1.1.0.1.1.0.1;
      activity = parts_fit c.activity h.1.1.1.0;
    }

message_fits : (m : Message) {vs : List Val} → Is (struct.row message.the_type) m vs → MessageFits m
message_fits m g =
    let f = g.1.1 in
    let h = f.1.1.1 in
    record {
      sender = f.0.1;
      receiver = f.1.0.1;
      kind = f.1.1.0.1;
      call = h.0.1.1.0.1;
      group = h.1.0.1.1.0.1;
      task = h.1.1.0.1.1.0.1;
    }

map_identity : {A : Type 0} (xs : List A) → map (λ x. x) xs ≡ xs
map_identity [] = refl
map_identity {A} (x ∷ xs) = ap (λ (r : List A). x ∷ r) (map_identity xs)

-- an array owned: its length, and what owning an element tells of each
owned_array : (R : RattleType) (P : R.Denot → Type 0) → ((x : R.Denot) (vs : List Val) → Is R x vs → P x) → (k : ℕ) (xs : List R.Denot) {vs : List Val} → Is (Array R k) xs vs → (length xs ≡ k) × Each P xs
owned_array R P fits k xs {vs} g = array_fits R (λ x. x) P fits k xs {vs = vs} (subst (λ (l : List R.Denot). Is (Array R k) l vs) (sym (map_identity xs)) g)

pub records_fit : (k : ℕ) (xs : List Node) {vs : List Val} → Is (Array (struct.row node.the_type) k) xs vs → (length xs ≡ k) × Each NodeFits xs
records_fit k xs {vs} g = owned_array (struct.row node.the_type) NodeFits (λ c us f. node_fits c {vs = us} f) k xs {vs = vs} g

messages_fit : (xs : List Message) {vs : List Val} → Is (Array (struct.row message.the_type) 64) xs vs → (length xs ≡ 64) × Each MessageFits xs
messages_fit xs {vs} g = owned_array (struct.row message.the_type) MessageFits (λ m us f. message_fits m {vs = us} f) 64 xs {vs = vs} g

counts_fit : (xs : List ℕ) {vs : List Val} → Is (Array u32 256) xs vs → (length xs ≡ 256) × Each CountFits xs
counts_fit xs {vs} g = owned_array u32 CountFits (λ x us f. f.1) 256 xs {vs = vs} g

pub table_fits : (t : Table) {vs : List Val} → Is (struct.row table.the_type) t vs → Fits t
table_fits t g =
    let k = g.1.1 in
    let f = k.1 in
    let h = f.1.1.1 in
    let m = f.0.1.1 in
    record {
      n = k.0.1;
      limits = (m.0.1, m.1.0.1);
      nodes = records_fit 16 t.nodes f.1.0;
      messages = messages_fit t.messages f.1.1.0;
      waiting = h.0.1;
      sent = counts_fit t.sent h.1.0;
      delivered = counts_fit t.delivered h.1.1.0;
      lost = counts_fit t.lost h.1.1.1.0;
    }
