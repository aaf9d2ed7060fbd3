-- What owning a table tells of it: the array's length, and that each number fits its width. The paths below follow the order of the fields in crate bully_model.
use native.Mathlib.Omega.{arith}
use mathlib.Core.Path.{◌≡◌, refl, sym, ap, subst}
use mathlib.Core.List.{List, [], ◌∷◌, map}
use lib.ListN.{length}
use mir.Val.{Val}
use denote.Laws.{Is}
use denote.Array.{Array}
use denote.Struct.Declared as struct
use denote.Enum.Declared as enum
use Rattle.number_bytes.specs.Bytes.{Each}
use Rattle.number_bytes.proofs.Widths.{array_fits}
use Rattle.bully_model.specs.declared.Place.{Place}
use Rattle.bully_model.specs.declared.Place.TheVariants.{Idle, Asking, Halting, Announcing, Point, Handing, Checking, Contacting}
use Rattle.bully_model.specs.declared.Node.{Node}
use Rattle.bully_model.specs.declared.Table.{Table}
use Rattle.bully_model.specs.contracts.Place as place
use Rattle.bully_model.specs.contracts.Node as node
use Rattle.bully_model.specs.contracts.Table as table
use Rattle.bully_bytes.specs.Bytes.{parts_of, PartsFit, NodeFits, Fits}

parts_fit : (a : Place) {vs : List Val} → Is (enum.row place.the_type) a vs → PartsFit (parts_of a)
parts_fit Idle g = record { tag = omega arith; node = omega arith; still = omega arith }
parts_fit (Asking node) g = record { tag = omega arith; node = g.1.1.1.1.0.1; still = omega arith }
parts_fit (Halting node) g = record { tag = omega arith; node = g.1.1.1.1.0.1; still = omega arith }
parts_fit (Announcing still now) g = let f = g.1.1.1.1 in record { tag = omega arith; node = f.1.0.1; still = f.0.1 }
parts_fit Point g = record { tag = omega arith; node = omega arith; still = omega arith }
parts_fit (Handing still now) g = let f = g.1.1.1.1 in record { tag = omega arith; node = f.1.0.1; still = f.0.1 }
parts_fit (Checking node) g = record { tag = omega arith; node = g.1.1.1.1.0.1; still = omega arith }
parts_fit Contacting g = record { tag = omega arith; node = omega arith; still = omega arith }

node_fits : (c : Node) {vs : List Val} → Is (struct.row node.the_type) c vs → NodeFits c
node_fits c g =
    let f = g.1.1 in
    let h = f.1.1.1.1 in
    record {
      coordinator = f.1.1.0.1;
      task = f.1.1.1.0.1.1.0.1;
      halter = h.0.1;
      up = h.1.0.1;
      place = parts_fit c.place h.1.1.0;
    }

map_identity : {A : Type 0} (xs : List A) → map (λ x. x) xs ≡ xs
map_identity [] = refl
map_identity {A} (x ∷ xs) = ap (λ (r : List A). x ∷ r) (map_identity xs)

records_fit : (cs : List Node) {vs : List Val} → Is (Array (struct.row node.the_type) 16) cs vs → (length cs ≡ 16) × Each NodeFits cs
records_fit cs {vs} g =
    array_fits (struct.row node.the_type) (λ c. c) NodeFits (λ c us f. node_fits c {vs = us} f) 16 cs {vs = vs}
    (subst (λ (l : List Node). Is (Array (struct.row node.the_type) 16) l vs) (sym (map_identity cs)) g)

pub table_fits : (t : Table) {vs : List Val} → Is (struct.row table.the_type) t vs → Fits t
table_fits t {vs} g =
    let f = g.1.1 in
    record { n = f.0.1; nodes = records_fit t.nodes f.1.0 }
