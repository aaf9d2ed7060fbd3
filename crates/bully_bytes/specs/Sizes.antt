-- How many bytes a record has.
use Rattle.std.specs.Prelude.{◌≡◌, length, refl}
use Rattle.number_bytes.specs.Bytes.{bytes}
use Rattle.bully_model.specs.declared.Node.{Node}
use Rattle.bully_bytes.specs.Bytes.{parts_bytes, node_bytes}

pub node_long : (c : Node) → length (node_bytes c) ≡ 12
unfolding bytes parts_bytes node_bytes
node_long c = refl
