-- How many bytes a record has.
use Rattle.std.specs.Prelude.{◌≡◌, length, refl}
use Rattle.model.specs.declared.Node.{Node}
use Rattle.model.specs.declared.Message.{Message}
use Rattle.number_bytes.specs.Bytes.{bytes}
use Rattle.table_bytes.specs.Bytes.{parts_bytes, node_bytes, message_bytes}

pub node_long : (c : Node) → length (node_bytes c) ≡ 29
unfolding bytes parts_bytes node_bytes
node_long c = refl

pub message_long : (m : Message) → length (message_bytes m) ≡ 14
unfolding bytes message_bytes
message_long m = refl
