-- What the inner functions write.
use Rattle.std.specs.Prelude.{ℕ, List, ◌++◌}
use Rattle.model.specs.declared.Message.{Message}
use Rattle.number_bytes.specs.Bytes.{bytes}
use Rattle.message_fields.specs.Fields.{address_field, call_field}

-- a field's tag and the length of its contents
abbrev pub field_head : ℕ → ℕ → List ℕ
field_head tag k = bytes 1 tag ++ bytes 2 k

-- the two fields that every message has
abbrev pub call_fields : Message → List ℕ
call_fields m = address_field m ++ call_field m
