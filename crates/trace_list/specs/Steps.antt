-- A step that is accepted, between two of the code's tables.
use Rattle.std.specs.Prelude.{◌≡◌}
use Rattle.model.specs.State.{view}
use Rattle.model.specs.Step.{reaction_to, accepted, step}
use Rattle.model.specs.declared.Table.{Table}
use Rattle.model.specs.declared.Event.{Event}

-- the event v is accepted on the table t, which is then u
abbrev pub Moves : Table → Event → Table → Type 0
Moves t v u = step (view t) v ≡ accepted (view u) (reaction_to (view t) v).mark
