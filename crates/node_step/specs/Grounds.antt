-- The grounds of an event that n, its numbers, its node's record and what the node does decide, in three groups: parts of the table of grounds, each in its order.
use Rattle.std.specs.Prelude.{ℕ, ◌&&◌, List, [], ◌∷◌, eqb}
use Rattle.model.specs.Limits.{counter_end, call_end}
use Rattle.model.specs.Grounds.{Ground, ground}
use Rattle.model.specs.Step.{wrong_number, wrong_task, wrong_status, wrong_activity, not_coordinator, no_majority, forms, is_calling}
use Rattle.model.specs.declared.Node.{Node}
use Rattle.model.specs.declared.Reaction.{Reaction}
use Rattle.model.specs.declared.Event.{Event}

-- by the event's numbers
abbrev pub number_grounds : ℕ → Event → List Ground
number_grounds n e = ground 7 (wrong_number n e) ∷ ground 8 (wrong_task e) ∷ []

-- by the record c of the event's node
abbrev pub node_grounds : ℕ → Node → Event → List Ground
node_grounds n c e =
    ground 9 (wrong_status c.status e)
    ∷ ground 10 (wrong_activity c.activity e)
    ∷ ground 18 (not_coordinator c e)
    ∷ ground 19 (no_majority n c e)
    ∷ []

-- by the ends of the ranges of the node's own numbers; r: what the node does
abbrev pub own_end_grounds : Node → Reaction → List Ground
own_end_grounds c r =
    ground 12 (forms r.mark && eqb c.counter counter_end)
    ∷ ground 13 (is_calling r.outgoing && eqb c.last.number call_end)
    ∷ []
