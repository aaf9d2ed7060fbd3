-- What the inner functions compute: the step after grounds 1, 7, 8 and 20, and for an event after 21 too.
use Rattle.std.specs.Prelude.{Result, Ok, Err, ℕ, not, List, ◌∷◌, ◌++◌, eqb}
use Rattle.model.specs.Grounds.{Ground, ground, judged}
use Rattle.model.specs.React.{react}
use Rattle.model.specs.Answers.{refusal_number}
use Rattle.model.specs.declared.Node.{Node}
use Rattle.model.specs.declared.Reaction.{Reaction}
use Rattle.model.specs.declared.Refusal.{Refusal}
use Rattle.model.specs.declared.Message.{Message}
use Rattle.model.specs.declared.Input.{Input}
use Rattle.model.specs.declared.Input.TheVariants.{Receive}
use Rattle.model.specs.declared.Event.{Event}
use Rattle.model.specs.declared.Event.TheVariants.{Deliver}
use Rattle.node_step.specs.Grounds.{node_grounds, own_end_grounds}
use Rattle.controller.specs.Controller as controller
use Rattle.controller.specs.Controller.{refused, accepted, sent_bytes}

-- a judgement, the ground that refuses or what the node does, as a result of the step
abbrev pub result_of : Result Reaction Refusal → controller.Result
result_of (Err g) = refused (refusal_number g)
result_of (Ok r) = accepted r.node (sent_bytes r.outgoing)

-- by the record of node i: 9, 10, 18, 19, 12 and 13
abbrev pub act_grounds : ℕ → ℕ → Node → Event → Input → List Ground
act_grounds n i c e x = node_grounds n c e ++ own_end_grounds c (react n i c x)

-- what the node then does
abbrev pub acts : ℕ → ℕ → Node → Input → controller.Result
acts n i c x = accepted (react n i c x).node (sent_bytes (react n i c x).outgoing)

abbrev pub acted : ℕ → ℕ → Node → Event → Input → controller.Result
acted n i c e x = judged refused (acts n i c x) (act_grounds n i c e x)

-- of a message that is read: 21 before them
abbrev pub received_by : ℕ → ℕ → Node → Message → controller.Result
received_by n i c m =
    judged refused (acts n i c (Receive m)) (ground 21 (not (eqb m.receiver i)) ∷ act_grounds n i c (Deliver m.sender m.receiver) (Receive m))
