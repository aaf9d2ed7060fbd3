-- Controllers that are shut out: no outcome that meets the promise is theirs. Each field says of any n, own number i, record c and event or bytes what such an outcome can't be. The proofs are in proofs/Mutants.
use Rattle.std.specs.Prelude.{ℕ, true, false, ◌≡◌, List, take, Err}
use Rattle.model.specs.Node.{is_down}
use Rattle.model.specs.Limits.{counter_end}
use Rattle.model.specs.Range.{is_given_task}
use Rattle.model.specs.declared.Node.{Node}
use Rattle.model.specs.declared.TaskNo.{TaskNo}
use Rattle.model.specs.Answers.{Accepted}
use Rattle.model.specs.declared.Refusal.TheVariants.{OtherNode, WrongStatus, NoMessage, QueueFull, SentAtEnd}
use Rattle.message_fields.specs.Fields.{message_in, is_message}
use Rattle.controller.specs.declared.LocalEvent.TheVariants.{Recover, Finish}
use Rattle.controller.specs.declared.ControllerOutcome.{ControllerOutcome}
use Rattle.controller.specs.Controller.{Incoming, event, message, in_range_for, is_for_other}
use Rattle.controller.specs.Stepped.{ControllerStepped}

pub record NoOtherController : Type 0 where
  -- one that turns every event away, or answers "accepted" and moves nothing: a Down node whose counter is not at its end recovers
  pub turns_away : (n i : ℕ) (c : Node) (r : ControllerOutcome) → ControllerStepped n i c (event (Recover i)) r → in_range_for n i c ≡ true → is_down c.status ≡ true → (c.counter ≡ counter_end → ⊥)
      → (r.answer ≡ Accepted → ⊥) → ⊥
  pub moves_nothing : (n i : ℕ) (c : Node) (r : ControllerOutcome) → ControllerStepped n i c (event (Recover i)) r → in_range_for n i c ≡ true → is_down c.status ≡ true → (c.counter ≡ counter_end → ⊥)
      → r.node ≡ c → ⊥
  -- one that does not look at the record, n or its own number
  pub any_record : (n i : ℕ) (c : Node) (x : Incoming) (r : ControllerOutcome) → ControllerStepped n i c x r → in_range_for n i c ≡ false → r.answer ≡ Accepted → ⊥
  -- one that takes bytes which are no message, and one that takes an event or message for another node
  pub any_bytes : (n i : ℕ) (c : Node) (l : List ℕ) (r : ControllerOutcome) → ControllerStepped n i c (message l) r → is_message n l ≡ false → r.answer ≡ Accepted → ⊥
  pub any_node : (n i : ℕ) (c : Node) (x : Incoming) (r : ControllerOutcome) → ControllerStepped n i c x r → is_for_other i x ≡ true → r.answer ≡ Accepted → ⊥
  -- one that looks for whom they are before it looks what they are: 21 before 8, or before 20
  pub other_before_task : (n i j : ℕ) (t : TaskNo) (c : Node) (r : ControllerOutcome) → ControllerStepped n i c (event (Finish j t)) r → is_given_task t.number ≡ false → r.answer ≡ Err OtherNode → ⊥
  pub other_before_bytes : (n i : ℕ) (c : Node) (l : List ℕ) (r : ControllerOutcome) → ControllerStepped n i c (message l) r → is_message n l ≡ false → r.answer ≡ Err OtherNode → ⊥
  -- one that looks at its status before it looks for whom they are: 9 before 21
  pub status_before_other : (n i : ℕ) (c : Node) (x : Incoming) (r : ControllerOutcome) → ControllerStepped n i c x r → is_for_other i x ≡ true → r.answer ≡ Err WrongStatus → ⊥
  -- one that answers for the queue: 11, 14 or 17
  pub none_waits_lem : (n i : ℕ) (c : Node) (x : Incoming) (r : ControllerOutcome) → ControllerStepped n i c x r → r.answer ≡ Err NoMessage → ⊥
  pub queue_full : (n i : ℕ) (c : Node) (x : Incoming) (r : ControllerOutcome) → ControllerStepped n i c x r → r.answer ≡ Err QueueFull → ⊥
  pub sent_at_end : (n i : ℕ) (c : Node) (x : Incoming) (r : ControllerOutcome) → ControllerStepped n i c x r → r.answer ≡ Err SentAtEnd → ⊥
  -- one whose refusal changes the record, or sends something
  pub refused_moves : (n i : ℕ) (c : Node) (x : Incoming) (r : ControllerOutcome) → ControllerStepped n i c x r → (r.answer ≡ Accepted → ⊥) → (r.node ≡ c → ⊥) → ⊥
  pub refused_sends : (n i : ℕ) (c : Node) (x : Incoming) (r : ControllerOutcome) → ControllerStepped n i c x r → (r.answer ≡ Accepted → ⊥) → (r.packet.length ≡ 0 → ⊥) → ⊥
  -- one that sends what is no message, or in another node's name
  pub sends_none : (n i : ℕ) (c : Node) (x : Incoming) (r : ControllerOutcome) → ControllerStepped n i c x r → r.answer ≡ Accepted → (r.packet.length ≡ 0 → ⊥)
      → is_message n (take r.packet.length r.packet.bytes) ≡ false → ⊥
  pub other_name : (n i : ℕ) (c : Node) (x : Incoming) (r : ControllerOutcome) → ControllerStepped n i c x r → r.answer ≡ Accepted → (r.packet.length ≡ 0 → ⊥)
      → ((message_in (take r.packet.length r.packet.bytes)).sender ≡ i → ⊥) → ⊥
