-- Document 01's numbers, and 02's, for the cases of the enums that are answered or printed. Accepted, which has none there, is 0.
use Rattle.std.specs.Prelude.{ℕ, Bool, Result, Ok, Err, is_ok}
use Rattle.model.specs.Step as step
use Rattle.model.specs.Step.{refused, accepted}
use Rattle.model.specs.declared.Status.{Status}
use Rattle.model.specs.declared.Status.TheVariants.{Down, Election, Reorganization, Normal}
use Rattle.model.specs.declared.StartRefusal.{StartRefusal}
use Rattle.model.specs.declared.StartRefusal.TheVariants.{WrongLimits, WrongCount}
use Rattle.model.specs.declared.Refusal.{Refusal}
use Rattle.model.specs.declared.Refusal.TheVariants.{NotInRange, WrongNumber, WrongTask, WrongMessage, OtherNode, WrongStatus, WrongActivity, NotCoordinator, NoMajority, NoMessage, CounterAtEnd, CallsAtEnd, QueueFull, SentAtEnd}

-- what the starting data of a table are answered with: Started, or `Err` with the ground of the refusal
abbrev pub StartAnswer : Type 0
StartAnswer = Result (Unit {0}) StartRefusal

abbrev pub Started : StartAnswer
Started = Ok tt

-- what a step answers: Accepted, or `Err` with the ground of the refusal
abbrev pub Answer : Type 0
Answer = Result (Unit {0}) Refusal

abbrev pub Accepted : Answer
Accepted = Ok tt

-- "status: 0 Down, 1 Election, 2 Reorganization, 3 Normal"
abbrev pub status_number : Status → ℕ
status_number Down = 0
status_number Election = 1
status_number Reorganization = 2
status_number Normal = 3

-- the number of the refusal of a starting table
abbrev pub start_number : StartAnswer → ℕ
start_number (Ok u) = 0
start_number (Err WrongLimits) = 1
start_number (Err WrongCount) = 6

-- the number of a ground
abbrev pub refusal_number : Refusal → ℕ
refusal_number NotInRange = 1
refusal_number WrongNumber = 7
refusal_number WrongTask = 8
refusal_number WrongMessage = 20
refusal_number OtherNode = 21
refusal_number WrongStatus = 9
refusal_number WrongActivity = 10
refusal_number NotCoordinator = 18
refusal_number NoMajority = 19
refusal_number NoMessage = 11
refusal_number CounterAtEnd = 12
refusal_number CallsAtEnd = 13
refusal_number QueueFull = 14
refusal_number SentAtEnd = 17

-- the number of the refusal
abbrev pub answer_number : Answer → ℕ
answer_number (Ok u) = 0
answer_number (Err r) = refusal_number r

-- the same of a result of the definitions
abbrev pub result_number : step.Result → ℕ
result_number (refused r) = r
result_number (accepted u k) = 0

-- whether no refusal is answered
abbrev pub is_accepted : Answer → Bool
is_accepted a = is_ok a
