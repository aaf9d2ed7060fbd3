-- The numbers of the cases of the answer: 01's, of which 02 says what 1, 9 and 10 ask here. Accepted, which has none there, is 0.
use Rattle.std.specs.Prelude.{ℕ, Result, Ok, Err}
use Rattle.bully_model.specs.Step as step
use Rattle.bully_model.specs.declared.Refusal.{Refusal}
use Rattle.bully_model.specs.declared.Refusal.TheVariants.{NotInRange, WrongNumber, WrongTask, WrongRunning, WrongPlace}

-- what a step answers: Accepted, or `Err` with the ground of the refusal
abbrev pub Answer : Type 0
Answer = Result (Unit {0}) Refusal

abbrev pub Accepted : Answer
Accepted = Ok tt

-- the number of the refusal
abbrev pub answer_number : Answer → ℕ
answer_number (Ok u) = 0
answer_number (Err NotInRange) = 1
answer_number (Err WrongNumber) = 7
answer_number (Err WrongTask) = 8
answer_number (Err WrongRunning) = 9
answer_number (Err WrongPlace) = 10

-- the same of a result of the definitions
abbrev pub result_number : step.Result → ℕ
result_number (step.refused r) = r
result_number (step.accepted u) = 0
