-- Laws of the answers' numbers: 0 is that of an accepted event, and of no other.
use Prim.Native.Nat.{ℕ, ◌≤◌}
use native.Mathlib.Omega.{arith}
use mathlib.Core.Path.{◌≡◌, refl, sym}
use mathlib.Core.Bool.{true, false, true≢false}
use lib.Dec.{eqb}
use Rattle.std.specs.Prelude.{Ok, Err}
use Rattle.model.specs.Pick.{pick}
use Rattle.model.specs.Answers.{Answer, Accepted, refusal_number, answer_number, is_accepted}
use Rattle.model.specs.declared.Refusal.{Refusal}
use Rattle.model.specs.declared.Refusal.TheVariants.{NotInRange, WrongNumber, WrongTask, WrongMessage, OtherNode, WrongStatus, WrongActivity, NotCoordinator, NoMajority, NoMessage, CounterAtEnd, CallsAtEnd, QueueFull, SentAtEnd}

pub accepted_zero : (a : Answer) → is_accepted a ≡ true → answer_number a ≡ 0
accepted_zero (Ok u) q = refl
accepted_zero (Err r) q = absurd (true≢false (sym q))

-- a ground has a number above 0
pub ground_some : (r : Refusal) → 1 ≤ refusal_number r
ground_some NotInRange = omega arith
ground_some WrongNumber = omega arith
ground_some WrongTask = omega arith
ground_some WrongMessage = omega arith
ground_some OtherNode = omega arith
ground_some WrongStatus = omega arith
ground_some WrongActivity = omega arith
ground_some NotCoordinator = omega arith
ground_some NoMajority = omega arith
ground_some NoMessage = omega arith
ground_some CounterAtEnd = omega arith
ground_some CallsAtEnd = omega arith
ground_some QueueFull = omega arith
ground_some SentAtEnd = omega arith

-- no refusal is the answer of number 0
pub zero_accepted : (a : Answer) → eqb (answer_number a) 0 ≡ is_accepted a
zero_accepted (Ok u) = refl
zero_accepted (Err NotInRange) = refl
zero_accepted (Err WrongNumber) = refl
zero_accepted (Err WrongTask) = refl
zero_accepted (Err WrongMessage) = refl
zero_accepted (Err OtherNode) = refl
zero_accepted (Err WrongStatus) = refl
zero_accepted (Err WrongActivity) = refl
zero_accepted (Err NotCoordinator) = refl
zero_accepted (Err NoMajority) = refl
zero_accepted (Err NoMessage) = refl
zero_accepted (Err CounterAtEnd) = refl
zero_accepted (Err CallsAtEnd) = refl
zero_accepted (Err QueueFull) = refl
zero_accepted (Err SentAtEnd) = refl

pub refused_some : (a : Answer) → is_accepted a ≡ false → 1 ≤ answer_number a
refused_some (Ok u) q = absurd (true≢false q)
refused_some (Err r) q = ground_some r

pub zero_is : (a : Answer) → answer_number a ≡ 0 → a ≡ Accepted
zero_is (Ok u) h = refl
zero_is (Err r) h = absurd (omega (arith, ground_some r))

-- an answer is known by its number
unfoldable pub answer_of : ℕ → Answer
answer_of r =
    pick (eqb r 1) (Err NotInRange)
    (pick (eqb r 7) (Err WrongNumber)
    (pick (eqb r 8) (Err WrongTask)
    (pick (eqb r 20) (Err WrongMessage)
    (pick (eqb r 21) (Err OtherNode)
    (pick (eqb r 9) (Err WrongStatus)
    (pick (eqb r 10) (Err WrongActivity)
    (pick (eqb r 18) (Err NotCoordinator)
    (pick (eqb r 19) (Err NoMajority)
    (pick (eqb r 11) (Err NoMessage)
    (pick (eqb r 12) (Err CounterAtEnd)
    (pick (eqb r 13) (Err CallsAtEnd)
    (pick (eqb r 14) (Err QueueFull)
    (pick (eqb r 17) (Err SentAtEnd)
    Accepted)))))))))))))

pub answer_back : (a : Answer) → answer_of (answer_number a) ≡ a
unfolding answer_of pick
answer_back (Ok u) = refl
answer_back (Err NotInRange) = refl
answer_back (Err WrongNumber) = refl
answer_back (Err WrongTask) = refl
answer_back (Err WrongMessage) = refl
answer_back (Err OtherNode) = refl
answer_back (Err WrongStatus) = refl
answer_back (Err WrongActivity) = refl
answer_back (Err NotCoordinator) = refl
answer_back (Err NoMajority) = refl
answer_back (Err NoMessage) = refl
answer_back (Err CounterAtEnd) = refl
answer_back (Err CallsAtEnd) = refl
answer_back (Err QueueFull) = refl
answer_back (Err SentAtEnd) = refl
