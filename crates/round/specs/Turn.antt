-- 02, T-09: a turn of the driver, on one table at one place of the round.
use Rattle.std.specs.Prelude.{ℕ, Bool, false, not, ◌&&◌, ◌||◌, List, [], ◌∷◌, eqb}
use Rattle.model.specs.Pick.{pick}
use Rattle.model.specs.Grounds.{Ground, ground, judged}
use Rattle.model.specs.Node.{is_down}
use Rattle.model.specs.State.{State, node_at, waits, in_range}
use Rattle.model.specs.Step.{Result, refused, accepted, step, run_from}
use Rattle.model.specs.declared.Event.{Event}
use Rattle.model.specs.declared.Event.TheVariants.{Deliver, Lose}
use Rattle.round.specs.Order.{is_in_round, next_pair}
use Rattle.round.specs.declared.Place.{Place}
use Rattle.round.specs.declared.Done.{Done}
use Rattle.round.specs.declared.Done.TheVariants.{Nothing, Delivered, Lost}

-- "A delivery that meets 12, 13 or 17"
abbrev pub meets_end : Result → Bool
meets_end (refused r) = eqb r 12 || eqb r 13 || eqb r 17
meets_end (accepted u k) = false

-- "Each turn looks at one pair: with no message it does nothing, with a Down receiver it loses the oldest, else it delivers it. A delivery that meets 12, 13 or 17 becomes a loss."
unfoldable pub turn_does : State → Place → Done
turn_does s p =
    pick (not (waits p.sender p.receiver s.queue)) Nothing
    (pick (is_down (node_at s p.receiver).status) Lost
    (pick (meets_end (step s (Deliver p.sender p.receiver))) Lost
    Delivered))

-- the event that the turn makes, if any; deliver and lose take the oldest message of the pair
abbrev pub event_of : Place → Done → List Event
event_of p Nothing = []
event_of p Delivered = Deliver p.sender p.receiver ∷ []
event_of p Lost = Lose p.sender p.receiver ∷ []

-- a turn is refused with a ground's number, or accepted: the table after it, the place of the next turn, and what was done
pub data Turn : Type 0 where
  turn_refused : ℕ → Turn
  turn_accepted : State → Place → Done → Turn

-- its grounds: 1 as for every event, "not in range"; and "With n = 1 a turn does nothing; else a place in the round that is no such pair meets 7."
unfoldable pub turn_grounds : State → Place → List Ground
turn_grounds s p =
    ground 1 (not (in_range s))
    ∷ ground 7 (not (eqb s.n 1) && not (is_in_round s.n p))
    ∷ []

-- the turn where none applies: "With n = 1 a turn does nothing", and the place stays, as the round has no pair
unfoldable pub looked_at : State → Place → Turn
looked_at s p =
    pick (eqb s.n 1) (turn_accepted s p Nothing)
    (turn_accepted (run_from s (event_of p (turn_does s p))) (next_pair s.n p) (turn_does s p))

-- by the first ground that applies
unfoldable pub turn_at : State → Place → Turn
turn_at s p = judged turn_refused (looked_at s p) (turn_grounds s p)

-- ── read off a turn, on the table s and at the place p ──

-- the number of the refusal; 0 where it is accepted
abbrev pub turn_number : Turn → ℕ
turn_number (turn_refused r) = r
turn_number (turn_accepted u q d) = 0

-- the table, and the place of the next turn: a refusal leaves both as they were
abbrev pub table_after : State → Turn → State
table_after s (turn_refused r) = s
table_after s (turn_accepted u q d) = u

abbrev pub place_after : Place → Turn → Place
place_after p (turn_refused r) = p
place_after p (turn_accepted u q d) = q

-- what was done
abbrev pub done_in : Turn → Done
done_in (turn_refused r) = Nothing
done_in (turn_accepted u q d) = d

-- its numbers where it is written as a byte: 0 nothing, 1 delivered, 2 lost
abbrev pub done_number : Done → ℕ
done_number Nothing = 0
done_number Delivered = 1
done_number Lost = 2
