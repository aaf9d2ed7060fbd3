-- T-05: "the counts taken from the accepted events of the run". The steps say which events of a list are accepted and what they send. What is counted does not look at
-- the table's own counts; whether an event is accepted does, by 1 and 17, neither of which a run meets that starts from a table in range (`StaysInRange.never_one`,
-- `TrafficAgrees.never_seventeen`).
use Rattle.std.specs.Prelude.{ℕ, ◌+◌, ◌&&◌, List, [], ◌∷◌, eqb, length}
use Rattle.model.specs.Counts.{one}
use Rattle.model.specs.State.{State, start_by, waiting}
use Rattle.model.specs.Range.{PairRule}
use Rattle.model.specs.Step.{reaction_to, sent, Result, refused, accepted, step, after}
use Rattle.model.specs.declared.Limits.{Limits}
use Rattle.model.specs.declared.Event.{Event}
use Rattle.model.specs.declared.Event.TheVariants.{Crash, Recover, Check, Timeout, Tick, Expire, Finish, Deliver, Lose}

-- how many messages from a to b the event sends, where it is accepted: 1 or 0
abbrev pub sends : ℕ → ℕ → State → Event → ℕ
sends a b s e = waiting (sent (reaction_to s e).outgoing) a b

-- 1 for a deliver a b
abbrev pub delivers : ℕ → ℕ → State → Event → ℕ
delivers a b s (Crash i) = 0
delivers a b s (Recover i) = 0
delivers a b s (Check i) = 0
delivers a b s (Timeout i) = 0
delivers a b s (Tick i) = 0
delivers a b s (Expire i) = 0
delivers a b s (Finish i t) = 0
delivers a b s (Deliver x y) = one (eqb x a && eqb y b)
delivers a b s (Lose x y) = 0

-- 1 for a lose a b
abbrev pub loses : ℕ → ℕ → State → Event → ℕ
loses a b s (Crash i) = 0
loses a b s (Recover i) = 0
loses a b s (Check i) = 0
loses a b s (Timeout i) = 0
loses a b s (Tick i) = 0
loses a b s (Expire i) = 0
loses a b s (Finish i t) = 0
loses a b s (Deliver x y) = 0
loses a b s (Lose x y) = one (eqb x a && eqb y b)

-- k of an accepted event, nothing of a refused one
abbrev pub of_accepted : ℕ → Result → ℕ
of_accepted k (refused r) = 0
of_accepted k (accepted u m) = k

-- the sum of f over the accepted events of a list, from the state s
unfoldable pub tally : (State → Event → ℕ) → State → List Event → ℕ
tally f s [] = 0
tally f s (e ∷ es) = of_accepted (f s e) (step s e) + tally f (after s e) es

-- how many events of a list are accepted, from the state s on: each gets the table that the one before left, and a refused one leaves it as it is
abbrev pub accepted_from : State → List Event → ℕ
accepted_from s es = tally (λ s e. 1) s es

-- over n, the limits and the list alone, from the starting table: messages sent from a to b, delivered and lost
abbrev pub sent_in : PairRule → ℕ → Limits → List Event → ℕ → ℕ → ℕ
sent_in r n l es a b = tally (sends a b) (start_by r n l) es

abbrev pub delivered_in : PairRule → ℕ → Limits → List Event → ℕ → ℕ → ℕ
delivered_in r n l es a b = tally (delivers a b) (start_by r n l) es

abbrev pub lost_in : PairRule → ℕ → Limits → List Event → ℕ → ℕ → ℕ
lost_in r n l es a b = tally (loses a b) (start_by r n l) es

-- ── of all pairs together ──

-- how many messages the event sends, where it is accepted
abbrev pub sends_any : State → Event → ℕ
sends_any s e = length (sent (reaction_to s e).outgoing)

-- 1 for a deliver
abbrev pub delivers_any : State → Event → ℕ
delivers_any s (Crash i) = 0
delivers_any s (Recover i) = 0
delivers_any s (Check i) = 0
delivers_any s (Timeout i) = 0
delivers_any s (Tick i) = 0
delivers_any s (Expire i) = 0
delivers_any s (Finish i t) = 0
delivers_any s (Deliver a b) = 1
delivers_any s (Lose a b) = 0

-- 1 for a lose
abbrev pub loses_any : State → Event → ℕ
loses_any s (Crash i) = 0
loses_any s (Recover i) = 0
loses_any s (Check i) = 0
loses_any s (Timeout i) = 0
loses_any s (Tick i) = 0
loses_any s (Expire i) = 0
loses_any s (Finish i t) = 0
loses_any s (Deliver a b) = 0
loses_any s (Lose a b) = 1
