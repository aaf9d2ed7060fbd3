-- Single rounds and single turns, for each rule of T-09. The tables with two nodes are those of model/specs/Cases: node 1 is Normal in its own group, and node 2 is given.
use Rattle.std.specs.Prelude.{ℕ, false, ◌≡◌, List, [], ◌∷◌, ◌++◌, map}
use Rattle.model.specs.Limits.{tower}
use Rattle.model.specs.State.{State, start, all_waiting}
use Rattle.model.specs.Cases.{call_no, group_no, beside, node, none, past, invitation, question, plain, reply, queued, only, with_counts}
use Rattle.model.specs.Cases as cases
use Rattle.model.specs.Counts.{no_counts}
use Rattle.model.specs.Node.{asks, calls}
use Rattle.model.specs.declared.Status.TheVariants.{Down, Election, Normal}
use Rattle.model.specs.declared.Activity.TheVariants.{Idle, Contacting, Accepting}
use Rattle.round.specs.Order.{pair, round_size, next_pair, in_order}
use Rattle.round.specs.Turn.{turn_refused, turn_accepted, turn_at, done_number}
use Rattle.round.specs.declared.Place.{Place}
use Rattle.round.specs.declared.Done.TheVariants.{Nothing, Delivered, Lost}

-- the two numbers of each pair
abbrev pub numbers_of : List Place → List (List ℕ)
numbers_of l = map (λ p. p.sender ∷ p.receiver ∷ []) l

-- node 2, Normal in node 1's group, calls its coordinator; its counter is k
abbrev pub contacting : ℕ → State
contacting k = beside (node Normal k 16 1 1 none 3 Contacting) (reply 3 false)

-- node 2, Normal in its own group, with the last call number k, is invited by node 1
abbrev pub called_at : ℕ → State
called_at k = beside (node Normal 2 33 2 100 none k Idle) (invitation 16)

pub record RoundCases : Type 0 where
  -- "(1,2), (1,3) and so on to (n,n−1), and then from the start": n = 2, 3 and 4, and one pair more
  pub two : numbers_of (in_order 2 3 (pair 1 2)) ≡ (1 ∷ 2 ∷ []) ∷ (2 ∷ 1 ∷ []) ∷ (1 ∷ 2 ∷ []) ∷ []
  pub three : numbers_of (in_order 3 7 (pair 1 2))
      ≡ (1 ∷ 2 ∷ []) ∷ (1 ∷ 3 ∷ []) ∷ (2 ∷ 1 ∷ []) ∷ (2 ∷ 3 ∷ []) ∷ (3 ∷ 1 ∷ []) ∷ (3 ∷ 2 ∷ []) ∷ (1 ∷ 2 ∷ []) ∷ []
  pub four : numbers_of (in_order 4 13 (pair 1 2))
      ≡ (1 ∷ 2 ∷ [])
      ∷ (1 ∷ 3 ∷ [])
      ∷ (1 ∷ 4 ∷ [])
      ∷ (2 ∷ 1 ∷ [])
      ∷ (2 ∷ 3 ∷ [])
      ∷ (2 ∷ 4 ∷ [])
      ∷ (3 ∷ 1 ∷ [])
      ∷ (3 ∷ 2 ∷ [])
      ∷ (3 ∷ 4 ∷ [])
      ∷ (4 ∷ 1 ∷ [])
      ∷ (4 ∷ 2 ∷ [])
      ∷ (4 ∷ 3 ∷ [])
      ∷ (1 ∷ 2 ∷ [])
      ∷ []
  -- 16 nodes: a sender's last receiver, the sender passed over, and the end of the round
  pub next_sender : next_pair 16 (pair 1 16) ≡ pair 2 1
  pub passed_over : next_pair 16 (pair 9 8) ≡ pair 9 10
  pub last_sender : next_pair 16 (pair 15 16) ≡ pair 16 1
  pub round_ends : next_pair 16 (pair 16 15) ≡ pair 1 2
  -- how many pairs: of the tower, and of the stand
  pub of_tower : round_size 16 ≡ 240
  pub of_stand : round_size 4 ≡ 12
  -- "With n = 1 a turn does nothing": at 1 and 2, at 0 and 0, at 9 and 9; the place stays
  pub alone : turn_at (start 1 tower) (pair 1 2) ≡ turn_accepted (start 1 tower) (pair 1 2) Nothing
  pub alone_none : turn_at (start 1 tower) (pair 0 0) ≡ turn_accepted (start 1 tower) (pair 0 0) Nothing
  pub alone_same : turn_at (start 1 tower) (pair 9 9) ≡ turn_accepted (start 1 tower) (pair 9 9) Nothing
  -- "else a place in the round that is no such pair meets 7": a number of 0, one above n, and twice the same; (2,1) is the last pair of two nodes
  pub sender_none : turn_at (start 2 tower) (pair 0 1) ≡ turn_refused 7
  pub sender_high : turn_at (start 2 tower) (pair 3 1) ≡ turn_refused 7
  pub receiver_none : turn_at (start 2 tower) (pair 1 0) ≡ turn_refused 7
  pub receiver_high : turn_at (start 2 tower) (pair 1 3) ≡ turn_refused 7
  pub same_twice : turn_at (start 2 tower) (pair 2 2) ≡ turn_refused 7
  pub last_pair : turn_at (start 2 tower) (pair 2 1) ≡ turn_accepted (start 2 tower) (pair 1 2) Nothing
  -- a table that is not in range meets 1, with a place that is no pair, with n = 1 and with n = 0 too
  pub range_first : turn_at (with_counts [] (only 1 2 1) no_counts no_counts) (pair 1 2) ≡ turn_refused 1
  pub range_no_pair : turn_at (with_counts [] (only 1 2 1) no_counts no_counts) (pair 2 2) ≡ turn_refused 1
  pub range_alone : turn_at (all_waiting 1 tower [] []) (pair 1 2) ≡ turn_refused 1
  pub range_none : turn_at (start 0 tower) (pair 1 2) ≡ turn_refused 1
  -- "with no message it does nothing": the question from 1 to 2 is not looked at from 2 to 1
  pub no_message_lem : turn_at (cases.pair Normal none Idle question) (pair 2 1) ≡ turn_accepted (cases.pair Normal none Idle question) (pair 1 2) Nothing
  -- "with a Down receiver it loses the oldest", which counts as lost alone
  pub down : turn_at (cases.pair Down none Idle question) (pair 1 2) ≡ turn_accepted (past 1 2 0 1 (cases.pair Down none Idle [])) (pair 2 1) Lost
  -- "else it delivers it": node 2 replies
  pub delivered : turn_at (cases.pair Normal none Idle question) (pair 1 2) ≡ turn_accepted (past 1 2 1 0 (cases.pair Normal none Idle plain)) (pair 2 1) Delivered
  -- "A delivery that meets 12 .. becomes a loss.": the no to a contacting node, which cannot recover; with one group left it does
  pub twelve : turn_at (contacting 1048575) (pair 1 2) ≡ turn_accepted (past 1 2 0 1 (beside (node Normal 1048575 16 1 1 none 3 Contacting) [])) (pair 2 1) Lost
  pub not_twelve : turn_at (contacting 1048574) (pair 1 2) ≡ turn_accepted (past 1 2 1 0 (beside (node Normal 1048575 16777201 2 2 none 3 Idle) [])) (pair 2 1) Delivered
  -- 13: the invitation of a node that has no call left to accept it
  pub thirteen : turn_at (called_at 16777215) (pair 1 2) ≡ turn_accepted (past 1 2 0 1 (beside (node Normal 2 33 2 100 none 16777215 Idle) [])) (pair 2 1) Lost
  pub not_thirteen : turn_at (called_at 16777214) (pair 1 2)
      ≡ turn_accepted (past 1 2 1 0 (beside (node Election 2 16 1 100 none 16777215 (Accepting 1 (call_no 3))) (calls 2 4 1 (call_no 16777215) (group_no 16) ∷ []))) (pair 2 1) Delivered
  -- 17: the question of a node to which no reply can be sent
  pub seventeen : turn_at (past 2 1 33554430 0 (cases.pair Normal none Idle question)) (pair 1 2)
      ≡ turn_accepted (past 1 2 0 1 (past 2 1 33554430 0 (cases.pair Normal none Idle []))) (pair 2 1) Lost
  pub not_seventeen : turn_at (past 2 1 33554429 0 (cases.pair Normal none Idle question)) (pair 1 2)
      ≡ turn_accepted (past 1 2 1 0 (past 2 1 33554429 0 (cases.pair Normal none Idle plain))) (pair 2 1) Delivered
  -- the oldest of two goes, and the other stays
  pub oldest_lost : turn_at (cases.pair Down none Idle (asks 1 2 (call_no 2) ∷ question)) (pair 1 2) ≡ turn_accepted (past 1 2 0 1 (cases.pair Down none Idle question)) (pair 2 1) Lost
  -- with 64 waiting a delivery passes, though node 2 replies
  pub full : turn_at (cases.pair Normal none Idle (question ++ queued 63)) (pair 1 2) ≡ turn_accepted (past 1 2 1 0 (cases.pair Normal none Idle (queued 63 ++ plain))) (pair 2 1) Delivered
  -- the numbers of what was done
  pub done_numbers : done_number Nothing ∷ done_number Delivered ∷ done_number Lost ∷ [] ≡ 0 ∷ 1 ∷ 2 ∷ []
