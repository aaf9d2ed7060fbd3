-- What nevraspu_turn promises (02, T-09): for any bytes at all, the number that is answered and what the lent buffer then holds.
use Rattle.std.specs.Prelude.{ℕ, ◌+◌, ◌≡◌, List, [], ◌∷◌, ◌++◌, get_or}
use Rattle.model.specs.State.{State}
use Rattle.round.specs.Order.{pair}
use Rattle.round.specs.Turn.{Turn, turn_at, turn_number, table_after, place_after, done_in, done_number}
use Rattle.round.specs.declared.Place.{Place}
use Rattle.round.specs.declared.Done.{Done}
use Rattle.number_bytes.specs.Bytes.{number_in, buffer_in}
use Rattle.table_bytes.specs.Bytes.{size}
use Rattle.exports.specs.Boundary.{state_of, state_bytes}

-- the bytes of a table, and three more
abbrev pub turn_size : ℕ
turn_size = size + 3

-- the turn on the table whose bytes are t, at the place of a and b
abbrev pub turn_on : List ℕ → ℕ → ℕ → Turn
turn_on t a b = turn_at (state_of t) (pair a b)

-- behind the table: the place of the next turn, and what was done
abbrev pub behind_table : Place → Done → List ℕ
behind_table p d = p.sender ∷ p.receiver ∷ done_number d ∷ []

-- what is given out where the turn is accepted
abbrev pub turn_given : State → Place → Turn → List ℕ
turn_given s p x = state_bytes (table_after s x) ++ behind_table (place_after p x) (done_in x)

-- What is answered, with a lent buffer that holds l. Whether it has room is looked at first; then the refusal of the turn, or 0
unfoldable pub turn_answer : List ℕ → ℕ → ℕ → List ℕ → ℕ
turn_answer t a b l = number_in turn_size l (turn_number (turn_on t a b))

-- what the buffer then holds
unfoldable pub turn_bytes : List ℕ → ℕ → ℕ → List ℕ → List ℕ
turn_bytes t a b l = buffer_in turn_size l (turn_answer t a b l) (turn_given (state_of t) (pair a b) (turn_on t a b))

-- r: what is answered, o: what the buffer then holds
pub record TurnExported (t : List ℕ) (a b : ℕ) (l o : List ℕ) (r : ℕ) : Type 0 where
  pub number : r ≡ turn_answer t a b l
  pub buffer : o ≡ turn_bytes t a b l
  -- handed in again, the buffer means the state after the turn, and the two bytes behind it the place of the next turn
  pub back : r ≡ 0 → state_of o ≡ table_after (state_of t) (turn_on t a b)
  pub back_place : r ≡ 0 → pair (get_or o size 0) (get_or o (size + 1) 0) ≡ place_after (pair a b) (turn_on t a b)
