-- 02, T-09: "It goes round the ordered pairs (1,2), (1,3) and so on to (n,n−1), and then from the start."
use Rattle.std.specs.Prelude.{ℕ, zero, suc, ◌+◌, ◌-◌, ◌*◌, ◌<◌, Bool, ◌⊎◌, ◌≡◌, List, [], ◌∷◌, eqb, leb, ltb}
use Rattle.model.specs.Pick.{pick}
use Rattle.model.specs.Range.{is_pair}
use Rattle.round.specs.declared.Place.{Place}

-- the place of the pair of a and b
abbrev pub pair : ℕ → ℕ → Place
pair a b = record { sender = a; receiver = b }

-- a pair of the round: an ordered pair of the n nodes
abbrev pub is_in_round : ℕ → Place → Bool
is_in_round n p = is_pair n p.sender p.receiver

-- how many pairs the round has
abbrev pub round_size : ℕ → ℕ
round_size n = n * (n - 1)

-- the pair with which the round starts
abbrev pub first_pair : Place
first_pair = pair 1 2

-- the receiver after b, for the sender a: the next number, a itself passed over
unfoldable pub next_receiver : ℕ → ℕ → ℕ
next_receiver a b = pick (eqb (b + 1) a) (b + 2) (b + 1)

-- the pair after p: its sender's next receiver; where there is none, the next sender, from receiver 1 on; where there is none, "then from the start"
unfoldable pub next_pair : ℕ → Place → Place
next_pair n p =
    pick (leb (next_receiver p.sender p.receiver) n)
    (pair p.sender (next_receiver p.sender p.receiver))
    (pick (ltb p.sender n) (pair (p.sender + 1) 1) first_pair)

-- the pair that comes k turns after p
unfoldable pub later : ℕ → ℕ → Place → Place
later n zero p = p
later n (suc k) p = later n k (next_pair n p)

-- k pairs in the order of the round, from p on
unfoldable pub in_order : ℕ → ℕ → Place → List Place
in_order n zero p = []
in_order n (suc k) p = p ∷ in_order n k (next_pair n p)

-- p stands before q: by the sender, and for one sender by the receiver
abbrev pub Before : Place → Place → Type 0
Before p q = (p.sender < q.sender) ⊎ ((p.sender ≡ q.sender) × (p.receiver < q.receiver))
