-- T-01: "every list of exactly that many events that the machine accepts one after another from the starting table"; here from any table. A node is 01's cabinet.
use Rattle.std.specs.Prelude.{ℕ, zero, suc, Bool, true, false, ◌≡◌, List, [], ◌∷◌, ◌++◌, map, eqb, length}
use Rattle.model.specs.Pick.{pick}
use Rattle.model.specs.State.{State}
use Rattle.model.specs.Step.{Result, refused, accepted, step, after}
use Rattle.model.specs.declared.Event.{Event}
use Rattle.model.specs.declared.Event.TheVariants.{Crash, Recover, Check, Timeout, Tick, Expire, Finish, Deliver, Lose}
use Rattle.short_lists_text.specs.Rows.{All, concat_map}

-- ── the events that may stand in a list ──

-- "Finish uses task 100 only."
abbrev pub only_task : ℕ
only_task = 100

-- c numbers from k up
unfoldable pub up_from : ℕ → ℕ → List ℕ
up_from k zero = []
up_from k (suc c) = k ∷ up_from (suc k) c

-- the nodes 1 to n
abbrev pub nodes_of : ℕ → List ℕ
nodes_of n = up_from 1 n

-- those that are not i
unfoldable pub without : ℕ → List ℕ → List ℕ
without i [] = []
without i (j ∷ js) = pick (eqb j i) (without i js) (j ∷ without i js)

-- an event of two different nodes, for each such pair: (1,2), (1,3) and so on to (n,n-1)
unfoldable pub pairs_of : (ℕ → ℕ → Event) → ℕ → List Event
pairs_of f n = concat_map (λ a. map (f a) (without a (nodes_of n))) (nodes_of n)

-- the alphabet: the events of which lists for n nodes are made, in the order "tag first, then contents as bytes"
unfoldable pub alphabet : ℕ → List Event
alphabet n =
    map Crash (nodes_of n)
    ++ (map Recover (nodes_of n)
    ++ (map Check (nodes_of n)
    ++ (map Timeout (nodes_of n)
    ++ (map Tick (nodes_of n)
    ++ (map Expire (nodes_of n)
    ++ (map (λ i. Finish i (record { number = only_task })) (nodes_of n)
    ++ (pairs_of Deliver n
    ++ pairs_of Lose n)))))))

-- ── all of them ──

-- e before each of the lists from the state after it, where it is accepted; else none
abbrev pub continued : Event → Result → (State → List (List Event)) → List (List Event)
continued e (refused r) later = []
continued e (accepted u mark) later = map (λ l. e ∷ l) (later u)

-- all lists of m events from s
unfoldable pub lists_from : ℕ → State → List (List Event)
lists_from zero s = [] ∷ []
lists_from (suc m) s = concat_map (λ e. continued e (step s e) (lists_from m)) (alphabet s.n)

-- ── one of them, by 02's words ──

abbrev pub is_accepted : Result → Bool
is_accepted (refused r) = false
is_accepted (accepted u mark) = true

-- "that the machine accepts one after another"
abbrev pub AcceptedFrom : State → List Event → Type 0
AcceptedFrom s [] = Unit {0}
AcceptedFrom s (e ∷ es) = (is_accepted (step s e) ≡ true) × AcceptedFrom (after s e) es

-- "Finish uses task 100 only."
abbrev pub TaskFits : Event → Type 0
TaskFits (Crash i) = Unit {0}
TaskFits (Recover i) = Unit {0}
TaskFits (Check i) = Unit {0}
TaskFits (Timeout i) = Unit {0}
TaskFits (Tick i) = Unit {0}
TaskFits (Expire i) = Unit {0}
TaskFits (Finish i t) = t.number ≡ only_task
TaskFits (Deliver a b) = Unit {0}
TaskFits (Lose a b) = Unit {0}

-- l is a legal list of m events from s
pub record Legal (m : ℕ) (s : State) (l : List Event) : Type 0 where
  -- "of exactly that many events"
  pub long : length l ≡ m
  pub tasks : All TaskFits l
  pub taken : AcceptedFrom s l
