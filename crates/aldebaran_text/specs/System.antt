-- T-12: the lists of T-01 "up to a length L" as a transition system: its states, their numbers, and its transitions; here from any table s, and L is m.
-- A state is a list of events, not a table (a table is `State`, of model): lists that lead to the same table are states of their own. From a list of L events no transition leads on,
-- though the machine may accept more events there. A node is 01's cabinet.
use Rattle.std.specs.Prelude.{ℕ, zero, suc, ◌-◌, Bool, true, false, ◌&&◌, List, [], ◌∷◌, ◌++◌, eqb, length, take, drop, get_or}
use Rattle.model.specs.Pick.{pick}
use Rattle.model.specs.State.{State}
use Rattle.model.specs.declared.Event.{Event}
use Rattle.model.specs.declared.Event.TheVariants.{Crash}
use Rattle.number_bytes.specs.Bytes.{same_bytes}
use Rattle.short_lists_text.specs.Order.{tag, contents}
use Rattle.short_lists_text.specs.Lists.{lists_from}

-- ── states ──

-- "a state for each accepted list of length 0 to L", "by length and then by T-01's order": `lists_from` are T-01's lists of one length, in its order
unfoldable pub states : ℕ → State → List (List Event)
states zero s = lists_from zero s
states (suc m) s = states m s ++ lists_from (suc m) s

-- ── their numbers ──

-- the same event: the same tag and the same contents, the bytes that T-01's order compares
unfoldable pub same_event : Event → Event → Bool
same_event e f = eqb (tag e) (tag f) && same_bytes (contents e) (contents f)

-- the same events, one after another
unfoldable pub same_list : List Event → List Event → Bool
same_list [] [] = true
same_list [] (f ∷ fs) = false
same_list (e ∷ es) [] = false
same_list (e ∷ es) (f ∷ fs) = same_event e f && same_list es fs

-- "numbered from 0": how many of the states stand before the one whose list is l; of a list that is none of theirs, how many states there are
unfoldable pub number_in : List (List Event) → List Event → ℕ
number_in [] l = 0
number_in (m ∷ ms) l = pick (same_list m l) 0 (suc (number_in ms l))

-- ── transitions ──

-- `(a, "LABEL", b)`: from the state a, by the event, into the state b
pub record Transition : Type 0 where
  pub source : ℕ
  pub event : Event
  pub target : ℕ

abbrev pub transition : ℕ → Event → ℕ → Transition
transition a e b = record { source = a; event = e; target = b }

-- a list without its last event, and that event; the list of no events, which has none, is the state 0, into which no transition leads
abbrev pub without_last : List Event → List Event
without_last l = take (length l - 1) l

abbrev pub last_of : List Event → Event
last_of l = get_or l (length l - 1) (Crash 0)

-- "b's list is a's with one event more": the transition into b, whose list is l, comes from the state whose list is l without its last event
abbrev pub transition_into : List (List Event) → ℕ → List Event → Transition
transition_into ls b l = transition (number_in ls (without_last l)) (last_of l) b

-- f of each of them and of its number, where the first has the number b
unfoldable pub numbered : {A B : Type 0} → (ℕ → A → B) → ℕ → List A → List B
numbered f b [] = []
numbered f b (x ∷ xs) = f b x ∷ numbered f (suc b) xs

-- all of them, "ordered by b": one into each state but 0
unfoldable pub transitions : List (List Event) → List Transition
transitions ls = numbered (transition_into ls) 1 (drop 1 ls)
