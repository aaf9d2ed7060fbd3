-- What is claimed of the transition system and of its text. The proofs are in proofs/.
use Rattle.std.specs.Prelude.{ℕ, ◌+◌, ◌^◌, ◌≤◌, ◌<◌, ◌≡◌, ◌⊎◌, List, [], ◌∷◌, ◌++◌, map, length, take, get_or}
use Rattle.model.specs.State.{State}
use Rattle.model.specs.Step.{after, run_from}
use Rattle.model.specs.Claims.{Accepts}
use Rattle.model.specs.declared.TaskNo.{TaskNo}
use Rattle.model.specs.declared.Event.{Event}
use Rattle.model.specs.declared.Event.TheVariants.{Crash, Recover, Check, Timeout, Tick, Expire, Finish, Deliver, Lose}
use Rattle.listing.specs.Ascii.{bytes}
use Rattle.listing.specs.Decimal.{decimal, Denotes}
use Rattle.listing.specs.Printing.{joined}
use Rattle.short_lists_text.specs.Rows.{Among, All, Ascending}
use Rattle.short_lists_text.specs.Order.{ListBefore}
use Rattle.short_lists_text.specs.Lists.{lists_from, TaskFits, Legal}
use Rattle.short_lists_text.specs.Claims.{SmallNumbers}
use Rattle.aldebaran_text.specs.System.{states, number_in, Transition, transition, without_last, last_of, transitions}
use Rattle.aldebaran_text.specs.Text.{label, first_line, transition_line, states_of, text_of}

-- ── states ──

-- "by length and then by T-01's order"
abbrev pub StateBefore : List Event → List Event → Type 0
StateBefore l r = (length l < length r) ⊎ ((length l ≡ length r) × ListBefore l r)

-- the list of the state b
abbrev pub list_of : ℕ → State → ℕ → List Event
list_of m s b = get_or (states m s) b []

-- the states of lists of up to m events from s
pub record AllStates (m : ℕ) (s : State) : Type 0 where
  -- each has an accepted list "of length 0 to L", one of T-01's of its length
  pub only : (l : List Event) → Among l (states m s) → Legal (length l) s l × (length l ≤ m)
  -- "a state for each accepted list"
  pub complete : (k : ℕ) (l : List Event) → k ≤ m → Legal k s l → Among l (states m s)
  -- "by length and then by T-01's order"
  pub ascending : Ascending StateBefore (states m s)
  -- so no list has two states
  pub once : (l : List Event) (before rest : List (List Event)) → states m s ≡ before ++ (l ∷ rest) → (Among l before → ⊥) × (Among l rest → ⊥)
  -- "numbered from 0": the state at place b has the number b
  pub number : (b : ℕ) → b < length (states m s) → number_in (states m s) (list_of m s b) ≡ b
  -- the state 0, with which the system begins, is the list of no events
  pub some : 1 ≤ length (states m s)
  pub first : list_of m s 0 ≡ []
  -- the numbers of the states do not depend on L: with a greater L more states come behind them
  pub next_length : states (m + 1) s ≡ states m s ++ lists_from (m + 1) s

-- for every length, and from every table, so from the starting table of every n
abbrev pub EveryState : Type 0
EveryState = (m : ℕ) (s : State) → AllStates m s

-- ── transitions ──

-- how many transitions there are
abbrev pub count_of : ℕ → State → ℕ
count_of m s = length (transitions (states m s))

-- the one at place k from 0 on, whose line is the text's line k + 1 behind the first
abbrev pub transition_at : ℕ → State → ℕ → Transition
transition_at m s k = get_or (transitions (states m s)) k (transition 0 (Crash 0) 0)

-- the transition x into the state b
pub record IsTransition (m : ℕ) (s : State) (b : ℕ) (x : Transition) : Type 0 where
  pub target : x.target ≡ b
  -- its source is a state with a smaller number
  pub smaller : x.source < b
  -- "b's list is a's with one event more"
  pub one_more : list_of m s b ≡ list_of m s x.source ++ (x.event ∷ [])
  -- it follows that a's list is b's without its last event, which is the transition's
  pub shorter : list_of m s x.source ≡ without_last (list_of m s b)
  pub last : x.event ≡ last_of (list_of m s b)
  -- the machine accepts the event on the table that a's list leads to, and then has the table that b's list leads to
  pub accepts : Accepts (run_from s (list_of m s x.source)) x.event
  pub table_after : after (run_from s (list_of m s x.source)) x.event ≡ run_from s (list_of m s b)

-- there is a transition from a by e
pub record HasTransition (m : ℕ) (s : State) (a : ℕ) (e : Event) : Type 0 where
  pub place : ℕ
  pub within : place < count_of m s
  pub source : (transition_at m s place).source ≡ a
  pub event : (transition_at m s place).event ≡ e

pub record AllTransitions (m : ℕ) (s : State) : Type 0 where
  -- there is one less than there are states: of the text's two counts, t = s - 1
  pub count : count_of m s + 1 ≡ length (states m s)
  -- "ordered by b": line k + 1 behind the first is that of the transition into the state k + 1
  pub each : (k : ℕ) → k < count_of m s → IsTransition m s (k + 1) (transition_at m s k)
  -- none is missing: from each state whose list may have one event more, by each event that the machine accepts there, a finish having task 100
  pub complete : (a : ℕ) (e : Event) → a < length (states m s) → length (list_of m s a) < m → TaskFits e → Accepts (run_from s (list_of m s a)) e → HasTransition m s a e
  -- and no two leave one state by the same event
  pub once : (j k : ℕ) → j < count_of m s → k < count_of m s → (transition_at m s j).source ≡ (transition_at m s k).source → (transition_at m s j).event ≡ (transition_at m s k).event → j ≡ k

abbrev pub EveryTransition : Type 0
EveryTransition = (m : ℕ) (s : State) → AllTransitions m s

-- ── labels ──

-- "the event's name in capitals and its numbers, parted by single spaces", event by event
pub record LabelIs : Type 0 where
  pub crash : (i : ℕ) → label (Crash i) ≡ bytes "CRASH " ++ decimal i
  pub recover : (i : ℕ) → label (Recover i) ≡ bytes "RECOVER " ++ decimal i
  pub check : (i : ℕ) → label (Check i) ≡ bytes "CHECK " ++ decimal i
  pub timeout : (i : ℕ) → label (Timeout i) ≡ bytes "TIMEOUT " ++ decimal i
  pub tick : (i : ℕ) → label (Tick i) ≡ bytes "TICK " ++ decimal i
  pub expire : (i : ℕ) → label (Expire i) ≡ bytes "EXPIRE " ++ decimal i
  pub finish : (i : ℕ) (t : TaskNo) → label (Finish i t) ≡ bytes "FINISH " ++ (decimal i ++ (bytes " " ++ decimal t.number))
  pub deliver : (a b : ℕ) → label (Deliver a b) ≡ bytes "DELIVER " ++ (decimal a ++ (bytes " " ++ decimal b))
  pub lose : (a b : ℕ) → label (Lose a b) ≡ bytes "LOSE " ++ (decimal a ++ (bytes " " ++ decimal b))
  -- two things that a reader asks of a label between quotation marks: neither a quotation mark (34) nor a line's end (10) is in it
  pub quotable : (e : Event) → All (λ b. (b ≡ 34 → ⊥) × (b ≡ 10 → ⊥)) (label e)
  -- different events whose numbers are below 2 ^ 32 have different labels
  pub distinct : (e f : Event) → SmallNumbers e → SmallNumbers f → label e ≡ label f → e ≡ f

-- ── the text ──

-- l is the line `des (0, t, s)`: in place of t and s stand digits that denote them
pub record IsFirstLine (t s : ℕ) (l : List ℕ) : Type 0 where
  pub transitions : List ℕ
  pub states : List ℕ
  pub denotes_t : Denotes transitions t
  pub denotes_s : Denotes states s
  pub whole : l ≡ bytes "des (0, " ++ (transitions ++ (bytes ", " ++ (states ++ bytes ")\n")))

-- l is the line `(a, "LABEL", b)` of the transition x
pub record IsLineOf (x : Transition) (l : List ℕ) : Type 0 where
  pub source : List ℕ
  pub target : List ℕ
  pub denotes_a : Denotes source x.source
  pub denotes_b : Denotes target x.target
  pub whole : l ≡ bytes "(" ++ (source ++ (bytes ", \"" ++ (label x.event ++ (bytes "\", " ++ (target ++ bytes ")\n")))))

-- 0x0A is the last byte of l, and stands nowhere else in it
pub record OneLine (l : List ℕ) : Type 0 where
  pub body : List ℕ
  pub ends : l ≡ body ++ bytes "\n"
  pub inside : All (λ b. b ≡ 10 → ⊥) body

-- a transition whose numbers are below 2 ^ 32, as those of every text are
pub record Small (x : Transition) : Type 0 where
  pub source : x.source < 2 ^ 32
  pub event : SmallNumbers x.event
  pub target : x.target < 2 ^ 32

-- the text of every input that is allowed
pub record SystemText : Type 0 where
  -- the first line, "Then come t lines"
  pub lines : (n m : ℕ) → 1 ≤ n → n ≤ 3 → m ≤ 4 → text_of (n ∷ m ∷ []) ≡ first_line (length (transitions (states_of n m))) (length (states_of n m)) ++ joined (map transition_line (transitions (states_of n m)))
  -- "The first line is `des (0, t, s)`", "lines `(a, "LABEL", b)`"
  pub first : (n m : ℕ) → 1 ≤ n → n ≤ 3 → m ≤ 4 → IsFirstLine (length (transitions (states_of n m))) (length (states_of n m)) (first_line (length (transitions (states_of n m))) (length (states_of n m)))
  pub each : (n m : ℕ) → 1 ≤ n → n ≤ 3 → m ≤ 4 → All (λ x. IsLineOf x (transition_line x)) (transitions (states_of n m))
  -- there are at most 601 states, and all numbers are small
  pub few : (n m : ℕ) → 1 ≤ n → n ≤ 3 → m ≤ 4 → length (states_of n m) ≤ 601
  pub small : (n m : ℕ) → 1 ≤ n → n ≤ 3 → m ≤ 4 → All Small (transitions (states_of n m))

-- from a line its transition can be told, and from all lines of a text both counts and all transitions
pub record TransitionLinesDetermine : Type 0 where
  -- each is one line: 0x0A is its last byte, and stands nowhere else in it
  pub one_line : (x : Transition) → OneLine (transition_line x)
  pub first_one_line : (t s : ℕ) → OneLine (first_line t s)
  pub line : (x y : Transition) → Small x → Small y → transition_line x ≡ transition_line y → x ≡ y
  pub text : (t s u v : ℕ) (xs ys : List Transition) → t < 2 ^ 32 → s < 2 ^ 32 → u < 2 ^ 32 → v < 2 ^ 32 → All Small xs → All Small ys
      → first_line t s ++ joined (map transition_line xs) ≡ first_line u v ++ joined (map transition_line ys) → (t ≡ u) × (s ≡ v) × (xs ≡ ys)

-- no text, of any input, has more than 32,768 bytes
pub record TextLength : Type 0 where
  pub most : (l : List ℕ) → length (text_of l) ≤ 32768

-- 22, "input not exactly the two bytes n and L, n outside 1 to 3 or L outside 0 to 4": the text of every other input
pub record RefusedInputs : Type 0 where
  pub not_two : (l : List ℕ) → (length l ≡ 2 → ⊥) → text_of l ≡ bytes "stopped 0 22\n"
  pub no_nodes : (m : ℕ) → text_of (0 ∷ m ∷ []) ≡ bytes "stopped 0 22\n"
  pub too_many : (n m : ℕ) → 3 < n → text_of (n ∷ m ∷ []) ≡ bytes "stopped 0 22\n"
  pub too_long : (n m : ℕ) → 4 < m → text_of (n ∷ m ∷ []) ≡ bytes "stopped 0 22\n"
  -- so it is enough to read three bytes of an input
  pub first_three : (l : List ℕ) → text_of (take 3 l) ≡ text_of l
