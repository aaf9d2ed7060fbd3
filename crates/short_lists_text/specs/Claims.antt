-- What is claimed of the lists and of their text. The proofs are in proofs/.
use Rattle.std.specs.Prelude.{ℕ, zero, suc, ◌^◌, ◌≤◌, ◌<◌, Bool, true, false, ◌||◌, ◌≡◌, ◌⊎◌, List, [], ◌∷◌, ◌++◌, map, eqb, length, take}
use Rattle.model.specs.Limits.{tower}
use Rattle.model.specs.Pick.{pick}
use Rattle.model.specs.State.{State, start}
use Rattle.model.specs.Step.{Result, refused, accepted, step, kept, run_from}
use Rattle.model.specs.Answers.{result_number}
use Rattle.model.specs.Claims.{Accepts, step_without_nineteen}
use Rattle.model.specs.declared.TaskNo.{TaskNo}
use Rattle.model.specs.declared.Mark.TheVariants.{Plain}
use Rattle.model.specs.declared.Event.{Event}
use Rattle.model.specs.declared.Event.TheVariants.{Crash, Recover, Check, Timeout, Tick, Expire, Finish, Deliver, Lose}
use Rattle.event_list.specs.Format.{event_tag, length_of, event_of}
use Rattle.listing.specs.Ascii.{bytes}
use Rattle.listing.specs.Decimal.{Denotes}
use Rattle.listing.specs.Printing.{joined}
use Rattle.short_lists_text.specs.Rows.{Among, All, Ascending, concat_map}
use Rattle.short_lists_text.specs.Order.{tag, contents, BytesBefore, Before, ListBefore}
use Rattle.short_lists_text.specs.Lists.{alphabet, continued, lists_from, is_accepted, Legal}
use Rattle.short_lists_text.specs.Text.{numbers_of, event_text, events_text, list_line, count_line, lines_of, text_of}

-- the lists of m events from s
pub record AllLists (m : ℕ) (s : State) : Type 0 where
  -- each of them is a legal list of m events from s
  pub only : (l : List Event) → Among l (lists_from m s) → Legal m s l
  -- "none is missing"
  pub complete : (l : List Event) → Legal m s l → Among l (lists_from m s)
  -- they stand in 02's order
  pub ascending : Ascending ListBefore (lists_from m s)
  -- "Each list appears once": one that is at a place is at no earlier and at no later one. It follows from `ascending` and `StrictOrder.never_itself`
  pub once : (l : List Event) (before after : List (List Event)) → lists_from m s ≡ before ++ (l ∷ after) → (Among l before → ⊥) × (Among l after → ⊥)

-- for every length, and from every state, so from the starting table of every n
abbrev pub EveryList : Type 0
EveryList = (m : ℕ) (s : State) → AllLists m s

-- l by 01's own words for a run, without recursion: a legal list of m events from s
pub record LegalByRun (m : ℕ) (s : State) (l : List Event) : Type 0 where
  pub long : length l ≡ m
  -- "that the machine accepts one after another": each event is accepted in the state that those before it lead to
  pub accepts : (before : List Event) (e : Event) (after : List Event) → l ≡ before ++ (e ∷ after) → Accepts (run_from s before) e
  -- "Finish uses task 100 only."
  pub tasks : (before : List Event) (i : ℕ) (t : TaskNo) (after : List Event) → l ≡ before ++ (Finish i t ∷ after) → t.number ≡ 100

pub record LegalIs : Type 0 where
  pub by_run : (m : ℕ) (s : State) (l : List Event) → Legal m s l → LegalByRun m s l
  pub from_run : (m : ℕ) (s : State) (l : List Event) → LegalByRun m s l → Legal m s l

-- 02's order is a strict total order: no list is before itself; what is before a list is before all lists that come after that one; and of two different lists one is
-- before the other.
pub record StrictOrder : Type 0 where
  pub never_itself : (l : List Event) → ListBefore l l → ⊥
  pub passes_on : (l m r : List Event) → ListBefore l m → ListBefore m r → ListBefore l r
  pub compares : (l m : List Event) → ListBefore l m ⊎ ((l ≡ m) ⊎ ListBefore m l)

-- xs and ys agree up to a place, where x and y stand, which may be equal
pub record Part {A : Type 0} (xs ys : List A) (x y : A) : Type 0 where
  pub same : List A
  pub left : List A
  pub right : List A
  pub first : xs ≡ same ++ (x ∷ left)
  pub second : ys ≡ same ++ (y ∷ right)

-- xs is the beginning of ys, which is longer
pub record Begins {A : Type 0} (xs ys : List A) : Type 0 where
  pub next : A
  pub more : List A
  pub is : ys ≡ xs ++ (next ∷ more)

-- "The order compares lists event by event, tag first, then contents as bytes.", without recursion
pub record OrderIs : Type 0 where
  -- "event by event": the first event that differs decides
  pub events : (l m : List Event) (e f : Event) → Part l m e f → Before e f → ListBefore l m
  pub events_only : (l m : List Event) (e f : Event) → Part l m e f → ListBefore l m → Before e f ⊎ (e ≡ f)
  pub shorter : (l m : List Event) → Begins l m → ListBefore l m
  -- "tag first"
  pub tag_first : (e f : Event) → tag e < tag f → Before e f
  pub tag_only : (e f : Event) → Before e f → tag e ≤ tag f
  -- "then contents"
  pub contents_next : (e f : Event) → tag e ≡ tag f → BytesBefore (contents e) (contents f) → Before e f
  pub contents_only : (e f : Event) → tag e ≡ tag f → Before e f → BytesBefore (contents e) (contents f)
  -- "as bytes": the first byte that differs decides
  pub bytes_first : (c d : List ℕ) (x y : ℕ) → Part c d x y → x < y → BytesBefore c d
  pub bytes_only : (c d : List ℕ) (x y : ℕ) → Part c d x y → BytesBefore c d → x ≤ y
  pub bytes_shorter : (c d : List ℕ) → Begins c d → BytesBefore c d

-- "n from 1 to 3 and a length from 0 to 7": the lists are fewer than 2 ^ 32
pub record FewLists : Type 0 where
  pub few : (n m : ℕ) → 1 ≤ n → n ≤ 3 → m ≤ 7 → length (lists_from m (start n tower)) < 2 ^ 32

-- l is the line `lists k`: the word, a space, digits that denote k, and the line's end
pub record IsCount (k : ℕ) (l : List ℕ) : Type 0 where
  pub number : List ℕ
  pub denotes : Denotes number k
  pub whole : l ≡ bytes "lists " ++ (number ++ bytes "\n")

-- the text of every input that is allowed
pub record Counts : Type 0 where
  -- the line of each list, in their order, and a last one
  pub lines : (n m : ℕ) → 1 ≤ n → n ≤ 3 → m ≤ 7 → text_of (n ∷ m ∷ []) ≡ joined (map list_line (lists_from m (start n tower))) ++ count_line (length (lists_from m (start n tower)))
  -- "a last line `lists k` gives their count"
  pub last : (n m : ℕ) → 1 ≤ n → n ≤ 3 → m ≤ 7 → IsCount (length (lists_from m (start n tower))) (count_line (length (lists_from m (start n tower))))
  -- the same of any lists, where they are fewer than 2 ^ 32: a printed number has at most ten digits
  pub any : (ls : List (List Event)) → length ls < 2 ^ 32 → IsCount (length ls) (count_line (length ls))

-- 16, "not exactly two bytes, or one outside its range": the text of every other input
pub record Refuses : Type 0 where
  pub not_two : (l : List ℕ) → (length l ≡ 2 → ⊥) → text_of l ≡ bytes "stopped 0 16\n"
  pub no_nodes : (m : ℕ) → text_of (0 ∷ m ∷ []) ≡ bytes "stopped 0 16\n"
  pub too_many : (n m : ℕ) → 3 < n → text_of (n ∷ m ∷ []) ≡ bytes "stopped 0 16\n"
  pub too_long : (n m : ℕ) → 7 < m → text_of (n ∷ m ∷ []) ≡ bytes "stopped 0 16\n"
  -- so it is enough to read three bytes of an input
  pub first_three : (l : List ℕ) → text_of (take 3 l) ≡ text_of l

-- an event whose nodes fit into one byte, and its task into two
abbrev pub FitsBytes : Event → Type 0
FitsBytes (Crash i) = i < 256
FitsBytes (Recover i) = i < 256
FitsBytes (Check i) = i < 256
FitsBytes (Timeout i) = i < 256
FitsBytes (Tick i) = i < 256
FitsBytes (Expire i) = i < 256
FitsBytes (Finish i t) = (i < 256) × (t.number < 65536)
FitsBytes (Deliver a b) = (a < 256) × (b < 256)
FitsBytes (Lose a b) = (a < 256) × (b < 256)

-- "tag first, then contents as bytes": the tag and the contents that the order compares are those of the event's field in a list in 01's byte form
pub record SameBytes : Type 0 where
  -- the tag is an event's, the contents have the length that goes with it, and both are read as that event
  pub tagged : (e : Event) → event_tag (tag e) ≡ true
  pub long : (e : Event) → length (contents e) ≡ length_of (tag e)
  pub read : (e : Event) → event_of (tag e) (contents e) ≡ e
  -- and bytes that are read as an event are that event's tag and contents
  pub only : (t : ℕ) (c : List ℕ) → event_tag t ≡ true → length c ≡ length_of t → All (λ b. b < 256) c → (tag (event_of t c) ≡ t) × (contents (event_of t c) ≡ c)
  -- they are bytes where the event's numbers fit, as those of every accepted event do
  pub are_bytes : (e : Event) → FitsBytes e → All (λ b. b < 256) (tag e ∷ contents e)
  pub accepted_fits : (s : State) (e : Event) → is_accepted (step s e) ≡ true → FitsBytes e

-- an event whose numbers are below 2 ^ 32
abbrev pub SmallNumbers : Event → Type 0
SmallNumbers e = All (λ x. x < 2 ^ 32) (numbers_of e)

-- "A list is one line": the events one after another, parted by a comma and a space, and the line's end
pub record LineIs : Type 0 where
  pub none : events_text [] ≡ []
  pub one : (e : Event) → events_text (e ∷ []) ≡ event_text e
  pub more : (e f : Event) (l : List Event) → events_text (e ∷ f ∷ l) ≡ event_text e ++ (bytes ", " ++ events_text (f ∷ l))
  pub end : (l : List Event) → list_line l ≡ events_text l ++ bytes "\n"

-- "Each list appears once", of the printed lines too: from a line its list can be told, and from the bytes of the text all its lists
pub record ListLinesDetermine : Type 0 where
  -- "A list is one line": before the 0x0A at its end there is no other
  pub one_line : (l : List Event) → All (λ b. b ≡ 10 → ⊥) (events_text l)
  -- different lists whose numbers are below 2 ^ 32 have different lines
  pub line : (l m : List Event) → All SmallNumbers l → All SmallNumbers m → list_line l ≡ list_line m → l ≡ m
  -- what the machine accepts has such numbers, from any state
  pub legal_small : (m : ℕ) (s : State) (l : List Event) → Legal m s l → All SmallNumbers l
  -- so all lists have, by `AllLists.only`
  pub lists_small : (m : ℕ) (s : State) → All (All SmallNumbers) (lists_from m s)
  -- a line that is at a place is at no earlier and at no later one
  pub once : (m : ℕ) (s : State) (x : List ℕ) (before after : List (List ℕ)) → map list_line (lists_from m s) ≡ before ++ (x ∷ after) → (Among x before → ⊥) × (Among x after → ⊥)
  -- from the text the lists can be told
  pub text : (ls ms : List (List Event)) → All (All SmallNumbers) ls → All (All SmallNumbers) ms → joined (lines_of ls) ≡ joined (lines_of ms) → ls ≡ ms

-- all lists of m events from s that the step f accepts one after another; `lists_from` are those of the machine's own step (ListsFewer.own)
unfoldable pub lists_by : (State → Event → Result) → ℕ → State → List (List Event)
lists_by f zero s = [] ∷ []
lists_by f (suc m) s = concat_map (λ e. continued e (f s e) (lists_by f m)) (alphabet s.n)

-- ── 02, T-06: "The lists of T-01 are too short to meet this and stay the same." ──

-- the step with 18 taken back: a check that meets 18 is accepted, and nothing changes, as 01 has it ("Otherwise, or with n = 1, nothing changes."). All else is as it is now, with
-- T-10 too: what T-10 took from the lists is below. The tests compare the sums of the texts.
abbrev pub former_result : State → Result → Result
former_result s (refused r) = pick (eqb r 18) (accepted s Plain) (refused r)
former_result s (accepted u mark) = accepted u mark

abbrev pub step_without_eighteen : State → Event → Result
step_without_eighteen s e = former_result s (step s e)

pub record ListsStay : Type 0 where
  -- up to seven events, for every n, in the tower
  pub lists : (n m : ℕ) → m ≤ 7 → lists_by step_without_eighteen m (start n tower) ≡ lists_from m (start n tower)
  -- and so all that is printed of them
  pub texts : (n m : ℕ) → 1 ≤ n → n ≤ 3 → m ≤ 7 → text_of (n ∷ m ∷ []) ≡ joined (lines_of (lists_by step_without_eighteen m (start n tower)))

-- ── 02, T-10: the lists are those that would be accepted without 19, but for those in which 19 is met ──

-- the numbers with which the step f answers the events of a list one after another, 0 where it accepts
abbrev pub answers_by : (State → Event → Result) → State → List Event → List ℕ
answers_by f s [] = []
answers_by f s (e ∷ es) = result_number (f s e) ∷ answers_by f (kept s (f s e)) es

-- r is one of the numbers
abbrev pub is_one_of : ℕ → List ℕ → Bool
is_one_of r [] = false
is_one_of r (x ∷ xs) = eqb x r || is_one_of r xs

-- those of the lists, from s on, in which no event meets 19
unfoldable pub without_nineteen : State → List (List Event) → List (List Event)
without_nineteen s [] = []
without_nineteen s (l ∷ ls) = pick (is_one_of 19 (answers_by step s l)) (without_nineteen s ls) (l ∷ without_nineteen s ls)

pub record ListsFewer : Type 0 where
  -- `lists_from` are the lists of the machine's own step
  pub own : (m : ℕ) (s : State) → lists_by step m s ≡ lists_from m s
  -- for every length, and from every state: the lists are those of the step without 19 (`step_without_nineteen` of model/specs/Claims), in the same order, but for those in which
  -- an event meets 19
  pub lists : (m : ℕ) (s : State) → lists_from m s ≡ without_nineteen s (lists_by step_without_nineteen m s)
  -- and so is what is printed of them
  pub texts : (n m : ℕ) → 1 ≤ n → n ≤ 3 → m ≤ 7 → text_of (n ∷ m ∷ []) ≡ joined (lines_of (without_nineteen (start n tower) (lists_by step_without_nineteen m (start n tower))))
  -- up to six events, for every n, in the tower, 19 takes none away; and for one node whatever the length
  pub same : (n m : ℕ) → m ≤ 6 → lists_from m (start n tower) ≡ lists_by step_without_nineteen m (start n tower)
  pub alone : (m : ℕ) → lists_from m (start 1 tower) ≡ lists_by step_without_nineteen m (start 1 tower)
