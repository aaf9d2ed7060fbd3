-- What is left on a stack after a turn of the search, and how many turns are left.
use Prim.Native.Nat.{ℕ, zero, suc, ◌+◌, ◌-◌, ◌<◌}
use native.Mathlib.Omega.{arith}
use mathlib.Core.Bool.{true, false}
use mathlib.Core.Path.{◌≡◌, refl, ◌∙◌, ap}
use mathlib.Core.List.{List, [], ◌∷◌, ◌++◌, append_assoc, append-nil, map}
use lib.Dec.{leb}
use lib.ListN.{length, get_or, drop, drop_of_length-le}
use lib.Seq.{drop-cons}
use borrow.Author.Tests.{leb-true, leb-false}
use Rattle.model.specs.Limits.{tower}
use Rattle.model.specs.Pick.{pick_true}
use Rattle.model.specs.State.{State, start, counts_aside}
use Rattle.model.specs.Step.{refused, accepted, step}
use Rattle.model.specs.declared.Mark.{Mark}
use Rattle.model.specs.declared.Event.{Event}
use Rattle.model.specs.declared.Event.TheVariants.{Crash}
use Rattle.model.proofs.Lists.{map_append}
use Rattle.listing.specs.Printing.{joined}
use Rattle.short_lists_text.specs.Lists.{alphabet, lists_from}
use Rattle.short_lists_text.specs.Text.{list_line, count_line, fits, text_of}
use Rattle.short_lists_text.proofs.Few.{same_n}
use Rattle.list_events.specs.Events.{size_of, event_at}
use Rattle.list_search.specs.Stack.{Frame, frame, path, on_frame, lists_left, stack_text}

-- one more was tried
abbrev pub passed : Frame → Frame
passed f = frame f.state (f.tried + 1)

-- ── how many turns are enough: the measure by which the search ends. A turn tries an event, gives a list or leaves a table ──

-- on a table with these events still to try, where x turns are enough on each table above it
unfoldable pub turns_for : ℕ → List Event → ℕ
turns_for x [] = 1
turns_for x (e ∷ es) = suc (x + turns_for x es)

-- on a new table of n nodes, with r events missing
unfoldable pub turns_from : ℕ → ℕ → ℕ
turns_from n zero = 1
turns_from n (suc r) = turns_for (turns_from n r) (alphabet n)

-- on a frame, with r events missing
unfoldable pub turns_on : ℕ → Frame → ℕ
turns_on zero f = 1
turns_on (suc r) f = turns_for (turns_from f.state.n r) (drop f.tried (alphabet f.state.n))

-- on a stack
unfoldable pub turns_left : ℕ → List Frame → ℕ
turns_left r [] = 1
turns_left r (f ∷ fs) = turns_on r f + turns_left (suc r) fs

-- ── laws of lists ──

-- a path, an event and a list behind it
map_behind : (p : List Event) (e : Event) (ls : List (List Event)) → map (λ l. p ++ l) (map (λ l. e ∷ l) ls) ≡ map (λ l. (p ++ (e ∷ [])) ++ l) ls
map_behind p e [] = refl
map_behind p e (l ∷ ls) = rw (append_assoc p (e ∷ []) l) (ap (λ x. (p ++ (e ∷ l)) ∷ x) (map_behind p e ls))

map_same : (ls : List (List Event)) → map (λ l. [] ++ l) ls ≡ ls
map_same [] = refl
map_same (l ∷ ls) = ap (λ x. l ∷ x) (map_same ls)

-- ── the events of a frame ──

abbrev untried : Frame → List Event
untried f = drop f.tried (alphabet f.state.n)

all_tried : (f : Frame) → leb (size_of f.state.n) f.tried ≡ true → untried f ≡ []
all_tried f q = drop_of_length-le (alphabet f.state.n) (leb-true (size_of f.state.n) f.tried q)

one_tried : (f : Frame) → leb (size_of f.state.n) f.tried ≡ false → untried f ≡ event_at f.state.n f.tried ∷ untried (passed f)
unfolding event_at
one_tried f q =
    let z : suc f.tried ≡ f.tried + 1 = omega arith in
    drop-cons (alphabet f.state.n) f.tried (Crash 0) (leb-false _ _ q) ∙ ap (λ i. event_at f.state.n f.tried ∷ drop i (alphabet f.state.n)) z

pub path_passed : (f : Frame) (fs : List Frame) → path (passed f ∷ fs) ≡ path fs ++ (event_at f.state.n f.tried ∷ [])
unfolding path
path_passed f fs = let z : f.tried + 1 - 1 ≡ f.tried = omega arith in ap (λ i. path fs ++ (event_at f.state.n i ∷ [])) z

fresh_frame : (r : ℕ) (u : State) → on_frame r (frame u 0) ≡ lists_from r u
unfolding on_frame lists_from
fresh_frame zero u = refl
fresh_frame (suc r) u = refl

-- ── what is left after a turn ──

left_over : (r : ℕ) (f : Frame) (fs : List Frame) → untried f ≡ [] → lists_left (suc r) (f ∷ fs) ≡ lists_left (suc (suc r)) fs
unfolding lists_left on_frame
left_over r f fs q = rw q

module _ (r : ℕ) (f : Frame) (fs : List Frame) (e : Event) (q : untried f ≡ e ∷ untried (passed f)) where
  left_refused : (x : ℕ) → step f.state e ≡ refused x → lists_left (suc r) (f ∷ fs) ≡ lists_left (suc r) (passed f ∷ fs)
  unfolding lists_left on_frame
  left_refused x h = rw (q, h)

  split : (u : State) (m : Mark) → step f.state e ≡ accepted u m → on_frame (suc r) f ≡ map (λ l. e ∷ l) (lists_from r u) ++ on_frame (suc r) (passed f)
  unfolding on_frame
  split u m h = rw (q, h)

  parted : (ls rest more : List (List Event)) → map (λ l. path fs ++ l) (map (λ l. e ∷ l) ls ++ rest) ++ more ≡ map (λ l. (path fs ++ (e ∷ [])) ++ l) ls ++ (map (λ l. path fs ++ l) rest ++ more)
  parted ls rest more =
      rw (map_append (λ l. path fs ++ l) (map (λ l. e ∷ l) ls) rest, map_behind (path fs) e ls) (append_assoc (map (λ l. (path fs ++ (e ∷ [])) ++ l) ls) (map (λ l. path fs ++ l) rest) more)

  left_accepted : (u : State) (m : Mark) → step f.state e ≡ accepted u m → lists_from r u ≡ lists_from r (counts_aside u) → path (passed f ∷ fs) ≡ path fs ++ (e ∷ [])
      → lists_left (suc r) (f ∷ fs) ≡ lists_left r (frame (counts_aside u) 0 ∷ passed f ∷ fs)
  unfolding lists_left
  left_accepted u m h a p =
      rw (fresh_frame r (counts_aside u), ← a, p)
      (ap (λ x. map (λ l. path fs ++ l) x ++ lists_left (suc (suc r)) fs) (split u m h) ∙ parted (lists_from r u) (on_frame (suc r) (passed f)) (lists_left (suc (suc r)) fs))

pub left_none : (r : ℕ) → lists_left r [] ≡ []
unfolding lists_left
left_none r = refl

pub left_given : (f : Frame) (fs : List Frame) → lists_left 0 (f ∷ fs) ≡ path fs ∷ lists_left 1 fs
unfolding lists_left on_frame
left_given f fs = rw (append-nil (path fs))

-- ── the text ──

pub text_same : (g r r' : ℕ) (fs fs' : List Frame) → lists_left r fs ≡ lists_left r' fs' → stack_text g r fs ≡ stack_text g r' fs'
unfolding stack_text
text_same g r r' fs fs' q = rw q

pub text_over : (g r : ℕ) (fs : List Frame) → lists_left r fs ≡ [] → stack_text g r fs ≡ count_line g
unfolding stack_text joined
text_over g r fs q = let z : g + 0 ≡ g = omega arith in rw (q, append-nil, z)

pub text_given : (g r r' : ℕ) (fs fs' : List Frame) (l : List Event) → lists_left r fs ≡ l ∷ lists_left r' fs' → stack_text g r fs ≡ list_line l ++ stack_text (g + 1) r' fs'
unfolding stack_text joined
text_given g r r' fs fs' l q = let z : g + suc (length (lists_left r' fs')) ≡ g + 1 + length (lists_left r' fs') = omega arith in rw (q, z)

-- ── how many turns are left ──

fresh_turns : (r : ℕ) (u : State) → turns_on r (frame u 0) ≡ turns_from u.n r
unfolding turns_on turns_from
fresh_turns zero u = refl
fresh_turns (suc r) u = refl

turns_over : (r : ℕ) (f : Frame) → untried f ≡ [] → turns_on (suc r) f ≡ 1
unfolding turns_on turns_for
turns_over r f q = rw q

turns_tried : (r : ℕ) (f : Frame) (e : Event) → untried f ≡ e ∷ untried (passed f) → turns_on (suc r) f ≡ suc (turns_from f.state.n r + turns_on (suc r) (passed f))
unfolding turns_on turns_for
turns_tried r f e q = rw q

-- ── the first stack ──

pub all_left : (r : ℕ) (s : State) → lists_left r (frame s 0 ∷ []) ≡ lists_from r s
unfolding lists_left path
all_left r s = rw (fresh_frame r s, append-nil) (map_same (lists_from r s))

pub whole_text : (l : List ℕ) → fits l ≡ true → text_of l ≡ stack_text 0 (get_or l 1 0) (frame (start (get_or l 0 0) tower) 0 ∷ [])
unfolding text_of stack_text
whole_text l q =
    let ls = lists_from (get_or l 1 0) (start (get_or l 0 0) tower) in
    let z : 0 + length ls ≡ length ls = omega arith in
    rw (q, pick_true, all_left (get_or l 1 0) (start (get_or l 0 0) tower), z)

-- ── a turn: what is left, and that fewer turns are ──

module _ (r : ℕ) (f : Frame) (fs : List Frame) where
  -- all events were tried
  pub gone : leb (size_of f.state.n) f.tried ≡ true → (lists_left (suc r) (f ∷ fs) ≡ lists_left (suc (suc r)) fs) × (turns_left (suc (suc r)) fs < turns_left (suc r) (f ∷ fs))
  unfolding turns_left
  gone q = (left_over r f fs (all_tried f q), omega (arith, turns_over r f (all_tried f q)))

  module _ (q : leb (size_of f.state.n) f.tried ≡ false) where
    abbrev e : Event
    e = event_at f.state.n f.tried

    -- the next is refused
    pub passed_by : (x : ℕ) → step f.state e ≡ refused x → (lists_left (suc r) (f ∷ fs) ≡ lists_left (suc r) (passed f ∷ fs)) × (turns_left (suc r) (passed f ∷ fs) < turns_left (suc r) (f ∷ fs))
    unfolding turns_left
    passed_by x h = (left_refused r f fs e (one_tried f q) x h, omega (arith, turns_tried r f e (one_tried f q)))

    -- it is accepted: its table is put on top with the counts set aside, on which the lists from it do not depend
    pub gone_up : (u : State) (m : Mark) → step f.state e ≡ accepted u m → lists_from r u ≡ lists_from r (counts_aside u)
        → (lists_left (suc r) (f ∷ fs) ≡ lists_left r (frame (counts_aside u) 0 ∷ passed f ∷ fs)) × (turns_left r (frame (counts_aside u) 0 ∷ passed f ∷ fs) < turns_left (suc r) (f ∷ fs))
    unfolding turns_left
    gone_up u m h a =
        let z : turns_on r (frame (counts_aside u) 0) ≡ turns_from f.state.n r = fresh_turns r (counts_aside u) ∙ ap (λ i. turns_from i r) (same_n f.state e u m h) in
        (left_accepted r f fs e (one_tried f q) u m h a (path_passed f fs), omega (arith, z, turns_tried r f e (one_tried f q)))

-- the next is accepted, and the last of a list: that list is given
pub gave_one : (f : Frame) (fs : List Frame) → leb (size_of f.state.n) f.tried ≡ false → (u : State) (m : Mark) → step f.state (event_at f.state.n f.tried) ≡ accepted u m
    → (lists_left 1 (f ∷ fs) ≡ (path fs ++ (event_at f.state.n f.tried ∷ [])) ∷ lists_left 1 (passed f ∷ fs)) × (turns_left 1 (passed f ∷ fs) < turns_left 1 (f ∷ fs))
unfolding turns_left lists_from
gave_one f fs q u m h =
    let e = event_at f.state.n f.tried in
    ((gone_up 0 f fs q u m h refl).0 ∙ left_given (frame (counts_aside u) 0) (passed f ∷ fs) ∙ ap (λ p. p ∷ lists_left 1 (passed f ∷ fs)) (path_passed f fs), omega (arith, turns_tried 0 f e (one_tried f q)))
