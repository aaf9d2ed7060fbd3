-- A loop that extends a tree by what comes of each of several things: one turn of it.
use Prim.Native.Nat.{ℕ, suc, ◌+◌, ◌-◌, ◌≤◌, ◌<◌}
use native.Mathlib.Omega.{arith}
use mathlib.Core.Path.{◌≡◌, sym, ◌∙◌, ap, subst}
use mathlib.Core.List.{List, [], ◌∷◌, ◌++◌, append-nil}
use lib.ListN.{length, take, drop, get_or, length-append, length-drop, take-append-drop}
use lib.Seq.{take-suc, take-length, length-take-le, get_or-drop, get_or-take}
use Rattle.model.specs.Limits.{tower}
use Rattle.model.specs.State.{State, start}
use Rattle.model.specs.Step.{step, run_from}
use Rattle.model.specs.declared.Event.{Event}
use Rattle.model.specs.declared.Event.TheVariants.{Crash}
use Rattle.short_lists_text.specs.Rows.{concat_map}
use Rattle.short_lists_text.specs.Lists.{alphabet}
use Rattle.short_lists_text.proofs.Rows.{rows_append}
use Rattle.list_events.specs.Events.{size_of, event_at}
use Rattle.list_tree.specs.declared.tree.Tree.{Tree}
use Rattle.list_tree.specs.Tree.{lists_in, extended, next_of, Sound, Extends}
use Rattle.list_tree.proofs.Trees.{lists_long, extends_none, extends_twice, extends_keeps, extends_count}

module _ {A : Type 0} (f : A → List (List Event)) (xs : List A) (d : A) where
  one_on : (k : ℕ) → k < length xs → concat_map f (take (k + 1) xs) ≡ concat_map f (take k xs) ++ f (get_or xs k d)
  one_on k h =
      let z : k + 1 ≡ suc k = omega arith in
      ap (λ j. concat_map f (take j xs)) z
      ∙ (ap (concat_map f) (take-suc xs k d h)
      ∙ (rows_append f (take k xs) (get_or xs k d ∷ []) ∙ ap (λ (l : List (List Event)). concat_map f (take k xs) ++ l) (append-nil (f (get_or xs k d)))))

  within : (k : ℕ) → length (concat_map f (take k xs)) ≤ length (concat_map f xs)
  within k =
      let e = sym (ap (concat_map f) (take-append-drop k xs)) ∙ rows_append f (take k xs) (drop k xs) in
      let l = ap length e ∙ length-append (concat_map f (take k xs)) (concat_map f (drop k xs)) in
      omega arith

  module _ (t : Tree) where
    -- before the first turn
    pub no_turn : Sound t → Extends t (concat_map f (take 0 xs)) t
    no_turn ok = extends_none t ok

    -- in a turn: there is room for what comes of the next
    module _ (k : ℕ) (h : k < length xs) {u : Tree} (g : Extends t (concat_map f (take k xs)) u) where
      pub has_room : length (lists_in t ++ concat_map f xs) ≤ 601 → length (lists_in u ++ f (get_or xs k d)) ≤ 601
      has_room r =
          let a = length-append (lists_in t) (concat_map f xs) in
          let b = ap length g.lists ∙ length-append (lists_in t) (concat_map f (take k xs)) in
          let c = length-append (lists_in u) (f (get_or xs k d)) in
          let e = ap length (one_on k h) ∙ length-append (concat_map f (take k xs)) (f (get_or xs k d)) in
          let w = within (k + 1) in
          omega arith

      pub next_turn : {v : Tree} → Extends u (f (get_or xs k d)) v → Extends t (concat_map f (take (k + 1) xs)) v
      next_turn {v} i = subst (λ ls. Extends t ls v) (sym (one_on k h)) (extends_twice g i)

    -- behind the last
    pub all_turns : (k : ℕ) → k ≡ length xs → {u : Tree} → Extends t (concat_map f (take k xs)) u → Extends t (concat_map f xs) u
    all_turns k q {u} g = subst (λ ls. Extends t (concat_map f ls) u) (ap (λ j. take j xs) q ∙ take-length xs) g

-- ── what comes next to a list, by a table that it leads to ──

pub next_by : (n : ℕ) (u : State) (l : List Event) → u ≡ run_from (start n tower) l → next_of (start n tower) l ≡ concat_map (λ e. extended l e (step u e)) (alphabet n)
unfolding next_of
next_by n u l q = ap (λ v. concat_map (λ e. extended l e (step v e)) (alphabet n)) (sym q)

-- ── the events of a state ──

-- what comes of an event at the state a of t, whose table is u
abbrev pub by_event : Tree → ℕ → State → Event → List (List Event)
by_event t a u e = extended (get_or (lists_in t) a []) e (step u e)

module _ (t : Tree) (ok : Sound t) (a : ℕ) (is : a ≤ t.count) (u : State) (n i : ℕ) (h : i < size_of n) {v : Tree} (g : Extends t (concat_map (by_event t a u) (take i (alphabet n))) v) (e : Event) (q : e ≡ event_at n i) where
  pub still_state : a ≤ v.count
  still_state = omega (arith, extends_count ok g)

  same_event_lem : by_event v a u e ≡ by_event t a u (get_or (alphabet n) i (Crash 0))
  unfolding event_at
  same_event_lem = ap (λ l. extended l e (step u e)) (extends_keeps ok g a is) ∙ ap (by_event t a u) q

  pub event_room : length (lists_in t ++ concat_map (by_event t a u) (alphabet n)) ≤ 601 → length (lists_in v ++ by_event v a u e) ≤ 601
  event_room r = subst (λ ls. length (lists_in v ++ ls) ≤ 601) (sym same_event_lem) (has_room (by_event t a u) (alphabet n) (Crash 0) t i h g r)

  pub event_on : {w : Tree} → Extends v (by_event v a u e) w → Extends t (concat_map (by_event t a u) (take (i + 1) (alphabet n))) w
  event_on {w} x = next_turn (by_event t a u) (alphabet n) (Crash 0) t i h g (subst (λ ls. Extends v ls w) same_event_lem x)

-- ── the states of a level ──

-- the states from first up to end, of which a is one
module _ (s : State) (t : Tree) (ok : Sound t) (first end a : ℕ) (some : first ≤ a) (before : a < end) (here : end ≤ t.count + 1) {v : Tree} (g : Extends t (concat_map (next_of s) (take (a - first) (drop first (take end (lists_in t))))) v) where
  level_place : a - first < length (drop first (take end (lists_in t)))
  level_place = let l = lists_long t ok in omega (arith, l, length-drop first (take end (lists_in t)), length-take-le end (lists_in t) (omega arith))

  pub still_in : a ≤ v.count
  still_in = omega (arith, extends_count ok g)

  same_list : get_or (lists_in v) a [] ≡ get_or (drop first (take end (lists_in t))) (a - first) []
  same_list =
      let z : first + (a - first) ≡ a = omega arith in
      extends_keeps ok g a (omega arith)
      ∙ sym (get_or-drop first (take end (lists_in t)) (a - first) [] ∙ (ap (λ i. get_or (take end (lists_in t)) i []) z ∙ get_or-take end (lists_in t) a [] before))

  pub level_room : length (lists_in t ++ concat_map (next_of s) (drop first (take end (lists_in t)))) ≤ 601 → length (lists_in v ++ next_of s (get_or (lists_in v) a [])) ≤ 601
  level_room r = subst (λ l. length (lists_in v ++ next_of s l) ≤ 601) (sym same_list) (has_room (next_of s) (drop first (take end (lists_in t))) [] t (a - first) level_place g r)

  pub level_on : {w : Tree} → Extends v (next_of s (get_or (lists_in v) a [])) w → Extends t (concat_map (next_of s) (take (a + 1 - first) (drop first (take end (lists_in t))))) w
  level_on {w} x =
      let z : a - first + 1 ≡ a + 1 - first = omega arith in
      subst (λ i. Extends t (concat_map (next_of s) (take i (drop first (take end (lists_in t))))) w) z
      (next_turn (next_of s) (drop first (take end (lists_in t))) [] t (a - first) level_place g (subst (λ l. Extends v (next_of s l) w) same_list x))
