-- What a table in range gives: facts of each node's record; and back.
use Prim.Native.Nat.{ℕ, zero, suc, ◌-◌, ◌<◌, ◌≤◌}
use native.Mathlib.Omega.{arith}
use mathlib.Core.Bool.{Bool, true, false, ◌&&◌, true≢false}
use mathlib.Core.Path.{◌≡◌, refl, sym, ap, subst}
use mathlib.Core.List.{List, [], ◌∷◌}
use lib.Dec.{eqb, leb, ltb}
use lib.ListN.{length, get_or}
use borrow.Author.Tests.{eqb-true, eqb-false, leb-true, ltb-true, not-true, le-leb, lt-ltb, ne_eqb}
use Rattle.model.specs.Limits.{node_limit, task_end}
use Rattle.model.specs.Node.{is_down}
use Rattle.model.specs.Range.{is_set_of_others}
use Rattle.model.specs.State.{every}
use Rattle.model.proofs.Local.{both_left, both_right}
use Rattle.model.proofs.Fields.{otherwise, Hold, parts, IsOther, IsSetOfOthers, other_is, set_is, every_at}
use Rattle.model.proofs.Range.{both, unless, is_other_lem, is_set}
use Rattle.model.specs.declared.Status.{Status}
use Rattle.model.specs.declared.Status.TheVariants.{Down, Election, Reorganization, Normal}
use Rattle.bully_model.specs.Node.{is_idle}
use Rattle.bully_model.specs.Range.{place_in_range, rests_unless_runs, node_in_range}
use Rattle.bully_model.specs.State.{State, starting_node, node_at, in_range}
use Rattle.bully_model.specs.declared.Place.{Place}
use Rattle.bully_model.specs.declared.Place.TheVariants.{Idle, Asking, Halting, Announcing, Point, Handing, Checking, Contacting}
use Rattle.bully_model.specs.declared.Node.{Node}

-- ── a place ──

-- what a place of node i holds, whose coordinator is o
abbrev pub Placed : ℕ → ℕ → ℕ → Place → Type 0
Placed n i o Idle = Unit {0}
Placed n i o (Asking j) = (i < j) × (j ≤ n)
Placed n i o (Halting j) = (1 ≤ j) × (j < i)
Placed n i o (Announcing still j) = IsSetOfOthers n i still × IsOther n i j
Placed n i o Point = Unit {0}
Placed n i o (Handing still j) = IsSetOfOthers n i still × IsOther n i j
Placed n i o (Checking j) = IsOther n i j
Placed n i o Contacting = o ≡ i → ⊥

place_is : (n i o : ℕ) (p : Place) → place_in_range n i o p ≡ true → Placed n i o p
unfolding place_in_range
place_is n i o Idle e = tt
place_is n i o (Asking j) e = (ltb-true i j (both_left _ _ e), leb-true j n (both_right (ltb i j) _ e))
place_is n i o (Halting j) e = (leb-true 1 j (both_left _ _ e), ltb-true j i (both_right (leb 1 j) _ e))
place_is n i o (Announcing still j) e = (set_is n i still (both_left _ _ e), other_is n i j (both_right (is_set_of_others n i still) _ e))
place_is n i o Point e = tt
place_is n i o (Handing still j) e = (set_is n i still (both_left _ _ e), other_is n i j (both_right (is_set_of_others n i still) _ e))
place_is n i o (Checking j) e = other_is n i j e
place_is n i o Contacting e = eqb-false o i (not-true _ e)

is_place : (n i o : ℕ) (p : Place) → Placed n i o p → place_in_range n i o p ≡ true
unfolding place_in_range
is_place n i o Idle x = refl
is_place n i o (Asking j) x = simp (lt-ltb i j x.0, le-leb j n x.1)
is_place n i o (Halting j) x = simp (le-leb 1 j x.0, lt-ltb j i x.1)
is_place n i o (Announcing still j) x = simp (is_set n i still x.0, is_other_lem n i j x.1)
is_place n i o Point x = refl
is_place n i o (Handing still j) x = simp (is_set n i still x.0, is_other_lem n i j x.1)
is_place n i o (Checking j) x = is_other_lem n i j x
is_place n i o Contacting x = simp (ne_eqb o i x)

-- ── a node ──
down_is : (s : Status) → is_down s ≡ true → s ≡ Down
down_is Down e = refl
down_is Election e = absurd (true≢false (sym e))
down_is Reorganization e = absurd (true≢false (sym e))
down_is Normal e = absurd (true≢false (sym e))

pub idle_is : (p : Place) → is_idle p ≡ true → p ≡ Idle
idle_is Idle e = refl
idle_is (Asking j) e = absurd (true≢false (sym e))
idle_is (Halting j) e = absurd (true≢false (sym e))
idle_is (Announcing still j) e = absurd (true≢false (sym e))
idle_is Point e = absurd (true≢false (sym e))
idle_is (Handing still j) e = absurd (true≢false (sym e))
idle_is (Checking j) e = absurd (true≢false (sym e))
idle_is Contacting e = absurd (true≢false (sym e))

pub record NodeFacts (n i : ℕ) (c : Node) : Type 0 where
  pub coordinator : c.coordinator ≤ n
  pub task : c.task.number ≤ task_end
  pub halter : c.halter ≤ n
  pub up : IsSetOfOthers n i c.up
  pub rests : c.runs ≡ false → (c.status ≡ Down) × (c.place ≡ Idle)
  pub place : Placed n i c.coordinator c.place

-- the tests of a node after the first
abbrev node_tests : ℕ → ℕ → Node → List Bool
node_tests n i c = leb c.task.number task_end ∷ leb c.halter n ∷ is_set_of_others n i c.up ∷ rests_unless_runs c ∷ place_in_range n i c.coordinator c.place ∷ []

pub node_facts : (n i : ℕ) (c : Node) → node_in_range n i c ≡ true → NodeFacts n i c
unfolding node_in_range
node_facts n i c e =
    record {
      coordinator = leb-true _ n r.0;
      task = leb-true _ task_end r.1.0;
      halter = leb-true _ n r.1.1.0;
      up = set_is n i _ r.1.1.1.0;
      rests = λ f. let d = otherwise c.runs (is_down c.status && is_idle c.place) f r.1.1.1.1.0 in
          (down_is c.status (both_left _ _ d), idle_is c.place (both_right (is_down c.status) _ d));
      place = place_is n i _ _ r.1.1.1.1.1.0;
    }
  where
    r : Hold (leb c.coordinator n ∷ node_tests n i c)
    r = parts (leb c.coordinator n) (node_tests n i c) e

pub is_node_lem : (n i : ℕ) (c : Node) → NodeFacts n i c → node_in_range n i c ≡ true
unfolding node_in_range
is_node_lem n i c x =
    rw (
      le-leb _ n x.coordinator,
      le-leb _ task_end x.task,
      le-leb _ n x.halter,
      is_set n i _ x.up,
      unless c.runs (is_down c.status && is_idle c.place) resting,
      is_place n i _ _ x.place,
    )
  where
    resting : c.runs ≡ false → (is_down c.status && is_idle c.place) ≡ true
    resting f = both (is_down c.status) _ (rw (x.rests f).0 refl) (rw (x.rests f).1 refl)

-- ── a table ──

-- the record of node i is the one at the place i - 1
pub node_at_lem : (s : State) (i : ℕ) → 1 ≤ i → node_at s i ≡ get_or s.nodes (i - 1) starting_node
node_at_lem s zero l = absurd (omega arith)
node_at_lem s (suc i) l = ap (λ (k : ℕ). get_or s.nodes k starting_node) (omega arith)

table_parts : (s : State) → in_range s ≡ true → Hold (leb 1 s.n ∷ leb s.n node_limit ∷ eqb (length s.nodes) s.n ∷ every (node_in_range s.n) 1 s.nodes ∷ [])
unfolding in_range
table_parts s e = parts (leb 1 s.n) (leb s.n node_limit ∷ eqb (length s.nodes) s.n ∷ every (node_in_range s.n) 1 s.nodes ∷ []) e

pub in_range_size : (s : State) → in_range s ≡ true → (1 ≤ s.n) × (s.n ≤ 16) × (length s.nodes ≡ s.n)
in_range_size s e = let r = table_parts s e in (leb-true 1 s.n r.0, leb-true s.n 16 r.1.0, eqb-true _ _ r.1.1.0)

pub in_range_nodes : (s : State) → in_range s ≡ true → every (node_in_range s.n) 1 s.nodes ≡ true
in_range_nodes s e = (table_parts s e).1.1.1.0

pub in_range_node : (s : State) (j : ℕ) → in_range s ≡ true → 1 ≤ j → j ≤ s.n → NodeFacts s.n j (node_at s j)
in_range_node s zero e l h = absurd (omega arith)
in_range_node s (suc j) e l h =
    node_facts s.n (suc j) (node_at s (suc j))
    (subst (λ (k : ℕ). node_in_range s.n k (node_at s (suc j)) ≡ true) (omega arith)
    (every_at (node_in_range s.n) 1 s.nodes j starting_node (in_range_nodes s e) (omega (arith, (in_range_size s e).2))))
