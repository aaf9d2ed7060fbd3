-- Laws of lists for the table's loops, and what a table's arrays are: the first n records and the first waiting places.
use Prim.Native.Nat.{ℕ, suc, ◌+◌, ◌≤◌, ◌<◌}
use native.Mathlib.Numerals.{add-one}
use native.Mathlib.Omega.{arith}
use native.Mathlib.Nat.{le_trans}
use mathlib.Core.Path.{◌≡◌, refl, sym, ◌∙◌, ap}
use mathlib.Core.List.{List, [], ◌∷◌, ◌++◌, append-nil}
use mathlib.Core.Bool.{Bool, true, false, not, ◌&&◌, true≢false}
use mathlib.Core.Logic.{⊎_elim}
use lib.ListN.{length, get_or, take, drop, set, length-set, length-take, drop_of_length-le}
use lib.Seq.{drop-cons, drop-set-lt, take-set-lt, take-suc-set, take-take, append_snoc, get_or-take, length-take-le, take_all}
use mir.Val.{Val}
use denote.Laws.{Is}
use denote.Array.{Array}
use denote.Struct.Declared.{row}
use lib.Dec.{leb}
use borrow.Author.Tests.{le-leb, leb-true, eq-eqb, not-true, not-false}
use Rattle.model.specs.Counts.{no_counts}
use Rattle.model.specs.Limits.{tower}
use Rattle.model.specs.Range.{TwoPairs, is_tower_or_stand, node_in_range, message_in_range}
use Rattle.model.specs.Pick.{pick_true, pick_false}
use Rattle.model.specs.State.{State, starting_node, start, wrong_count, no_message, every, traffic_in_range, in_range, first_of, view, goes}
use Rattle.model.specs.declared.Limits.{Limits}
use Rattle.model.specs.declared.Node.{Node}
use Rattle.model.specs.declared.Message.{Message}
use Rattle.model.specs.declared.Table.{Table}
use Rattle.model.specs.contracts.Message as message
use Rattle.model.specs.contracts.Node as node
use Rattle.model.specs.contracts.Table as T
use Rattle.model.proofs.Local.{both_left, both_right}
use Rattle.model.proofs.Pairs.{pair_within}
use Rattle.model.proofs.Fields.{in_range_pair, in_range_own, in_range_size}
use Rattle.model.proofs.Lists.{first_take, first_length, first_set, first_replicate, left_turn, left_end}
use Rattle.machine.specs.Stepped.{starting_table}
use Rattle.machine.specs.Parts.{place, without, Left, within_limits}

-- What owning a table tells of its arrays: their lengths. `c.well_formed` has the relation, of each parameter. This is the one
-- place that knows the order of the table's fields.
pub record Sized (t : Table) : Type 0 where
  pub nodes : length t.nodes ≡ 16
  pub messages : length t.messages ≡ 64
  pub sent : length t.sent ≡ 256
  pub delivered : length t.delivered ≡ 256
  pub lost : length t.lost ≡ 256

pub sized : (t : Table) {vs : List Val} → Is (row T.the_type) t vs → Sized t
sized t g = record {
  nodes = g.1.1.1.1.0.1.0.1;
  messages = g.1.1.1.1.1.0.1.0.1;
  sent = g.1.1.1.1.1.1.1.0.1.0.1;
  delivered = g.1.1.1.1.1.1.1.1.0.1.0.1;
  lost = g.1.1.1.1.1.1.1.1.1.0.1.0.1;
}

-- the same of an array by itself
pub nodes_long : (cs : List Node) {vs : List Val} → Is (Array (row node.the_type) 16) cs vs → length cs ≡ 16
nodes_long cs g = g.1.0.1

pub messages_long : (ms : List Message) {vs : List Val} → Is (Array (row message.the_type) 64) ms vs → length ms ≡ 64
messages_long ms g = g.1.0.1

-- ── the first k of a list ──
pub queue_is : (w : ℕ) (ms : List Message) → length ms ≡ 64 → w ≤ 64 → first_of w no_message ms ≡ take w ms
queue_is w ms long h = first_take w no_message ms (omega arith)

module _ (t : Table) (s : Sized t) where
  pub view_nodes : t.n ≤ 16 → (view t).nodes ≡ take t.n t.nodes
  view_nodes h = first_take t.n starting_node t.nodes (omega arith)

  pub view_queue : t.waiting ≤ 64 → (view t).queue ≡ take t.waiting t.messages
  view_queue h = queue_is t.waiting t.messages s.messages h

-- ── the range ──

-- what the limits, n and the number waiting say
pub record WithinLimits (t : Table) : Type 0 where
  pub pair : is_tower_or_stand t.limits ≡ true
  pub some : 1 ≤ t.n
  pub nodes : t.n ≤ t.limits.nodes
  pub waiting : t.waiting ≤ t.limits.messages
  pub small : t.n ≤ 16
  pub few : t.waiting ≤ 64

pub within_is : (t : Table) → within_limits t.limits t.n t.waiting ≡ true → WithinLimits t
within_is t e =
    let p = both_left (is_tower_or_stand t.limits) _ (both_left _ (leb t.waiting t.limits.messages) e) in
    let c = not-true _ (both_right (is_tower_or_stand t.limits) _ (both_left _ (leb t.waiting t.limits.messages) e)) in
    let d = not-false _ c in
    let w = pair_within t.limits p in
    let n = leb-true _ _ (both_right (leb 1 t.n) _ d) in
    let q = leb-true _ _ (both_right (is_tower_or_stand t.limits && not (wrong_count t.limits.nodes t.n)) _ e) in
    record {
      pair = p;
      some = leb-true _ _ (both_left (leb 1 t.n) _ d);
      nodes = n;
      waiting = q;
      small = le_trans n (leb-true _ _ (both_left (leb t.limits.nodes 16) _ w));
      few = le_trans q (leb-true _ _ (both_right (leb t.limits.nodes 16) _ w));
    }

-- a table that its limits turn away is not in range
pub outside_limits : (t : Table) → within_limits t.limits t.n t.waiting ≡ false → in_range (view t) ≡ false
outside_limits t e = by (in_range (view t)) refl
  where
    by : (b : Bool) → in_range (view t) ≡ b → in_range (view t) ≡ false
    by false q = q
    by true q =
        let o = in_range_own (view t) q in
        let w = first_length t.waiting no_message t.messages in
        absurd
        (true≢false
        (sym (rw (in_range_pair (view t) q, le-leb 1 t.n (in_range_size (view t) q).0, le-leb t.n t.limits.nodes o.0, le-leb t.waiting t.limits.messages (omega (arith, w, o.1))))
        ∙ e))

-- once they are good
pub in_range_is : (t : Table) → Sized t → WithinLimits t
    → in_range (view t)
    ≡ every (node_in_range t.n) 1 (take t.n t.nodes) && every (λ k. message_in_range t.n) 1 (take t.waiting t.messages) && traffic_in_range (view t)
unfolding in_range
in_range_is t s x =
    rw
    (x.pair, pair_within t.limits x.pair, le-leb 1 t.n x.some, le-leb t.n t.limits.nodes x.nodes, first_length t.n starting_node t.nodes, eq-eqb t.n t.n refl, first_length t.waiting no_message t.messages, le-leb t.waiting t.limits.messages x.waiting, view_nodes t s x.small, view_queue t s x.few)

-- the traffic's range doesn't look at the nodes and the limits
pub traffic_of : (t : Table)
    → traffic_in_range (record { rule = TwoPairs; n = t.n; limits = tower; nodes = []; queue = first_of t.waiting no_message t.messages; sent = t.sent; delivered = t.delivered; lost = t.lost })
    ≡ traffic_in_range (view t)
unfolding traffic_in_range
traffic_of t = refl

module _ (a b : ℕ) (l : List Message) (w : ℕ) (h : w ≤ length l) (k : ℕ) where
  module _ (p : k < w) (d : Message) (r : Bool) (e : r ≡ goes a b (get_or l k d)) where
    pub place_hit : r ≡ true → place a b (drop k (take w l)) ≡ 0
    unfolding place
    place_hit y = rw (left_turn l w h k p d, ← e, y, pick_true)

    pub place_miss : r ≡ false → place a b (drop k (take w l)) ≡ suc (place a b (drop (k + 1) (take w l)))
    unfolding place
    place_miss y = rw (left_turn l w h k p d, ← e, y, pick_false)

  pub place_end : w ≤ k → place a b (drop k (take w l)) ≡ 0
  unfolding place
  place_end p = rw (left_end l w h k p)

-- ── an element taken out by moving the later ones down ──

-- one turn: the element at k gets the one after it
pub without_turn : {A : Type 0} (l : List A) (w : ℕ) (h : w ≤ length l) (k : ℕ) (p : k + 1 < w) (d : A) → without (k + 1) (take w (set l k (get_or l (k + 1) d))) ≡ without k (take w l)
without_turn l w h k p d =
    let long : length (take w l) ≡ w = length-take-le w l h in
    let a : k < length (take w l) = omega arith in
    let b : k + 1 < length (take w l) = omega arith in
    let lo : k < k + 1 + 1 = omega arith in
    rw (take-set-lt w l k (get_or l (k + 1) d) (omega arith), ← get_or-take w l (k + 1) d)
    (rw (drop-set-lt (k + 1 + 1) (take w l) k, drop-cons (take w l) (k + 1) d) (rw (add-one (k + 1), add-one k, take-suc-set, append_snoc)))

-- the last one taken out
pub without_last_lem : {A : Type 0} (l : List A) (k : ℕ) → without k (take (k + 1) l) ≡ take k l
without_last_lem l k =
    let a : k ≤ k + 1 = omega arith in
    let b : length (take (k + 1) l) ≤ k + 1 = omega (arith, length-take (k + 1) l) in
    rw (take-take, drop_of_length-le, append-nil)

-- none taken out
pub without_none : {A : Type 0} (l : List A) (k : ℕ) → length l ≤ k → without k l ≡ l
without_none l k h =
    let b : length l ≤ k + 1 = omega arith in
    rw (take_all k l h, drop_of_length-le, append-nil)

-- ── the table after an event ──
pub moves : (w k left : ℕ) → Left w k left → k < left → left + 1 ≡ w
moves w k left x h = ⊎_elim (λ y. y.1) (λ y. absurd (never y.0 y.1)) x
  where
    never : k ≡ w → left ≡ w → ⊥
    never p q = omega arith

left_queue : (w k left : ℕ) (l : List Message) → Left w k left → without left (take w l) ≡ take left l
left_queue w k left l x = ⊎_elim (λ y. rw (← y.1) (without_last_lem l left)) (λ y. rw y.1 (without_none (take w l) w (omega (arith, length-take w l)))) x

pub left_few : (limit w k left : ℕ) → Left w k left → w ≤ limit → left ≤ limit
left_few limit w k left x h = ⊎_elim (λ y. omega arith) (λ y. omega arith) x

-- states by their nodes and messages, with the same limits and counts
pub state_is : (n : ℕ) (lim : Limits) (a b c : List ℕ) {xs ys : List Node} {q r : List Message} → xs ≡ ys → q ≡ r
    → ◌≡◌ {A = State} (record { rule = TwoPairs; n = n; limits = lim; nodes = xs; queue = q; sent = a; delivered = b; lost = c }) (record { rule = TwoPairs; n = n; limits = lim; nodes = ys; queue = r; sent = a; delivered = b; lost = c })
state_is n lim a b c p q = cc

-- ms: the messages once the one at k was taken out; c the node's new record
module _ (t : Table) (s : Sized t) (small : t.n ≤ 16) (short : t.waiting ≤ 64) (k left at : ℕ) (x : Left t.waiting k left) (h : at < t.n) (c : Node) (ms : List Message) (long : length ms ≡ 64) (moved : without left (take t.waiting ms) ≡ without k (take t.waiting t.messages)) (a b d : List ℕ) where
  taken : take left ms ≡ without k (view t).queue
  taken = sym (left_queue t.waiting k left ms x) ∙ moved ∙ ap (without k) (sym (view_queue t s short))

  pub stored_quiet : ◌≡◌ {A = State} (record { rule = TwoPairs; n = t.n; limits = t.limits; nodes = first_of t.n starting_node (set t.nodes at c); queue = first_of left no_message ms; sent = a; delivered = b; lost = d })
      (record { rule = TwoPairs; n = t.n; limits = t.limits; nodes = set (view t).nodes at c; queue = without k (view t).queue ++ []; sent = a; delivered = b; lost = d })
  stored_quiet =
      state_is t.n t.limits a b d (first_set t.n at starting_node t.nodes c h (omega (arith, s.nodes)))
      (first_take left no_message ms (omega (arith, left_few 64 t.waiting k left x short)) ∙ taken ∙ sym (append-nil _))

  pub stored_sent : left < 64 → (m : Message)
      → ◌≡◌ {A = State} (record { rule = TwoPairs; n = t.n; limits = t.limits; nodes = first_of t.n starting_node (set t.nodes at c); queue = first_of (left + 1) no_message (set ms left m); sent = a; delivered = b; lost = d })
      (record { rule = TwoPairs; n = t.n; limits = t.limits; nodes = set (view t).nodes at c; queue = without k (view t).queue ++ (m ∷ []); sent = a; delivered = b; lost = d })
  stored_sent room m =
      state_is t.n t.limits a b d (first_set t.n at starting_node t.nodes c h (omega (arith, s.nodes)))
      (first_take (left + 1) no_message (set ms left m) (simp length-set (omega arith)) ∙ one_more ∙ ap (λ (q : List Message). q ++ (m ∷ [])) taken)
    where
      one_more : take (left + 1) (set ms left m) ≡ take left ms ++ (m ∷ [])
      one_more = rw (add-one left) (take-suc-set ms left m (omega arith))

-- ── the starting table ──
pub start_is : (n : ℕ) (lim : Limits) → view (starting_table n lim) ≡ start n lim
unfolding first_of
start_is n lim = state_is n lim no_counts no_counts no_counts (first_replicate n 16 starting_node) refl
