-- What a table in range gives: facts of each node's record, of each waiting message, and of the sizes.
use Prim.Native.Nat.{ℕ, zero, suc, ◌+◌, ◌-◌, ◌<◌, ◌≤◌}
use native.Mathlib.Omega.{arith}
use native.Mathlib.Nat.{le_trans}
use mathlib.Core.Bool.{Bool, true, false, not, ◌&&◌, ◌||◌, true≢false}
use mathlib.Core.Logic.{◌⊎◌, inl, inr, ⊎_elim}
use mathlib.Core.Path.{◌≡◌, refl, sym, ◌∙◌, ap, subst}
use mathlib.Core.List.{List, [], ◌∷◌}
use lib.Dec.{eqb, leb}
use lib.ListN.{length, get_or}
use lib.Seq.{get_or-set_same, get_or-set_other}
use borrow.Author.Tests.{eqb-true, eqb-false, leb-true, not-true}
use Rattle.node_set.specs.NodeSet.{has, within}
use Rattle.model.specs.Pick.{by_test}
use Rattle.model.specs.Limits.{tower, counter_end, call_end, traffic_end, tick_end, task_low, task_end}
use Rattle.model.specs.Counts.{count_places, pair_place, sender_at, receiver_at, count_at}
use Rattle.model.specs.Node.{is_down, is_idle, owner_of, counter_of}
use Rattle.model.specs.Range.{pair_rule, is_within_tower, is_node, is_other, is_set_of_others, is_group, is_given_task, is_call, is_group_or_none, is_led, carries_group, activity_in_range, node_in_range, message_in_range, is_pair, count_in_range}
use Rattle.model.specs.State.{State, starting_node, node_at, goes, waits, oldest, how_many, every, up_to, adds_up, counts_in_range, traffic_in_range, in_range}
use Rattle.model.specs.Step.{actor, reaction_to, effect}
use Rattle.model.proofs.Local.{both_left, both_right}
use Rattle.model.proofs.Judged.{Clear}
use Rattle.model.proofs.Numbers.{actor_in}
use Rattle.model.proofs.Locality.{taken_out}
use Rattle.model.specs.declared.Activity.{Activity}
use Rattle.model.specs.declared.Activity.TheVariants.{Idle, Asking, Waiting, Inviting, Collecting, Handing, Contacting, Forwarding, Accepting}
use Rattle.model.specs.declared.Node.{Node}
use Rattle.model.specs.declared.Message.{Message}
use Rattle.model.specs.declared.Event.{Event}

-- ── tests of several parts ──
pub either : (x y : Bool) → (x || y) ≡ true → (x ≡ true) ⊎ (y ≡ true)
either true y e = inl refl
either false y e = inr e

-- where the first of two does not hold, the second does
pub otherwise : (x y : Bool) → x ≡ false → (x || y) ≡ true → y ≡ true
otherwise true y t e = absurd (true≢false t)
otherwise false y t e = e

-- x and all of ys, as `◌&&◌` puts them together
abbrev pub joint : Bool → List Bool → Bool
joint x [] = x
joint x (y ∷ ys) = joint (x && y) ys

abbrev pub Hold : List Bool → Type 0
Hold [] = Unit {0}
Hold (x ∷ xs) = (x ≡ true) × Hold xs

pub parts : (x : Bool) (ys : List Bool) → joint x ys ≡ true → Hold (x ∷ ys)
parts x [] e = (e, tt)
parts x (y ∷ ys) e = let r = parts (x && y) ys e in (both_left x y r.0, (both_right x y r.0, r.1))

-- ── numbers, sets and groups ──

-- j is one of 1 to n
pub record IsNode (n j : ℕ) : Type 0 where
  pub low : 1 ≤ j
  pub high : j ≤ n

-- j is one of 1 to n, and not i
pub record IsOther (n i j : ℕ) : Type 0 where
  pub low : 1 ≤ j
  pub high : j ≤ n
  pub other : j ≡ i → ⊥

-- s is a set of nodes of 1 to n, without i
pub record IsSetOfOthers (n i s : ℕ) : Type 0 where
  pub inside : within n s ≡ true
  pub lacks : has s i ≡ false

-- g is a group's number
pub record IsGroup (n g : ℕ) : Type 0 where
  pub low : 1 ≤ counter_of g
  pub high : counter_of g ≤ counter_end
  pub owner : owner_of g ≤ n

pub record IsGivenTask (t : ℕ) : Type 0 where
  pub low : task_low ≤ t
  pub high : t ≤ task_end

pub record IsCall (k : ℕ) : Type 0 where
  pub low : 1 ≤ k
  pub high : k ≤ call_end

pub node_is : (n j : ℕ) → is_node n j ≡ true → IsNode n j
node_is n j e = let r = parts (leb 1 j) (leb j n ∷ []) e in record { low = leb-true 1 j r.0; high = leb-true j n r.1.0 }

pub other_is : (n i j : ℕ) → is_other n i j ≡ true → IsOther n i j
other_is n i j e =
    let r = parts (is_node n j) (not (eqb j i) ∷ []) e in
    let x = node_is n j r.0 in
    record { low = x.low; high = x.high; other = eqb-false j i (not-true _ r.1.0) }

pub set_is : (n i s : ℕ) → is_set_of_others n i s ≡ true → IsSetOfOthers n i s
set_is n i s e = let r = parts (within n s) (not (has s i) ∷ []) e in record { inside = r.0; lacks = not-true _ r.1.0 }

pub group_is : (n g : ℕ) → is_group n g ≡ true → IsGroup n g
group_is n g e =
    let r = parts (leb 1 (counter_of g)) (leb (counter_of g) counter_end ∷ leb (owner_of g) n ∷ []) e in
    record { low = leb-true 1 _ r.0; high = leb-true _ counter_end r.1.0; owner = leb-true _ n r.1.1.0 }

pub given_is : (t : ℕ) → is_given_task t ≡ true → IsGivenTask t
given_is t e = let r = parts (leb task_low t) (leb t task_end ∷ []) e in record { low = leb-true task_low t r.0; high = leb-true t task_end r.1.0 }

pub call_is : (k : ℕ) → is_call k ≡ true → IsCall k
call_is k e = let r = parts (leb 1 k) (leb k call_end ∷ []) e in record { low = leb-true 1 k r.0; high = leb-true k call_end r.1.0 }

-- ── a node ──

-- what the activity of node i holds, with group g and task t beside it
abbrev pub Busy : ℕ → ℕ → ℕ → ℕ → Activity → Type 0
Busy n i g t Idle = Unit {0}
Busy n i g t (Asking a f) = IsOther n i a × IsSetOfOthers n i f
Busy n i g t (Waiting k f) = (1 ≤ k) × (k ≤ tick_end) × IsSetOfOthers n i f
Busy n i g t (Inviting f o w) = IsSetOfOthers n i f × IsSetOfOthers n i o × IsOther n i w
Busy n i g t Collecting = Unit {0}
Busy n i g t (Handing r w) = IsSetOfOthers n i r × IsOther n i w × IsGivenTask t
Busy n i g t Contacting = Unit {0}
Busy n i g t (Forwarding r w a k) = IsSetOfOthers n i r × IsOther n i w × IsOther n i a × IsCall k.number × (owner_of g ≡ i → ⊥)
Busy n i g t (Accepting a k) = IsOther n i a × IsCall k.number × (owner_of g ≡ i → ⊥)

pub busy_is : (n i g t : ℕ) (a : Activity) → activity_in_range n i g t a ≡ true → Busy n i g t a
unfolding activity_in_range
busy_is n i g t Idle e = tt
busy_is n i g t (Asking a f) e =
    let r = parts (is_other n i a) (is_set_of_others n i f ∷ []) e in (other_is n i a r.0, set_is n i f r.1.0)
busy_is n i g t (Waiting k f) e =
    let r = parts (leb 1 k) (leb k tick_end ∷ is_set_of_others n i f ∷ []) e in
    (leb-true 1 k r.0, leb-true k tick_end r.1.0, set_is n i f r.1.1.0)
busy_is n i g t (Inviting f o w) e =
    let r = parts (is_set_of_others n i f) (is_set_of_others n i o ∷ is_other n i w ∷ []) e in
    (set_is n i f r.0, set_is n i o r.1.0, other_is n i w r.1.1.0)
busy_is n i g t Collecting e = tt
busy_is n i g t (Handing s w) e =
    let r = parts (is_set_of_others n i s) (is_other n i w ∷ is_given_task t ∷ []) e in
    (set_is n i s r.0, other_is n i w r.1.0, given_is t r.1.1.0)
busy_is n i g t Contacting e = tt
busy_is n i g t (Forwarding s w a k) e =
    let r = parts (is_set_of_others n i s) (is_other n i w ∷ is_other n i a ∷ is_call k.number ∷ not (eqb (owner_of g) i) ∷ []) e in
    (set_is n i s r.0, other_is n i w r.1.0, other_is n i a r.1.1.0, call_is _ r.1.1.1.0, eqb-false _ i (not-true _ r.1.1.1.1.0))
busy_is n i g t (Accepting a k) e =
    let r = parts (is_other n i a) (is_call k.number ∷ not (eqb (owner_of g) i) ∷ []) e in
    (other_is n i a r.0, call_is _ r.1.0, eqb-false _ i (not-true _ r.1.1.0))

pub record NodeFacts (n i : ℕ) (c : Node) : Type 0 where
  pub counter : c.counter ≤ counter_end
  pub group : (c.group.number ≡ 0) ⊎ IsGroup n c.group.number
  pub coordinator : c.coordinator ≤ n
  pub task : c.task.number ≤ task_end
  pub members : IsSetOfOthers n i c.members
  pub last : c.last.number ≤ call_end
  -- of one that is not Down
  pub grouped : is_down c.status ≡ false → IsGroup n c.group.number
  pub led : is_down c.status ≡ false → owner_of c.group.number ≡ c.coordinator
  -- of one that is Down
  pub idle : is_down c.status ≡ true → is_idle c.activity ≡ true
  pub activity : Busy n i c.group.number c.task.number c.activity

-- the tests of a node after the first
abbrev node_tests : ℕ → ℕ → Node → List Bool
node_tests n i c =
    is_group_or_none n c.group.number
    ∷ leb c.coordinator n
    ∷ leb c.task.number task_end
    ∷ is_set_of_others n i c.members
    ∷ leb c.last.number call_end
    ∷ is_led n (is_down c.status) c.group.number c.coordinator
    ∷ (not (is_down c.status) || is_idle c.activity)
    ∷ activity_in_range n i c.group.number c.task.number c.activity
    ∷ []

pub node_facts : (n i : ℕ) (c : Node) → node_in_range n i c ≡ true → NodeFacts n i c
unfolding node_in_range
node_facts n i c e =
    record {
      counter = leb-true _ counter_end r.0;
      group = ⊎_elim (λ x. inl (eqb-true _ 0 x)) (λ x. inr (group_is n _ x)) (either (eqb c.group.number 0) _ r.1.0);
      coordinator = leb-true _ n r.1.1.0;
      task = leb-true _ task_end r.1.1.1.0;
      members = set_is n i _ r.1.1.1.1.0;
      last = leb-true _ call_end r.1.1.1.1.1.0;
      grouped = λ u. group_is n _ (led u).0;
      led = λ u. eqb-true _ _ (led u).1.0;
      idle = λ d. otherwise (not (is_down c.status)) _ (ap not d) r.1.1.1.1.1.1.1.0;
      activity = busy_is n i _ _ _ r.1.1.1.1.1.1.1.1.0;
    }
  where
    r : Hold (leb c.counter counter_end ∷ node_tests n i c)
    r = parts (leb c.counter counter_end) (node_tests n i c) e

    led : is_down c.status ≡ false → Hold (is_group n c.group.number ∷ eqb (owner_of c.group.number) c.coordinator ∷ [])
    led u = parts (is_group n c.group.number) (eqb (owner_of c.group.number) c.coordinator ∷ []) (otherwise (is_down c.status) _ u r.1.1.1.1.1.1.0)

-- ── a message ──
pub record MessageFacts (n : ℕ) (m : Message) : Type 0 where
  pub sender : IsNode n m.sender
  pub receiver : IsOther n m.sender m.receiver
  pub kind_low : 1 ≤ m.kind
  pub kind_high : m.kind ≤ 6
  pub call : IsCall m.call.number
  pub group : carries_group m.kind ≡ true → IsGroup n m.group.number
  pub task : eqb m.kind 5 ≡ true → IsGivenTask m.task.number

-- the tests of a message after the first
abbrev message_tests : ℕ → Message → List Bool
message_tests n m =
    is_other n m.sender m.receiver
    ∷ (leb 1 m.kind && leb m.kind 6)
    ∷ is_call m.call.number
    ∷ (not (carries_group m.kind) || is_group n m.group.number)
    ∷ (not (eqb m.kind 5) || is_given_task m.task.number)
    ∷ []

pub message_facts : (n : ℕ) (m : Message) → message_in_range n m ≡ true → MessageFacts n m
unfolding message_in_range
message_facts n m e =
    let r = parts (is_node n m.sender) (message_tests n m) e in
    let k = parts (leb 1 m.kind) (leb m.kind 6 ∷ []) r.1.1.0 in
    record {
      sender = node_is n _ r.0;
      receiver = other_is n _ _ r.1.0;
      kind_low = leb-true 1 _ k.0;
      kind_high = leb-true _ 6 k.1.0;
      call = call_is _ r.1.1.1.0;
      group = λ c. group_is n _ (otherwise (not (carries_group m.kind)) _ (ap not c) r.1.1.1.1.0);
      task = λ c. given_is _ (otherwise (not (eqb m.kind 5)) _ (ap not c) r.1.1.1.1.1.0);
    }

-- ── counts ──

-- a and b are 1 to 16: there is a count from a to b
pub record Counting (a b : ℕ) : Type 0 where
  pub low : 1 ≤ a
  pub high : a ≤ 16
  pub low_to : 1 ≤ b
  pub high_to : b ≤ 16

-- of the count x at place k
pub record CountFacts (n k x : ℕ) : Type 0 where
  pub bounded : x ≤ traffic_end
  pub none : is_pair n (sender_at k) (receiver_at k) ≡ false → x ≡ 0

pub count_facts : (n k x : ℕ) → count_in_range n k x ≡ true → CountFacts n k x
unfolding count_in_range
count_facts n k x e =
    record {
      bounded = leb-true x traffic_end (both_left (leb x traffic_end) _ e);
      none = λ q. ⊎_elim (λ z. eqb-true x 0 z) (λ z. absurd (true≢false (sym z ∙ q))) (either (eqb x 0) _ (both_right (leb x traffic_end) _ e));
    }

-- ── a table ──
pub every_at : {A : Type 0} (f : ℕ → A → Bool) (k : ℕ) (l : List A) (i : ℕ) (d : A) → every f k l ≡ true → i < length l → f (k + i) (get_or l i d) ≡ true
unfolding every
every_at f k [] i d e h = absurd (omega arith)
every_at f k (x ∷ l) zero d e h = subst (λ (j : ℕ). f j x ≡ true) (omega arith) (both_left (f k x) _ e)
every_at f k (x ∷ l) (suc i) d e h = subst (λ (j : ℕ). f j (get_or l i d) ≡ true) (omega arith) (every_at f (k + 1) l i d (both_right (f k x) _ e) (omega arith))

pub up_to_at : (k : ℕ) (f : ℕ → Bool) (j : ℕ) → up_to k f ≡ true → 1 ≤ j → j ≤ k → f j ≡ true
unfolding up_to
up_to_at zero f j e l h = absurd (omega arith)
up_to_at (suc k) f j e l h = at_last (eqb j (suc k)) refl (up_to_at k f j (both_left (up_to k f) _ e) l)
  where
    at_last : (t : Bool) → eqb j (suc k) ≡ t → (j ≤ k → f j ≡ true) → f j ≡ true
    at_last true q g = subst (λ (i : ℕ). f i ≡ true) (sym (eqb-true j (suc k) q)) (both_right (up_to k f) _ e)
    at_last false q g = let d = eqb-false j (suc k) q in g (omega arith)

-- the tests of a table after the first
abbrev table_tests : State → List Bool
table_tests s =
    leb s.n s.limits.nodes
    ∷ eqb (length s.nodes) s.n
    ∷ leb (length s.queue) s.limits.messages
    ∷ every (node_in_range s.n) 1 s.nodes
    ∷ every (λ k. message_in_range s.n) 1 s.queue
    ∷ traffic_in_range s
    ∷ []

-- the limits (T-08)
pub in_range_within : (s : State) → in_range s ≡ true → (s.limits.nodes ≤ 16) × (s.limits.messages ≤ 64)
unfolding in_range
in_range_within s e =
    let w = both_left (is_within_tower s.limits) _ (both_right (pair_rule s.rule s.limits) _ e) in
    (leb-true _ _ (both_left (leb s.limits.nodes tower.nodes) _ w), leb-true _ _ (both_right (leb s.limits.nodes tower.nodes) _ w))

pub in_range_pair : (s : State) → in_range s ≡ true → pair_rule s.rule s.limits ≡ true
unfolding in_range
in_range_pair s e = both_left (pair_rule s.rule s.limits) _ e

table_parts : (s : State) → in_range s ≡ true → Hold (leb 1 s.n ∷ table_tests s)
unfolding in_range
table_parts s e = parts (leb 1 s.n) (table_tests s) (both_right (is_within_tower s.limits) _ (both_right (pair_rule s.rule s.limits) _ e))

pub in_range_nodes : (s : State) → in_range s ≡ true → every (node_in_range s.n) 1 s.nodes ≡ true
in_range_nodes s e = (table_parts s e).1.1.1.1.0

pub in_range_queue : (s : State) → in_range s ≡ true → every (λ k. message_in_range s.n) 1 s.queue ≡ true
in_range_queue s e = (table_parts s e).1.1.1.1.1.0

-- n and the waiting messages by the table's own limits
pub in_range_own : (s : State) → in_range s ≡ true → (s.n ≤ s.limits.nodes) × (length s.queue ≤ s.limits.messages)
in_range_own s e = let r = table_parts s e in (leb-true _ _ r.1.0, leb-true _ _ r.1.1.1.0)

pub in_range_size : (s : State) → in_range s ≡ true → (1 ≤ s.n) × (s.n ≤ 16) × (length s.nodes ≡ s.n) × (length s.queue ≤ 64)
in_range_size s e =
    let r = table_parts s e in
    let o = in_range_own s e in
    let w = in_range_within s e in
    (leb-true 1 s.n r.0, le_trans o.0 w.0, eqb-true _ _ r.1.1.0, le_trans o.1 w.1)

in_range_traffic : (s : State) → in_range s ≡ true → traffic_in_range s ≡ true
in_range_traffic s e = (table_parts s e).1.1.1.1.1.1.0

traffic_parts : (s : State) → in_range s ≡ true
    → Hold (counts_in_range s.n s.sent ∷ counts_in_range s.n s.delivered ∷ counts_in_range s.n s.lost ∷ up_to s.n (λ a. up_to s.n (λ b. adds_up s a b)) ∷ [])
unfolding traffic_in_range
traffic_parts s e = parts _ (counts_in_range s.n s.delivered ∷ counts_in_range s.n s.lost ∷ up_to s.n (λ a. up_to s.n (λ b. adds_up s a b)) ∷ []) (in_range_traffic s e)

-- of a list of counts in range
pub counts_length : (n : ℕ) (l : List ℕ) → counts_in_range n l ≡ true → length l ≡ 256
unfolding counts_in_range
counts_length n l e = eqb-true _ _ (both_left (eqb (length l) count_places) _ e)

pub counts_each : (n : ℕ) (l : List ℕ) → counts_in_range n l ≡ true → every (count_in_range n) 0 l ≡ true
unfolding counts_in_range
counts_each n l e = both_right (eqb (length l) count_places) _ e

pub in_range_places : (s : State) → in_range s ≡ true → (length s.sent ≡ 256) × (length s.delivered ≡ 256) × (length s.lost ≡ 256)
in_range_places s e =
    let r = traffic_parts s e in
    (counts_length s.n _ r.0, counts_length s.n _ r.1.0, counts_length s.n _ r.1.1.0)

pub in_range_each : (s : State) → in_range s ≡ true
    → (every (count_in_range s.n) 0 s.sent ≡ true) × (every (count_in_range s.n) 0 s.delivered ≡ true) × (every (count_in_range s.n) 0 s.lost ≡ true)
in_range_each s e =
    let r = traffic_parts s e in
    (counts_each s.n _ r.0, counts_each s.n _ r.1.0, counts_each s.n _ r.1.1.0)

-- no count of a list in range is above the end
pub count_bounded : (n : ℕ) (l : List ℕ) (a b : ℕ) → length l ≡ 256 → every (count_in_range n) 0 l ≡ true → Counting a b → count_at l a b ≤ traffic_end
count_bounded n l a b h e p =
    (count_facts n _ _ (every_at (count_in_range n) 0 l (pair_place a b) 0 e (omega (arith, h, p.low, p.high, p.low_to, p.high_to)))).bounded

-- "Sent is delivered plus lost plus those waiting"
pub in_range_sum : (s : State) (a b : ℕ) → in_range s ≡ true → 1 ≤ a → a ≤ s.n → 1 ≤ b → b ≤ s.n
    → count_at s.sent a b ≡ count_at s.delivered a b + count_at s.lost a b + how_many (goes a b) s.queue
in_range_sum s a b e l h m k =
    eqb-true _ _
    (up_to_at s.n (λ y. adds_up s a y) b
    (up_to_at s.n (λ x. up_to s.n (λ y. adds_up s x y)) a (traffic_parts s e).1.1.1.0 l h)
    m k)

pub in_range_node : (s : State) (j : ℕ) → in_range s ≡ true → 1 ≤ j → j ≤ s.n → node_in_range s.n j (node_at s j) ≡ true
in_range_node s j e l h =
    subst (λ (k : ℕ). node_in_range s.n k (node_at s j) ≡ true) (omega arith)
    (every_at (node_in_range s.n) 1 s.nodes (j - 1) starting_node (in_range_nodes s e) (omega (arith, (in_range_size s e).2)))

-- what holds of every message of the queue holds of the oldest from a to b, where one waits
pub every_oldest : (f : Message → Bool) (a b k : ℕ) (q : List Message) → every (λ j. f) k q ≡ true → waits a b q ≡ true → f (oldest a b q) ≡ true
unfolding every waits oldest
every_oldest f a b k [] e w = absurd (true≢false (sym w))
every_oldest f a b k (m ∷ ms) e w =
    by_test (λ (x : Message). f x ≡ true) (λ _. both_left (f m) _ e)
    (λ t. every_oldest f a b (k + 1) ms (both_right (f m) _ e) (otherwise (goes a b m) _ t w))

pub oldest_goes : (a b : ℕ) (q : List Message) → waits a b q ≡ true → goes a b (oldest a b q) ≡ true
oldest_goes a b q w = let x = taken_out a b q w in rw x.oldest_is x.goes_there

pub in_range_oldest : (s : State) (a b : ℕ) → in_range s ≡ true → waits a b s.queue ≡ true → message_in_range s.n (oldest a b s.queue) ≡ true
in_range_oldest s a b e w = every_oldest (message_in_range s.n) a b 1 s.queue (in_range_queue s e) w

-- an accepted event's node has its new record
pub own_record : (s : State) (e : Event) → Clear s e → node_at (effect s e) (actor e) ≡ (reaction_to s e).node
unfolding effect
own_record s e c =
    let k = actor_in s.n e c.number in
    get_or-set_same s.nodes (actor e - 1) (reaction_to s e).node starting_node (omega (arith, k.0, k.1, (in_range_size s c.in_range_lem).2))

-- and the others have theirs
pub other_record : (s : State) (e : Event) → Clear s e → (j : ℕ) → 1 ≤ j → (j ≡ actor e → ⊥) → node_at (effect s e) j ≡ node_at s j
unfolding effect
other_record s e c j l d =
    get_or-set_other s.nodes (actor e - 1) (j - 1) (reaction_to s e).node starting_node (λ z. d (omega (arith, l, z, (actor_in s.n e c.number).0)))

-- so what holds of the new record, and of the others as they were, holds of all
pub each_record : (P : ℕ → Node → Type 0) (s : State) (e : Event) → Clear s e → P (actor e) (reaction_to s e).node
    → ((j : ℕ) → 1 ≤ j → j ≤ s.n → P j (node_at s j)) → (j : ℕ) → 1 ≤ j → j ≤ s.n → P j (node_at (effect s e) j)
each_record P s e c x y j l h = by (eqb j (actor e)) refl
  where
    by : (t : Bool) → eqb j (actor e) ≡ t → P j (node_at (effect s e) j)
    by true q = subst (λ (i : ℕ). P i (node_at (effect s e) i)) (sym (eqb-true j (actor e) q)) (subst (P (actor e)) (sym (own_record s e c)) x)
    by false q = subst (P j) (sym (other_record s e c j l (eqb-false j (actor e) q))) (y j l h)
