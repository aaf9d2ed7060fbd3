-- The counts of T-05: what one more changes, how many messages of a queue pass a test, and what an accepted event does to both.
use Prim.Native.Nat.{ℕ, zero, suc, ◌+◌, ◌≤◌}
use native.Mathlib.Omega.{arith}
use mathlib.Core.Bool.{Bool, true, false, ◌&&◌, ◌||◌}
use mathlib.Core.Path.{◌≡◌, refl, ◌∙◌, ap, subst}
use mathlib.Core.List.{List, [], ◌∷◌, ◌++◌}
use lib.Dec.{eqb}
use lib.ListN.{length, length-set, get_or-replicate}
use lib.Seq.{get_or-set_same, get_or-set_other}
use borrow.Author.Tests.{eqb-true, eqb-false, le-leb, not-false}
use Rattle.model.specs.Limits.{traffic_end}
use Rattle.model.specs.Counts.{pair_place, sender_at, receiver_at, count_at, one_more, no_counts, one}
use Rattle.model.specs.Range.{is_node, is_pair, count_in_range}
use Rattle.model.specs.State.{State, goes, waits, oldest, without_oldest, how_many, up_to}
use Rattle.model.specs.Step.{remaining, sent, with_sent, with_delivered, with_lost, pair_at_end, wrong_number, none_waits}
use Rattle.model.specs.Traffic.{delivers, loses}
use Rattle.model.proofs.Local.{both_left, both_right}
use Rattle.model.proofs.Locality.{taken_out}
use Rattle.model.proofs.Fields.{node_is, other_is, message_facts, Counting, oldest_goes}
use Rattle.model.proofs.Range.{both, OutgoingIn}
use Rattle.model.specs.declared.Message.{Message}
use Rattle.std.specs.Prelude.{Option, None, Some}
use Rattle.model.specs.declared.Event.{Event}
use Rattle.model.specs.declared.Event.TheVariants.{Crash, Recover, Check, Timeout, Tick, Expire, Finish, Deliver, Lose}

-- ── one more ──

-- two pairs with the same place are the same
pub same_pair : (x y a b : ℕ) → Counting x y → Counting a b → pair_place a b ≡ pair_place x y → (x ≡ a) × (y ≡ b)
same_pair x y a b p q e = (
  omega (arith, p.low, p.high, p.low_to, p.high_to, q.low, q.high, q.low_to, q.high_to),
  omega (arith, p.low, p.high, p.low_to, p.high_to, q.low, q.high, q.low_to, q.high_to),
)

pub more_at : (l : List ℕ) (x y a b : ℕ) → length l ≡ 256 → Counting x y → Counting a b → count_at (one_more l x y) a b ≡ count_at l a b + one (eqb x a && eqb y b)
more_at l x y a b h p q = by_pair (eqb x a) (eqb y b) refl refl
  where
    other : ((x ≡ a) × (y ≡ b) → ⊥) → count_at (one_more l x y) a b ≡ count_at l a b
    other d = get_or-set_other l (pair_place x y) (pair_place a b) (count_at l x y + 1) 0 (λ e. d (same_pair x y a b p q e))

    by_pair : (t u : Bool) → eqb x a ≡ t → eqb y b ≡ u → count_at (one_more l x y) a b ≡ count_at l a b + one (t && u)
    by_pair true true e f =
        subst (λ (z : ℕ). count_at (one_more l x y) z b ≡ count_at l z b + 1) (eqb-true x a e)
        (subst (λ (z : ℕ). count_at (one_more l x y) x z ≡ count_at l x z + 1) (eqb-true y b f)
        (get_or-set_same l (pair_place x y) (count_at l x y + 1) 0 (omega (arith, h, p.low, p.high, p.low_to, p.high_to))))
    by_pair true false e f = other (λ d. eqb-false y b f d.1) ∙ omega arith
    by_pair false u e f = other (λ d. eqb-false x a e d.0) ∙ omega arith

-- nothing is counted at first
pub none_counted : (a b : ℕ) → Counting a b → count_at no_counts a b ≡ 0
none_counted a b p = get_or-replicate 256 (pair_place a b) 0 0 (omega (arith, p.low, p.high, p.low_to, p.high_to))

-- ── messages that pass a test ──
module _ (f : Message → Bool) where
  pub many_append : (q r : List Message) → how_many f (q ++ r) ≡ how_many f q + how_many f r
  unfolding how_many
  many_append [] r = omega arith
  many_append (m ∷ ms) r = omega (arith, many_append ms r)

  pub many_without : (a b : ℕ) (q : List Message) → waits a b q ≡ true → how_many f (without_oldest a b q) + one (f (oldest a b q)) ≡ how_many f q
  unfolding how_many
  many_without a b q w =
      let x = taken_out a b q w in
      omega (arith, ap (how_many f) x.whole, ap (how_many f) x.left, ap (λ (m : Message). one (f m)) x.oldest_is, many_append x.before (x.taken ∷ x.behind), many_append x.before x.behind)

-- ── tests of all pairs ──
pub up_to_all : (k : ℕ) (f : ℕ → Bool) → ((j : ℕ) → 1 ≤ j → j ≤ k → f j ≡ true) → up_to k f ≡ true
unfolding up_to
up_to_all zero f h = refl
up_to_all (suc k) f h = both (up_to k f) _ (up_to_all k f (λ j l u. h j l (omega arith))) (h (suc k) (omega arith) (omega arith))

-- a pair of n nodes has a count
pub pair_counting : (n a b : ℕ) → n ≤ 16 → is_pair n a b ≡ true → Counting a b
pair_counting n a b h e =
    let x = node_is n a (both_left _ _ e) in
    let y = other_is n a b (both_right (is_node n a) _ e) in
    record { low = x.low; high = omega (arith, x.high); low_to = y.low; high_to = omega (arith, y.high) }

-- a count of a pair is in range where it is not above the end
pub is_count : (n a b x : ℕ) → n ≤ 16 → is_pair n a b ≡ true → x ≤ traffic_end → count_in_range n (0 + pair_place a b) x ≡ true
unfolding count_in_range
is_count n a b x h e l =
    let p = pair_counting n a b h e in
    let q : sender_at (0 + pair_place a b) ≡ a = omega (arith, p.low, p.low_to, p.high_to) in
    let r : receiver_at (0 + pair_place a b) ≡ b = omega (arith, p.low, p.low_to, p.high_to) in
    rw (q, r, le-leb x traffic_end l, e) (or_true (eqb x 0))
  where
    or_true : (t : Bool) → (t || true) ≡ true
    or_true true = refl
    or_true false = refl

-- ── an accepted event ──

pub sent_more : (n : ℕ) (l : List ℕ) (o : Option Message) (a b : ℕ) → n ≤ 16 → length l ≡ 256 → OutgoingIn n o → Counting a b
    → count_at (with_sent l o) a b ≡ count_at l a b + how_many (goes a b) (sent o)
unfolding how_many
sent_more n l None a b h e x p = omega arith
sent_more n l (Some m) a b h e x p =
    let f = message_facts n m x in
    let q : Counting m.sender m.receiver = record { low = f.sender.low; high = omega (arith, f.sender.high); low_to = f.receiver.low; high_to = omega (arith, f.receiver.high) } in
    omega (arith, more_at l m.sender m.receiver a b e q p)

-- a message of the pair
goes_pair : (a b : ℕ) (m : Message) → goes a b m ≡ true → (m.sender ≡ a) × (m.receiver ≡ b)
goes_pair a b m e = (eqb-true m.sender a (both_left _ _ e), eqb-true m.receiver b (both_right (eqb m.sender a) _ e))

-- there is room for what is sent, where 17 does not apply
pub sent_room : (l : List ℕ) (o : Option Message) (a b : ℕ) → pair_at_end l o ≡ false → count_at l a b ≤ traffic_end → count_at l a b + how_many (goes a b) (sent o) ≤ traffic_end
unfolding how_many
sent_room l None a b e h = omega arith
sent_room l (Some m) a b e h = by_goes (goes a b m) refl
  where
    by_goes : (t : Bool) → goes a b m ≡ t → count_at l a b + (one t + 0) ≤ traffic_end
    by_goes true q =
        let g = goes_pair a b m q in
        let d : count_at l a b ≡ traffic_end → ⊥ = λ z. eqb-false (count_at l m.sender m.receiver) traffic_end e (rw (g.0, g.1) z) in
        omega arith
    by_goes false q = omega arith

pub sent_length : (l : List ℕ) (o : Option Message) → length (with_sent l o) ≡ length l
sent_length l None = refl
sent_length l (Some m) = length-set l _ _

module _ (n : ℕ) (l : List ℕ) (a b : ℕ) (small : n ≤ 16) (h : length l ≡ 256) (p : Counting a b) where
  pub delivered_more : (s : State) (e : Event) → wrong_number n e ≡ false → count_at (with_delivered l e) a b ≡ count_at l a b + delivers a b s e
  delivered_more s (Crash i) q = omega arith
  delivered_more s (Recover i) q = omega arith
  delivered_more s (Check i) q = omega arith
  delivered_more s (Timeout i) q = omega arith
  delivered_more s (Tick i) q = omega arith
  delivered_more s (Expire i) q = omega arith
  delivered_more s (Finish i t) q = omega arith
  delivered_more s (Deliver x y) q = more_at l x y a b h (pair_counting n x y small (not-false _ q)) p
  delivered_more s (Lose x y) q = omega arith

  pub lost_more : (s : State) (e : Event) → wrong_number n e ≡ false → count_at (with_lost l e) a b ≡ count_at l a b + loses a b s e
  lost_more s (Crash i) q = omega arith
  lost_more s (Recover i) q = omega arith
  lost_more s (Check i) q = omega arith
  lost_more s (Timeout i) q = omega arith
  lost_more s (Tick i) q = omega arith
  lost_more s (Expire i) q = omega arith
  lost_more s (Finish i t) q = omega arith
  lost_more s (Deliver x y) q = omega arith
  lost_more s (Lose x y) q = more_at l x y a b h (pair_counting n x y small (not-false _ q)) p

pub delivered_length : (l : List ℕ) (e : Event) → length (with_delivered l e) ≡ length l
delivered_length l (Crash i) = refl
delivered_length l (Recover i) = refl
delivered_length l (Check i) = refl
delivered_length l (Timeout i) = refl
delivered_length l (Tick i) = refl
delivered_length l (Expire i) = refl
delivered_length l (Finish i t) = refl
delivered_length l (Deliver a b) = length-set l _ _
delivered_length l (Lose a b) = refl

pub lost_length : (l : List ℕ) (e : Event) → length (with_lost l e) ≡ length l
lost_length l (Crash i) = refl
lost_length l (Recover i) = refl
lost_length l (Check i) = refl
lost_length l (Timeout i) = refl
lost_length l (Tick i) = refl
lost_length l (Expire i) = refl
lost_length l (Finish i t) = refl
lost_length l (Deliver a b) = refl
lost_length l (Lose a b) = length-set l _ _

-- the message that is taken out goes from x to y
out_goes : (a b x y : ℕ) (q : List Message) → waits x y q ≡ true → how_many (goes a b) (without_oldest x y q) + one (eqb x a && eqb y b) ≡ how_many (goes a b) q
out_goes a b x y q w =
    let g = oldest_goes x y q w in
    let i = eqb-true (oldest x y q).sender x (both_left _ _ g) in
    let j = eqb-true (oldest x y q).receiver y (both_right (eqb (oldest x y q).sender x) _ g) in
    subst (λ (z : ℕ). how_many (goes a b) (without_oldest x y q) + one (eqb z a && eqb y b) ≡ how_many (goes a b) q) i
    (subst (λ (z : ℕ). how_many (goes a b) (without_oldest x y q) + one (eqb (oldest x y q).sender a && eqb z b) ≡ how_many (goes a b) q) j
    (many_without (goes a b) x y q w))

-- what waits once the event's own message is out
pub out_counted : (s : State) (e : Event) (a b : ℕ) → none_waits s.queue e ≡ false → how_many (goes a b) (remaining s e) + delivers a b s e + loses a b s e ≡ how_many (goes a b) s.queue
unfolding remaining
out_counted s (Crash i) a b q = omega arith
out_counted s (Recover i) a b q = omega arith
out_counted s (Check i) a b q = omega arith
out_counted s (Timeout i) a b q = omega arith
out_counted s (Tick i) a b q = omega arith
out_counted s (Expire i) a b q = omega arith
out_counted s (Finish i t) a b q = omega arith
out_counted s (Deliver x y) a b q = omega (arith, out_goes a b x y s.queue (not-false _ q))
out_counted s (Lose x y) a b q = omega (arith, out_goes a b x y s.queue (not-false _ q))
