-- The order of the round: by sender and receiver, and each pair once in n × (n − 1) turns.
use Prim.Native.Nat.{ℕ, zero, suc, ◌+◌, ◌-◌, ◌*◌, ◌<◌, ◌≤◌}
use native.Mathlib.Omega.{arith}
use native.Mathlib.Nat.{suc-mul, mul-le-mul_right}
use mathlib.Core.Bool.{Bool, true, false}
use mathlib.Core.Logic.{◌⊎◌, inl, inr, ⊎_elim}
use mathlib.Core.Path.{◌≡◌, refl, sym, ◌∙◌, ap}
use lib.Dec.{leb, ltb}
use borrow.Author.Tests.{eqb-true, eqb-false, leb-true, leb-false, ltb-true, ltb-false, le-leb, lt-leb, ne_eqb}
use Rattle.model.specs.Pick.{pick, pick_true, pick_false, by_test}
use Rattle.model.specs.Range.{is_node}
use Rattle.model.proofs.Local.{both_left, both_right}
use Rattle.model.proofs.Fields.{node_is, other_is}
use Rattle.round.specs.Order.{pair, is_in_round, first_pair, round_size, next_receiver, next_pair, later, Before}
use Rattle.round.specs.Claims.{RoundOrder}
use Rattle.round.specs.declared.Place.{Place}

-- ── a pair of the round ──
pub record IsPair (n : ℕ) (p : Place) : Type 0 where
  pub sender_low : 1 ≤ p.sender
  pub sender_high : p.sender ≤ n
  pub receiver_low : 1 ≤ p.receiver
  pub receiver_high : p.receiver ≤ n
  pub other : p.receiver ≡ p.sender → ⊥

pub pair_is : (n : ℕ) (p : Place) → is_in_round n p ≡ true → IsPair n p
pair_is n p e =
    let x = node_is n p.sender (both_left (is_node n p.sender) _ e) in
    let y = other_is n p.sender p.receiver (both_right (is_node n p.sender) _ e) in
    record { sender_low = x.low; sender_high = x.high; receiver_low = y.low; receiver_high = y.high; other = y.other }

pub is_pair : (n : ℕ) (p : Place) → IsPair n p → is_in_round n p ≡ true
is_pair n p x =
    simp (le-leb 1 _ x.sender_low, le-leb _ n x.sender_high, le-leb 1 _ x.receiver_low, le-leb _ n x.receiver_high, ne_eqb _ _ x.other)

-- two pairs with the same numbers
pub same_pair : (p q : Place) → p.sender ≡ q.sender → p.receiver ≡ q.receiver → p ≡ q
same_pair p q s r = ap (λ (a : ℕ). pair a p.receiver) s ∙ ap (pair q.sender) r

-- what is known of a number by the side of another on which it stands
by_side : {P : Type 0} (a b : ℕ) → (b ≡ a → ⊥) → (b < a → P) → (a < b → P) → P
by_side {P} a b d f g = go (ltb b a) refl
  where
    go : (t : Bool) → ltb b a ≡ t → P
    go true e = f (ltb-true b a e)
    go false e = g (let l = ltb-false b a e in omega arith)

-- ── the next pair ──

-- the next receiver c after b: a passed over, or not
abbrev Follows : ℕ → ℕ → ℕ → Type 0
Follows a b c = ((b + 1 ≡ a) × (c ≡ b + 2)) ⊎ ((b + 1 ≡ a → ⊥) × (c ≡ b + 1))

next_receiver_lem : (a b : ℕ) → Follows a b (next_receiver a b)
unfolding next_receiver
next_receiver_lem a b = by_test (Follows a b) (λ e. inl (eqb-true (b + 1) a e, refl)) (λ e. inr (eqb-false (b + 1) a e, refl))

-- what the next pair q of p is: its sender's next receiver c; the next sender's first; or the first of all, where p is (n,n−1)
data Next (n : ℕ) (p : Place) : Place → Type 0 where
  receiver : (c : ℕ) → Follows p.sender p.receiver c → c ≤ n → Next n p (pair p.sender c)
  sender : (c : ℕ) → Follows p.sender p.receiver c → n < c → p.sender < n → Next n p (pair (p.sender + 1) 1)
  start : (c : ℕ) → Follows p.sender p.receiver c → n < c → n ≤ p.sender → Next n p first_pair

next_is : (n : ℕ) (p : Place) → Next n p (next_pair n p)
unfolding next_pair
next_is n p =
    let c = next_receiver p.sender p.receiver in
    let f = next_receiver_lem p.sender p.receiver in
    by_test (Next n p) (λ e. receiver c f (leb-true c n e))
    (λ e. by_test (Next n p) (λ u. sender c f (leb-false c n e) (ltb-true p.sender n u)) (λ u. start c f (leb-false c n e) (ltb-false p.sender n u)))

module _ (n : ℕ) (p : Place) (x : IsPair n p) where
  next_in : (q : Place) → Next n p q → IsPair n q
  next_in q (receiver c f h) =
      record { sender_low = x.sender_low; sender_high = x.sender_high; receiver_low = ⊎_elim (λ z. omega (arith, z.1)) (λ z. omega (arith, z.1)) f; receiver_high = h; other = ⊎_elim (λ z e. omega (arith, z.0, z.1, e)) (λ z e. z.0 (sym z.1 ∙ e)) f }
  next_in q (sender c f h l) =
      record { sender_low = omega arith; sender_high = omega (arith, l); receiver_low = omega arith; receiver_high = omega (arith, l, x.sender_low); other = λ e. omega (arith, e, x.sender_low) }
  next_in q (start c f h l) =
      record { sender_low = omega arith; sender_high = omega (arith, two); receiver_low = omega arith; receiver_high = omega (arith, two); other = λ e. omega (arith, e) }
    where
      two : 2 ≤ n
      two = by_side p.sender p.receiver x.other (λ z. omega (arith, z, x.receiver_low, x.sender_high)) (λ z. omega (arith, z, x.sender_low, x.receiver_high))

  -- the last pair
  last_is : (c : ℕ) → Follows p.sender p.receiver c → n < c → n ≤ p.sender → p ≡ pair n (n - 1)
  last_is c f h l =
      let s : p.sender ≡ n = omega (arith, l, x.sender_high) in
      same_pair p (pair n (n - 1)) s
      (⊎_elim (λ z. omega (arith, z.0, s)) (λ z. absurd (x.other (omega (arith, z.1, h, s, x.receiver_high)))) f)

  next_after : (q : Place) → Next n p q → (p ≡ pair n (n - 1) → ⊥) → Before p q
  next_after q (receiver c f h) d = inr (refl, ⊎_elim (λ z. omega (arith, z.1)) (λ z. omega (arith, z.1)) f)
  next_after q (sender c f h l) d = inl (omega arith)
  next_after q (start c f h l) d = absurd (d (last_is c f h l))

  none_between : (q r : Place) → Next n p r → IsPair n q → (p ≡ pair n (n - 1) → ⊥) → Before p q → Before q r → ⊥
  none_between q r (receiver c f h) y d (inl i) (inl j) = omega (arith, i, j)
  none_between q r (receiver c f h) y d (inl i) (inr j) = omega (arith, i, j.0)
  none_between q r (receiver c f h) y d (inr i) (inl j) = omega (arith, i.0, j)
  none_between q r (receiver c f h) y d (inr i) (inr j) =
      ⊎_elim (λ z. y.other (omega (arith, i.0, i.1, j.1, z.0, z.1))) (λ z. omega (arith, i.1, j.1, z.1)) f
  none_between q r (sender c f h l) y d (inl i) (inl j) = omega (arith, i, j)
  none_between q r (sender c f h l) y d (inl i) (inr j) = omega (arith, j.1, y.receiver_low)
  none_between q r (sender c f h l) y d (inr i) (inl j) =
      ⊎_elim (λ z. y.other (omega (arith, i.0, i.1, z.0, z.1, h, y.receiver_high))) (λ z. omega (arith, i.1, z.1, h, y.receiver_high)) f
  none_between q r (sender c f h l) y d (inr i) (inr j) = omega (arith, i.0, j.0)
  none_between q r (start c f h l) y d i j = d (last_is c f h l)

from_start : (n : ℕ) → 2 ≤ n → (q : Place) → Next n (pair n (n - 1)) q → q ≡ pair 1 2
from_start n l q (receiver c f h) = absurd (⊎_elim (λ z. omega (arith, z.1, h, l)) (λ z. z.0 (omega (arith, l))) f)
from_start n l q (sender c f h k) = absurd (omega (arith, k))
from_start n l q (start c f h k) = refl

-- ── where a pair stands in the round, counted from 0 ──

-- where the receiver b stands among the others of a
receiver_rank : ℕ → ℕ → ℕ
receiver_rank a b = pick (ltb b a) (b - 1) (b - 2)

rank : ℕ → Place → ℕ
rank n p = (p.sender - 1) * (n - 1) + receiver_rank p.sender p.receiver

receiver_rank_low : (a b : ℕ) → b < a → receiver_rank a b ≡ b - 1
unfolding receiver_rank
receiver_rank_low a b h = by_test (λ k. k ≡ b - 1) (λ _. refl) (λ e. omega (arith, ltb-false b a e))

receiver_rank_high : (a b : ℕ) → a < b → receiver_rank a b ≡ b - 2
unfolding receiver_rank
receiver_rank_high a b h = by_test (λ k. k ≡ b - 2) (λ e. omega (arith, ltb-true b a e)) (λ _. refl)

rank_is : (n a b : ℕ) → rank n (pair a b) ≡ (a - 1) * (n - 1) + receiver_rank a b
unfolding rank
rank_is n a b = refl

receiver_rank_in : (n : ℕ) (p : Place) → IsPair n p → receiver_rank p.sender p.receiver + 1 ≤ n - 1
receiver_rank_in n p x =
    by_side p.sender p.receiver x.other (λ h. omega (arith, receiver_rank_low p.sender p.receiver h, x)) (λ h. omega (arith, receiver_rank_high p.sender p.receiver h, x))

receiver_rank_apart : (a b c : ℕ) → (b ≡ a → ⊥) → (c ≡ a → ⊥) → 1 ≤ b → 1 ≤ c → 1 ≤ a → receiver_rank a b ≡ receiver_rank a c → b ≡ c
receiver_rank_apart a b c x y i j k e =
    by_side a b x
    (λ h. by_side a c y (λ l. omega (arith, receiver_rank_low a b h, receiver_rank_low a c l)) (λ l. omega (arith, receiver_rank_low a b h, receiver_rank_high a c l)))
    (λ h. by_side a c y (λ l. omega (arith, receiver_rank_high a b h, receiver_rank_low a c l)) (λ l. omega (arith, receiver_rank_high a b h, receiver_rank_high a c l)))

-- a row of n - 1 more
row : (n a : ℕ) → 1 ≤ a → a * (n - 1) ≡ (a - 1) * (n - 1) + (n - 1)
row n a h = let e : a ≡ suc (a - 1) = omega arith in ap (◌* (n - 1)) e ∙ suc-mul (a - 1) (n - 1)

rank_first : (n : ℕ) → rank n first_pair ≡ 0
rank_first n = omega (arith, rank_is n 1 2, receiver_rank_high 1 2 (omega arith))

rank_in : (n : ℕ) (p : Place) → IsPair n p → rank n p < round_size n
rank_in n p x =
    omega (arith, rank_is n p.sender p.receiver, receiver_rank_in n p x, row n p.sender x.sender_low, mul-le-mul_right {m = p.sender} {n = n} (n - 1) x.sender_high)

-- a receiver after which there is none is the last of its row
row_end : (n : ℕ) (p : Place) → IsPair n p → (c : ℕ) → Follows p.sender p.receiver c → n < c → receiver_rank p.sender p.receiver + 1 ≡ n - 1
row_end n p x c (inl z) h = omega (arith, z.0, z.1, h, receiver_rank_low p.sender p.receiver (omega (arith, z.0)), x.receiver_low, x.sender_high)
row_end n p x c (inr z) h =
    by_side p.sender p.receiver x.other (λ l. absurd (omega (arith, z.1, h, l, x.sender_high)))
    (λ l. omega (arith, z.1, h, l, receiver_rank_high p.sender p.receiver l, x.receiver_high, x.sender_low))

-- the next pair stands one further on, or p is the last and it is the first
next_rank : (n : ℕ) (p : Place) → IsPair n p → (q : Place) → Next n p q → (rank n q ≡ rank n p + 1) ⊎ ((rank n p + 1 ≡ round_size n) × (q ≡ first_pair))
next_rank n p x q (receiver c f h) = inl (omega (arith, rank_is n a b, rank_is n a c, one f))
  where
    a : ℕ
    a = p.sender

    b : ℕ
    b = p.receiver

    one : Follows a b c → receiver_rank a c ≡ receiver_rank a b + 1
    one (inl z) = omega (arith, z.0, z.1, receiver_rank_low a b (omega (arith, z.0)), receiver_rank_high a c (omega (arith, z.0, z.1)), x.receiver_low)
    one (inr z) =
        by_side a b x.other (λ l. omega (arith, z.1, receiver_rank_low a b l, receiver_rank_low a c (omega (arith, z.0, z.1, l)), x.receiver_low))
        (λ l. omega (arith, z.1, receiver_rank_high a b l, receiver_rank_high a c (omega (arith, z.1, l)), x.sender_low, l))
next_rank n p x q (sender c f h l) =
    inl (omega (arith, rank_is n p.sender p.receiver, rank_is n (p.sender + 1) 1, receiver_rank_low (p.sender + 1) 1 (omega (arith, x.sender_low)), row n p.sender x.sender_low, row_end n p x c f h, plus_one))
  where
    plus_one : (p.sender + 1 - 1) * (n - 1) ≡ p.sender * (n - 1)
    plus_one = let e : p.sender + 1 - 1 ≡ p.sender = omega arith in ap (◌* (n - 1)) e
next_rank n p x q (start c f h l) = inr (omega (arith, rank_is n p.sender p.receiver, row n p.sender x.sender_low, row_end n p x c f h, whole), refl)
  where
    whole : p.sender * (n - 1) ≡ n * (n - 1)
    whole = let e : p.sender ≡ n = omega (arith, l, x.sender_high) in ap (◌* (n - 1)) e

not_below : {i j : ℕ} → (i < j → ⊥) → j ≤ i
not_below f = omega arith

-- two pairs that stand at one place are the same
rank_apart : (n : ℕ) (p q : Place) → IsPair n p → IsPair n q → rank n p ≡ rank n q → p ≡ q
rank_apart n p q x y e =
    let s : p.sender ≡ q.sender = omega (arith, not_below (below p q x y e), not_below (below q p y x (sym e))) in
    same_pair p q s
    (receiver_rank_apart p.sender p.receiver q.receiver x.other (λ z. y.other (z ∙ s)) x.receiver_low y.receiver_low x.sender_low
    (omega (arith, e, rank_is n p.sender p.receiver, rank_is n q.sender q.receiver, ap (λ (a : ℕ). (a - 1) * (n - 1)) s, ap (λ (a : ℕ). receiver_rank a q.receiver) s)))
  where
    below : (p q : Place) → IsPair n p → IsPair n q → rank n p ≡ rank n q → p.sender < q.sender → ⊥
    below p q x y e h =
        omega (arith, e, rank_is n p.sender p.receiver, rank_is n q.sender q.receiver, receiver_rank_in n p x, row n p.sender x.sender_low, mul-le-mul_right {m = p.sender} {n = q.sender - 1} (n - 1) (omega arith))

-- ── how many turns a pair is ahead ──
gap : ℕ → ℕ → ℕ → ℕ
gap k i j = pick (leb i j) (j - i) (j + k - i)

gap_up : (k i j : ℕ) → i ≤ j → gap k i j ≡ j - i
unfolding gap
gap_up k i j h = rw (le-leb i j h, pick_true)

gap_down : (k i j : ℕ) → j < i → gap k i j ≡ j + k - i
unfolding gap
gap_down k i j h = rw (lt-leb i j h, pick_false)

-- q is so many turns ahead of p
pub ahead : ℕ → Place → Place → ℕ
ahead n p q = gap (round_size n) (rank n p) (rank n q)

pub ahead_in : (n : ℕ) (p q : Place) → IsPair n p → IsPair n q → ahead n p q < round_size n
unfolding ahead gap
ahead_in n p q x y =
    by_test (λ k. k < round_size n) (λ e. omega (arith, rank_in n q y)) (λ e. omega (arith, leb-false (rank n p) (rank n q) e, rank_in n p x, rank_in n q y))

pub ahead_none : (n : ℕ) (p : Place) → ahead n p p ≡ 0
unfolding ahead
ahead_none n p = gap_up (round_size n) (rank n p) (rank n p) (omega arith) ∙ omega arith

pub next_valid : (n : ℕ) (p : Place) → IsPair n p → IsPair n (next_pair n p)
next_valid n p x = next_in n p x (next_pair n p) (next_is n p)

module _ (n : ℕ) (p : Place) (x : IsPair n p) where
  ranked : (rank n (next_pair n p) ≡ rank n p + 1) ⊎ ((rank n p + 1 ≡ round_size n) × (next_pair n p ≡ first_pair))
  ranked = next_rank n p x (next_pair n p) (next_is n p)

  -- a turn at another pair brings it nearer
  pub ahead_nearer : (q : Place) → IsPair n q → (p ≡ q → ⊥) → ahead n (next_pair n p) q + 1 ≡ ahead n p q
  unfolding ahead
  ahead_nearer q y d = by_rank ranked
    where
      j : ℕ
      j = rank n q

      differ : rank n p ≡ j → ⊥
      differ e = d (rank_apart n p q x y e)

      by_rank : (rank n (next_pair n p) ≡ rank n p + 1) ⊎ ((rank n p + 1 ≡ round_size n) × (next_pair n p ≡ first_pair)) → gap (round_size n) (rank n (next_pair n p)) j + 1 ≡ gap (round_size n) (rank n p) j
      by_rank (inl e) =
          rw e
          (by_side j (rank n p) differ
          (λ h. omega (arith, gap_up (round_size n) (rank n p) j (omega arith), gap_up (round_size n) (rank n p + 1) j (omega arith)))
          (λ h. omega (arith, gap_down (round_size n) (rank n p) j h, gap_down (round_size n) (rank n p + 1) j (omega arith), rank_in n p x)))
      by_rank (inr e) =
          rw (e.1, rank_first n)
          (by_side j (rank n p) differ
          (λ h. absurd (omega (arith, e.0, rank_in n q y)))
          (λ h. omega (arith, e.0, gap_down (round_size n) (rank n p) j h, gap_up (round_size n) 0 j (omega arith))))

  -- and a turn at itself leaves it a whole round away
  pub ahead_again : ahead n (next_pair n p) p + 1 ≡ round_size n
  unfolding ahead
  ahead_again = by_rank ranked
    where
      by_rank : (rank n (next_pair n p) ≡ rank n p + 1) ⊎ ((rank n p + 1 ≡ round_size n) × (next_pair n p ≡ first_pair)) → gap (round_size n) (rank n (next_pair n p)) (rank n p) + 1 ≡ round_size n
      by_rank (inl e) = rw e (omega (arith, gap_down (round_size n) (rank n p + 1) (rank n p) (omega arith), rank_in n p x))
      by_rank (inr e) = rw (e.1, rank_first n) (omega (arith, e.0, gap_up (round_size n) 0 (rank n p) (omega arith)))

comes_up : (n k : ℕ) (p q : Place) → IsPair n p → IsPair n q → ahead n p q ≡ k → later n k p ≡ q
unfolding later ahead
comes_up n zero p q x y e = rank_apart n p q x y (level (leb (rank n p) (rank n q)) refl)
  where
    level : (t : Bool) → leb (rank n p) (rank n q) ≡ t → rank n p ≡ rank n q
    level true h = let l = leb-true (rank n p) (rank n q) h in omega (arith, e, gap_up (round_size n) (rank n p) (rank n q) l)
    level false h = let l = leb-false (rank n p) (rank n q) h in omega (arith, e, gap_down (round_size n) (rank n p) (rank n q) l, rank_in n p x)
comes_up n (suc k) p q x y e =
    comes_up n k (next_pair n p) q (next_valid n p x) y
    (omega (arith, e, ahead_nearer n p x q y (λ z. omega (arith, e, ahead_none n p, ap (λ (r : Place). gap (round_size n) (rank n p) (rank n r)) z))))

later_in : (n k : ℕ) (p : Place) → IsPair n p → IsPair n (later n k p)
unfolding later
later_in n zero p x = x
later_in n (suc k) p x = later_in n k (next_pair n p) (next_valid n p x)

-- the pair that comes k turns after p is k turns ahead of it
later_ahead : (n k : ℕ) (p : Place) → IsPair n p → k < round_size n → ahead n p (later n k p) ≡ k
unfolding later
later_ahead n zero p x h = ahead_none n p
later_ahead n (suc k) p x h = by (later n k (next_pair n p)) (later_in n k (next_pair n p) (next_valid n p x)) (later_ahead n k (next_pair n p) (next_valid n p x) (omega arith))
  where
    by : (q : Place) → IsPair n q → ahead n (next_pair n p) q ≡ k → ahead n p q ≡ suc k
    by q y e = omega (arith, e, ahead_nearer n p x q y (λ z. omega (arith, h, e, ahead_again n p x, ap (ahead n (next_pair n p)) z)))

-- ── the claim ──
first_pair_lem : (n : ℕ) → 2 ≤ n → IsPair n (pair 1 2)
first_pair_lem n l = record { sender_low = omega arith; sender_high = omega arith; receiver_low = omega arith; receiver_high = l; other = λ e. omega (arith, e) }

last_pair : (n : ℕ) → 2 ≤ n → IsPair n (pair n (n - 1))
last_pair n l = record { sender_low = omega arith; sender_high = omega arith; receiver_low = omega arith; receiver_high = omega arith; other = λ e. omega (arith, e) }

before_first : (n : ℕ) (q : Place) → IsPair n q → Before q (pair 1 2) → ⊥
before_first n q y (inl i) = omega (arith, i, y.sender_low)
before_first n q y (inr i) = y.other (omega (arith, i.0, i.1, y.receiver_low))

after_last : (n : ℕ) (q : Place) → IsPair n q → Before (pair n (n - 1)) q → ⊥
after_last n q y (inl i) = omega (arith, i, y.sender_high)
after_last n q y (inr i) = y.other (omega (arith, i.0, i.1, y.receiver_high))

pub round_order : RoundOrder
round_order =
    record {
      starts = λ n l. is_pair n (pair 1 2) (first_pair_lem n l);
      none_before = λ n q y. before_first n q (pair_is n q y);
      ends = λ n l. is_pair n (pair n (n - 1)) (last_pair n l);
      none_after = λ n q y. after_last n q (pair_is n q y);
      goes_on = λ n p x. is_pair n (next_pair n p) (next_valid n p (pair_is n p x));
      in_order = λ n p x. next_after n p (pair_is n p x) (next_pair n p) (next_is n p);
      none_between = λ n p q x y. none_between n p (pair_is n p x) q (next_pair n p) (next_is n p) (pair_is n q y);
      from_the_start = λ n l. from_start n l (next_pair n (pair n (n - 1))) (next_is n (pair n (n - 1)));
      comes_up = λ n p q x y. record { after = ahead n p q; within = ahead_in n p q (pair_is n p x) (pair_is n q y); there = comes_up n (ahead n p q) p q (pair_is n p x) (pair_is n q y) refl };
      once = λ n p j k x h l e. sym (later_ahead n j p (pair_is n p x) h) ∙ ap (ahead n p) e ∙ later_ahead n k p (pair_is n p x) l;
    }
