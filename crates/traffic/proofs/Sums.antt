-- In a table in range the rows of sent are those of delivered plus lost plus waiting. Where two numbers are no pair of its nodes, all four are 0.
use Prim.Native.Nat.{ℕ, ◌+◌}
use native.Mathlib.Omega.{arith}
use mathlib.Core.Path.{◌≡◌, refl, sym, ◌∙◌}
use mathlib.Core.Bool.{Bool, true, false}
use mathlib.Core.List.{List, [], ◌∷◌}
use lib.Dec.{eqb}
use lib.ListN.{length}
use borrow.Author.Tests.{eqb-true}
use Rattle.model.specs.Counts.{pair_place, sender_at, receiver_at, count_at}
use Rattle.model.specs.Range.{is_node, is_pair, count_in_range, message_in_range}
use Rattle.model.specs.State.{State, goes, how_many, waiting, every, in_range}
use Rattle.model.proofs.Local.{both_left, both_right}
use Rattle.model.proofs.Fields.{Counting, count_facts, every_at, node_is, other_is, in_range_queue, in_range_places, in_range_each, in_range_sum}
use Rattle.model.specs.declared.Message.{Message}
use Rattle.traffic.specs.Claims.{RowsAgree}
use Rattle.traffic.proofs.Laws.{rows_same, entry_is}

module _ (n a b : ℕ) (no_pair : is_pair n a b ≡ false) where
  none_counted : (l : List ℕ) → Counting a b → length l ≡ 256 → every (count_in_range n) 0 l ≡ true → count_at l a b ≡ 0
  none_counted l p h e =
      let q : sender_at (0 + pair_place a b) ≡ a = omega arith in
      let r : receiver_at (0 + pair_place a b) ≡ b = omega arith in
      (count_facts n _ _ (every_at (count_in_range n) 0 l (pair_place a b) 0 e (omega arith))).none (rw (q, r) no_pair)

  -- a message in range goes from one node to another
  goes_not : (m : Message) → message_in_range n m ≡ true → (t : Bool) → goes a b m ≡ t → t ≡ false
  unfolding message_in_range
  goes_not m e false g = refl
  goes_not m e true g =
      let i : m.sender ≡ a = eqb-true m.sender a (both_left _ _ g) in
      let j : m.receiver ≡ b = eqb-true m.receiver b (both_right (eqb m.sender a) _ g) in
      let p : is_pair n m.sender m.receiver ≡ true = both_left _ _ (both_left _ _ (both_left _ _ (both_left _ _ e))) in
      sym (rw (i, j) at p) ∙ no_pair

  none_waits_lem : (k : ℕ) (q : List Message) → every (λ j. message_in_range n) k q ≡ true → waiting q a b ≡ 0
  unfolding every how_many
  none_waits_lem k [] e = refl
  none_waits_lem k (m ∷ ms) e = rw (goes_not m (both_left _ _ e) (goes a b m) refl) (omega (arith, none_waits_lem (k + 1) ms (both_right (message_in_range n m) _ e)))

sum_is : (s : State) → in_range s ≡ true → (a b : ℕ) → Counting a b → (t : Bool) → is_pair s.n a b ≡ t
    → count_at s.sent a b ≡ count_at s.delivered a b + count_at s.lost a b + waiting s.queue a b
sum_is s e a b p true h =
    let x = node_is s.n a (both_left _ _ h) in
    let y = other_is s.n a b (both_right (is_node s.n a) _ h) in
    in_range_sum s a b e x.low x.high y.low y.high
sum_is s e a b p false h =
    let long = in_range_places s e in
    let each = in_range_each s e in
    omega
    (arith, none_counted s.n a b h s.sent p long.0 each.0, none_counted s.n a b h s.delivered p long.1 each.1, none_counted s.n a b h s.lost p long.2 each.2, none_waits_lem s.n a b h 1 s.queue (in_range_queue s e))

pub rows_agree : (s : State) → in_range s ≡ true → RowsAgree s
rows_agree s e =
    record {
      sums = rows_same _ _ (λ a b p. sum_is s e a b p (is_pair s.n a b) refl);
      count = λ l a b i j k m. entry_is (count_at l) a b (record { low = i; high = j; low_to = k; high_to = m });
      waits = λ a b i j k m. entry_is (waiting s.queue) a b (record { low = i; high = j; low_to = k; high_to = m });
    }
