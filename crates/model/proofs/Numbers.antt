-- The node of an accepted event is 1 to n.
use Prim.Native.Nat.{ℕ, ◌≤◌}
use mathlib.Core.Bool.{true, false, not, ◌&&◌}
use mathlib.Core.Path.{◌≡◌}
use lib.Dec.{leb}
use borrow.Author.Tests.{leb-true, not-false}
use Rattle.model.specs.Range.{is_node, is_other}
use Rattle.model.specs.Step.{actor, wrong_number}
use Rattle.model.proofs.Local.{both_left, both_right}
use Rattle.model.specs.declared.Event.{Event}
use Rattle.model.specs.declared.Event.TheVariants.{Crash, Recover, Check, Timeout, Tick, Expire, Finish, Deliver, Lose}

pub is_node_lem : (n i : ℕ) → is_node n i ≡ true → (1 ≤ i) × (i ≤ n)
is_node_lem n i b = (leb-true 1 i (both_left _ _ b), leb-true i n (both_right (leb 1 i) _ b))

receiver : (n a b : ℕ) → not (is_node n a && is_other n a b) ≡ false → (1 ≤ b) × (b ≤ n)
receiver n a b e =
    let x : is_other n a b ≡ true = both_right (is_node n a) _ (not-false _ e) in
    is_node_lem n b (both_left _ _ x)

pub actor_in : (n : ℕ) (e : Event) → wrong_number n e ≡ false → (1 ≤ actor e) × (actor e ≤ n)
unfolding wrong_number
actor_in n (Crash i) q = is_node_lem n i (not-false _ q)
actor_in n (Recover i) q = is_node_lem n i (not-false _ q)
actor_in n (Check i) q = is_node_lem n i (not-false _ q)
actor_in n (Timeout i) q = is_node_lem n i (not-false _ q)
actor_in n (Tick i) q = is_node_lem n i (not-false _ q)
actor_in n (Expire i) q = is_node_lem n i (not-false _ q)
actor_in n (Finish i t) q = is_node_lem n i (not-false _ q)
actor_in n (Deliver a b) q = receiver n a b q
actor_in n (Lose a b) q = receiver n a b q
