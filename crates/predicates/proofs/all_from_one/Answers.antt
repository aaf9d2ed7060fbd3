-- `all_from_one` meets its contract: the answer is that of the elements from k on.
use Prim.Native.Nat.{ℕ, ◌≤◌, ◌<◌, ◌+◌}
use native.Mathlib.Numerals.{add-one}
use native.Mathlib.Omega.{arith}
use mathlib.Core.Path.{◌≡◌, sym, ◌∙◌}
use mathlib.Core.Bool.{Bool, true, ◌&&◌}
use mathlib.Core.List.{List}
use lib.ListN.{length, get_or, drop, drop_of_length-le}
use lib.Seq.{drop-cons}
use Rattle.model.specs.State.{every}
use Rattle.predicates.proofs.all_from_one.Goals as goal

-- what is left at k, by the element x there
turn : {A : Type 0} (f : ℕ → A → Bool) (l : List A) (k : ℕ) (x : A) (r : Bool) → k < length l → x ≡ get_or l k x → r ≡ f (k + 1) x
    → every f (k + 1) (drop k l) ≡ r && every f (k + 1 + 1) (drop (k + 1) l)
unfolding every
turn f l k x r h e q = rw (q, add-one, drop-cons l k x, ← e)

past : {A : Type 0} (f : ℕ → A → Bool) (i : ℕ) (l : List A) (k : ℕ) → length l ≤ k → every f i (drop k l) ≡ true
unfolding every
past f i l k h = rw drop_of_length-le

pub returns-then-not-f : goal.returns-then-not-f
returns-then-not-f g c =
    λ p s.
    let e = turn p c.args.xs.now c.loop-k.k c.index-xs-k.result c.f.result (omega arith) c.index-xs-k.is
    (s (c.loop-k.k + 1) c.index-xs-k.result c.f.result (omega arith) (omega arith) c.f.ensures) in
    sym (c.loop-k.invariant p s ∙ rw c.if-not-f.true at e)

pub loop-k-preserved : goal.loop-k-preserved
loop-k-preserved g c =
    λ p s.
    let e = turn p c.args.xs.now c.loop-k.k c.index-xs-k.result c.f.result (omega arith) c.index-xs-k.is
    (s (c.loop-k.k + 1) c.index-xs-k.result c.f.result (omega arith) (omega arith) c.f.ensures) in
    c.loop-k.invariant p s ∙ rw c.if-not-f.false at e

pub returns : goal.returns
returns g c = λ p s. sym (c.loop-k.invariant p s ∙ past p (c.loop-k.k + 1) c.args.xs.now c.loop-k.k (omega arith))
