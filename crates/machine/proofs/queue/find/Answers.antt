-- `find` meets its contract: the place is that of the first message that goes from a to b.
use Prim.Native.Nat.{ℕ, suc, ◌+◌, ◌≤◌}
use native.Mathlib.Omega.{arith}
use mathlib.Core.Bool.{Bool, true, false, not, cond}
use mathlib.Core.List.{List}
use mathlib.Core.Path.{◌≡◌, refl, sym, ◌∙◌}
use lib.Dec.{ltb}
use lib.ListN.{length, take, length-take}
use borrow.Author.Tests.{ltb-false}
use Rattle.std.proofs.Common.{rules, tests, Option, Some, None}
use Rattle.std.specs.Option.{unwrap_or}
use Rattle.std.specs.List.{position_or_len}
use Rattle.std.proofs.lemmas.Iterator.{YieldsList-from_slice}
use Rattle.std.proofs.lemmas.Iterator.Search.{position_from_yields_List}
use Rattle.std.proofs.lemmas.List.Recursion.{is_position_or_len}
use Rattle.std.proofs.lemmas.List.Sums.{prefix_len-le-length}
use Rattle.model.specs.Pick.{pick}
use Rattle.model.specs.State.{goes}
use Rattle.model.specs.declared.Message.{Message}
use Rattle.machine.specs.Parts.{place}
use Rattle.machine.proofs.Laws.{messages_long, queue_is}
use Rattle.machine.proofs.queue.find.Goals as goal

same : (t : Bool) (n : ℕ) → pick t 0 (suc n) ≡ cond t 0 (1 + n)
unfolding pick
same true n = refl
same false n = omega arith

place_is : (a b : ℕ) (q : List Message) → place a b q ≡ position_or_len (goes a b) q
unfolding place
place_is a b q = is_position_or_len (place a b) (goes a b) refl (λ m ms. same (goes a b m) (place a b ms)) q

-- the place of the first, or how many there are
first_or : (p n : ℕ) (r : Option ℕ) → p ≤ n → r ≡ cond (ltb p n) (Some p) None → unwrap_or r n ≡ p
first_or p n r h e = rw e (by (ltb p n) refl)
  where
    by : (t : Bool) → ltb p n ≡ t → unwrap_or (cond t (Some p) None) n ≡ p
    by true q = refl
    by false q = let k = ltb-false p n q in omega arith

pub returns : goal.returns
returns c =
    let x = c.args in
    let s = messages_long x.messages c.well_formed.0 in
    let q = take x.waiting x.messages in
    let n : length q ≡ x.waiting = omega (arith, length-take x.waiting x.messages) in
    let e = position_from_yields_List (goes x.a x.b) _ _ c.position.result c.position.ensures.ran (YieldsList-from_slice q c.iter.ensures.rest) (λ m b f k. search (rules, tests)) in
    let p = position_or_len (goes x.a x.b) q in
    let h : p ≤ x.waiting = omega (arith, n, prefix_len-le-length (λ m. not (goes x.a x.b m)) q) in
    let f : c.unwrap_or.result ≡ p = c.unwrap_or.ensures ∙ first_or p x.waiting c.position.result h (rw n at e) in
    (rw (queue_is x.waiting x.messages s (omega arith)) (f ∙ sym (place_is x.a x.b q)), omega arith)
