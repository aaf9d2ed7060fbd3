-- Laws of the texts of records and messages, and of pieces put one after the other.
use Prim.Native.Nat.{ℕ, zero, suc, ◌+◌, ◌≤◌}
use native.Mathlib.Numerals.{add-one}
use native.Mathlib.Omega.{arith}
use mathlib.Core.Path.{◌≡◌, refl, sym, ap}
use mathlib.Core.Bool.{Bool, true, false}
use mathlib.Core.List.{List, [], ◌∷◌, ◌++◌, append_assoc, append-nil}
use lib.ListN.{length, take}
use borrow.Author.Tests.{eq-eqb, ne_eqb}
use Rattle.node_set.specs.NodeSet.{has}
use Rattle.model.specs.Pick.{pick, pick_true, pick_false}
use Rattle.model.specs.declared.Message.{Message}
use Rattle.listing.specs.Ascii.{bytes}
use Rattle.listing.specs.Decimal.{decimal}
use Rattle.listing.specs.Printing.{joined, Wrote}
use Rattle.listing.specs.declared.buffer.TextBuffer.{TextBuffer}
use Rattle.listing.proofs.Appended.{wrote_twice}
use Rattle.listing.proofs.Decimal.{decimal_short}
use Rattle.short_lists_text.specs.Text.{spaced}
use Rattle.short_lists_text.proofs.Spaced.{spaced_one}
use Rattle.trace_text.specs.Words.{nodes_from, set_text, numbered, kind_text, carried_text}

-- ── pieces ──

-- nothing
pub nothing_put : (b : TextBuffer) → b.end ≤ length b.bytes.now → Wrote b [] b
nothing_put b h = record { same = refl; appended = record { long = refl; next = omega arith; fits = h; text = sym (append-nil (take b.end b.bytes.now)); behind = refl } }

-- a text of k bytes at most, by another name
pub put_as : (k : ℕ) {b o : TextBuffer} {s t : List ℕ} → t ≡ s → length s ≤ k → Wrote b s o → Wrote b t o × (o.end ≤ b.end + k)
put_as k f h a = let n = a.appended.next in (rw f a, omega (arith, n, h))

pub put_within : (k : ℕ) {b o : TextBuffer} {s t : List ℕ} → t ≡ s → Wrote b s o → o.end ≤ b.end + k → Wrote b t o × (o.end ≤ b.end + k)
put_within k f a h = (rw f a, h)

-- a line, or none, by a test
pub line_in : (k : ℕ) {b o : TextBuffer} (t : Bool) (s : List ℕ) → t ≡ true → Wrote b s o → o.end ≤ b.end + k → Wrote b (joined (pick t (s ∷ []) [])) o × (o.end ≤ b.end + k)
unfolding joined
line_in k t s e a h = (rw (e, pick_true, append-nil) a, h)

pub line_out : (k : ℕ) (b : TextBuffer) (t : Bool) (s : List ℕ) → t ≡ false → b.end + k ≤ length b.bytes.now → Wrote b (joined (pick t (s ∷ []) [])) b × (b.end ≤ b.end + k)
unfolding joined
line_out k b t s e h = (rw (e, pick_false) (nothing_put b (omega (arith, h))), omega arith)

-- and the other way round
pub other_in : (k : ℕ) {b o : TextBuffer} (t : Bool) (s : List ℕ) → t ≡ false → Wrote b s o → o.end ≤ b.end + k → Wrote b (joined (pick t [] (s ∷ []))) o × (o.end ≤ b.end + k)
unfolding joined
other_in k t s e a h = (rw (e, pick_false, append-nil) a, h)

pub other_out : (k : ℕ) (b : TextBuffer) (t : Bool) (s : List ℕ) → t ≡ true → b.end + k ≤ length b.bytes.now → Wrote b (joined (pick t [] (s ∷ []))) b × (b.end ≤ b.end + k)
unfolding joined
other_out k b t s e h = (rw (e, pick_true) (nothing_put b (omega (arith, h))), omega arith)

-- one more piece behind three, and behind four
pub put_third : {b o u : TextBuffer} (x y z v : List ℕ) → Wrote b (x ++ (y ++ z)) o → Wrote o v u → Wrote b (x ++ (y ++ (z ++ v))) u
put_third x y z v f g = rw (← append_assoc y z v, ← append_assoc x (y ++ z) v) (wrote_twice f g)

pub put_fourth : {b o u : TextBuffer} (x y z w v : List ℕ) → Wrote b (x ++ (y ++ (z ++ w))) o → Wrote o v u → Wrote b (x ++ (y ++ (z ++ (w ++ v)))) u
put_fourth x y z w v f g = rw (← append_assoc z w v) (put_third x y (z ++ w) v f g)

-- a number more, before others
pub field_more : {b o u : TextBuffer} (x : ℕ) (xs : List ℕ) → Wrote b (spaced (x ∷ [])) o → Wrote o (spaced xs) u → Wrote b (spaced (x ∷ xs)) u
unfolding spaced
field_more x xs f g = wrote_twice (rw append-nil at f) g

-- ── the nodes of a set ──

spaced_append : (xs ys : List ℕ) → spaced (xs ++ ys) ≡ spaced xs ++ spaced ys
unfolding spaced
spaced_append [] ys = refl
spaced_append (x ∷ xs) ys = ap (λ (l : List ℕ). 32 ∷ l) (rw (spaced_append xs ys) (sym (append_assoc (decimal x) (spaced xs) (spaced ys))))

pub member_in : {b o : TextBuffer} (s i : ℕ) → has s i ≡ true → i ≤ 16 → Wrote b (32 ∷ decimal i) o → Wrote b (spaced (pick (has s i) (i ∷ []) [])) o × (o.end ≤ b.end + 3)
member_in s i e h a =
    let d = decimal_short 2 {x = i} (omega arith) (omega arith) in
    put_as 3 (rw (e, pick_true) (spaced_one i)) (omega arith) a

pub member_out : (b : TextBuffer) (s i : ℕ) → has s i ≡ false → b.end + 3 ≤ length b.bytes.now → Wrote b (spaced (pick (has s i) (i ∷ []) [])) b × (b.end ≤ b.end + 3)
unfolding spaced
member_out b s i e h = (rw (e, pick_false) (nothing_put b (omega (arith, h))), omega arith)

nodes_last : (k i s : ℕ) → nodes_from (suc k) i s ≡ nodes_from k i s ++ pick (has s (i + k)) ((i + k) ∷ []) []
unfolding nodes_from
nodes_last zero i s = let z : i + 0 ≡ i = omega arith in rw (z, append-nil)
nodes_last (suc k) i s =
    let z : i + 1 + k ≡ i + suc k = omega arith in
    rw (nodes_last k (i + 1) s, z) (sym (append_assoc (pick (has s i) (i ∷ []) []) (nodes_from k (i + 1) s) (pick (has s (i + suc k)) ((i + suc k) ∷ []) [])))

-- none of no nodes, and one more
pub nodes_none : (b : TextBuffer) (s : ℕ) → b.end ≤ length b.bytes.now → Wrote b (spaced (nodes_from 0 1 s)) b
unfolding spaced nodes_from
nodes_none b s h = nothing_put b h

pub nodes_more : {b o u : TextBuffer} (k s : ℕ) → Wrote b (spaced (nodes_from k 1 s)) o → Wrote o (spaced (pick (has s (k + 1)) ((k + 1) ∷ []) [])) u → Wrote b (spaced (nodes_from (k + 1) 1 s)) u
nodes_more {b} {o} {u} k s f g =
    let z : 1 + k ≡ k + 1 = omega arith in
    let e : spaced (nodes_from (k + 1) 1 s) ≡ spaced (nodes_from k 1 s) ++ spaced (pick (has s (k + 1)) ((k + 1) ∷ []) []) =
    rw (add-one k, nodes_last k 1 s, spaced_append (nodes_from k 1 s) (pick (has s (1 + k)) ((1 + k) ∷ []) []), z, add-one k) in
    rw e (wrote_twice f g)

pub set_none : (s : ℕ) → s ≡ 0 → set_text s ≡ bytes " none"
unfolding set_text
set_none s e = rw (eq-eqb s 0 e, pick_true)

pub set_some : (s : ℕ) → (s ≡ 0 → ⊥) → set_text s ≡ spaced (nodes_from 16 1 s)
unfolding set_text
set_some s e = rw (ne_eqb s 0 e, pick_false)

-- ── a message ──

module _ (k : ℕ) where
  pub kind_one : k ≡ 1 → kind_text k ≡ bytes "AreYouCoordinator"
  unfolding kind_text pick
  kind_one e = rw (eq-eqb k 1 e)

  module _ (n1 : k ≡ 1 → ⊥) where
    pub kind_two : k ≡ 2 → kind_text k ≡ bytes "AreYouThere"
    unfolding kind_text pick
    kind_two e = rw (ne_eqb k 1 n1, eq-eqb k 2 e)

    module _ (n2 : k ≡ 2 → ⊥) where
      pub kind_three : k ≡ 3 → kind_text k ≡ bytes "Invitation"
      unfolding kind_text pick
      kind_three e = rw (ne_eqb k 1 n1, ne_eqb k 2 n2, eq-eqb k 3 e)

      module _ (n3 : k ≡ 3 → ⊥) where
        pub kind_four : k ≡ 4 → kind_text k ≡ bytes "Accept"
        unfolding kind_text pick
        kind_four e = rw (ne_eqb k 1 n1, ne_eqb k 2 n2, ne_eqb k 3 n3, eq-eqb k 4 e)

        module _ (n4 : k ≡ 4 → ⊥) where
          pub kind_five : k ≡ 5 → kind_text k ≡ bytes "Ready"
          unfolding kind_text pick
          kind_five e = rw (ne_eqb k 1 n1, ne_eqb k 2 n2, ne_eqb k 3 n3, ne_eqb k 4 n4, eq-eqb k 5 e)

          pub kind_other : (k ≡ 5 → ⊥) → kind_text k ≡ bytes "reply"
          unfolding kind_text pick
          kind_other n5 = rw (ne_eqb k 1 n1, ne_eqb k 2 n2, ne_eqb k 3 n3, ne_eqb k 4 n4, ne_eqb k 5 n5)

module _ (m : Message) where
  pub carried_one : m.kind ≡ 1 → carried_text m ≡ []
  unfolding carried_text pick
  carried_one e = rw (eq-eqb m.kind 1 e)

  module _ (n1 : m.kind ≡ 1 → ⊥) where
    pub carried_yes : m.kind ≡ 6 → carried_text m ≡ pick m.yes (bytes " yes") (bytes " no")
    unfolding carried_text
    carried_yes e = rw (ne_eqb m.kind 1 n1, eq-eqb m.kind 6 e, pick_true, pick_false)

    module _ (n6 : m.kind ≡ 6 → ⊥) where
      pub carried_five : m.kind ≡ 5 → carried_text m ≡ numbered (bytes " group") m.group.number ++ numbered (bytes " task") m.task.number
      unfolding carried_text pick
      carried_five e = rw (ne_eqb m.kind 1 n1, ne_eqb m.kind 6 n6, eq-eqb m.kind 5 e)

pub carried_group : (m : Message) → (m.kind ≡ 1 → ⊥) → (m.kind ≡ 6 → ⊥) → (m.kind ≡ 5 → ⊥) → carried_text m ≡ numbered (bytes " group") m.group.number
unfolding carried_text pick
carried_group m n1 n6 n5 = rw (ne_eqb m.kind 1 n1, ne_eqb m.kind 6 n6, ne_eqb m.kind 5 n5) (append-nil (numbered (bytes " group") m.group.number))
