-- What `put_text` writes is the text of its input.
use Prim.Native.Nat.{ℕ, ◌+◌, ◌≤◌}
use native.Mathlib.Omega.{arith}
use mathlib.Core.Bool.{true, false}
use mathlib.Core.Path.{◌≡◌, ◌∙◌, ap, subst}
use mathlib.Core.List.{List}
use lib.ListN.{length, drop, get_or, length-append}
use Rattle.model.specs.Limits.{tower}
use Rattle.model.specs.Pick.{pick_true, pick_false}
use Rattle.model.specs.State.{start}
use Rattle.listing.specs.Ascii.{bytes}
use Rattle.listing.specs.Printing.{joined, Appended}
use Rattle.listing.proofs.Appended.{appended_written}
use Rattle.aldebaran_text.specs.System.{states}
use Rattle.aldebaran_text.specs.Text.{fits, text_of}
use Rattle.aldebaran_text.proofs.Text.{stopped}
use Rattle.list_tree.specs.declared.tree.Tree.{Tree}
use Rattle.list_tree.specs.Tree.{lists_in, Sound, tree_lines}
use Rattle.list_tree.specs.Printed.{SystemPrinted}
use Rattle.list_tree.proofs.Texts.{lines_are}

printed : (l b o : List ℕ) (r : ℕ) → Appended b 0 (text_of l) o r → SystemPrinted l b o r
printed l b o r a = let n = a.next in record { count = omega arith; buffer = appended_written a }

module _ (l b o : List ℕ) (r : ℕ) where
  pub printed_refusal : fits l ≡ false → Appended b 0 (bytes "stopped 0 22\n") o r → SystemPrinted l b o r
  unfolding text_of
  printed_refusal q a = printed l b o r (rw (q, pick_false, stopped) a)

  pub printed_tree : fits l ≡ true → (t : Tree) → Sound t → lists_in t ≡ states (get_or l 1 0) (start (get_or l 0 0) tower) → Appended b 0 (joined (tree_lines t)) o r → SystemPrinted l b o r
  unfolding text_of
  printed_tree q t ok e a = printed l b o r (rw (q, pick_true) (subst (λ ls. Appended b 0 (joined ls) o r) (lines_are t ok (get_or l 1 0) (start (get_or l 0 0) tower) e) a))

-- what was written is part of the buffer
pub within : {l b o : List ℕ} {r : ℕ} → SystemPrinted l b o r → r ≤ length o
within {l} {b} p =
    let c = p.count in
    let e = ap length p.buffer ∙ length-append (text_of l) (drop (0 + length (text_of l)) b) in
    omega arith
