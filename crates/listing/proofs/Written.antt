-- Lines written into a buffer one after the other: some and then others; and what a refusal leaves.
use mathlib.Core.Path.{◌≡◌, refl, ◌∙◌, sym, ap}
use mathlib.Core.List.{List, ◌++◌}
use Prim.Native.Nat.{ℕ}
use Rattle.std.specs.Prelude.{Result, Ok, Err, IsErr}
use Rattle.listing.specs.declared.NoRoom.{NoRoom}
use Rattle.listing.specs.declared.buffer.TextBuffer.{TextBuffer}
use Rattle.listing.specs.Printing.{Put, Printed, LinesIn, WroteLines, answer_at, refused, printed}
use Rattle.listing.proofs.Printing.{then_next, then_refused, end_next, end_refused, printed_holds}

-- A refusal is refusal 15, wherever the buffer's end is.
pub refused_at : (r : Result (Unit {0}) NoRoom) (p : ℕ) → IsErr r → answer_at r p ≡ refused
refused_at (Ok u) p h = cc
refused_at (Err e) p h = refl

module _ {b c : TextBuffer} {xs : List (List ℕ)} {a : Result (Unit {0}) NoRoom} where
  -- The lines xs were written, and what was done then with the lines ys holds of both.
  pub lines_then : {ys : List (List ℕ)} {r : Result (Unit {0}) NoRoom} {d : TextBuffer} {u : Unit {0}} → WroteLines b xs a c → a ≡ Ok u → WroteLines c ys r d → WroteLines b (xs ++ ys) r d
  lines_then {ys} {r} {d} {u} w e v =
      record {
        same = v.same ∙ w.same;
        lines = v.lines ∙ sym (then_next b.bytes.now c.bytes.now b.end c.end (answer_at a c.end) xs ys w.lines (rw e));
        ends = v.ends ∙ sym (end_next b.bytes.now c.bytes.now b.end c.end (answer_at a c.end) xs ys w.lines (rw e));
      }

  -- They were refused, and so are any lines that were to come behind them.
  pub lines_refused : (ys : List (List ℕ)) {r : Result (Unit {0}) NoRoom} {d : NoRoom} → WroteLines b xs a c → a ≡ Err d → IsErr r → WroteLines b (xs ++ ys) r c
  lines_refused ys {r} w e h =
      record {
        same = w.same;
        lines = rw (refused_at r c.end h) (sym (then_refused b.bytes.now c.bytes.now b.end (answer_at a c.end) xs ys w.lines (rw e)));
        ends = w.ends ∙ sym (end_refused b.bytes.now c.bytes.now b.end (answer_at a c.end) xs ys w.lines (rw e));
      }

-- What was written, the buffer's end left aside.
pub lines_in : {b c : TextBuffer} {xs : List (List ℕ)} {a : Result (Unit {0}) NoRoom} → WroteLines b xs a c → LinesIn b xs a c
lines_in w = record { same = w.same; lines = w.lines }

-- A buffer over all of some bytes, of which none are written, and what the bytes then hold, is printing from their start.
pub printed_whole_buffer : {b c : TextBuffer} {xs : List (List ℕ)} {a : Result (Unit {0}) NoRoom} → b.end ≡ 0 → LinesIn b xs a c → (o : List ℕ) → o ≡ c.bytes.now → (r : Put) → r ≡ answer_at a c.end → Printed xs b.bytes.now o r
printed_whole_buffer {b} {c} {xs} {a} z w o e r f = printed_holds xs b.bytes.now o r (rw (e, f) (w.lines ∙ ap (λ (k : ℕ). printed b.bytes.now k xs) z))

pub refused_there : (r : Put) → IsErr r → {a : Result (Unit {0}) NoRoom} {d : NoRoom} → a ≡ Err d → (p : ℕ) → r ≡ answer_at a p
refused_there (Ok q) h e p = cc
refused_there (Err x) h e p = rw e
