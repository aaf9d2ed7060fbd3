-- Pieces appended to a buffer one after the other.
use Prim.Native.Nat.{ℕ, ◌+◌, ◌-◌, ◌≤◌}
use native.Mathlib.Omega.{arith}
use mathlib.Core.Path.{◌≡◌, sym, ◌∙◌, ap}
use mathlib.Core.List.{List, ◌++◌, append_assoc}
use lib.ListN.{length, take, drop, length-append, take-append-drop}
use lib.Seq.{length-take-le, take_at, drop_at, drop-drop}
use Rattle.listing.specs.Printing.{written, Appended, Wrote}
use Rattle.listing.specs.declared.buffer.TextBuffer.{TextBuffer}
use Rattle.listing.proofs.Printing.{written_long}

-- One piece, written where there is room.
pub appended : (b o s : List ℕ) (p r : ℕ) → p + length s ≤ length b → o ≡ written b p s → r ≡ p + length s → Appended b p s o r
appended b o s p r h e f =
    let l : length o ≡ length b = ap length e ∙ written_long b s p h in
    let m : length (take p b) ≡ p = length-take-le p b (omega arith) in
    let n : length (take p b ++ s) ≡ r = simp (length-append, m) (omega arith) in
    record {
      long = l;
      next = f;
      fits = omega arith;
      text = rw (e, ← append_assoc) (take_at (take p b ++ s) _ r n);
      behind = rw (e, ← append_assoc) (drop_at (take p b ++ s) _ r n ∙ rw (← f));
    }

-- What a buffer holds to which a piece was appended.
pub appended_written : {b s o : List ℕ} {p r : ℕ} → Appended b p s o r → o ≡ written b p s
appended_written {b} {s} {o} {p} {r} a = sym (take-append-drop r o) ∙ rw (a.text, a.behind, a.next, append_assoc)

-- A part of b that comes back as s.
pub part_copied : (b s last : List ℕ) (p : ℕ) → last ≡ s → take p b ++ (last ++ drop (p + length s - p) (drop p b)) ≡ written b p s
part_copied b s last p e = let n : p + length s - p ≡ length s = omega arith in rw (e, n, drop-drop)

-- Two pieces after one another are one.
pub appended_twice : {b s o t u : List ℕ} {p q r : ℕ} → Appended b p s o q → Appended o q t u r → Appended b p (s ++ t) u r
appended_twice {b} {s} {o} {t} {u} {p} {q} {r} f g =
    record {
      long = g.long ∙ f.long;
      next = simp length-append (omega arith);
      fits = g.fits;
      text = g.text ∙ rw (f.text, append_assoc);
      behind = g.behind ∙ rw (g.next, ← drop-drop (length t) q o, f.behind, drop-drop);
    }

-- The same of what is written into a buffer.
pub wrote_twice : {b c d : TextBuffer} {s t : List ℕ} → Wrote b s c → Wrote c t d → Wrote b (s ++ t) d
wrote_twice f g = record { same = g.same ∙ f.same; appended = appended_twice f.appended g.appended }
