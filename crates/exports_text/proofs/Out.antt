-- Bytes written out, and the promise of `nevraspu_list_of_text` from that of the parser where a text comes to a list.
use Prim.Native.Nat.{ℕ, ◌≤◌}
use native.Mathlib.Omega.{arith}
use mathlib.Core.Path.{◌≡◌, refl, sym, ◌∙◌, ap, subst}
use mathlib.Core.List.{List}
use lib.ListN.{length, take, drop}
use lib.Seq.{take_at}
use Rattle.std.specs.Prelude.{Result, Ok}
use Rattle.event_list.specs.Format.{max_bytes}
use Rattle.list_text.specs.Script.{Outcome, bad, list, list_of}
use Rattle.list_text.proofs.Claims.{text_reads}
use Rattle.list_parser.specs.Made.{parsed_of, held_by, Made}
use Rattle.list_parser.specs.declared.Bad.{Bad}
use Rattle.exports_text.specs.Boundary.{WrittenOut, out_bytes, out_base, ListExported}

-- what a text comes to for which a list is answered
pub record IsList (t o : List ℕ) (k : ℕ) : Type 0 where
  pub bytes : out_bytes (list_of t) ≡ take k o
  pub base : out_base (list_of t) ≡ 0
  pub short : length (take k o) ≤ max_bytes

pub is_list : (t b o : List ℕ) (k : ℕ) (r : Result ℕ Bad) → Made t b o r → r ≡ Ok k → IsList t o k
is_list t b o k r m e = by (list_of t) refl (sym e ∙ m.answer) m.bytes
  where
    by : (x : Outcome) → list_of t ≡ x → Ok k ≡ parsed_of x → o ≡ held_by x b → IsList t o k
    by (bad p x) q a h = let z : ◌≡◌ {A = ℕ} 1 0 = cc in absurd (omega arith)
    by (list l) q a h =
        let n : k ≡ length l = cc in
        let w : take k o ≡ l = ap (take k) h ∙ take_at l (drop (length l) b) k (sym n) in
        record {
          bytes = ap out_bytes q ∙ sym w;
          base = ap out_base q;
          short = subst (λ (x : List ℕ). length x ≤ max_bytes) (sym w) (text_reads.bytes t l q).1;
        }

pub list_exported : (t o c u : List ℕ) (k r : ℕ) → IsList t o k → WrittenOut (take k o) 0 c u r → ListExported t c u r
list_exported t o c u k r i w =
    record {
      out = subst (λ (x : List ℕ). WrittenOut x (out_base (list_of t)) c u r) (sym i.bytes) (subst (λ (n : ℕ). WrittenOut (take k o) n c u r) (sym i.base) w);
      short = subst (λ (x : List ℕ). length x ≤ max_bytes) (sym i.bytes) i.short;
      message = λ p x q. let z = sym i.base ∙ ap out_base q in absurd (omega arith);
    }
