-- A text that is short enough always has room in a buffer that is large enough: the claim `RoomAlways`.
use Prim.Native.Nat.{ℕ, ◌+◌, ◌≤◌}
use native.Mathlib.Omega.{arith}
use mathlib.Core.Path.{◌≡◌}
use mathlib.Core.List.{List}
use lib.ListN.{length}
use borrow.Author.Tests.{le-leb}
use Rattle.model.specs.Pick.{pick_true}
use Rattle.listing.specs.Printing.{no_room, LinesExported}
use Rattle.list_text.specs.Script.{Outcome, bad, list, list_of}
use Rattle.list_text.proofs.Fits.{list_text_fits}
use Rattle.rest_list.specs.Text.{rest_lines_of}
use Rattle.rest_list.proofs.Bound.{rest_text_fits}
use Rattle.exports_text.proofs.Trace.{trace_fits}
use Rattle.exports_text.specs.Boundary.{RestExported, WrittenOut, out_bytes, out_base, RoomAlways}

pub rest_exported : (l b o : List ℕ) (r : ℕ) → LinesExported (rest_lines_of l) b o r → RestExported l b o r
rest_exported l b o r e = record { lines = e; short = rest_text_fits l }

-- what is written out has room
out_room : (w : List ℕ) (base : ℕ) (b o : List ℕ) (r : ℕ) → WrittenOut w base b o r → base ≤ 4294967296 → length w ≤ 65536 → length w ≤ length b → r ≡ no_room → ⊥
out_room w base b o r e h s k q = let n : r ≡ base + length w = rw (le-leb _ _ k, pick_true) at e.number in omega arith

base_small : (x : Outcome) → out_base x ≤ 4294967296
base_small (bad p x) = omega arith
base_small (list l) = omega arith

pub room_always : RoomAlways
room_always = record {
  text_of_list = λ l b o r a e h q. let k = e.only q in let f = list_text_fits l a in omega arith;
  trace = λ l b o r e h q. let k = e.only q in let f = trace_fits l in omega arith;
  list_of_text_lem = λ t b o r e h q. let s = e.short in out_room (out_bytes (list_of t)) (out_base (list_of t)) b o r e.out (base_small (list_of t)) s (omega arith) q;
  rest = λ l b o r e h q. let k = e.lines.only q in let f = e.short in omega arith;
  aldebaran = λ l b o r e h q. let s = e.short in out_room _ 0 b o r e.out (omega arith) (omega arith) (omega arith) q;
}
