-- Each wrong program prints another byte than the text has at some place, or another number of bytes.
use Prim.Native.Nat.{ℕ, ◌+◌}
use native.Mathlib.Omega.{arith}
use mathlib.Core.Path.{◌≡◌, sym, ◌∙◌, ap}
use mathlib.Core.List.{List, []}
use lib.ListN.{length, take, drop, get_or, length-append}
use lib.Seq.{take_at}
use Rattle.listing.specs.Ascii.{bytes}
use Rattle.aldebaran_text.specs.Text.{text_of}
use Rattle.aldebaran_text.proofs.Text.{text_some}
use Rattle.aldebaran_text.proofs.Cases.{aldebaran_cases}
use Rattle.list_tree.specs.Printed.{SystemPrinted}
use Rattle.list_tree.specs.Mutants.{Never, NoOtherText}

-- what was written is the text
shows : {l b o : List ℕ} {r : ℕ} → SystemPrinted l b o r → take r o ≡ text_of l
shows {l} {b} {o} {r} p = ap (take r) p.buffer ∙ take_at (text_of l) (drop (0 + length (text_of l)) b) r (sym p.count)

-- the byte at place k of a text that is known
byte : (k : ℕ) {l x t b o : List ℕ} {r : ℕ} → text_of l ≡ t → SystemPrinted l b o r → take r o ≡ x → get_or t k 0 ≡ get_or x k 0
byte k q p e = ap (λ (z : List ℕ). get_or z k 0) (sym q ∙ (sym (shows p) ∙ e))

none : (l : List ℕ) → Never l []
none l b o r p e = let h = text_some l in let z = ap length (sym (shows p) ∙ e) in omega arith

pub no_other_text : NoOtherText
no_other_text = record {
  only = λ p q. (p.buffer ∙ sym q.buffer, p.count ∙ sym q.count);
  silent = none;
  same = λ p q e. let z = ap length (sym (shows p) ∙ (e ∙ shows q)) in let a = ap length aldebaran_cases.none in let b = ap length aldebaran_cases.one_of_one in omega arith;
  turns_away = λ b o r p e. let z = byte 0 aldebaran_cases.none p e in omega arith;
  other_number = λ y b o r p e. let z = byte 10 aldebaran_cases.no_nodes p e in omega arith;
  length_five = λ y b o r p e. let z = byte 0 aldebaran_cases.too_long p e in omega arith;
  lists = λ y b o r p e. let z = byte 0 aldebaran_cases.one_of_one p e in omega arith;
  last_line = λ y b o r p e. let z = ap length (sym aldebaran_cases.none ∙ (sym (shows p) ∙ e)) in omega (arith, z, length-append (bytes "des (0, 0, 1)\nlists 1") y);
  by_table = λ y b o r p e. let z = byte 8 aldebaran_cases.three_of_one p e in omega arith;
  counts = λ y b o r p e. let z = byte 8 aldebaran_cases.one_of_one p e in omega arith;
  no_spaces = λ y b o r p e. let z = byte 7 aldebaran_cases.one_of_one p e in omega arith;
  from_one = λ y b o r p e. let z = byte 15 aldebaran_cases.one_of_one p e in omega arith;
  unquoted = λ y b o r p e. let z = byte 18 aldebaran_cases.one_of_one p e in omega arith;
  small = λ y b o r p e. let z = byte 19 aldebaran_cases.one_of_one p e in omega arith;
  from_start = λ y b o r p e. let z = byte 37 aldebaran_cases.three_of_one p e in omega arith;
  whole_list = λ y b o r p e. let z = byte 41 aldebaran_cases.three_of_one p e in omega arith;
  depth_first = λ y b o r p e. let z = byte 55 aldebaran_cases.three_of_one p e in omega arith;
}
