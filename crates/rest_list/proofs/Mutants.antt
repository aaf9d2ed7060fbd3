-- The wrong programs of specs/Mutants: each is told from the text by one byte.
use Prim.Native.Nat.{ℕ}
use native.Mathlib.Omega.{arith}
use mathlib.Core.Path.{◌≡◌, sym, ◌∙◌, ap, ap₂}
use mathlib.Core.List.{List, ◌++◌}
use lib.ListN.{get_or, take, drop}
use lib.Seq.{take-append_seam}
use Rattle.event_list.specs.Cases.{nodes}
use Rattle.listing.specs.Ascii.{bytes}
use Rattle.listing.specs.Printing.{joined, Whole}
use Rattle.rest_list.specs.Text.{rest_lines_of, rest_text_of}
use Rattle.rest_list.specs.Cases.{asking_events}
use Rattle.rest_list.specs.Mutants.{NeverBegins, NoOtherRest}
use Rattle.rest_list.proofs.Cases.{rest_cases}

shows : {xs : List (List ℕ)} {b o : List ℕ} {r : ℕ} → Whole xs b o r → take r o ≡ joined xs
shows {xs} {b} {o} {r} w = ap₂ (λ (k : ℕ) (l : List ℕ). take k l) w.size w.bytes ∙ take-append_seam (joined xs) (drop r b)

-- at k the text has another byte
differs : (l x t : List ℕ) (k : ℕ) → rest_text_of l ≡ t → ((y : List ℕ) → get_or t k 0 ≡ get_or (x ++ y) k 0 → ⊥) → NeverBegins l x
differs l x t k e d b o y r w z = d y (ap (λ (u : List ℕ). get_or u k 0) (sym e ∙ sym (shows w) ∙ z))

pub no_other_rest : NoOtherRest
no_other_rest =
    record {
      only = λ l {b} {o} {p} {r} {q} x y. let e : r ≡ q = x.size ∙ sym y.size in (x.bytes ∙ ap (λ (k : ℕ). joined (rest_lines_of l) ++ drop k b) e ∙ sym y.bytes, e);
      no_turn = differs (nodes 2 ++ asking_events) (bytes "cabinets 2\nturns 0\n") _ 17 rest_cases.asking (λ y e. omega (arith, e));
      early = differs (nodes 2 ++ asking_events) (bytes "cabinets 2\nturns 6\n") _ 17 rest_cases.asking (λ y e. omega (arith, e));
      late = differs (nodes 2 ++ asking_events) (bytes "cabinets 2\nturns 8\n") _ 17 rest_cases.asking (λ y e. omega (arith, e));
      before_turns = differs (nodes 2 ++ asking_events) (bytes "cabinets 2\nturns 7\n1 3 1 16") _ 21 rest_cases.asking (λ y e. omega (arith, e));
      no_number = differs (nodes 2 ++ asking_events) (bytes "cabinets 2\n1 ") _ 11 rest_cases.asking (λ y e. omega (arith, e));
    }
