-- What is answered for a text, by what was filled in of it.
use Prim.Native.Nat.{ℕ, ◌≤◌, ◌<◌}
use native.Mathlib.Omega.{arith}
use mathlib.Core.Path.{◌≡◌, refl, ◌∙◌, subst}
use mathlib.Core.List.{List, ◌++◌}
use lib.ListN.{length, take, drop, length-append}
use borrow.Author.Tests.{lt-ltb, le-ltb}
use Rattle.std.specs.Prelude.{Result, Ok, Err}
use Rattle.model.specs.Pick.{pick}
use Rattle.listing.specs.declared.buffer.TextBuffer.{TextBuffer}
use Rattle.list_text.specs.Words.{past_skipped}
use Rattle.list_text.specs.Script.{opening_at, behind_opening, max_text, Script, wrong_at, script, script_of, place_of, bad, list, outcome, list_of}
use Rattle.list_text.specs.declared.Place.{Place}
use Rattle.list_text.specs.declared.Expected.{Expected}
use Rattle.list_text.specs.declared.Wrong.{Wrong}
use Rattle.list_parser.specs.Made.{Made, Filled, filled_from, Fills}

-- what is known of an answer is known of what it was told to be
pub as_told : {f : Filled} {t : List ℕ} {o : TextBuffer} {r q : Result (Unit {0}) Wrong} → Fills f t o r → r ≡ q → Fills f t o q
as_told {f} {t} {o} h e = subst (Fills f t o) e h

-- ── what a text comes to ──

-- what a text that is not too long says
abbrev pub said_by : List ℕ → Script
said_by t = behind_opening t (opening_at t (past_skipped t 0))

from_wrong : (t : List ℕ) (w : Wrong) (s : Script) → Err w ≡ filled_from s → outcome t s ≡ bad (place_of t w.at) w.expected
from_wrong t w (wrong_at q y) e = cc
from_wrong t w (script u n es) e = cc

from_filled : (t l : List ℕ) (s : Script) → Ok l ≡ filled_from s → outcome t s ≡ list l
from_filled t l (wrong_at q y) e = cc
from_filled t l (script u n es) e = cc

module _ (t : List ℕ) where
  pub too_long : max_text < length t → list_of t ≡ bad (place_of t max_text) Expected.EndOfText
  unfolding list_of script_of pick
  too_long h = rw (lt-ltb _ _ h) refl

  module _ (h : length t ≤ max_text) where
    short : list_of t ≡ outcome t (said_by t)
    unfolding list_of script_of pick
    short = rw (le-ltb _ _ h) refl

    pub wrong_in : {o : TextBuffer} {w : Wrong} → Fills (filled_from (said_by t)) t o (Err w) → list_of t ≡ bad (place_of t w.at) w.expected
    wrong_in {o} {w} f = short ∙ from_wrong t w (said_by t) f.is

    pub bytes_in : {o : TextBuffer} {u : Unit {0}} → Fills (filled_from (said_by t)) t o (Ok u) → list_of t ≡ list (take o.end o.bytes.now)
    bytes_in {o} {u} f = short ∙ from_filled t (take o.end o.bytes.now) (said_by t) f.is

-- ── what is answered ──

pub made_bad : (t b : List ℕ) (p : Place) (x : Expected) → list_of t ≡ bad p x → Made t b b (Err (record { place = p; expected = x }))
made_bad t b p x e = record { answer = rw e refl; bytes = rw e refl; within = λ k q. let z : ◌≡◌ {A = ℕ} 0 1 = cc in absurd (omega arith) }

pub made_list : (t b l last : List ℕ) (k : ℕ) → list_of t ≡ list l → length l ≡ k → last ≡ l → Made t b (last ++ drop k b) (Ok k)
made_list t b l last k e n s =
    record {
      answer = rw (e, n) refl;
      bytes = rw (e, s, n) refl;
      within = λ j q. let y : k ≡ j = cc in rw s (omega (arith, length-append l (drop k b)));
    }
