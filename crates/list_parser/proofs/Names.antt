-- A word by its ends, the tags that come of words, and an event by its numbers.
use Prim.Native.Nat.{ℕ, ◌-◌, ◌≤◌}
use native.Mathlib.Omega.{arith}
use mathlib.Core.Path.{◌≡◌, refl}
use mathlib.Core.List.{List, [], ◌∷◌}
use lib.Dec.{eqb}
use borrow.Author.Tests.{eqb-true}
use lib.ListN.{take, drop}
use Rattle.std.specs.Prelude.{Option, Some, IfSome}
use Rattle.model.specs.Pick.{pick, by_test}
use Rattle.event_list.specs.Format.{event_of}
use Rattle.list_text.specs.Script.{event_named, event_of_two}
use Rattle.list_text.specs.Words.{is_word_byte, span, past, word_at, behind_word}

-- what lies between a word's start and its end is the word
pub own_word : (t : List ℕ) (at e : ℕ) → e ≡ behind_word t at → take (e - at) (drop at t) ≡ word_at t at
unfolding word_at past
own_word t at e h = let k : e - at ≡ span is_word_byte (drop at t) = omega arith in rw k

-- A word that names an event gives one of the nine tags.
abbrev Named : Option ℕ → Type 0
Named o = IfSome o (λ u. (0x10 ≤ u) × (u ≤ 0x18))

named : (w : List ℕ) → Named (event_named w)
unfolding event_named
named w =
    by_test Named (λ e. (omega arith, omega arith))
    (λ e. by_test Named (λ e. (omega arith, omega arith))
    (λ e. by_test Named (λ e. (omega arith, omega arith))
    (λ e. by_test Named (λ e. (omega arith, omega arith))
    (λ e. by_test Named (λ e. (omega arith, omega arith))
    (λ e. by_test Named (λ e. (omega arith, omega arith))
    (λ e. by_test Named (λ e. (omega arith, omega arith))
    (λ e. by_test Named (λ e. (omega arith, omega arith))
    (λ e. by_test Named (λ e. (omega arith, omega arith)) (λ e. tt)))))))))

pub named_within : (w : List ℕ) (u : ℕ) → event_named w ≡ Some u → (0x10 ≤ u) × (u ≤ 0x18)
named_within w u e = rw e at (named w)

-- an event with one number is as with a second one of 0
pub one_number : (u x : ℕ) → event_of_two u x 0 ≡ event_of u (x ∷ [])
unfolding event_of_two event_of pick
one_number u x = by_test (λ e. e ≡ event_of u (x ∷ [])) {t = eqb u 0x16} (λ t. rw (eqb-true u 0x16 t) refl) (λ f. refl)
