-- Words as numbers: a word is read as the value of its digits, where it has digits alone and their value is no more than the most that is taken.
use Prim.Native.Nat.{ℕ, ◌≤◌}
use native.Mathlib.Omega.{arith}
use mathlib.Core.Path.{◌≡◌, refl, subst}
use mathlib.Core.Bool.{true}
use mathlib.Core.List.{List, [], ◌∷◌}
use lib.ListN.{length}
use borrow.Author.Tests.{le-ltb, ltb-false, ne_eqb, eqb-false, not-false}
use Rattle.std.specs.Prelude.{Option, None, Some}
use Rattle.model.specs.Pick.{pick, by_test}
use Rattle.listing.specs.Decimal.{value_from, value_of}
use Rattle.short_lists_text.specs.Rows.{All}
use Rattle.list_text.specs.Words.{is_digit, append_digit, value_behind, value_up_to}
use Rattle.list_text.specs.Claims.{AllDigits, NumbersRead}

-- More digits never make a number smaller.
value_more : (v : ℕ) (w : List ℕ) → v ≤ value_from v w
unfolding value_from
value_more v [] = omega arith
value_more v (b ∷ w) = let i = value_more (append_digit v b) w in omega arith

-- ── digits that give no more than most are read ──

behind_is : (most v : ℕ) (w : List ℕ) → All (λ b. is_digit b ≡ true) w → value_from v w ≤ most → value_behind most v w ≡ Some (value_from v w)
unfolding value_from value_behind pick
behind_is most v [] d h = refl
behind_is most v (b ∷ w) d h =
    let m = value_more (append_digit v b) w in
    rw (d.0, le-ltb most (append_digit v b) (omega arith)) (behind_is most (append_digit v b) w d.1 h)

is : (most : ℕ) (w : List ℕ) → AllDigits w → value_of w ≤ most → value_up_to most w ≡ Some (value_of w)
unfolding value_up_to pick
is most w a h = let s = a.some in rw (ne_eqb (length w) 0 (λ e. omega arith)) (behind_is most 0 w a.each h)

-- ── nothing else is read ──

-- what is known of w where it gave this behind digits whose value is v
abbrev Behind : ℕ → ℕ → List ℕ → Option ℕ → Type 0
Behind most v w None = Unit {0}
Behind most v w (Some x) = All (λ b. is_digit b ≡ true) w × (value_from v w ≡ x) × (x ≤ most)

behind_only : (most v : ℕ) (w : List ℕ) → v ≤ most → Behind most v w (value_behind most v w)
unfolding value_from value_behind
behind_only most v [] h = (tt, refl, h)
behind_only most v (b ∷ w) h =
    by_test (Behind most v (b ∷ w))
    (λ n. tt)
    (λ n. by_test (Behind most v (b ∷ w)) (λ m. tt) (λ m. added (value_behind most (append_digit v b) w) (not-false _ n) (behind_only most (append_digit v b) w (ltb-false most (append_digit v b) m))))
  where
    added : (x : Option ℕ) → is_digit b ≡ true → Behind most (append_digit v b) w x → Behind most v (b ∷ w) x
    added None d g = tt
    added (Some x) d g = ((d, g.0), g.1, g.2)

-- the same of a whole word
abbrev Read : ℕ → List ℕ → Option ℕ → Type 0
Read most w None = Unit {0}
Read most w (Some x) = AllDigits w × (value_of w ≡ x) × (x ≤ most)

read_of : (most : ℕ) (w : List ℕ) → Read most w (value_up_to most w)
unfolding value_up_to
read_of most w = by_test (Read most w) (λ e. tt) (λ e. some (value_behind most 0 w) (eqb-false (length w) 0 e) (behind_only most 0 w (omega arith)))
  where
    some : (x : Option ℕ) → (length w ≡ 0 → ⊥) → Behind most 0 w x → Read most w x
    some None n g = tt
    some (Some x) n g = (record { some = omega arith; each = g.0 }, g.1, g.2)

pub numbers_read : NumbersRead
numbers_read = record { is = is; only = λ most w x e. subst (Read most w) e (read_of most w) }
