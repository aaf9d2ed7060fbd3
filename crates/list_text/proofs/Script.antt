-- Whatever a text says fits into bytes and into a list: the first field's tag is one of the two, n and the events' numbers are those that their bytes can hold, and the list is not over its limit.
use Prim.Native.Nat.{ℕ, zero, suc, ◌+◌, ◌-◌, ◌≤◌, ◌<◌}
use native.Mathlib.Omega.{arith}
use mathlib.Core.Path.{◌≡◌, refl, subst}
use mathlib.Core.Bool.{true, false}
use mathlib.Core.Logic.{inl, inr}
use mathlib.Core.List.{List, [], ◌∷◌}
use lib.ListN.{length, length-append}
use lib.Dec.{eqb}
use borrow.Author.Tests.{ltb-false}
use Rattle.std.specs.Prelude.{Option, None, Some, Ok, Err}
use Rattle.model.specs.Pick.{pick, by_test}
use Rattle.model.specs.declared.Event.{Event}
use Rattle.event_list.specs.Format.{max_bytes}
use Rattle.short_lists_text.specs.Rows.{All, concat_map}
use Rattle.list_text.specs.Words.{is_blank, past, past_skipped, word_at, behind_word, Number, number_at}
use Rattle.list_text.specs.Script.{Opening, Part, opening_field, event_field, list_bytes, opening_tag, opening_with, opening_by, opening_at, event_named, second_most, event_of_two, with_one, with_second, with_two, numbers_at, event_by, event_at, event_from, separated_at, part_at, Said, wrong, said, before, onward, said_in, said_from, Script, wrong_at, script, with_events, behind_opening, script_of}
use Rattle.list_text.specs.Claims.{FitsBytes, IsFirstTag}
use Rattle.list_text.proofs.Parts.{number_further}
use Rattle.list_text.proofs.Fits.{event_fits}

pub record ScriptFits (u n : ℕ) (es : List Event) : Type 0 where
  pub tag : IsFirstTag u
  pub nodes : n < 256
  pub fit : All FitsBytes es
  pub long : length (list_bytes u n es) ≤ max_bytes

-- ── numbers ──

-- what is known of a number that was found
abbrev Most : ℕ → Number → Type 0
Most most (Err p) = Unit {0}
Most most (Ok (v, p)) = v ≤ most

number_most : (most : ℕ) (t : List ℕ) (at : ℕ) → Most most (number_at most t at)
number_most most t at = by (number_at most t at) refl
  where
    by : (x : Number) → number_at most t at ≡ x → Most most x
    by (Err p) e = tt
    by (Ok (v, p)) e = (number_further most t at v p e).2

-- ── the opening ──

abbrev OpeningFits : Opening → Type 0
OpeningFits (Err w) = Unit {0}
OpeningFits (Ok (u, n, next)) = IsFirstTag u × (n < 256)

-- The tag that a word gives is one of the two.
abbrev TagFits : Option ℕ → Type 0
TagFits None = Unit {0}
TagFits (Some u) = IsFirstTag u

opening_tag_lem : (w : List ℕ) → TagFits (opening_tag w)
unfolding opening_tag
opening_tag_lem w = by_test TagFits (λ c. inl refl) (λ c. by_test TagFits (λ s. inr refl) (λ s. tt))

with_fits : (u : ℕ) (x : Number) → IsFirstTag u → Most 255 x → OpeningFits (opening_with u x)
with_fits u (Err p) g h = tt
with_fits u (Ok (v, p)) g h = (g, omega arith)

opening_fits : (t : List ℕ) (at : ℕ) → OpeningFits (opening_at t at)
unfolding opening_at
opening_fits t at = by (opening_tag (word_at t at)) (opening_tag_lem (word_at t at))
  where
    by : (u : Option ℕ) → TagFits u → OpeningFits (opening_by u t at)
    by None g = tt
    by (Some u) g = with_fits u (number_at 255 t (behind_word t at)) g (number_most 255 t (behind_word t at))

-- ── events ──

abbrev PartFits : Part → Type 0
PartFits (Ok None) = Unit {0}
PartFits (Err w) = Unit {0}
PartFits (Ok (Some (e, p))) = FitsBytes e

-- what the second number can be
task_most : (u : ℕ) → eqb u 0x16 ≡ true → second_most u ≡ 65535
unfolding second_most pick
task_most u e = rw e

byte_most : (u : ℕ) → eqb u 0x16 ≡ false → second_most u ≡ 255
unfolding second_most pick
byte_most u e = rw e

two_fit : (u x y : ℕ) → x ≤ 255 → y ≤ second_most u → FitsBytes (event_of_two u x y)
unfolding event_of_two
two_fit u x y h k =
    by_test FitsBytes
    (λ e. let m = task_most u e in (omega arith, (omega arith, (omega arith, tt))))
    (λ e. let m = byte_most u e in event_fits u (x ∷ y ∷ []) (omega arith, (omega arith, tt)))

one_part : (u : ℕ) (x : Number) → Most 255 x → PartFits (with_one u x)
one_part u (Err p) h = tt
one_part u (Ok (v, p)) h = event_fits u (v ∷ []) (omega arith, tt)

second_part : (u v : ℕ) (x : Number) → v ≤ 255 → Most (second_most u) x → PartFits (with_second u v x)
second_part u v (Err p) h k = tt
second_part u v (Ok (w, p)) h k = two_fit u v w h k

two_part : (u : ℕ) (t : List ℕ) (x : Number) → Most 255 x → PartFits (with_two u t x)
two_part u t (Err p) h = tt
two_part u t (Ok (v, p)) h = second_part u v (number_at (second_most u) t p) h (number_most (second_most u) t p)

event_part : (t : List ℕ) (at : ℕ) → PartFits (event_at t at)
unfolding event_at numbers_at
event_part t at = by (event_named (word_at t at))
  where
    by : (u : Option ℕ) → PartFits (event_by u t at)
    by None = tt
    by (Some u) =
        let p = behind_word t at in
        by_test PartFits (λ o. one_part u (number_at 255 t p) (number_most 255 t p)) (λ o. two_part u t (number_at 255 t p) (number_most 255 t p))

from_part : (t : List ℕ) (at : ℕ) → PartFits (event_from t at)
unfolding event_from
from_part t at = by_test PartFits (λ e. tt) (λ e. event_part t at)

part_fits : (t : List ℕ) (at : ℕ) → PartFits (part_at t at)
unfolding part_at separated_at
part_fits t at =
    let p = past is_blank t at in
    by_test PartFits (λ e. tt)
    (λ e. by_test PartFits (λ c. event_part t (past is_blank t (p + 1)))
    (λ c. by_test PartFits (λ n. from_part t (past_skipped t p)) (λ n. tt)))

-- ── the whole ──

-- where the list has room for so many bytes
abbrev SaidFits : ℕ → Said → Type 0
SaidFits room (wrong p x) = Unit {0}
SaidFits room (said es) = All FitsBytes es × (length (concat_map event_field es) ≤ room)

before_fits : (e : Event) (room : ℕ) (x : Said) → FitsBytes e → length (event_field e) ≤ room → SaidFits (room - length (event_field e)) x → SaidFits room (before e x)
before_fits e room (wrong p x) f h g = tt
before_fits e room (said es) f h g = let m = g.1 in ((f, g.0), rw (length-append (event_field e) (concat_map event_field es)) (omega arith))

onward_fits : (at room : ℕ) (x : Part) (later : ℕ → ℕ → Said) → PartFits x → ((p r : ℕ) → SaidFits r (later p r)) → SaidFits room (onward at room x later)
onward_fits at room (Ok None) later f g = (tt, omega arith)
onward_fits at room (Err w) later f g = tt
onward_fits at room (Ok (Some (e, p))) later f g =
    by_test (SaidFits room) (λ o. tt)
    (λ o. before_fits e room (later p (room - length (event_field e))) f (ltb-false room (length (event_field e)) o) (g p (room - length (event_field e))))

said_fits : (k : ℕ) (t : List ℕ) (at room : ℕ) → SaidFits room (said_in k t at room)
unfolding said_in
said_fits zero t at room = (tt, omega arith)
said_fits (suc k) t at room = onward_fits at room (part_at t at) (said_in k t) (part_fits t at) (λ p r. said_fits k t p r)

-- what is known of what a text says
abbrev WholeFits : Script → Type 0
WholeFits (wrong_at p x) = Unit {0}
WholeFits (script u n es) = ScriptFits u n es

events_fit : (u n : ℕ) (x : Said) → IsFirstTag u → n < 256 → SaidFits (max_bytes - 4) x → WholeFits (with_events u n x)
unfolding list_bytes
events_fit u n (wrong p x) g h f = tt
events_fit u n (said es) g h f = let m = f.1 in record { tag = g; nodes = h; fit = f.0; long = rw (length-append (opening_field u n) (concat_map event_field es)) (omega arith) }

behind_fits : (t : List ℕ) (x : Opening) → OpeningFits x → WholeFits (behind_opening t x)
unfolding said_from
behind_fits t (Err w) g = tt
behind_fits t (Ok (u, n, next)) g = events_fit u n (said_from t next (max_bytes - 4)) g.0 g.1 (said_fits (suc (length t)) t next (max_bytes - 4))

whole_fits : (t : List ℕ) → WholeFits (script_of t)
unfolding script_of
whole_fits t = by_test WholeFits (λ e. tt) (λ e. behind_fits t (opening_at t (past_skipped t 0)) (opening_fits t (past_skipped t 0)))

pub script_fits : (t : List ℕ) (u n : ℕ) (es : List Event) → script_of t ≡ script u n es → ScriptFits u n es
script_fits t u n es e = subst WholeFits e (whole_fits t)
