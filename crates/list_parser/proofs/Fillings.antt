-- What bytes come to with what is said behind them, by the part that stands there.
use Prim.Native.Nat.{ℕ, ◌-◌, ◌≤◌, ◌<◌}
use native.Mathlib.Omega.{arith}
use mathlib.Core.Path.{◌≡◌, refl, sym, ap}
use mathlib.Core.List.{List, ◌++◌, append_assoc, append-nil}
use lib.ListN.{length, take}
use borrow.Author.Tests.{lt-ltb, le-ltb}
use Rattle.std.specs.Prelude.{None, Some, Ok, Err}
use Rattle.model.specs.Pick.{pick}
use Rattle.model.specs.declared.Event.{Event}
use Rattle.listing.specs.Printing.{Appended}
use Rattle.short_lists_text.specs.Rows.{concat_map}
use Rattle.list_text.specs.Script.{opening_field, event_field, list_bytes, part_at, due, Said, wrong, said, before, said_from, with_events}
use Rattle.list_text.specs.declared.Expected.{Expected}
use Rattle.list_text.specs.declared.Wrong.{Wrong}
use Rattle.list_text.proofs.Parts.{says_all}
use Rattle.list_parser.specs.Made.{filled_by, filled_from}

-- the fields of an event and of what is said behind it
before_filled : (l : List ℕ) (e : Event) (x : Said) → filled_by l (before e x) ≡ filled_by (l ++ event_field e) x
before_filled l e (wrong p x) = refl
before_filled l e (said es) = ap Ok (sym (append_assoc l (event_field e) (concat_map event_field es)))

-- what was appended at the start stands there
pub first_bytes : {b s o : List ℕ} {r : ℕ} → Appended b 0 s o r → take (length s) o ≡ s
first_bytes {b} {s} {o} {r} a = let e : length s ≡ r = omega arith in rw e a.text

-- behind the first field
pub opening_filled : (u n : ℕ) (x : Said) → filled_by (opening_field u n) x ≡ filled_from (with_events u n x)
unfolding list_bytes
opening_filled u n (wrong p x) = refl
opening_filled u n (said es) = refl

module _ (l t : List ℕ) (at room : ℕ) where
  pub filled_end : part_at t at ≡ Ok None → filled_by l (said_from t at room) ≡ Ok l
  filled_end h = rw (says_all.next t at room, h) (ap Ok (append-nil l))

  pub filled_wrong : (w : Wrong) → part_at t at ≡ Err w → filled_by l (said_from t at room) ≡ Err w
  filled_wrong w h = rw (says_all.next t at room, h) refl

  module _ (e : Event) (next : ℕ) (h : part_at t at ≡ Ok (Some (e, next))) where
    -- an event without room
    pub filled_full : room < length (event_field e) → filled_by l (said_from t at room) ≡ Err (due next Expected.EndOfList)
    unfolding pick
    filled_full k = rw (says_all.next t at room, h, lt-ltb _ _ k) refl

    -- an event with room
    pub filled_on : length (event_field e) ≤ room → filled_by l (said_from t at room) ≡ filled_by (l ++ event_field e) (said_from t next (room - length (event_field e)))
    unfolding pick
    filled_on k = rw (says_all.next t at room, h, le-ltb _ _ k) (before_filled l e (said_from t next (room - length (event_field e))))
