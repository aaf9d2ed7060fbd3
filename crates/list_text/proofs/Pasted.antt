-- Each list of T-01, pasted behind its opening, is read back: the machine accepts only events whose numbers fit into their bytes, and such a list is short.
use Prim.Native.Nat.{ℕ, ◌*◌, ◌≤◌}
use native.Mathlib.Omega.{arith}
use mathlib.Core.Path.{◌≡◌, refl, ap, sym, ◌∙◌}
use mathlib.Core.Logic.{inl}
use mathlib.Core.List.{List, [], ◌∷◌, ◌++◌}
use lib.ListN.{length, length-append}
use Rattle.model.specs.Pick.{pick}
use Rattle.model.specs.State.{State, start}
use Rattle.model.specs.Limits.{tower}
use Rattle.model.specs.Step.{after}
use Rattle.model.specs.declared.Event.{Event}
use Rattle.model.specs.declared.Event.TheVariants.{Crash, Recover, Check, Timeout, Tick, Expire, Finish, Deliver, Lose}
use Rattle.event_list.specs.Format.{max_bytes}
use Rattle.listing.specs.Lines.{cabinets_line}
use Rattle.short_lists_text.specs.Rows.{All, concat_map}
use Rattle.short_lists_text.specs.Lists.{AcceptedFrom}
use Rattle.short_lists_text.specs.Text.{list_line}
use Rattle.short_lists_text.proofs.Bytes.{same_bytes}
use Rattle.list_text.specs.Text.{opening_line}
use Rattle.list_text.specs.Script.{opening_field, event_field, list_bytes, list_of}
use Rattle.list_text.specs.Claims.{FitsBytes, ShortListsPasted}
use Rattle.list_text.proofs.Lines.{pasted_read}

-- Accepted events fit into their bytes.
pub accepted_fit : (s : State) (es : List Event) → AcceptedFrom s es → All FitsBytes es
accepted_fit s [] a = tt
accepted_fit s (e ∷ es) a = ((same_bytes.are_bytes e (same_bytes.accepted_fits s e a.0)).1, accepted_fit (after s e) es a.1)

-- An event has at most six bytes.
field_short : (e : Event) → length (event_field e) ≤ 6
unfolding event_field
field_short (Crash i) = omega arith
field_short (Recover i) = omega arith
field_short (Check i) = omega arith
field_short (Timeout i) = omega arith
field_short (Tick i) = omega arith
field_short (Expire i) = omega arith
field_short (Finish i t) = omega arith
field_short (Deliver a b) = omega arith
field_short (Lose a b) = omega arith

fields_short : (es : List Event) → length (concat_map event_field es) ≤ 6 * length es
fields_short [] = omega arith
fields_short (e ∷ es) = let a = field_short e in let b = fields_short es in simp length-append (omega arith)

-- So few events fit into a list.
list_short : (n : ℕ) (es : List Event) → length es ≤ 7 → length (list_bytes 0x01 n es) ≤ max_bytes
unfolding list_bytes
list_short n es h = let s = fields_short es in let l = length-append (opening_field 0x01 n) (concat_map event_field es) in omega arith

-- The tower's opening is T-01's first line.
tower_opening : (n : ℕ) → opening_line 0x01 n ≡ cabinets_line n
unfolding opening_line pick
tower_opening n = refl

pub short_lists_pasted : ShortListsPasted
short_lists_pasted n m es h k a =
    let l = a.long in
    ap (λ (t : List ℕ). list_of (t ++ list_line es)) (sym (tower_opening n))
    ∙ pasted_read 0x01 n es (inl refl) (omega arith) (accepted_fit (start n tower) es a.taken) (list_short n es (omega arith))
