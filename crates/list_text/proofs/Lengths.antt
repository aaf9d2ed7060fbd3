-- How long the text of an event and the first line can be, and how many bytes an event has in a list.
use Prim.Native.Nat.{ℕ, ◌+◌, ◌*◌, ◌≤◌}
use native.Mathlib.Omega.{arith}
use mathlib.Core.List.{List, [], ◌∷◌, ◌++◌, map}
use lib.ListN.{length, length-append}
use Rattle.model.specs.declared.Event.{Event}
use Rattle.model.specs.declared.Event.TheVariants.{Crash, Recover, Check, Timeout, Tick, Expire, Finish, Deliver, Lose}
use Rattle.listing.specs.Ascii.{bytes}
use Rattle.listing.specs.Printing.{joined}
use Rattle.short_lists_text.specs.Rows.{All, concat_map}
use Rattle.short_lists_text.specs.Text.{name_of, spaced, event_text, more_text}
use Rattle.short_lists_text.proofs.Spaced.{one_short, two_short, task_short}
use Rattle.list_text.specs.Text.{event_line}
use Rattle.list_text.specs.Script.{event_field}
use Rattle.list_text.specs.Claims.{FitsBytes}

-- ── the text of an event ──

named_long : (w xs : List ℕ) {k : ℕ} → length (spaced xs) ≤ k → length (w ++ spaced xs) ≤ length w + k
named_long w xs h = simp length-append (omega arith)

-- the longest is that of finish
pub event_long : (e : Event) → FitsBytes e → length (event_text e) ≤ 16
unfolding event_text name_of
event_long (Crash i) f = let h = named_long (bytes "crash") (i ∷ []) (one_short f.0) in omega arith
event_long (Recover i) f = let h = named_long (bytes "recover") (i ∷ []) (one_short f.0) in omega arith
event_long (Check i) f = let h = named_long (bytes "check") (i ∷ []) (one_short f.0) in omega arith
event_long (Timeout i) f = let h = named_long (bytes "timeout") (i ∷ []) (one_short f.0) in omega arith
event_long (Tick i) f = let h = named_long (bytes "tick") (i ∷ []) (one_short f.0) in omega arith
event_long (Expire i) f = let h = named_long (bytes "expire") (i ∷ []) (one_short f.0) in omega arith
event_long (Finish i t) f = let h = named_long (bytes "finish") (i ∷ t.number ∷ []) (task_short f.0 (omega arith)) in omega arith
event_long (Deliver a b) f = let h = named_long (bytes "deliver") (a ∷ b ∷ []) (two_short f.0 f.1.0) in omega arith
event_long (Lose a b) f = let h = named_long (bytes "lose") (a ∷ b ∷ []) (two_short f.0 f.1.0) in omega arith

pub lines_long : (es : List Event) → All FitsBytes es → length (joined (map event_line es)) ≤ 17 * length es
unfolding joined event_line
lines_long [] f = omega arith
lines_long (e ∷ es) f = let a = event_long e f.0 in let b = lines_long es f.1 in simp length-append (omega arith)

pub more_long : (es : List Event) → All FitsBytes es → length (more_text es) ≤ 18 * length es
unfolding more_text
more_long [] f = omega arith
more_long (e ∷ es) f = let a = event_long e f.0 in let b = more_long es f.1 in simp length-append (omega arith)

-- ── its bytes ──

field_some : (e : Event) → 4 ≤ length (event_field e)
unfolding event_field
field_some (Crash i) = omega arith
field_some (Recover i) = omega arith
field_some (Check i) = omega arith
field_some (Timeout i) = omega arith
field_some (Tick i) = omega arith
field_some (Expire i) = omega arith
field_some (Finish i t) = omega arith
field_some (Deliver a b) = omega arith
field_some (Lose a b) = omega arith

pub fields_some : (es : List Event) → 4 * length es ≤ length (concat_map event_field es)
fields_some [] = omega arith
fields_some (e ∷ es) = let a = field_some e in let b = fields_some es in simp length-append (omega arith)
