-- What a stack of tables means: the lists that are still to come from it, and their text.
use Rattle.std.specs.Prelude.{ℕ, zero, suc, ◌+◌, ◌-◌, List, [], ◌∷◌, ◌++◌, map, length, drop}
use Rattle.model.specs.State.{State}
use Rattle.model.specs.Step.{step}
use Rattle.model.specs.declared.Event.{Event}
use Rattle.listing.specs.Printing.{joined}
use Rattle.short_lists_text.specs.Rows.{concat_map}
use Rattle.short_lists_text.specs.Lists.{alphabet, continued, lists_from}
use Rattle.short_lists_text.specs.Text.{list_line, count_line}
use Rattle.list_events.specs.Events.{event_at}

-- ── the stack ──

-- a state on the way to lists, and how many events of the alphabet were tried on it, in order. Where a frame stands above it, the last of them led there. The code's
-- `Level` is one, with the table in pieces.
pub record Frame : Type 0 where
  pub state : State
  pub tried : ℕ

abbrev pub frame : State → ℕ → Frame
frame s i = record { state = s; tried = i }

-- the event last tried on each frame, from the lowest frame up; the frames are given topmost first
unfoldable pub path : List Frame → List Event
path [] = []
path (f ∷ fs) = path fs ++ (event_at f.state.n (f.tried - 1) ∷ [])

-- ── what is left ──

-- lists of r events from a frame: those whose first event was not tried yet; of no events, the empty list
unfoldable pub on_frame : ℕ → Frame → List (List Event)
on_frame zero f = [] ∷ []
on_frame (suc r) f = concat_map (λ e. continued e (step f.state e) (lists_from r)) (drop f.tried (alphabet f.state.n))

-- the lists that a stack still gives, where r events are missing behind its top
unfoldable pub lists_left : ℕ → List Frame → List (List Event)
lists_left r [] = []
lists_left r (f ∷ fs) = map (λ l. path fs ++ l) (on_frame r f) ++ lists_left (suc r) fs

-- the text that it still gives, where g lists were given before
unfoldable pub stack_text : ℕ → ℕ → List Frame → List ℕ
stack_text g r fs = joined (map list_line (lists_left r fs) ++ (count_line (g + length (lists_left r fs)) ∷ []))
