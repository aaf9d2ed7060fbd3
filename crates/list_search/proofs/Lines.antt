-- Laws of the text of a list: one event more, and the last.
use Prim.Native.Nat.{ℕ}
use mathlib.Core.Path.{◌≡◌, refl, ◌∙◌, ap}
use mathlib.Core.List.{List, [], ◌∷◌, ◌++◌, append_assoc, append-nil}
use Rattle.model.specs.declared.Event.{Event}
use Rattle.listing.specs.Ascii.{bytes}
use Rattle.short_lists_text.specs.Text.{event_text, more_text, events_text, list_line}
use Rattle.list_search.specs.Line.{beginning}

-- One event more.
pub beginning_more : (p : List Event) (e : Event) → beginning (p ++ (e ∷ [])) ≡ beginning p ++ (event_text e ++ bytes ", ")
unfolding beginning
beginning_more [] e = refl
beginning_more (d ∷ p) e = rw (beginning_more p e, append_assoc)

-- Its last event ends the line.
more_ends : (d : Event) (p : List Event) (e : Event) → event_text d ++ (more_text (p ++ (e ∷ [])) ++ bytes "\n") ≡ beginning (d ∷ p) ++ (event_text e ++ bytes "\n")
unfolding more_text beginning
more_ends d [] e = simp (append-nil, append_assoc)
more_ends d (f ∷ p) e = simp append_assoc (ap (λ (l : List ℕ). event_text d ++ (bytes ", " ++ l)) (simp append_assoc at (more_ends f p e)))

pub line_ends : (p : List Event) (e : Event) → list_line (p ++ (e ∷ [])) ≡ beginning p ++ (event_text e ++ bytes "\n")
unfolding list_line events_text more_text beginning
line_ends [] e = simp append-nil
line_ends (d ∷ p) e = append_assoc (event_text d) (more_text (p ++ (e ∷ []))) (bytes "\n") ∙ more_ends d p e

pub line_empty : list_line [] ≡ bytes "\n"
unfolding list_line events_text
line_empty = refl
