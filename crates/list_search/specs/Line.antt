-- The beginning of a list's line, as it is kept while events are added.
use Rattle.std.specs.Prelude.{ℕ, List, [], ◌∷◌, ◌++◌}
use Rattle.model.specs.declared.Event.{Event}
use Rattle.listing.specs.Ascii.{bytes}
use Rattle.short_lists_text.specs.Text.{event_text}

-- the beginning of a line, where more events follow: each event with "a comma and a space" behind it
unfoldable pub beginning : List Event → List ℕ
beginning [] = []
beginning (e ∷ es) = event_text e ++ (bytes ", " ++ beginning es)
