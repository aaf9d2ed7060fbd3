-- 02, T-13: the events of which at most 20,000 further ones can be accepted. How many of a list are, model/specs/Traffic says: accepted_from.
use Rattle.std.specs.Prelude.{Bool, true, false, ◌&&◌, List, [], ◌∷◌}
use Rattle.model.specs.declared.Event.{Event}
use Rattle.model.specs.declared.Event.TheVariants.{Crash, Recover, Check, Timeout, Tick, Expire, Finish, Deliver, Lose}

-- "nobody issues checks, timeouts, crashes or recoveries"; "deliver, lose, expire, tick or finish"
abbrev pub quiet : Event → Bool
quiet (Crash i) = false
quiet (Recover i) = false
quiet (Check i) = false
quiet (Timeout i) = false
quiet (Tick i) = true
quiet (Expire i) = true
quiet (Finish i t) = true
quiet (Deliver a b) = true
quiet (Lose a b) = true

-- "if all of them are deliver, lose, expire, tick or finish"
unfoldable pub all_quiet : List Event → Bool
all_quiet [] = true
all_quiet (e ∷ es) = quiet e && all_quiet es
