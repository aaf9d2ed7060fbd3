-- What the reader's inner functions answer. No promise of a public function needs this file, but for that of `sized`.
use Rattle.std.specs.Prelude.{not, Result, Ok, Err, List, ℕ, length, get_or, eqb}
use Rattle.model.specs.Pick.{pick}
use Rattle.model.specs.declared.Limits.{Limits}
use Rattle.model.specs.declared.Event.{Event}
use Rattle.event_list.specs.declared.Stop.{Stop}
use Rattle.event_list.specs.declared.Stop.TheVariants.{WrongTag, WrongLength}
use Rattle.event_list.specs.Format.{First, first_tag, event_tag, length_of, event_of, limits_of, nodes_of}

-- ground 5 of a field, whose contents say x
unfoldable pub sized : {A : Type 0} → ℕ → ℕ → A → Result A Stop
sized size wanted x = pick (not (eqb size wanted)) (Err WrongLength) (Ok x)

-- grounds 4 and 5 of an event's field
unfoldable pub decoded : ℕ → List ℕ → Result Event Stop
decoded t c = pick (not (event_tag t)) (Err WrongTag) (sized (length c) (length_of t) (event_of t c))

-- grounds 5 and 6 of the first field, whose tag gives the length and the limits
unfoldable pub counted_in : ℕ → Limits → List ℕ → First
counted_in wanted lim c = pick (not (eqb (length c) wanted)) (Err WrongLength) (nodes_of lim (get_or c 0 0))

-- grounds 4, 5 and 6 of the first field
unfoldable pub first_in : ℕ → List ℕ → First
first_in t c = pick (not (first_tag t)) (Err WrongTag) (counted_in (length_of t) (limits_of t) c)
