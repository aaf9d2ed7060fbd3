-- What the inner function of the field's reader answers. No promise of a public function needs this file.
use Rattle.std.specs.Prelude.{not, Result, Err, List, ℕ, length}
use Rattle.model.specs.Pick.{pick}
use Rattle.event_list.specs.Parts.{sized}
use Rattle.event_list.specs.declared.Stop.{Stop}
use Rattle.event_list.specs.declared.Stop.TheVariants.{WrongTag}
use Rattle.bully_model.specs.declared.Event.{Event}
use Rattle.bully_bytes.specs.Field.{event_tag, length_of, event_of}

-- grounds 4 and 5
unfoldable pub decoded_field : ℕ → List ℕ → Result Event Stop
decoded_field t c = pick (not (event_tag t)) (Err WrongTag) (sized (length c) (length_of t) (event_of t c))
