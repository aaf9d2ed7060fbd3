-- What a field means to a controller (02, T-11). It has the form of 01's lists, and its grounds 3, 4 and 5 are those of "a field" there (`checked` of event_list/specs/Format); deliver and lose
-- are no events of a controller: 4.
use Rattle.std.specs.Prelude.{Result, Ok, Err, Bool, List, ℕ}
use Rattle.model.specs.declared.Event.{Event}
use Rattle.model.specs.declared.Event.TheVariants.{Crash, Recover, Check, Timeout, Tick, Expire, Finish, Deliver, Lose}
use Rattle.event_list.specs.Format.{between, tag_at, contents_at, length_of, event_of, checked}
use Rattle.event_list.specs.declared.Stop.TheVariants.{WrongTag}
use Rattle.event_list.specs.declared.Stop.{Stop}
use Rattle.controller.specs.declared.LocalEvent.{LocalEvent}

-- "one event other than deliver and lose": 01's 0x10 to 0x16
abbrev pub local_tag : ℕ → Bool
local_tag t = between 0x10 0x16 t

-- what a field says: why it is no event of a controller, or its event
abbrev pub FieldRead : Type 0
FieldRead = Result LocalEvent Stop

-- such an event of a list
abbrev pub local_of : Event → FieldRead
local_of (Crash i) = Ok (LocalEvent.Crash i)
local_of (Recover i) = Ok (LocalEvent.Recover i)
local_of (Check i) = Ok (LocalEvent.Check i)
local_of (Timeout i) = Ok (LocalEvent.Timeout i)
local_of (Tick i) = Ok (LocalEvent.Tick i)
local_of (Expire i) = Ok (LocalEvent.Expire i)
local_of (Finish i t) = Ok (LocalEvent.Finish i t)
local_of (Deliver a b) = Err WrongTag
local_of (Lose a b) = Err WrongTag

-- what the field at the start of these bytes says: its ground, or its event; no bytes at all are cut short, "an empty list too"
unfoldable pub event_in : List ℕ → FieldRead
event_in l = checked local_tag length_of l 0 Err (local_of (event_of (tag_at l 0) (contents_at l 0)))
