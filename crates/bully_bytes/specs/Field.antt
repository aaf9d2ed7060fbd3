-- What a field means to the Bully machine (02, T-07). It has the form of 01's lists, and its grounds 3, 4 and 5 are those of "a field" there (`checked` of
-- event_list/specs/Format); only the tags are this machine's own.
use Rattle.std.specs.Prelude.{Bool, ◌||◌, Result, Ok, Err, List, ℕ, get_or, eqb}
use Rattle.model.specs.Pick.{pick}
use Rattle.event_list.specs.Format.{between, tag_at, contents_at, checked, task_of}
use Rattle.event_list.specs.declared.Stop.{Stop}
use Rattle.bully_model.specs.declared.Event.{Event}
use Rattle.bully_model.specs.declared.Event.TheVariants.{Crash, Recover, Check, Timeout, GoOn, Finish}

-- "crash, recover, check, timeout, go on and finish with a task": 01's 0x10 to 0x13 and 0x16, and 0x19 for go on
abbrev pub event_tag : ℕ → Bool
event_tag t = between 0x10 0x13 t || (eqb t 0x16 || eqb t 0x19)

-- the length that goes with such a tag: i and a two-byte task for finish, one byte i for the others
unfoldable pub length_of : ℕ → ℕ
length_of t = pick (eqb t 0x16) 3 1

-- the event of such a tag with these contents
unfoldable pub event_of : ℕ → List ℕ → Event
event_of t c =
    pick (eqb t 0x10) (Crash (get_or c 0 0))
    (pick (eqb t 0x11) (Recover (get_or c 0 0))
    (pick (eqb t 0x12) (Check (get_or c 0 0))
    (pick (eqb t 0x13) (Timeout (get_or c 0 0))
    (pick (eqb t 0x16) (Finish (get_or c 0 0) (task_of (get_or c 1 0) (get_or c 2 0)))
    (GoOn (get_or c 0 0))))))

-- what a field says: why it is no event of this machine, or its event
abbrev pub FieldRead : Type 0
FieldRead = Result Event Stop

-- what the field at the start of these bytes says: its ground, or its event; no bytes at all are cut short, "an empty list too"
unfoldable pub event_in : List ℕ → FieldRead
event_in l = checked event_tag length_of l 0 Err (Ok (event_of (tag_at l 0) (contents_at l 0)))
