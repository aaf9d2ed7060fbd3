-- What a list of bytes means, after 01's "The list and the printed table" and "Where each refusal is met", and T-08. Each definition quotes the words it stands for.
use Rattle.std.specs.Prelude.{Bool, not, ◌&&◌, ◌||◌, Option, Some, None, Result, Ok, Err, List, [], ◌∷◌, ℕ, zero, suc, ◌+◌, ◌-◌, ◌*◌, length, get_or, take, drop, eqb, leb, ltb}
use Rattle.model.specs.Limits.{tower, stand}
use Rattle.model.specs.Pick.{pick}
use Rattle.model.specs.State.{wrong_count}
use Rattle.model.specs.declared.Limits.{Limits}
use Rattle.model.specs.declared.TaskNo.{TaskNo}
use Rattle.model.specs.declared.Event.{Event}
use Rattle.model.specs.declared.Event.TheVariants.{Crash, Recover, Check, Timeout, Tick, Expire, Finish, Deliver, Lose}
use Rattle.event_list.specs.declared.Stop.{Stop}
use Rattle.event_list.specs.declared.Stop.TheVariants.{TooLong, CutShort, WrongTag, WrongLength, WrongCount}
use Rattle.event_list.specs.declared.Field.{Field}

-- the "No." of each ground: "Refusals 2 to 6 end the list"
abbrev pub stop_number : Stop → ℕ
stop_number TooLong = 2
stop_number CutShort = 3
stop_number WrongTag = 4
stop_number WrongLength = 5
stop_number WrongCount = 6

-- "over 65,536 bytes"
abbrev pub max_bytes : ℕ
max_bytes = 65536

-- from a to b, both included
abbrev pub between : ℕ → ℕ → ℕ → Bool
between a b x = leb a x && leb x b

-- "high byte first"
abbrev pub two_bytes : ℕ → ℕ → ℕ
two_bytes high low = high * 256 + low

-- "one-byte tag": that of the field at an offset
abbrev pub tag_at : List ℕ → ℕ → ℕ
tag_at l at = get_or l at 0

-- "two-byte length with the high byte first"
abbrev pub length_at : List ℕ → ℕ → ℕ
length_at l at = two_bytes (get_or l (at + 1) 0) (get_or l (at + 2) 0)

-- "contents": "its own stretch of the list"
abbrev pub contents_at : List ℕ → ℕ → List ℕ
contents_at l at = take (length_at l at) (drop (at + 3) l)

-- the offset behind that field
abbrev pub behind : List ℕ → ℕ → ℕ
behind l at = at + 3 + length_at l at

-- "First field: 0x01"; T-08: "Ground 4 lets 0x02 stand first as well, and nowhere else."
abbrev pub first_tag : ℕ → Bool
first_tag t = eqb t 0x01 || eqb t 0x02

-- the limits that a first tag gives. T-08: "A list meant for the stand gives them by a first tag of 0x02 instead of 0x01, with the same byte n." Other tags meet 4 before this is read.
unfoldable pub limits_of : ℕ → Limits
limits_of t = pick (eqb t 0x01) tower stand

-- "Then events: 0x10 crash" to "0x18 lose"
abbrev pub event_tag : ℕ → Bool
event_tag t = between 0x10 0x18 t

-- the length that goes with a tag: "one byte n", "each one byte i", "i and a two-byte task", "sender and receiver"
unfoldable pub length_of : ℕ → ℕ
length_of t =
    pick (first_tag t) 1
    (pick (between 0x10 0x15 t) 1
    (pick (eqb t 0x16) 3
    (pick (between 0x17 0x18 t) 2
    0)))

-- "only 1 or 2 bytes left, or fewer contents than its length says; an empty list too"
unfoldable pub cut_short : List ℕ → ℕ → Bool
cut_short l at = ltb (length l - at) 3 || ltb (length l - (at + 3)) (length_at l at)

-- what stands at an offset, by the bytes that are left: nothing, too few for a field, or its tag and where its contents start and end
unfoldable pub field_at : List ℕ → ℕ → Result (Option Field) Stop
field_at l at =
    pick (leb (length l) at) (Ok None)
    (pick (cut_short l at) (Err CutShort)
    (Ok (Some (record { tag = tag_at l at; start = at + 3; end = behind l at }))))

-- the grounds of "a field", "Checked from the top; the first that applies is given"; `fits` says which tags may stand there, and `long` which length goes with a tag
unfoldable pub checked : {A : Type 0} → (ℕ → Bool) → (ℕ → ℕ) → List ℕ → ℕ → (Stop → A) → A → A
checked fits long l at stop good =
    -- 3
    pick (cut_short l at) (stop CutShort)
    -- 4: "unknown tag, 0x01 not first, or another tag first"; by T-08 "0x02 .. first as well, and nowhere else"
    (pick (not (fits (tag_at l at))) (stop WrongTag)
    -- 5: "length wrong for the tag"
    (pick (not (eqb (length_at l at) (long (tag_at l at)))) (stop WrongLength)
    good))

-- "two-byte task, high byte first"
abbrev pub task_of : ℕ → ℕ → TaskNo
task_of high low = record { number = two_bytes high low }

-- the event of a tag with these contents: "0x10 crash, 0x11 recover, 0x12 check, 0x13 timeout, 0x14 tick, 0x15 expire, .. 0x16 finish, .. 0x17 deliver and 0x18 lose"
unfoldable pub event_of : ℕ → List ℕ → Event
event_of t c =
    pick (eqb t 0x10) (Crash (get_or c 0 0))
    (pick (eqb t 0x11) (Recover (get_or c 0 0))
    (pick (eqb t 0x12) (Check (get_or c 0 0))
    (pick (eqb t 0x13) (Timeout (get_or c 0 0))
    (pick (eqb t 0x14) (Tick (get_or c 0 0))
    (pick (eqb t 0x15) (Expire (get_or c 0 0))
    (pick (eqb t 0x16) (Finish (get_or c 0 0) (task_of (get_or c 1 0) (get_or c 2 0)))
    (pick (eqb t 0x17) (Deliver (get_or c 0 0) (get_or c 1 0))
    (Lose (get_or c 0 0) (get_or c 1 0)))))))))

-- what stands at an offset past the first field: the list's end, a ground, or an event and where the next field starts
abbrev pub Next : Type 0
Next = Result (Option (Event × ℕ)) Stop

-- "0 bytes left later is the list's end"; else the grounds of a field, or its event and where the next field starts
unfoldable pub next_at : List ℕ → ℕ → Next
next_at l at =
    pick (leb (length l) at) (Ok None)
    (checked event_tag length_of l at Err (Ok (Some (event_of (tag_at l at) (contents_at l at), behind l at))))

-- what the whole list and its first field say: a ground, or n and the table's limits
abbrev pub First : Type 0
First = Result (ℕ × Limits) Stop

-- ground 6: "n outside 1 to 16"; T-08: "Grounds 1, 6 and 14 read the table's own limits."
unfoldable pub nodes_of : Limits → ℕ → First
nodes_of lim n = pick (wrong_count lim.nodes n) (Err WrongCount) (Ok (n, lim))

-- the ground of the "whole list", 2: "over 65,536 bytes"; then those of a field, and that of the "first field", 6
unfoldable pub first_of : List ℕ → First
first_of l =
    pick (ltb max_bytes (length l)) (Err TooLong)
    (checked first_tag length_of l 0 Err (nodes_of (limits_of (tag_at l 0)) (get_or (contents_at l 0) 0 0)))

-- how a list ends: at its end, or "at the offset b of its field's tag" by a refusal
pub data Ending : Type 0 where
  complete : Ending
  stopped : ℕ → Stop → Ending

-- "the events are those before the list ends or stops"
pub record Reading : Type 0 where
  pub events : List Event
  pub ending : Ending

-- nothing more is read
abbrev pub ended : Ending → Reading
ended x = record { events = []; ending = x }

-- an event, and what is read after it
abbrev pub after : Event → Reading → Reading
after e r = record { events = e ∷ r.events; ending = r.ending }

-- what is read from an offset on, given what is read from the next field on
abbrev pub onward : ℕ → Next → (ℕ → Reading) → Reading
onward at (Ok None) later = ended complete
onward at (Err s) later = ended (stopped at s)
onward at (Ok (Some (e, next))) later = after e (later next)

-- what the next k fields from an offset on say
unfoldable pub read_from : ℕ → List ℕ → ℕ → Reading
read_from zero l at = ended complete
read_from (suc k) l at = onward at (next_at l at) (read_from k l)

-- what all fields from an offset on say. A list has no more fields than bytes, so none is left: `ReadsAll` in specs/Claims
unfoldable pub rest : List ℕ → ℕ → Reading
rest l at = read_from (length l) l at

-- what a whole list says: "the whole list or the first field failed", by this refusal at offset 0; or n, the limits, and what is read behind the first field
pub data Listed : Type 0 where
  failed : Stop → Listed
  begun : ℕ → Limits → Reading → Listed

-- the same by what the whole list and its first field say
abbrev pub listed : List ℕ → First → Listed
listed l (Err s) = failed s
listed l (Ok (n, lim)) = begun n lim (rest l (behind l 0))

-- "A list is a row of fields"
unfoldable pub reading : List ℕ → Listed
reading l = listed l (first_of l)
