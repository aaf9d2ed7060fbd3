-- What is claimed of the byte form, and of reading a field. The proofs are in proofs/RoundTrip, proofs/Cases and proofs/Reading. Every table of the code fits, so `encode` promises
-- the same without `Fits`.
use Rattle.std.specs.Prelude.{Ok, Err, ℕ, ◌*◌, ◌+◌, ◌≤◌, true, false, ◌≡◌, List, [], ◌∷◌, ◌++◌, length, replicate}
use Rattle.number_bytes.specs.Bytes.{written}
use Rattle.event_list.specs.Format.{stop_number, cut_short}
use Rattle.event_list.specs.declared.Stop.{Stop}
use Rattle.event_list.specs.declared.Stop.TheVariants.{CutShort, WrongTag, WrongLength}
use Rattle.model.specs.declared.Status.TheVariants.{Reorganization, Normal}
use Rattle.bully_model.specs.State.{starting_node}
use Rattle.bully_model.specs.declared.Place.TheVariants.{Idle, Asking, Halting, Announcing, Point, Handing, Checking, Contacting}
use Rattle.bully_model.specs.declared.Event.TheVariants.{Crash, Recover, Check, Timeout, GoOn, Finish}
use Rattle.bully_model.specs.declared.Table.{Table}
use Rattle.bully_bytes.specs.Bytes.{parts_of, node_of, decoded, parts_bytes, node_bytes, size, encoded, Fits}
use Rattle.bully_bytes.specs.Field.{event_in}

pub record ReadBack : Type 0 where
  pub long : (t : Table) → Fits t → length (encoded t) ≡ size
  -- a table is read back from its bytes
  pub decode_encode : (t : Table) → Fits t → decoded (encoded t) ≡ t
  -- also where more bytes come after them: those are not looked at
  pub decode_more : (t : Table) → Fits t → (l : List ℕ) → decoded (encoded t ++ l) ≡ t
  -- also from a buffer over whose start they are written
  pub round_trip : (t : Table) → Fits t → (out : List ℕ) → size ≤ length out → decoded (written out 0 (encoded t)) ≡ t

-- records in their 12 bytes: runs, status, coordinator, task, last halter, Up, place, node, still
pub record RecordCases : Type 0 where
  -- not running, every number 0
  pub starting : node_bytes starting_node ≡ replicate 12 0
  -- Normal under 3 with task 400, halted by 3, Up {1, 2}, idle
  pub normal : node_bytes (record { runs = true; status = Normal; coordinator = 3; task = record { number = 400 }; halter = 3; up = 3; place = Idle })
      ≡ 1 ∷ 3 ∷ 3 ∷ 1 ∷ 144 ∷ 3 ∷ 0 ∷ 3 ∷ 0 ∷ 0 ∷ 0 ∷ 0 ∷ []
  -- in Reorganization, announcing itself to 9, still {1, 10}
  pub announcing : node_bytes (record { runs = true; status = Reorganization; coordinator = 16; task = record { number = 0 }; halter = 16; up = 0x301; place = Announcing 0x201 9 })
      ≡ 1 ∷ 2 ∷ 16 ∷ 0 ∷ 0 ∷ 16 ∷ 3 ∷ 1 ∷ 3 ∷ 9 ∷ 2 ∷ 1 ∷ []
  -- each place's number
  pub asking : parts_bytes (parts_of (Asking 5)) ≡ 1 ∷ 5 ∷ 0 ∷ 0 ∷ []
  pub halting : parts_bytes (parts_of (Halting 5)) ≡ 2 ∷ 5 ∷ 0 ∷ 0 ∷ []
  pub point : parts_bytes (parts_of Point) ≡ 4 ∷ 0 ∷ 0 ∷ 0 ∷ []
  pub handing : parts_bytes (parts_of (Handing 0x201 9)) ≡ 5 ∷ 9 ∷ 2 ∷ 1 ∷ []
  pub checking : parts_bytes (parts_of (Checking 5)) ≡ 6 ∷ 5 ∷ 0 ∷ 0 ∷ []
  pub contacting : parts_bytes (parts_of Contacting) ≡ 7 ∷ 0 ∷ 0 ∷ 0 ∷ []
  -- read: runs by its lowest bit, status modulo 4, place modulo 8, and what a place does not have is not looked at
  pub other_form : node_of (3 ∷ 7 ∷ 3 ∷ 1 ∷ 144 ∷ 3 ∷ 0 ∷ 3 ∷ 15 ∷ 9 ∷ 2 ∷ 1 ∷ [])
      ≡ record { runs = true; status = Normal; coordinator = 3; task = record { number = 400 }; halter = 3; up = 3; place = Contacting }
  pub even_off : node_of (2 ∷ []) ≡ starting_node

-- i: any byte, also one that is no number of a node
pub record FieldRules : Type 0 where
  -- each event with its field: tag, length, contents
  pub crash : (i : ℕ) → event_in (0x10 ∷ 0 ∷ 1 ∷ i ∷ []) ≡ Ok (Crash i)
  pub recover : (i : ℕ) → event_in (0x11 ∷ 0 ∷ 1 ∷ i ∷ []) ≡ Ok (Recover i)
  pub check : (i : ℕ) → event_in (0x12 ∷ 0 ∷ 1 ∷ i ∷ []) ≡ Ok (Check i)
  pub timeout : (i : ℕ) → event_in (0x13 ∷ 0 ∷ 1 ∷ i ∷ []) ≡ Ok (Timeout i)
  pub go_on : (i : ℕ) → event_in (0x19 ∷ 0 ∷ 1 ∷ i ∷ []) ≡ Ok (GoOn i)
  pub finish : (i high low : ℕ) → event_in (0x16 ∷ 0 ∷ 3 ∷ i ∷ high ∷ low ∷ []) ≡ Ok (Finish i (record { number = high * 256 + low }))
  -- what is no event has one of three grounds, 3, 4 or 5
  pub grounds : (f : List ℕ) (s : Stop) → event_in f ≡ Err s → (3 ≤ stop_number s) × (stop_number s ≤ 5)
  -- no bytes are no field, 3
  pub empty : event_in [] ≡ Err CutShort
  -- the other machine's tick, expire, deliver and lose are no events of this one, 4
  pub tick : (i : ℕ) → event_in (0x14 ∷ 0 ∷ 1 ∷ i ∷ []) ≡ Err WrongTag
  pub expire : (i : ℕ) → event_in (0x15 ∷ 0 ∷ 1 ∷ i ∷ []) ≡ Err WrongTag
  pub deliver : (a b : ℕ) → event_in (0x17 ∷ 0 ∷ 2 ∷ a ∷ b ∷ []) ≡ Err WrongTag
  pub lose : (a b : ℕ) → event_in (0x18 ∷ 0 ∷ 2 ∷ a ∷ b ∷ []) ≡ Err WrongTag
  -- nor are 0x01, which begins a list, and the tags beside this machine's own
  pub first_tag : (n : ℕ) → event_in (0x01 ∷ 0 ∷ 1 ∷ n ∷ []) ≡ Err WrongTag
  pub tag_below : (i : ℕ) → event_in (0x0f ∷ 0 ∷ 1 ∷ i ∷ []) ≡ Err WrongTag
  pub tag_above : (i : ℕ) → event_in (0x1a ∷ 0 ∷ 1 ∷ i ∷ []) ≡ Err WrongTag
  -- a length that is wrong for the tag, 5: go on without a number, and with two; each other event with one byte more, and finish without its task
  pub go_on_empty : event_in (0x19 ∷ 0 ∷ 0 ∷ []) ≡ Err WrongLength
  pub go_on_long : (i j : ℕ) → event_in (0x19 ∷ 0 ∷ 2 ∷ i ∷ j ∷ []) ≡ Err WrongLength
  pub crash_long : (i j : ℕ) → event_in (0x10 ∷ 0 ∷ 2 ∷ i ∷ j ∷ []) ≡ Err WrongLength
  pub recover_long : (i j : ℕ) → event_in (0x11 ∷ 0 ∷ 2 ∷ i ∷ j ∷ []) ≡ Err WrongLength
  pub check_long : (i j : ℕ) → event_in (0x12 ∷ 0 ∷ 2 ∷ i ∷ j ∷ []) ≡ Err WrongLength
  pub timeout_long : (i j : ℕ) → event_in (0x13 ∷ 0 ∷ 2 ∷ i ∷ j ∷ []) ≡ Err WrongLength
  pub finish_long : (i j k l : ℕ) → event_in (0x16 ∷ 0 ∷ 4 ∷ i ∷ j ∷ k ∷ l ∷ []) ≡ Err WrongLength
  pub finish_short : (i : ℕ) → event_in (0x16 ∷ 0 ∷ 1 ∷ i ∷ []) ≡ Err WrongLength
  -- cut short, 3: only 1 or 2 bytes, or fewer contents than the length says
  pub one_byte : (t : ℕ) → event_in (t ∷ []) ≡ Err CutShort
  pub two_bytes : (t l : ℕ) → event_in (t ∷ l ∷ []) ≡ Err CutShort
  pub no_contents : (t : ℕ) → event_in (t ∷ 0 ∷ 1 ∷ []) ≡ Err CutShort
  -- 3 before 4 and 5, and 4 before 5
  pub cut_first : event_in (0x14 ∷ 0 ∷ 2 ∷ 1 ∷ []) ≡ Err CutShort
  pub tag_first : event_in (0x14 ∷ 0 ∷ 0 ∷ []) ≡ Err WrongTag
  -- bytes behind a field that is there whole are not looked at
  pub first_alone : (f g : List ℕ) → cut_short f 0 ≡ false → event_in (f ++ g) ≡ event_in f
