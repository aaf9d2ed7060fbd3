-- What is claimed of a list as text. The proofs are in proofs/.
use Rattle.std.specs.Prelude.{ℕ, ◌≤◌, ◌<◌, true, ◌≡◌, ◌⊎◌, List, ◌∷◌, ◌++◌, map, length, take, Some, Ok, Err}
use Rattle.model.specs.Limits.{tower}
use Rattle.model.specs.State.{start}
use Rattle.model.specs.declared.Limits.{Limits}
use Rattle.model.specs.declared.Event.{Event}
use Rattle.event_list.specs.Format.{First, max_bytes, limits_of, nodes_of, stop_number, complete, stopped, Reading, Listed, failed, begun, reading}
use Rattle.event_list.specs.declared.Stop.{Stop}
use Rattle.event_list.specs.declared.Stop.TheVariants.{WrongCount}
use Rattle.listing.specs.Decimal.{value_of}
use Rattle.listing.specs.Lines.{cabinets_line, stopped_line}
use Rattle.listing.specs.Printing.{joined}
use Rattle.short_lists_text.specs.Rows.{All}
use Rattle.short_lists_text.specs.Order.{contents}
use Rattle.short_lists_text.specs.Lists.{Legal}
use Rattle.short_lists_text.specs.Text.{list_line}
use Rattle.list_text.specs.Text.{opening_line, event_line, list_text}
use Rattle.list_text.specs.Words.{AllBytes, is_digit, value_up_to}
use Rattle.list_text.specs.Script.{list_bytes, onward, said_from, part_at, wrong_at, script, script_of, list, list_of}
use Rattle.list_text.specs.declared.Expected.{Expected}

-- ── words ──

-- l is one digit or more
pub record AllDigits (l : List ℕ) : Type 0 where
  pub some : 1 ≤ length l
  pub each : All (λ b. is_digit b ≡ true) l

-- A word is read as the number that its digits give, where it has digits alone and they give no more than most; all other words are refused.
pub record NumbersRead : Type 0 where
  pub is : (most : ℕ) (w : List ℕ) → AllDigits w → value_of w ≤ most → value_up_to most w ≡ Some (value_of w)
  pub only : (most : ℕ) (w : List ℕ) (x : ℕ) → value_up_to most w ≡ Some x → AllDigits w × (value_of w ≡ x) × (x ≤ most)

-- ── all parts of a text are read ──

pub record SaysAll : Type 0 where
  -- what is said from an offset on is what stands there and then what is said behind it: the limit on the number of parts in `said_from` is never met
  pub next : (t : List ℕ) (at room : ℕ) → said_from t at room ≡ onward at room (part_at t at) (said_from t)
  -- each event takes a byte or more
  pub further : (t : List ℕ) (at : ℕ) (e : Event) (p : ℕ) → part_at t at ≡ Ok (Some (e, p)) → (at < p) × (p ≤ length t)

-- ── from a list to its text and back ──

-- an event whose numbers "their bytes can hold"
abbrev pub FitsBytes : Event → Type 0
FitsBytes e = AllBytes (contents e)

-- the tag of a first field: the tower's or the stand's
abbrev pub IsFirstTag : ℕ → Type 0
IsFirstTag u = (u ≡ 0x01) ⊎ (u ≡ 0x02)

pub record ReadsBack : Type 0 where
  -- "what `text_of_list` prints for a good list is read back to exactly its bytes": a good list is one that reads to its end, whatever the machine says of its events
  pub good : (l : List ℕ) (n : ℕ) (lim : Limits) (r : Reading) → AllBytes l → reading l ≡ begun n lim r → r.ending ≡ complete → list_of (list_text l) ≡ list l
  -- the same of any n and events that fit into their bytes, good or not: a line for each event
  pub lines : (u n : ℕ) (es : List Event) → IsFirstTag u → n < 256 → All FitsBytes es → length (list_bytes u n es) ≤ max_bytes
      → list_of (joined (opening_line u n ∷ map event_line es)) ≡ list (list_bytes u n es)
  -- "so that a line of `short_lists` can be pasted": all events on one line, as T-01 prints it
  pub pasted : (u n : ℕ) (es : List Event) → IsFirstTag u → n < 256 → All FitsBytes es → length (list_bytes u n es) ≤ max_bytes
      → list_of (opening_line u n ++ list_line es) ≡ list (list_bytes u n es)

-- ── from a text to its list ──

-- what a list says that reads to its end, by what its first field says and its events
abbrev pub opened : First → List Event → Listed
opened (Err s) es = failed s
opened (Ok (n, lim)) es = begun n lim (record { events = es; ending = complete })

-- "every text that is accepted gives a list that reads (refusals 2 to 5 can't come up)"
pub record TextReads : Type 0 where
  -- the list is read as the text says: n of the tower or the stand, by the first word, and the events, to the list's end; only 6 can come up, by n
  pub reads : (t : List ℕ) (u n : ℕ) (es : List Event) → script_of t ≡ script u n es → reading (list_bytes u n es) ≡ opened (nodes_of (limits_of u) n) es
  pub tag : (t : List ℕ) (u n : ℕ) (es : List Event) → script_of t ≡ script u n es → IsFirstTag u
  -- it has bytes, and no more than a list may have
  pub bytes : (t l : List ℕ) → list_of t ≡ list l → AllBytes l × (length l ≤ max_bytes)
  -- so no refusal but 6 ends it
  pub only_six : (t l : List ℕ) (s : Stop) → list_of t ≡ list l → reading l ≡ failed s → s ≡ WrongCount
  pub to_end : (t l : List ℕ) (n : ℕ) (lim : Limits) (r : Reading) → list_of t ≡ list l → reading l ≡ begun n lim r → r.ending ≡ complete
  -- and where n is in its range, the text of that list gives the list again
  pub again : (t l : List ℕ) (n : ℕ) (lim : Limits) (r : Reading) → list_of t ≡ list l → reading l ≡ begun n lim r → list_of (list_text l) ≡ list l

-- ── damage ──

-- "A damaged list is shown up to the damage, with `stopped b r`."
pub record DamageShown : Type 0 where
  -- before that line stands the text of the list that ends there
  pub up_to : (l : List ℕ) (n : ℕ) (lim : Limits) (r : Reading) (b : ℕ) (s : Stop) → reading l ≡ begun n lim r → r.ending ≡ stopped b s
      → list_text l ≡ list_text (take b l) ++ stopped_line b (stop_number s)
  -- damage does not go away by being printed and read: a text of a list that is accepted gives that list
  pub stays : (l m : List ℕ) → AllBytes l → list_of (list_text l) ≡ list m → l ≡ m
  -- and the text of a list that stops is not accepted
  pub refused : (l m : List ℕ) (n : ℕ) (lim : Limits) (r : Reading) (b : ℕ) (s : Stop) → AllBytes l → reading l ≡ begun n lim r → r.ending ≡ stopped b s → list_of (list_text l) ≡ list m → ⊥

-- the place of a bad text is one in it, or its end
abbrev pub PlaceWithin : Type 0
PlaceWithin = (t : List ℕ) (p : ℕ) (x : Expected) → script_of t ≡ wrong_at p x → p ≤ length t

-- "so that a line of `short_lists` can be pasted": each list of T-01, behind its opening
abbrev pub ShortListsPasted : Type 0
ShortListsPasted = (n m : ℕ) (es : List Event) → n ≤ 3 → m ≤ 7 → Legal m (start n tower) es → list_of (cabinets_line n ++ list_line es) ≡ list (list_bytes 0x01 n es)
