-- What the exported functions promise: for any bytes at all, and any offset, the number that is answered and what the lent buffer then holds.
use Rattle.std.specs.Prelude.{◌≡◌, ◌⊎◌, List, [], ◌∷◌, ◌++◌, ℕ, ◌+◌, ◌^◌, ◌≤◌, ◌<◌, leb, length, take, drop}
use Rattle.model.specs.Pick.{pick}
use Rattle.event_list.specs.Format.{max_bytes}
use Rattle.listing.specs.Ascii.{bytes}
use Rattle.listing.specs.Printing.{no_room, LinesExported}
use Rattle.list_text.specs.Text.{list_lines}
use Rattle.list_text.specs.Words.{AllBytes}
use Rattle.list_text.specs.Script.{Outcome, bad, list, list_of}
use Rattle.list_text.specs.Message.{message_text}
use Rattle.list_text.specs.declared.Expected.{Expected}
use Rattle.list_text.specs.declared.Place.{Place}
use Rattle.trace_text.specs.Trace.{trace_pieces, trace_text}
use Rattle.rest_list.specs.Text.{rest_lines_of, rest_text_of}
use Rattle.short_lists_text.specs.Text.{text_of as short_lists_text}
use Rattle.aldebaran_text.specs.Text.{text_of as system_text}
use Rattle.exports_text.specs.Window.{window, sum}

-- `nevraspu_text_of_list`, for the list l with a lent buffer that holds b; r: what is answered, o: what the buffer then holds
abbrev pub TextExported : List ℕ → List ℕ → List ℕ → ℕ → Type 0
TextExported l b o r = LinesExported (list_lines l) b o r

-- `nevraspu_trace`, for the list l with a lent buffer that holds b; r: what is answered, o: what the buffer then holds. The pieces of the trace are in place of lines.
abbrev pub TraceExported : List ℕ → List ℕ → List ℕ → ℕ → Type 0
TraceExported l b o r = LinesExported (trace_pieces l) b o r

-- `nevraspu_rest`, for the list l with a lent buffer that holds b; r: what is answered, o: what the buffer then holds
pub record RestExported (l b o : List ℕ) (r : ℕ) : Type 0 where
  -- the lines of the program `rest`
  pub lines : LinesExported (rest_lines_of l) b o r
  -- no text has more than 279,163 bytes: a buffer of that size always has the room
  pub short : length (rest_text_of l) ≤ 279163

-- the bytes w at the start of a buffer that held b, where they have room, and behind them what was there; the answer r is base and how many they are. Where they have none `no_room` is answered and the buffer
-- stays as it was. o: what the buffer then holds
pub record WrittenOut (w : List ℕ) (base : ℕ) (b o : List ℕ) (r : ℕ) : Type 0 where
  pub number : r ≡ pick (leb (length w) (length b)) (base + length w) no_room
  pub buffer : o ≡ pick (leb (length w) (length b)) (w ++ drop (length w) b) b

-- what is written for what a text comes to: the list, or what is told of a bad text
abbrev pub out_bytes : Outcome → List ℕ
out_bytes (bad p x) = message_text p x
out_bytes (list l) = l

-- a list is answered by its length, which is at most 65,536, and a bad text by 2^32 and the length of its message
abbrev pub out_base : Outcome → ℕ
out_base (bad p x) = 4294967296
out_base (list l) = 0

-- `nevraspu_list_of_text`, for the text t with a lent buffer that holds b; r: what is answered, o: what the buffer then holds
pub record ListExported (t b o : List ℕ) (r : ℕ) : Type 0 where
  pub out : WrittenOut (out_bytes (list_of t)) (out_base (list_of t)) b o r
  -- a list and a message have at most 65,536 bytes: a buffer of that size always has the room, and the numbers tell a list, a bad text and `no_room` apart
  pub short : length (out_bytes (list_of t)) ≤ max_bytes
  -- and a message has at most 128
  pub message : (p : Place) (x : Expected) → list_of t ≡ bad p x → length (message_text p x) ≤ 128

-- `nevraspu_aldebaran`, for the input l with a lent buffer that holds b; r: what is answered, o: what the buffer then holds. It is T-12's text, whole, or nothing of it.
pub record AldebaranExported (l b o : List ℕ) (r : ℕ) : Type 0 where
  pub out : WrittenOut (system_text l) 0 b o r
  -- no text has more than 32,768 bytes: a buffer of that size always has the room, and no length is `no_room`
  pub short : length (system_text l) ≤ 32768

-- `nevraspu_short_lists`, for the input l and the offset `from` with a lent buffer that holds b; r: what is answered, o: what the buffer then holds. Of T-01's text the bytes from `from` on stand at its
-- start, as many as there are and as have room, and behind them what was there.
pub record ShortListsExported (l : List ℕ) (from : ℕ) (b o : List ℕ) (r : ℕ) : Type 0 where
  pub number : r ≡ length (window (short_lists_text l) from (length b))
  pub buffer : o ≡ window (short_lists_text l) from (length b) ++ drop r b
  -- the text is far shorter than 2^64 bytes: an offset and what is answered to it never wrap together, and the largest offset is past the end
  pub short : length (short_lists_text l) < 2 ^ 40

-- ── calls of `nevraspu_short_lists` one after another ──

-- a call: what the lent buffer held, what it then holds, and what is answered
pub record ShortListsCall : Type 0 where
  pub before : List ℕ
  pub buffer : List ℕ
  pub answer : ℕ

-- calls for the input l, the first from the byte `from` on, each other from where the one before it ended
abbrev pub ShortListsCalls : List ℕ → ℕ → List ShortListsCall → Type 0
ShortListsCalls l from [] = Unit {0}
ShortListsCalls l from (c ∷ cs) = ShortListsExported l from c.before c.buffer c.answer × ShortListsCalls l (from + c.answer) cs

-- what they gave, one behind the other
abbrev pub got_by : List ShortListsCall → List ℕ
got_by [] = []
got_by (c ∷ cs) = take c.answer c.buffer ++ got_by cs

-- how many bytes each of the lent buffers has
abbrev pub sizes : List ShortListsCall → List ℕ
sizes [] = []
sizes (c ∷ cs) = length c.before ∷ sizes cs

-- one of them answers less than its buffer has
abbrev pub OneEnds : List ShortListsCall → Type 0
OneEnds [] = ⊥
OneEnds (c ∷ cs) = (c.answer < length c.before) ⊎ OneEnds cs

-- What such calls give together.
pub record CallsMakeText : Type 0 where
  -- calls from the first byte on give the text's beginning, as much as has room in all their buffers together
  pub parts : (l : List ℕ) (cs : List ShortListsCall) → ShortListsCalls l 0 cs → got_by cs ≡ take (sum (sizes cs)) (short_lists_text l)
  -- up to one that answers less than its buffer has, they give the text, whole; and calls behind that one change nothing
  pub whole : (l : List ℕ) (cs : List ShortListsCall) → ShortListsCalls l 0 cs → OneEnds cs → got_by cs ≡ short_lists_text l
  -- and so they do where their buffers together have at least as many bytes as the text
  pub enough : (l : List ℕ) (cs : List ShortListsCall) → ShortListsCalls l 0 cs → length (short_lists_text l) ≤ sum (sizes cs) → got_by cs ≡ short_lists_text l
  -- where a call from an offset of 64 bits ended is such an offset again
  pub next : (l : List ℕ) (from : ℕ) (b o : List ℕ) (r : ℕ) → ShortListsExported l from b o r → from < 2 ^ 64 → from + r < 2 ^ 64

-- What no function does that meets `ShortListsExported`.
pub record NoOtherShortLists : Type 0 where
  -- answer the same call in two ways: the numbers are the same, and so is what the buffers then hold
  pub only : (l : List ℕ) (from : ℕ) (b o p : List ℕ) (r q : ℕ) → ShortListsExported l from b o r → ShortListsExported l from b p q → (o ≡ p) × (r ≡ q)
  -- answer less than the buffer has, by which a caller takes the text for ended, where there is more of it
  pub ends_early : (l : List ℕ) (from : ℕ) (b o : List ℕ) (r : ℕ) → ShortListsExported l from b o r → r < length b → from + r < length (short_lists_text l) → ⊥
  -- change what is behind the bytes written
  pub behind : (l : List ℕ) (from : ℕ) (b o : List ℕ) (r : ℕ) → ShortListsExported l from b o r → (drop r o ≡ drop r b → ⊥) → ⊥
  -- give the text's beginning whatever `from` is: the lists of one event among three nodes, of which the second line begins at 10
  pub begins_again : (b o : List ℕ) (r : ℕ) → ShortListsExported (3 ∷ 1 ∷ []) 10 b o r → length b ≡ 10 → o ≡ bytes "recover 1\n" → ⊥
  -- write where the text has ended, or answer that something was written
  pub past_end : (l : List ℕ) (from : ℕ) (b o : List ℕ) (r : ℕ) → ShortListsExported l from b o r → length (short_lists_text l) ≤ from → ((o ≡ b) × (r ≡ 0) → ⊥) → ⊥
  -- give anything else than the refusal's line for an input of no bytes
  pub refused : (b o : List ℕ) (r : ℕ) → ShortListsExported [] 0 b o r → 13 ≤ length b → (take r o ≡ bytes "stopped 0 16\n" → ⊥) → ⊥
  -- give the same for other inputs: for the lists of one event among three nodes and those of none not even the first byte is the same
  pub ignores_input : (b o : List ℕ) (r : ℕ) → 1 ≤ length b → ShortListsExported (3 ∷ 1 ∷ []) 0 b o r → ShortListsExported (3 ∷ 0 ∷ []) 0 b o r → ⊥

-- ── room ──

-- No trace is longer: it has at most 16,385 pieces, of at most 1,024 bytes each.
abbrev pub TraceFits : Type 0
TraceFits = (l : List ℕ) → length (trace_text l) ≤ 16778240

-- With a buffer of so many bytes `no_room` is never answered.
pub record RoomAlways : Type 0 where
  pub text_of_list : (l b o : List ℕ) (r : ℕ) → AllBytes l → TextExported l b o r → 278540 ≤ length b → r ≡ no_room → ⊥
  pub trace : (l b o : List ℕ) (r : ℕ) → TraceExported l b o r → 16778240 ≤ length b → r ≡ no_room → ⊥
  pub list_of_text_lem : (t b o : List ℕ) (r : ℕ) → ListExported t b o r → 65536 ≤ length b → r ≡ no_room → ⊥
  pub rest : (l b o : List ℕ) (r : ℕ) → RestExported l b o r → 279163 ≤ length b → r ≡ no_room → ⊥
  pub aldebaran : (l b o : List ℕ) (r : ℕ) → AldebaranExported l b o r → 32768 ≤ length b → r ≡ no_room → ⊥
