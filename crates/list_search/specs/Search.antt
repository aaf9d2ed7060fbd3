-- What a search still gives, and what `begin` and `next_lines` promise.
use Rattle.std.specs.Prelude.{ℕ, zero, suc, ◌+◌, ◌-◌, ◌*◌, ◌^◌, ◌≤◌, ◌<◌, true, ◌≡◌, ◌⊎◌, Option, None, Some, IfSome, IsSome, List, [], ◌∷◌, ◌++◌, eqb, length, take, get_or}
use Rattle.std.specs.Option.{unwrap_or}
use Rattle.model.specs.Limits.{tower}
use Rattle.model.specs.Pick.{pick}
use Rattle.model.specs.State.{start, in_range}
use Rattle.model.specs.declared.Event.{Event}
use Rattle.packed.specs.Seen.{seen_waiting}
use Rattle.listing.specs.Ascii.{bytes}
use Rattle.listing.specs.declared.buffer.TextBuffer.{TextBuffer}
use Rattle.short_lists_text.specs.Text.{refusal_text, text_of}
use Rattle.list_events.specs.Events.{size_of}
use Rattle.list_search.specs.declared.Level.{Level}
use Rattle.list_search.specs.declared.Search.{Search}
use Rattle.list_search.specs.declared.Piece.{Piece}
use Rattle.list_search.specs.Stack.{Frame, frame, path, lists_left, stack_text}
use Rattle.list_search.specs.Line.{beginning}

-- ── the stack of a search ──

-- what stands where there is no level
abbrev pub no_level : Level
no_level = record { nodes = []; words = []; waiting = 0; tried = 0; line = []; end = 0 }

-- The frame of a level, in a search of n nodes in the tower. A level has no counts: its state is the one where all that was sent still waits. The lists from a state do not depend on
-- its counts as long as none comes to its end.
abbrev pub frame_of : ℕ → Level → Frame
frame_of n l = frame (seen_waiting n tower l.nodes l.words l.waiting) l.tried

-- those of the first h levels, the topmost first
unfoldable pub frames_of : ℕ → List Level → ℕ → List Frame
frames_of n ls zero = []
frames_of n ls (suc h) = frame_of n (get_or ls h no_level) ∷ frames_of n ls h

abbrev pub stack_of : Search → List Frame
stack_of s = frames_of s.n s.levels s.height

-- how many events are missing behind the topmost table
abbrev pub missing : Search → ℕ
missing s = s.length + 1 - s.height

-- the text that a search still gives; 0 nodes stand for an input that is refused
unfoldable pub text_left : Search → List ℕ
text_left s = pick (eqb s.n 0) refusal_text (stack_text s.given (missing s) (stack_of s))

-- ── what is so of every search that `begin` or `next_lines` gives ──

-- of a level that the events p led to
pub record SoundLevel (n : ℕ) (p : List Event) (l : Level) : Type 0 where
  pub nodes : length l.nodes ≡ 16
  pub words : length l.words ≡ 256
  pub range : in_range (seen_waiting n tower l.nodes l.words l.waiting) ≡ true
  pub within : l.tried ≤ size_of n
  -- the beginning of the line of every list through it; an event, with a comma and a space, has at most 18 bytes, as in `finish 255 65535, `
  pub space : length l.line ≡ 128
  pub end : l.end ≤ 18 * length p
  pub line : take l.end l.line ≡ beginning p

-- of the first h levels, above each of which another stands: at least one event was tried on it
abbrev pub SoundBelow : ℕ → List Level → ℕ → Type 0
SoundBelow n ls zero = Unit {0}
SoundBelow n ls (suc h) = SoundLevel n (path (frames_of n ls h)) (get_or ls h no_level) × (1 ≤ (get_or ls h no_level).tried) × SoundBelow n ls h

-- of a search that goes on: h levels stand below the topmost
pub record Going (s : Search) (h : ℕ) : Type 0 where
  pub some : 1 ≤ s.n
  pub few : s.n ≤ 3
  pub long : s.length ≤ 7
  pub levels : length s.levels ≡ 7
  pub height : s.height ≡ h + 1
  -- an event is missing behind the topmost table, or the empty list is asked for
  pub below : (h < s.length) ⊎ ((s.length ≡ 0) × (h ≡ 0))
  pub beneath : SoundBelow s.n s.levels h
  pub top : SoundLevel s.n (path (frames_of s.n s.levels h)) (get_or s.levels h no_level)
  -- the count of all lists is a number of 32 bits
  pub count : s.given + length (lists_left (missing s) (stack_of s)) < 2 ^ 32

-- of any: it is for an input that is refused, or it goes on
abbrev pub Sound : Search → Type 0
Sound s = (s.n ≡ 0) ⊎ Going s (s.height - 1)

-- ── the first search ──

-- the level of the starting table of n nodes in the tower, on which no event was tried
pub record Lowest (n : ℕ) (l : Level) : Type 0 where
  pub state : seen_waiting n tower l.nodes l.words l.waiting ≡ start n tower
  pub nodes : length l.nodes ≡ 16
  pub words : length l.words ≡ 256
  pub tried : l.tried ≡ 0
  pub space : length l.line ≡ 128
  pub end : l.end ≡ 0

-- the search for lists of m events among n nodes, before anything was given
pub record First (n m : ℕ) (s : Search) : Type 0 where
  pub nodes : s.n ≡ n
  pub events : s.length ≡ m
  pub given : s.given ≡ 0
  pub height : s.height ≡ 1
  pub levels : length s.levels ≡ 7
  pub lowest : Lowest n (get_or s.levels 0 no_level)

-- ── the promises ──

-- a search for the input l: all of its text is still to come
pub record Begun (l : List ℕ) (s : Search) : Type 0 where
  pub sound : Sound s
  pub text : text_left s ≡ text_of l

-- the text that comes after a piece: none after the last
abbrev pub text_from : Option Search → List ℕ
text_from None = []
text_from (Some s) = text_left s

abbrev pub text_after : Piece → List ℕ
text_after p = text_from p.next

-- the last byte of x ends a line
pub record EndsLine (x : List ℕ) : Type 0 where
  pub before : List ℕ
  pub is : x ≡ before ++ bytes "\n"

-- A piece of the text that s still gives, at the start of the buffer, which then holds o. Free are: how many lines the piece has, at least one; what the buffer holds
-- after it; and of the search beside it all but the text that it still gives and that it is sound.
pub record Gave (s : Search) (o : List ℕ) (p : Piece) : Type 0 where
  -- what was written, and then what comes after it, is the text that s still gave
  pub text : text_left s ≡ take p.written o ++ text_after p
  pub fits : p.written ≤ length o
  -- something was written, so the pieces come to an end
  pub some : 1 ≤ p.written
  -- and no line is parted: a line of the text has no 0x0A but its last byte
  pub lines : EndsLine (take p.written o)
  -- the search that it gives can be called
  pub sound : IfSome p.next Sound

-- nothing is written in the buffer, which has the room for a piece
abbrev pub Unwritten : TextBuffer → Type 0
Unwritten b = (b.end ≡ 0) × (length b.bytes.now ≡ 65536)

-- the same of what was such a buffer, b, and is o
pub record GaveInto (s : Search) (b : TextBuffer) (p : Piece) (o : TextBuffer) : Type 0 where
  -- the same lent bytes
  pub same : o.bytes.ghost_name ≡ b.bytes.ghost_name
  pub gave : Gave s o.bytes.now p

-- ── calls one after another ──

-- what a call of `next_lines` leaves: the buffer, and its answer
pub record Call : Type 0 where
  pub buffer : List ℕ
  pub piece : Piece

-- what calls wrote, one behind the other
abbrev pub written_by : List Call → List ℕ
written_by [] = []
written_by (c ∷ cs) = take c.piece.written c.buffer ++ written_by cs

-- calls from the search s on, each with the search that the one before gave, the last of which gave one too
abbrev pub Calls : Search → List Call → Type 0
Calls s [] = Unit {0}
Calls s (c ∷ cs) = Gave s c.buffer c.piece × IsSome c.piece.next × Calls (unwrap_or c.piece.next s) cs

-- the search after them
abbrev pub search_after : Search → List Call → Search
search_after s [] = s
search_after s (c ∷ cs) = search_after (unwrap_or c.piece.next s) cs

-- The pieces of the text of the input l, from the search s on. Each call comes back: only functions that end are accepted by the check.
pub record PiecesMakeText (l : List ℕ) (s : Search) : Type 0 where
  -- the calls up to the one that gives no search have written the text, whole
  pub whole : (cs : List Call) (c : Call) → Calls s cs → Gave (search_after s cs) c.buffer c.piece → c.piece.next ≡ None → written_by (cs ++ (c ∷ [])) ≡ text_of l
  -- up to any other they have written a part of it, and what is left is what the search still gives
  pub part : (cs : List Call) → Calls s cs → text_of l ≡ written_by cs ++ text_left (search_after s cs)
  -- and the search can be called again
  pub again : (cs : List Call) → Calls s cs → Sound (search_after s cs)
  -- they come to an end: there are no more of them than the text has bytes
  pub ends : (cs : List Call) → Calls s cs → length cs ≤ length (text_of l)

-- for any input, and the search that `begin` gives for it
abbrev pub AllPieces : Type 0
AllPieces = (l : List ℕ) (s : Search) → Begun l s → PiecesMakeText l s
