-- What a trace still gives, and what `begin` and `next_piece` promise.
use Rattle.std.specs.Prelude.{ℕ, ◌+◌, ◌*◌, ◌≤◌, true, ◌≡◌, Option, None, Some, IfSome, IsSome, List, [], ◌∷◌, ◌++◌, length, take}
use Rattle.std.specs.Option.{unwrap_or}
use Rattle.model.specs.State.{State, in_range, view}
use Rattle.event_list.specs.Format.{max_bytes, rest}
use Rattle.trace_text.specs.Trace.{pieces_from, trace_pieces, trace_text}
use Rattle.trace_list.specs.declared.Trace.{Trace}
use Rattle.trace_list.specs.declared.TracePiece.{TracePiece}

-- the pieces that the list l still gives from the trace t on
unfoldable pub pieces_left : List ℕ → Trace → List (List ℕ)
pieces_left l t = pieces_from (view t.table) t.event (rest l t.at)

-- What is so of every trace that goes on in the list l.
pub record SoundTrace (l : List ℕ) (t : Trace) : Type 0 where
  pub short : length l ≤ max_bytes
  pub within : t.at ≤ length l
  -- the first field takes four bytes, and so does each event or more
  pub some : 1 ≤ t.event
  pub few : 4 * t.event ≤ t.at
  pub range : in_range (view t.table) ≡ true

-- the pieces that come after one: none after the last
abbrev pub pieces_next : List ℕ → Option Trace → List (List ℕ)
pieces_next l None = []
pieces_next l (Some t) = pieces_left l t

abbrev pub pieces_after : List ℕ → TracePiece → List (List ℕ)
pieces_after l p = pieces_next l p.next

-- ── the promises ──

-- The first piece of the list l, at the start of a buffer, which then holds o. Free is what the buffer holds after it.
pub record BegunTrace (l o : List ℕ) (p : TracePiece) : Type 0 where
  -- what was written is the first piece, and then come the others
  pub pieces : trace_pieces l ≡ take p.written o ∷ pieces_after l p
  pub fits : p.written ≤ 1024
  -- where it is not the last, the trace goes on
  pub sound : IfSome p.next (SoundTrace l)

-- The next piece of the list l from the trace t on: that of an event, or the last.
pub record GavePiece (l : List ℕ) (t : Trace) (o : List ℕ) (p : TracePiece) : Type 0 where
  pub pieces : pieces_left l t ≡ take p.written o ∷ pieces_after l p
  pub fits : p.written ≤ 1024
  pub sound : IfSome p.next (SoundTrace l)
  -- where it is not the last, it was that of an event, which takes four bytes or more: so they come to an end
  pub further : IfSome p.next (λ u. t.at + 4 ≤ u.at)

-- ── what the inner functions promise ──

-- the piece x, which is the last
pub record EndPiece (x o : List ℕ) (p : TracePiece) : Type 0 where
  pub text : take p.written o ≡ x
  pub fits : p.written ≤ 1024
  pub ends : p.next ≡ None

-- the piece x, behind which the trace goes on at the offset b with event e and the state s
pub record MidPiece (b e : ℕ) (s : State) (x o : List ℕ) (p : TracePiece) : Type 0 where
  pub text : take p.written o ≡ x
  pub fits : p.written ≤ 1024
  pub trace : Trace
  pub going : p.next ≡ Some trace
  pub at : trace.at ≡ b
  pub event : trace.event ≡ e
  pub state : view trace.table ≡ s

-- ── calls one after another ──

-- what a call of `next_piece` leaves: the buffer, and its answer
pub record TraceCall : Type 0 where
  pub buffer : List ℕ
  pub piece : TracePiece

-- what calls wrote, one behind the other
abbrev pub wrote_all : List TraceCall → List ℕ
wrote_all [] = []
wrote_all (c ∷ cs) = take c.piece.written c.buffer ++ wrote_all cs

-- calls from the trace t on, each with the trace that the one before gave, none of which was the last
abbrev pub TraceCalls : List ℕ → Trace → List TraceCall → Type 0
TraceCalls l t [] = Unit {0}
TraceCalls l t (c ∷ cs) = GavePiece l t c.buffer c.piece × IsSome c.piece.next × TraceCalls l (unwrap_or c.piece.next t) cs

-- the trace after them
abbrev pub trace_after : Trace → List TraceCall → Trace
trace_after t [] = t
trace_after t (c ∷ cs) = trace_after (unwrap_or c.piece.next t) cs

-- The pieces of the list l, where `begin` left o and answered p. Each call comes back: only functions that end are accepted by the check.
pub record PiecesMakeTrace (l o : List ℕ) (p : TracePiece) : Type 0 where
  -- a first piece that is the last is the whole text
  pub alone : p.next ≡ None → take p.written o ≡ trace_text l
  -- else the calls up to the one that gives no trace have written the rest of it
  pub whole : (t : Trace) → p.next ≡ Some t → (cs : List TraceCall) (c : TraceCall) → TraceCalls l t cs → GavePiece l (trace_after t cs) c.buffer c.piece → c.piece.next ≡ None
      → take p.written o ++ wrote_all (cs ++ (c ∷ [])) ≡ trace_text l
  -- after any others the trace can be called again
  pub again : (t : Trace) → p.next ≡ Some t → (cs : List TraceCall) → TraceCalls l t cs → SoundTrace l (trace_after t cs)
  -- and there are few: with `begin` and the last, at most 16,385 calls
  pub few : (t : Trace) → p.next ≡ Some t → (cs : List TraceCall) → TraceCalls l t cs → length cs ≤ 16383

-- for any list, and what `begin` gives for it
abbrev pub AllTraces : Type 0
AllTraces = (l o : List ℕ) (p : TracePiece) → BegunTrace l o p → PiecesMakeTrace l o p
