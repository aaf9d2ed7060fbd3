-- What running a list promises: all its lines but those of its last table, and that table, of which the caller may print what it likes.
use Rattle.std.specs.Prelude.{◌≡◌, List, ℕ, Option, Some, None, Result, Ok, Err, IfOk, IfSome}
use Rattle.model.specs.Range.{TwoPairs}
use Rattle.model.specs.State.{State, view}
use Rattle.model.specs.Step.{run_from, run}
use Rattle.model.specs.Claims.{MayStart}
use Rattle.model.specs.declared.Limits.{Limits}
use Rattle.model.specs.declared.Table.{Table}
use Rattle.event_list.specs.Format.{Reading, begun, reading}
use Rattle.listing.specs.declared.NoRoom.{NoRoom}
use Rattle.listing.specs.declared.buffer.TextBuffer.{TextBuffer}
use Rattle.listing.specs.Printing.{Print, shown, printed, end_of}
use Rattle.run_list.specs.Text.{run_lines_with, lines_with}

-- what printing the last table, if there is one, answers, behind what is written in the buffer o, where f says what is printed of a table
abbrev pub table_behind : (State → List (List ℕ)) → TextBuffer → Option Table → Print
table_behind f o None = shown (Ok o.end) o.bytes.now
table_behind f o (Some t) = printed o.bytes.now o.end (f (view t))

-- what printing answers in all, and what the buffer then holds, where running a list gave x, the last table, and left o
abbrev pub printed_behind : (State → List (List ℕ)) → TextBuffer → Result (Option Table) NoRoom → Print
printed_behind f o (Ok x) = table_behind f o x
printed_behind f o (Err e) = shown (Err e) o.bytes.now

-- where the buffer's end is then
abbrev pub end_behind : (State → List (List ℕ)) → TextBuffer → Result (Option Table) NoRoom → ℕ
end_behind f o (Ok (Some t)) = end_of o.bytes.now o.end (f (view t))
end_behind f o (Ok None) = o.end
end_behind f o (Err e) = o.end

-- P, of the last table, where one is left to print
abbrev pub LastTable : (State → Type 0) → Result (Option Table) NoRoom → Type 0
LastTable P x = IfOk x (λ r. IfSome r (λ t. P (view t)))

-- What running r's events from the table s gives, x, where their lines are printed into the buffer b, behind what was written there, and that is then o.
pub record RanFrom (s : State) (r : Reading) (b o : TextBuffer) (x : Result (Option Table) NoRoom) : Type 0 where
  -- the same lent bytes
  pub same : o.bytes.ghost_name ≡ b.bytes.ghost_name
  -- with whatever is printed of the last table behind it, these are the lines of the run
  pub lines : (f : State → List (List ℕ)) → printed_behind f o x ≡ printed b.bytes.now b.end (run_lines_with f s 1 r)
  pub ends : (f : State → List (List ℕ)) → end_behind f o x ≡ end_of b.bytes.now b.end (run_lines_with f s 1 r)
  -- that table is the one after r's events: where a list stops, "the events accepted before it keep their effect"
  pub table : LastTable (λ u. u ≡ run_from s r.events) x

-- the table of the run of the list l, which is the tower's or the stand's
pub record RunTable (l : List ℕ) (u : State) : Type 0 where
  pub n : ℕ
  pub limits : Limits
  pub reads : Reading
  pub says : reading l ≡ begun n limits reads
  pub starts : MayStart TwoPairs n limits
  pub is : u ≡ run n limits reads.events

-- What running all of the list l gives, x, where the buffer was b and is then o.
pub record RanAll (l : List ℕ) (b o : TextBuffer) (x : Result (Option Table) NoRoom) : Type 0 where
  -- the same lent bytes
  pub same : o.bytes.ghost_name ≡ b.bytes.ghost_name
  pub lines : (f : State → List (List ℕ)) → printed_behind f o x ≡ printed b.bytes.now b.end (lines_with f l)
  pub ends : (f : State → List (List ℕ)) → end_behind f o x ≡ end_of b.bytes.now b.end (lines_with f l)
  pub table : LastTable (RunTable l) x
