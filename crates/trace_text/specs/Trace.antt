-- What `trace` prints: one definition from list bytes to printed bytes.
use Rattle.std.specs.Prelude.{ℕ, ◌+◌, List, [], ◌∷◌, ◌++◌, Option, None, Some}
use Rattle.model.specs.Pick.{pick}
use Rattle.model.specs.State.{State, start, oldest}
use Rattle.model.specs.Step.{reaction_to, Result, refused, accepted, step, after, run_from}
use Rattle.model.specs.declared.Node.{Node}
use Rattle.model.specs.declared.Message.{Message}
use Rattle.model.specs.declared.Event.{Event}
use Rattle.model.specs.declared.Event.TheVariants.{Crash, Recover, Check, Timeout, Tick, Expire, Finish, Deliver, Lose}
use Rattle.event_list.specs.Format.{stop_number, Reading, Listed, failed, begun, reading}
use Rattle.listing.specs.Ascii.{bytes}
use Rattle.listing.specs.Decimal.{decimal}
use Rattle.listing.specs.Lines.{row, cabinets_line, stopped_line, table_lines}
use Rattle.listing.specs.Printing.{joined}
use Rattle.short_lists_text.specs.Text.{event_text}
use Rattle.run_list.specs.Text.{ending_lines}
use Rattle.trace_text.specs.Words.{record_line, same_node, taken_line, sent_line}

-- ── the lines of a step ──

-- "for each event a line with its number, the event as text, and `accepted` ..": event e is v
unfoldable pub accepted_line : ℕ → Event → List ℕ
accepted_line e v = decimal e ++ (bytes " " ++ (event_text v ++ bytes " accepted\n"))

-- ".. or `refused R`"
unfoldable pub refused_step_line : ℕ → Event → ℕ → List ℕ
refused_step_line e v r = decimal e ++ (bytes " " ++ (event_text v ++ (bytes " refused" ++ row (r ∷ []))))

-- "the line of each record that changed": those of cs, the first of which is node i, are now those of ds, which are as many
unfoldable pub changed_lines : ℕ → List Node → List Node → List (List ℕ)
changed_lines i [] ds = []
changed_lines i (c ∷ cs) [] = []
changed_lines i (c ∷ cs) (d ∷ ds) = pick (same_node c d) [] (record_line i d ∷ []) ++ changed_lines (i + 1) cs ds

-- "the message taken out", of the waiting messages q
abbrev pub taken_lines : List Message → Event → List (List ℕ)
taken_lines q (Crash i) = []
taken_lines q (Recover i) = []
taken_lines q (Check i) = []
taken_lines q (Timeout i) = []
taken_lines q (Tick i) = []
taken_lines q (Expire i) = []
taken_lines q (Finish i t) = []
taken_lines q (Deliver a b) = taken_line (oldest a b q) ∷ []
taken_lines q (Lose a b) = taken_line (oldest a b q) ∷ []

-- the message "put in"
abbrev pub sent_lines : Option Message → List (List ℕ)
sent_lines None = []
sent_lines (Some m) = sent_line m ∷ []

-- "after an accepted one": event v on the state s, which is then u
abbrev pub detail_lines : State → Event → State → List (List ℕ)
detail_lines s v u = changed_lines 1 s.nodes u.nodes ++ (taken_lines s.queue v ++ sent_lines (reaction_to s v).outgoing)

-- by what the machine answers
abbrev pub answered_lines : State → ℕ → Event → Result → List (List ℕ)
answered_lines s e v (refused r) = refused_step_line e v r ∷ []
answered_lines s e v (accepted u k) = accepted_line e v ∷ detail_lines s v u

-- of event e, which is v, on the state s
unfoldable pub step_lines : State → ℕ → Event → List (List ℕ)
step_lines s e v = answered_lines s e v (step s v)

-- ── the text ──

-- the steps of a run from s, the first event of which is event e: the lines of each step as one piece of text
unfoldable pub step_pieces : State → ℕ → List Event → List (List ℕ)
step_pieces s e [] = []
step_pieces s e (v ∷ vs) = joined (step_lines s e v) ∷ step_pieces (after s v) (e + 1) vs

-- "at the end the bench's table", with `stopped b r` before it where the list stopped, as the bench has it; it is one piece
abbrev pub last_piece : State → Reading → List ℕ
last_piece s r = joined (ending_lines r.ending ++ table_lines (run_from s r.events))

-- what is printed of a run from s, the first event of which is event e
unfoldable pub pieces_from : State → ℕ → Reading → List (List ℕ)
pieces_from s e r = step_pieces s e r.events ++ (last_piece s r ∷ [])

-- by what the list says: the bench's first line, which is `cabinets n` of the stand as well, and the run
abbrev pub listed_pieces : Listed → List (List ℕ)
listed_pieces (failed s) = stopped_line 0 (stop_number s) ∷ []
listed_pieces (begun n lim r) = cabinets_line n ∷ pieces_from (start n lim) 1 r

unfoldable pub trace_pieces : List ℕ → List (List ℕ)
trace_pieces l = listed_pieces (reading l)

-- all that is printed for a list
abbrev pub trace_text : List ℕ → List ℕ
trace_text l = joined (trace_pieces l)
