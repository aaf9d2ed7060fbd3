-- What the parser promises: for any text what is answered, and what the lent buffer then holds.
use Rattle.std.specs.Prelude.{ℕ, ◌≤◌, ◌≡◌, List, ◌++◌, length, take, drop, Result, Ok, Err}
use Rattle.short_lists_text.specs.Rows.{concat_map}
use Rattle.list_text.specs.Script.{event_field, list_bytes, due, Said, wrong, said, Script, wrong_at, script, Outcome, bad, list, list_of}
use Rattle.list_text.specs.declared.Wrong.{Wrong}
use Rattle.listing.specs.declared.buffer.TextBuffer.{TextBuffer}
use Rattle.list_parser.specs.declared.Bad.{Bad}

-- ── the text as a whole ──

-- what is answered for what a text comes to: the place and what was expected there, or how many bytes the list has
abbrev pub parsed_of : Outcome → Result ℕ Bad
parsed_of (bad p x) = Err (record { place = p; expected = x })
parsed_of (list l) = Ok (length l)

-- what a buffer that held b then holds: the list, and behind it what was there; of a bad text what was there
abbrev pub held_by : Outcome → List ℕ → List ℕ
held_by (bad p x) b = b
held_by (list l) b = l ++ drop (length l) b

-- Of a text t, with a lent buffer of 65,536 bytes that held b: what is answered, r, and what the buffer then holds, o.
pub record Made (t b o : List ℕ) (r : Result ℕ Bad) : Type 0 where
  pub answer : r ≡ parsed_of (list_of t)
  pub bytes : o ≡ held_by (list_of t) b
  -- so the answer counts bytes of the buffer, as writing them out asks
  pub within : (k : ℕ) → r ≡ Ok k → k ≤ length o

-- ── while it is read ──

-- what bytes come to with what is said behind them: the fields of the events follow
abbrev pub Filled : Type 0
Filled = Result (List ℕ) Wrong

abbrev pub filled_by : List ℕ → Said → Filled
filled_by l (wrong p x) = Err (due p x)
filled_by l (said es) = Ok (l ++ concat_map event_field es)

-- what a whole text comes to
abbrev pub filled_from : Script → Filled
filled_from (wrong_at p x) = Err (due p x)
filled_from (script u n es) = Ok (list_bytes u n es)

-- what the answer r says, with a buffer that is then o
abbrev pub filling_in : TextBuffer → Result (Unit {0}) Wrong → Filled
filling_in o (Err w) = Err w
filling_in o (Ok u) = Ok (take o.end o.bytes.now)

-- the offset is one in the text or its end, and the buffer has the bytes that are written
abbrev pub FillingWithin : List ℕ → TextBuffer → Result (Unit {0}) Wrong → Type 0
FillingWithin t o (Err w) = w.at ≤ length t
FillingWithin t o (Ok u) = o.end ≤ length o.bytes.now

-- With the text t and a buffer that is then o, the answer r says what f is.
pub record Fills (f : Filled) (t : List ℕ) (o : TextBuffer) (r : Result (Unit {0}) Wrong) : Type 0 where
  pub is : filling_in o r ≡ f
  pub long : length o.bytes.now ≡ 65536
  pub within : FillingWithin t o r
