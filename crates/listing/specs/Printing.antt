-- Lines written one after the other into the free end of a lent buffer: what is answered, and what the buffer then holds.
use Rattle.std.specs.Prelude.{Bool, Result, Ok, Err, ◌&&◌, ◌≡◌, List, [], ◌∷◌, ◌++◌, ℕ, ◌+◌, ◌-◌, ◌≤◌, ◌<◌, length, take, drop, leb}
use Rattle.model.specs.Pick.{pick}
use Rattle.listing.specs.declared.NoRoom.{NoRoom}
use Rattle.listing.specs.declared.buffer.TextBuffer.{TextBuffer}

-- what writing answers: the offset after what was written, or refusal 15
abbrev pub Put : Type 0
Put = Result ℕ NoRoom

-- that refusal
abbrev pub refused : Put
refused = Err (record {})

-- the same of what is written into a buffer, whose end is then at p
abbrev pub answer_at : Result (Unit {0}) NoRoom → ℕ → Put
answer_at (Ok u) p = Ok p
answer_at (Err e) p = refused

-- 01's number for each answer: 0 where nothing is refused
abbrev pub put_number : Put → ℕ
put_number (Ok p) = 0
put_number (Err e) = 15

-- the offset after what was written, for the next line; 0 where it was refused
abbrev pub put_next : Put → ℕ
put_next (Ok p) = p
put_next (Err e) = 0

-- what printing answers, in 01's numbers, and what the buffer then holds
pub record Print : Type 0 where
  pub refusal : ℕ
  pub next : ℕ
  pub bytes : List ℕ

abbrev pub shown : Put → List ℕ → Print
shown a b = record { refusal = put_number a; next = put_next a; bytes = b }

-- 15, "fewer bytes free than the line has, or offset past the end", is not met: s has room in b from p on
abbrev pub room : List ℕ → ℕ → List ℕ → Bool
room b p s = leb p (length b) && leb (length s) (length b - p)

-- "written into the free end of a lent buffer, from an offset": b with s from p on, and all else as it was
abbrev pub written : List ℕ → ℕ → List ℕ → List ℕ
written b p s = take p b ++ (s ++ drop (p + length s) b)

-- lines written one after the other into b from p on, up to the first that has no room
unfoldable pub printed : List ℕ → ℕ → List (List ℕ) → Print
printed b p [] = record { refusal = 0; next = p; bytes = b }
printed b p (x ∷ xs) = pick (room b p x) (printed (written b p x) (p + length x) xs) (record { refusal = 15; next = 0; bytes = b })

-- where writing them ends: behind the last of them, or behind those in front of the first that has no room
unfoldable pub end_of : List ℕ → ℕ → List (List ℕ) → ℕ
end_of b p [] = p
end_of b p (x ∷ xs) = pick (room b p x) (end_of (written b p x) (p + length x) xs) p

-- the bytes of lines after one another
unfoldable pub joined : List (List ℕ) → List ℕ
joined [] = []
joined (x ∷ xs) = x ++ joined xs

-- What printing the lines xs from the start of a buffer that held b answers, a, and leaves there, o.
pub record Printed (xs : List (List ℕ)) (b o : List ℕ) (a : Put) : Type 0 where
  -- the length of their bytes, or 15 where they do not fit
  pub answer : a ≡ pick (leb (length (joined xs)) (length b)) (Ok (length (joined xs))) refused
  -- where they fit they stand there whole, and behind them what was there
  pub whole : length (joined xs) ≤ length b → o ≡ joined xs ++ drop (length (joined xs)) b
  -- in any case the lines are written one after the other, up to the first that does not fit
  pub lines : shown a o ≡ printed b 0 xs

-- What printing them answers, r, and leaves there, o, where there is always room: their bytes, and behind them what was there, b.
pub record Whole (xs : List (List ℕ)) (b o : List ℕ) (r : ℕ) : Type 0 where
  pub size : r ≡ length (joined xs)
  pub bytes : o ≡ joined xs ++ drop r b
  -- so r counts bytes of the buffer, as writing them out asks
  pub within : r ≤ length o
  pub counted : r ≡ length (take r o)

-- s behind the first p bytes of b: o has both before r, is as long as b, and has what b has from r on
pub record Appended (b : List ℕ) (p : ℕ) (s : List ℕ) (o : List ℕ) (r : ℕ) : Type 0 where
  pub long : length o ≡ length b
  pub next : r ≡ p + length s
  pub fits : r ≤ length o
  pub text : take r o ≡ take p b ++ s
  -- what stands behind is as it was
  pub behind : drop r o ≡ drop r b

-- ── the same of a lent buffer with the number of its bytes that are written ──

-- there is room for k bytes
abbrev pub HasRoom : TextBuffer → ℕ → Type 0
HasRoom b k = b.end + k ≤ length b.bytes.now

-- What was the buffer b is o, with s behind what was written.
pub record Wrote (b : TextBuffer) (s : List ℕ) (o : TextBuffer) : Type 0 where
  -- the same lent bytes
  pub same : o.bytes.ghost_name ≡ b.bytes.ghost_name
  pub appended : Appended b.bytes.now b.end s o.bytes.now o.end

-- The lines xs are written one after the other behind what was written in the buffer b: what is answered, a, and what the lent bytes then hold; o is what the buffer then is.
pub record LinesIn (b : TextBuffer) (xs : List (List ℕ)) (a : Result (Unit {0}) NoRoom) (o : TextBuffer) : Type 0 where
  -- the same lent bytes
  pub same : o.bytes.ghost_name ≡ b.bytes.ghost_name
  pub lines : shown (answer_at a o.end) o.bytes.now ≡ printed b.bytes.now b.end xs

-- What writing the lines xs into the buffer b answers, a, and leaves, o: the same, and where its end then is.
pub record WroteLines (b : TextBuffer) (xs : List (List ℕ)) (a : Result (Unit {0}) NoRoom) (o : TextBuffer) : Type 0 where
  -- the same lent bytes
  pub same : o.bytes.ghost_name ≡ b.bytes.ghost_name
  pub lines : shown (answer_at a o.end) o.bytes.now ≡ printed b.bytes.now b.end xs
  -- the buffer's end is behind those that are written: where the first of them has no room, it is as it was
  pub ends : o.end ≡ end_of b.bytes.now b.end xs

-- ── printing as a function that Rust or C calls ──

-- refusal 15 as a number that is no text's length: the largest of 64 bits
abbrev pub no_room : ℕ
no_room = 18446744073709551615

-- the answer of printing as one number
abbrev pub put_length : Put → ℕ
put_length (Ok n) = n
put_length (Err e) = no_room

-- what is answered for the lines xs with a lent buffer that holds b: the length of their bytes, or that they do not fit
unfoldable pub lines_number : List (List ℕ) → List ℕ → ℕ
lines_number xs b = pick (leb (length (joined xs)) (length b)) (length (joined xs)) no_room

-- r: what is answered, o: what the buffer then holds
pub record LinesExported (xs : List (List ℕ)) (b o : List ℕ) (r : ℕ) : Type 0 where
  pub number : r ≡ lines_number xs b
  -- the lines one after the other from its start, up to the first that has no room; behind them what was there
  pub buffer : o ≡ (printed b 0 xs).bytes
  -- where they fit, that is all of them
  pub whole : length (joined xs) ≤ length b → o ≡ joined xs ++ drop (length (joined xs)) b
  -- and only where they do not is `no_room` answered
  pub only : r ≡ no_room → length b < length (joined xs)
