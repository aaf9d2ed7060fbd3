-- A text read part by part, as pread(2) reads a file: each call says from which byte on, and lends a buffer.
use Rattle.std.specs.Prelude.{◌≡◌, List, [], ◌∷◌, ◌++◌, ℕ, ◌+◌, ◌≤◌, ◌<◌, length, take, drop}

-- the bytes of the text t from the byte `from` on, counted from 0, at most m of them
abbrev pub window : List ℕ → ℕ → ℕ → List ℕ
window t from m = take m (drop from t)

-- how many bytes buffers of these sizes have together
abbrev pub sum : List ℕ → ℕ
sum [] = 0
sum (m ∷ ms) = m + sum ms

-- what calls one after another read, with buffers of these sizes, one behind the other: the first from the byte `from` on, each other from where the one before it ended
abbrev pub windows : List ℕ → ℕ → List ℕ → List ℕ
windows t from [] = []
windows t from (m ∷ ms) = window t from m ++ windows t (from + length (window t from m)) ms

pub record WindowsMakeText : Type 0 where
  -- calls from any byte on read what one call with a buffer as large as all of them reads: from 0 on the text's beginning
  pub parts : (t : List ℕ) (from : ℕ) (ms : List ℕ) → windows t from ms ≡ window t from (sum ms)
  -- where those from 0 on read less than has room, they have read the text, whole
  pub whole : (t ms : List ℕ) → length (windows t 0 ms) < sum ms → windows t 0 ms ≡ t
  -- and so they have where the buffers together have at least as many bytes as the text
  pub enough : (t ms : List ℕ) → length t ≤ sum ms → windows t 0 ms ≡ t
  -- a window that is shorter than its buffer is the last: it ends where the text ends, or begins behind it
  pub last : (t : List ℕ) (from m : ℕ) → length (window t from m) < m → length t ≤ from + length (window t from m)
