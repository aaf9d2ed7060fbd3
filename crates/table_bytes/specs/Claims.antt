-- What is claimed of the byte form. The proofs are in proofs/RoundTrip. Every table of the code fits, so `encode` promises the same with no condition.
use Rattle.std.specs.Prelude.{ℕ, ◌≤◌, ◌≡◌, List, ◌++◌, length}
use Rattle.model.specs.declared.Table.{Table}
use Rattle.number_bytes.specs.Bytes.{written}
use Rattle.table_bytes.specs.Bytes.{decoded, size, encoded, Fits}

pub record ReadBack : Type 0 where
  pub long : (t : Table) → Fits t → length (encoded t) ≡ size
  -- a table is read back from its bytes
  pub decode_encode : (t : Table) → Fits t → decoded (encoded t) ≡ t
  -- also where more bytes come after them: those are not looked at
  pub decode_more : (t : Table) → Fits t → (l : List ℕ) → decoded (encoded t ++ l) ≡ t
  -- also from a buffer over whose start they are written
  pub round_trip : (t : Table) → Fits t → (out : List ℕ) → size ≤ length out → decoded (written out 0 (encoded t)) ≡ t
