-- How many bytes a number has, which the form of a record has to show.
use Rattle.std.specs.Prelude.{ℕ, zero, suc, ◌≡◌, length, refl}
use Rattle.std.proofs.Common.{ap}
use Rattle.number_bytes.specs.Bytes.{bytes}

pub length_bytes : (k x : ℕ) → length (bytes k x) ≡ k
unfolding bytes
length_bytes zero x = refl
length_bytes (suc k) x = ap suc (length_bytes k x)
