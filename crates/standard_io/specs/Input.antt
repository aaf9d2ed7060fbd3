-- What reading promises of the number of bytes read.
use Rattle.std.specs.Prelude.{List, ℕ, ◌≤◌, ◌≡◌, Option, IfSome, length, take}

-- at most k
abbrev pub Within : Option ℕ → ℕ → Type 0
Within read k = IfSome read (λ n. n ≤ k)

-- it counts bytes of the buffer, as taking that part of it asks
abbrev pub Counted : Option ℕ → List ℕ → Type 0
Counted read buf = IfSome read (λ n. (n ≤ length buf) × (n ≡ length (take n buf)))
