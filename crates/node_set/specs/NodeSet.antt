-- Sets of nodes as 16-bit masks: bit i - 1 is node i. Nodes are numbered 1 to n, and n is 1 to 16.
use Rattle.std.specs.Prelude.{ℕ, ◌-◌, ◌^◌, ◌%◌, ◌/◌, Bool, eqb, ltb}
use Rattle.std.specs.Int.Bits.{bit_and, bit_or}
use Rattle.std.specs.Int.Count.{count_leading_zeros, ones}

-- the set of node i alone
abbrev pub bit_of : ℕ → ℕ
bit_of i = 2 ^ (i - 1)

-- node i is in s. Nodes are numbered from 1 up: `has s 0` is the same as `has s 1`.
abbrev pub has : ℕ → ℕ → Bool
has s i = eqb (s / 2 ^ (i - 1) % 2) 1

-- s and node i
abbrev pub with : ℕ → ℕ → ℕ
with s i = bit_or s (bit_of i)

-- s but for node i
abbrev pub without : ℕ → ℕ → ℕ
without s i = bit_and s (65535 - bit_of i)

-- the node of s with the highest number; 0 for the empty set
abbrev pub highest : ℕ → ℕ
highest s = 16 - count_leading_zeros 16 s

-- how many nodes s has
abbrev pub count : ℕ → ℕ
count s = ones s

-- all nodes, 1 to n
abbrev pub up_to : ℕ → ℕ
up_to n = 2 ^ n - 1

-- s has no node above n
abbrev pub within : ℕ → ℕ → Bool
within n s = ltb s (2 ^ n)
