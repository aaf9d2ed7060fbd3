-- What the inner functions write. No promise of a public function needs this file.
use Rattle.std.specs.Prelude.{List, [], ◌∷◌, ◌++◌, ℕ, zero, suc, ◌+◌, ◌/◌, ◌%◌}

-- the last k digits of x; 0 stands where x has fewer
unfoldable pub padded : ℕ → ℕ → List ℕ
padded zero x = []
padded (suc k) x = padded k (x / 10) ++ ((48 + x % 10) ∷ [])
