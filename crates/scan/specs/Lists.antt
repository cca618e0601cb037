-- A list made index by index, and a sum.
use Rattle.std.specs.Prelude.{ℕ, zero, suc, ◌+◌, List, [], ◌∷◌, ◌++◌}

-- f 0, f 1, .. up to f (n - 1)
unfoldable pub build : (ℕ → ℕ) → ℕ → List ℕ
build f zero = []
build f (suc n) = build f n ++ (f n ∷ [])

-- f 0 + f 1 + .. + f (n - 1)
unfoldable pub sum_below : (ℕ → ℕ) → ℕ → ℕ
sum_below f zero = 0
sum_below f (suc n) = sum_below f n + f n
