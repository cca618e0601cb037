-- Lines in a lent buffer: all of them, or number 3 with the buffer unchanged (document 01, "Numbers handed back": a
-- lent buffer too small).
use Rattle.std.specs.Prelude.{ℕ, cond, List, ◌++◌, leb, length, drop, Option, Some, None}

-- what writing lines gives, with a buffer of o bytes
unfoldable pub printed : List ℕ → ℕ → Option ℕ
printed lines o = cond (leb (length lines) o) (Some (length lines)) None

-- the buffer after it: the lines at its front, its bytes past them as they were; or unchanged
unfoldable pub printed_after : List ℕ → List ℕ → List ℕ
printed_after lines out = cond (leb (length lines) (length out)) (lines ++ drop (length lines) out) out
