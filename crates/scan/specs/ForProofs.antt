-- Not part of any public statement: for proofs and code only. The lower of two places.
use Rattle.std.specs.Prelude.{cond, leb, ℕ, Option, Some, None}

-- the lower of two places
abbrev pub lower_of : Option ℕ → Option ℕ → Option ℕ
lower_of (Some i) (Some j) = cond (leb i j) (Some i) (Some j)
lower_of (Some i) None = Some i
lower_of None f = f
