-- Not part of any public statement: for proofs and code only. How many composes a file has.
use Rattle.std.specs.Prelude.{ℕ, List}
use Rattle.archive.specs.Starts.{starts_of, row_count}
use Rattle.law_verdicts.specs.Each.{composes_below}

-- how many rows of a file are composes, by their bytes
abbrev pub compose_count : List ℕ → ℕ
compose_count fr = composes_below fr (row_count (starts_of fr))
