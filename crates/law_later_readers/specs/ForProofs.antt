-- Not part of any public statement: for proofs and code only. A text that shows wrong each of the readers that are shut
-- out.
use Rattle.std.specs.Prelude.{ℕ, List, ◌++◌}
use Rattle.text.specs.Lines.{text_of}
use Rattle.frames.specs.Written.{plain_row, marked}

-- a text that shows each of them wrong: a Math row, a literal, and the negation of row 0
abbrev pub three_rows : List ℕ
three_rows = text_of (plain_row 22 0 ++ marked 1 0 1 ++ plain_row 17 0) 3
