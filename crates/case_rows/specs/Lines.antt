-- How a worked case is written: a file by its frames, each row beside its answer (document 01, "The file" and its end,
-- "Out").
use Rattle.std.specs.Prelude.{ℕ, List, [], ◌∷◌, ◌++◌}

-- a row and its answer
pub record RowLine : Type 0 where
  pub row : List ℕ
  pub answer : List ℕ

-- a file: what stands before its rows, the rows, and the components
pub record RowCase : Type 0 where
  pub before : List ℕ
  pub lines : List RowLine
  pub after : List ℕ

-- a row, then its answer
abbrev pub row_line : List ℕ → List ℕ → RowLine
row_line r a = record { row = r; answer = a }

-- the rows' frames
abbrev rows_of : List RowLine → List ℕ
rows_of [] = []
rows_of (l ∷ ls) = l.row ++ rows_of ls

-- the frames of a case's file
abbrev pub file_of : RowCase → List ℕ
file_of c = c.before ++ rows_of c.lines ++ c.after

-- the answers' frames
abbrev answers_of : List RowLine → List (List ℕ)
answers_of [] = []
answers_of (l ∷ ls) = l.answer ∷ answers_of ls

-- the answers of its rows
abbrev pub wanted_answers : RowCase → List (List ℕ)
wanted_answers c = answers_of c.lines
