-- Worked files of the second pass, by hand from document 02, request 3, and WGSL's tables: each frame that is handed
-- back beside its row.
use Rattle.std.specs.Prelude.{ℕ, List, [], ◌∷◌, ◌++◌}
use Rattle.frames.specs.Written.{full, short, plain_row, marked, binary, compose, part, numbered, scalar, vector}
use Rattle.frames.specs.Written.{refusal}

-- a row, and what it hands back: its answer, and a compose's verdict
pub record PassLine : Type 0 where
  pub row : List ℕ
  pub given : List (List ℕ)

-- a file: what stands before its rows, the rows, and the components
pub record PassCase : Type 0 where
  pub before : List ℕ
  pub lines : List PassLine
  pub after : List ℕ

abbrev pass_line : List ℕ → List ℕ → PassLine
pass_line r a = record { row = r; given = a ∷ [] }

abbrev judged : List ℕ → List ℕ → List ℕ → PassLine
judged r a v = record { row = r; given = a ∷ v ∷ [] }

-- number 41; a matrix as a value; a verdict, by its number, its row and a component
abbrev mismatch : List ℕ
mismatch = refusal 41 0

abbrev matrix : ℕ → ℕ → List ℕ
matrix columns rows = short 9 3 columns rows 2 4 0 0

abbrev verdict : ℕ → ℕ → ℕ → List ℕ
verdict number row component = short 11 number row 0 component 0 0 0

abbrev rows_of : List PassLine → List ℕ
rows_of [] = []
rows_of (l ∷ ls) = l.row ++ rows_of ls

abbrev pub file_of : PassCase → List ℕ
file_of c = c.before ++ rows_of c.lines ++ c.after

abbrev given_by : List PassLine → List (List ℕ)
given_by [] = []
given_by (l ∷ ls) = l.given ++ given_by ls

abbrev pub wanted_of_pass : PassCase → List (List ℕ)
wanted_of_pass c = given_by c.lines

-- lines of the tables, and what is in none
abbrev lines : PassCase
lines = record {
  before =
      -- 0 to 6: f32, vec2 and vec3 of it, i32, u32, bool, vec2 of bool
      short 1 1 0 0 2 4 0 0 ++ short 1 2 2 0 2 4 0 0 ++ short 1 2 3 0 2 4 0 0 ++ short 1 1 0 0 0 4 0 0
      ++ short 1 1 0 0 1 4 0 0
      ++ short 1 1 0 0 3 1 0 0 ++ short 1 2 2 0 3 1 0 0
      -- 7 to 10: f32 matrices of 3 columns by 2 rows and of 2 by 3, vec2 of u32 and of i32
      ++ short 1 3 3 2 2 4 0 0 ++ short 1 3 2 3 2 4 0 0 ++ short 1 2 2 0 1 4 0 0 ++ short 1 2 2 0 0 4 0 0
      -- 11 to 15: f16, an i32 matrix 2 by 2, Bool of width 4, an abstract float, an atomic u32
      ++ short 1 1 0 0 2 2 0 0 ++ short 1 3 2 2 0 4 0 0 ++ short 1 1 0 0 3 4 0 0 ++ short 1 1 0 0 5 8 0 0
      ++ short 1 5 0 0 1 4 0 0;
  lines =
      -- 0 to 15: one row of each type
      pass_line (plain_row 4 0) (numbered 0)
      ∷ pass_line (plain_row 4 1) (numbered 1)
      ∷ pass_line (plain_row 4 2) (numbered 2)
      ∷ pass_line (plain_row 4 3) (numbered 3)
      ∷ pass_line (plain_row 4 4) (numbered 4)
      ∷ pass_line (plain_row 4 5) (numbered 5)
      ∷ pass_line (plain_row 4 6) (numbered 6)
      ∷ pass_line (plain_row 4 7) (numbered 7)
      ∷ pass_line (plain_row 4 8) (numbered 8)
      ∷ pass_line (plain_row 4 9) (numbered 9)
      ∷ pass_line (plain_row 4 10) (numbered 10)
      ∷ pass_line (plain_row 4 11) (numbered 11)
      ∷ pass_line (plain_row 4 12) (numbered 12)
      ∷ pass_line (plain_row 4 13) (numbered 13)
      ∷ pass_line (plain_row 4 14) (numbered 14)
      ∷ pass_line (plain_row 4 15) (numbered 15)
      -- Add: a scalar and a vector, either way; like scalars, as a value; other sizes, kinds and widths, abstract
      -- kinds and atomics are in no line
      ∷ pass_line (binary 0 0 1) (vector 2 2 4)
      ∷ pass_line (binary 0 1 0) (vector 2 2 4)
      ∷ pass_line (binary 0 0 0) (scalar 2 4)
      ∷ pass_line (binary 0 1 2) mismatch
      ∷ pass_line (binary 0 0 3) mismatch
      ∷ pass_line (binary 0 0 11) mismatch
      ∷ pass_line (binary 0 14 14) mismatch
      ∷ pass_line (binary 0 15 15) mismatch
      -- matrices: like ones added, none divided, none added to a scalar
      ∷ pass_line (binary 0 7 7) (matrix 3 2)
      ∷ pass_line (binary 1 7 8) mismatch
      ∷ pass_line (binary 3 7 7) mismatch
      ∷ pass_line (binary 0 7 0) mismatch
      -- Multiply: a matrix and a scalar, a vector, a matrix; inner sizes agree, and the scalars are Float
      ∷ pass_line (binary 2 7 0) (matrix 3 2)
      ∷ pass_line (binary 2 0 7) (matrix 3 2)
      ∷ pass_line (binary 2 7 2) (vector 2 2 4)
      ∷ pass_line (binary 2 1 7) (vector 3 2 4)
      ∷ pass_line (binary 2 7 1) mismatch
      ∷ pass_line (binary 2 2 7) mismatch
      ∷ pass_line (binary 2 7 8) (matrix 2 2)
      ∷ pass_line (binary 2 7 7) mismatch
      ∷ pass_line (binary 2 12 12) mismatch
      -- Equal takes bools; an ordering does not; Bool of width 4 is no bool
      ∷ pass_line (binary 5 5 5) (scalar 3 1)
      ∷ pass_line (binary 6 6 6) (vector 2 3 1)
      ∷ pass_line (binary 5 1 1) (vector 2 3 1)
      ∷ pass_line (binary 5 1 0) mismatch
      ∷ pass_line (binary 5 13 13) mismatch
      ∷ pass_line (binary 7 3 3) (scalar 3 1)
      ∷ pass_line (binary 7 5 5) mismatch
      -- And and InclusiveOr of bits and of bools, ExclusiveOr of bits alone, LogicalAnd and LogicalOr of bool scalars
      -- alone
      ∷ pass_line (binary 11 5 5) (scalar 3 1)
      ∷ pass_line (binary 13 6 6) (vector 2 3 1)
      ∷ pass_line (binary 11 9 9) (vector 2 1 4)
      ∷ pass_line (binary 11 0 0) mismatch
      ∷ pass_line (binary 12 9 9) (vector 2 1 4)
      ∷ pass_line (binary 12 5 5) mismatch
      ∷ pass_line (binary 14 5 5) (scalar 3 1)
      ∷ pass_line (binary 15 6 6) mismatch
      -- shifts: by u32, of as many components
      ∷ pass_line (binary 16 3 4) (scalar 0 4)
      ∷ pass_line (binary 16 3 3) mismatch
      ∷ pass_line (binary 17 10 9) (vector 2 0 4)
      ∷ pass_line (binary 17 10 4) mismatch
      ∷ [];
  after = [];
}

-- the order of refusals, 22 and 41; 41 passed on, and in a component
abbrev order : PassCase
order = record {
  before =
      -- f32, kind 200, a struct without members, a pointer to type 1, vec2 of f32, an array of one f32
      short 1 1 0 0 2 4 0 0 ++ short 1 200 0 0 0 0 0 0 ++ short 1 9 0 0 0 0 0 0 ++ short 1 6 1 0 0 0 0 0
      ++ short 1 2 2 0 2 4 0 0
      ++ full 1 8 0 0 0 0 0 0 1 4;
  lines =
      pass_line (plain_row 4 0) (numbered 0)
      ∷ pass_line (plain_row 4 1) (numbered 1)
      ∷ pass_line (plain_row 4 2) (numbered 2)
      ∷ pass_line (plain_row 4 3) (numbered 3)
      -- 4 and 5: refused with 13, and newer
      ∷ pass_line (marked 8 2 4) (refusal 13 2)
      ∷ pass_line (plain_row 22 0) (refusal 22 5)
      -- left before right
      ∷ pass_line (binary 0 5 4) (refusal 22 5)
      ∷ pass_line (binary 0 4 5) (refusal 13 2)
      -- both are read before a type is looked into: of an unknown left the right's refusal, or its 22
      ∷ pass_line (binary 0 1 4) (refusal 13 2)
      ∷ pass_line (binary 0 1 5) (refusal 22 5)
      -- both are looked into before WGSL judges
      ∷ pass_line (binary 0 2 1) (refusal 22 10)
      ∷ pass_line (binary 0 1 2) (refusal 22 11)
      -- a pointer's base is not looked into; 12 and 13
      ∷ pass_line (binary 0 3 0) mismatch
      ∷ pass_line (binary 0 3 3) mismatch
      ∷ pass_line (binary 5 2 2) mismatch
      -- 41 passed on, after a left that is refused otherwise
      ∷ pass_line (plain_row 17 12) mismatch
      ∷ pass_line (binary 2 4 12) (refusal 13 2)
      ∷ pass_line (binary 2 12 4) mismatch
      ∷ pass_line (binary 2 0 12) mismatch
      -- 19: a sum, whose value is a component; then 41 as one
      ∷ pass_line (binary 0 0 0) (scalar 2 4)
      ∷ judged (compose 4 2 0) (numbered 4) (verdict 0 20 0)
      ∷ judged (compose 4 2 2) (numbered 4) (verdict 33 21 1)
      ∷ judged (compose 5 1 4) (numbered 5) (verdict 33 22 0)
      ∷ [];
  after = part 0 ++ part 19 ++ part 0 ++ part 12 ++ part 12;
}

abbrev pub pass_cases : List PassCase
pass_cases = lines ∷ order ∷ []
