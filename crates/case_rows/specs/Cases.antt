-- Worked rows: operators, images, items and results; by hand from document 01 ("A row's type" and "Cases", P). And the
-- table of all worked files.
use Rattle.std.specs.Prelude.{List, [], ◌∷◌, ◌++◌}
use Rattle.frames.specs.Written.{full, short, plain_row, marked, indexed, binary, compose, part, numbered, scalar}
use Rattle.frames.specs.Written.{vector}
use Rattle.frames.specs.Written.{refusal}
use Rattle.case_rows.specs.Lines.{RowCase, row_line}
use Rattle.case_rows.specs.AccessCases.{locals, matrix, pointers, newer_things}

-- Splat, Swizzle, Unary, Binary, Select, Derivative, Relational, As
abbrev pub operators : RowCase
operators = record {
  before =
      -- f32, vec3 of it, a matrix 3 by 2, cooperative matrices 8 by 16 of f32 (role 1) and 16 by 8 of u32 (role 0)
      short 1 1 0 0 2 4 0 0 ++ short 1 2 3 0 2 4 0 0 ++ short 1 3 3 2 2 4 0 0 ++ short 1 4 8 16 2 4 1 0
      ++ short 1 4 16 8 1 4 0 0
      -- vec2 of u32, a matrix 4 by 3 of f16, a sampler, bool, a bool of width 4
      ++ short 1 2 2 0 1 4 0 0 ++ short 1 3 4 3 2 2 0 0 ++ short 1 11 0 0 0 0 0 0 ++ short 1 1 0 0 3 1 0 0
      ++ short 1 1 0 0 3 4 0 0;
  lines =
      -- 0 to 9: one row of each type
      row_line (plain_row 4 0) (numbered 0)
      ∷ row_line (plain_row 4 1) (numbered 1)
      ∷ row_line (plain_row 4 2) (numbered 2)
      ∷ row_line (plain_row 4 3) (numbered 3)
      ∷ row_line (plain_row 4 4) (numbered 4)
      ∷ row_line (plain_row 4 5) (numbered 5)
      ∷ row_line (plain_row 4 6) (numbered 6)
      ∷ row_line (plain_row 4 7) (numbered 7)
      ∷ row_line (plain_row 4 8) (numbered 8)
      ∷ row_line (plain_row 4 9) (numbered 9)
      -- Multiply. P: scalar times vector gives the vector
      ∷ row_line (binary 2 0 1) (numbered 1)
      ∷ row_line (binary 2 1 0) (numbered 1)
      ∷ row_line (binary 2 0 8) (numbered 8)
      ∷ row_line (binary 2 2 6) (short 9 3 4 2 2 4 0 0)
      ∷ row_line (binary 2 2 1) (vector 2 2 4)
      ∷ row_line (binary 2 2 0) (numbered 2)
      ∷ row_line (binary 2 5 6) (vector 4 2 2)
      ∷ row_line (binary 2 1 5) (numbered 1)
      ∷ row_line (binary 2 3 4) (short 9 4 16 16 2 4 1 0)
      ∷ row_line (binary 2 3 0) (numbered 3)
      ∷ row_line (binary 2 7 0) (numbered 7)
      ∷ row_line (binary 2 0 7) (numbered 7)
      ∷ row_line (binary 2 7 1) (refusal 18 0)
      ∷ row_line (binary 2 1 7) (refusal 18 0)
      ∷ row_line (binary 2 2 3) (refusal 18 0)
      ∷ row_line (binary 2 3 2) (refusal 18 0)
      -- Add, Subtract, Divide, Modulo; And, ExclusiveOr, InclusiveOr, ShiftLeft, ShiftRight: the left type, whatever it
      -- is
      ∷ row_line (binary 0 0 1) (numbered 0)
      ∷ row_line (binary 1 7 0) (numbered 7)
      ∷ row_line (binary 3 13 0) (short 9 3 4 2 2 4 0 0)
      ∷ row_line (binary 4 1 0) (numbered 1)
      ∷ row_line (binary 11 5 0) (numbered 5)
      ∷ row_line (binary 12 5 0) (numbered 5)
      ∷ row_line (binary 13 7 0) (numbered 7)
      ∷ row_line (binary 16 5 0) (numbered 5)
      ∷ row_line (binary 17 14 0) (vector 2 2 4)
      -- comparisons
      ∷ row_line (binary 5 1 0) (vector 3 3 1)
      ∷ row_line (binary 6 0 0) (scalar 3 1)
      ∷ row_line (binary 7 9 0) (scalar 3 1)
      ∷ row_line (binary 8 14 0) (vector 2 3 1)
      ∷ row_line (binary 9 2 0) (refusal 18 0)
      ∷ row_line (binary 10 7 0) (refusal 18 0)
      -- LogicalAnd and LogicalOr: exactly bool of width 1
      ∷ row_line (binary 14 8 0) (scalar 3 1)
      ∷ row_line (binary 15 9 0) (refusal 18 0)
      ∷ row_line (binary 14 0 0) (refusal 18 0)
      ∷ row_line (binary 15 1 0) (refusal 18 0)
      -- Unary, Select, Derivative
      ∷ row_line (plain_row 17 1) (numbered 1)
      ∷ row_line (plain_row 19 13) (short 9 3 4 2 2 4 0 0)
      ∷ row_line (plain_row 20 0) (numbered 0)
      -- Relational: All, Any, IsNan, IsInf
      ∷ row_line (marked 21 0 0) (scalar 3 1)
      ∷ row_line (marked 21 0 1) (scalar 3 1)
      ∷ row_line (marked 21 1 2) (vector 3 3 1)
      ∷ row_line (marked 21 0 3) (scalar 3 1)
      ∷ row_line (marked 21 2 2) (refusal 18 0)
      -- As, with a width and without
      ∷ row_line (full 4 23 0 0 0 0 0 1 8 0) (scalar 0 8)
      ∷ row_line (marked 23 0 1) (scalar 1 4)
      ∷ row_line (full 4 23 1 0 0 0 1 1 2 0) (vector 3 1 2)
      ∷ row_line (marked 23 1 1) (vector 3 1 4)
      ∷ row_line (full 4 23 2 0 0 0 0 1 2 0) (short 9 3 3 2 2 2 0 0)
      ∷ row_line (marked 23 6 0) (short 9 3 4 3 2 2 0 0)
      ∷ row_line (marked 23 7 0) (refusal 18 0)
      -- Splat and Swizzle
      ∷ row_line (marked 8 0 4) (vector 4 2 4)
      ∷ row_line (marked 8 1 4) (refusal 13 1)
      ∷ row_line (marked 9 1 2) (vector 2 2 4)
      ∷ row_line (marked 9 0 2) (refusal 14 0)
      ∷ [];
  after = [];
}

-- ImageSample, ImageLoad, ImageQuery
abbrev pub images : RowCase
images = record {
  before =
      -- sampled 2D of Float, sampled 1D of Uint, depth 3D, external Cube, storage 2D arrayed, f32
      short 1 10 2 0 0 2 0 0 ++ short 1 10 1 0 0 1 0 0 ++ short 1 10 3 0 1 0 0 0 ++ short 1 10 4 0 2 0 0 0
      ++ short 1 10 2 1 3 33 0 1
      ++ short 1 1 0 0 2 4 0 0;
  lines =
      row_line (plain_row 4 0) (numbered 0)
      ∷ row_line (plain_row 4 1) (numbered 1)
      ∷ row_line (plain_row 4 2) (numbered 2)
      ∷ row_line (plain_row 4 3) (numbered 3)
      ∷ row_line (plain_row 4 4) (numbered 4)
      ∷ row_line (plain_row 4 5) (numbered 5)
      -- 6 to 11: samples without gather; of a storage image by its format, here Rgba32Sint
      ∷ row_line (marked 14 0 0) (vector 4 2 4)
      ∷ row_line (marked 14 1 0) (vector 4 1 4)
      ∷ row_line (marked 14 2 0) (scalar 2 4)
      ∷ row_line (marked 14 3 0) (vector 4 2 4)
      ∷ row_line (marked 14 4 0) (vector 4 0 4)
      ∷ row_line (marked 14 5 0) (refusal 16 5)
      -- 12 to 17: with gather; a storage image is Float
      ∷ row_line (marked 14 0 1) (vector 4 2 4)
      ∷ row_line (marked 14 1 1) (vector 4 1 4)
      ∷ row_line (marked 14 2 1) (vector 4 2 4)
      ∷ row_line (marked 14 3 1) (vector 4 2 4)
      ∷ row_line (marked 14 4 1) (vector 4 2 4)
      ∷ row_line (marked 14 5 1) (refusal 16 5)
      -- 18 to 21: loads
      ∷ row_line (plain_row 15 1) (vector 4 1 4)
      ∷ row_line (plain_row 15 2) (scalar 2 4)
      ∷ row_line (plain_row 15 4) (vector 4 0 4)
      ∷ row_line (plain_row 15 5) (refusal 16 5)
      -- sizes, of a storage image too; levels, layers and samples
      ∷ row_line (marked 16 0 0) (vector 2 1 4)
      ∷ row_line (marked 16 1 0) (scalar 1 4)
      ∷ row_line (marked 16 2 0) (vector 3 1 4)
      ∷ row_line (marked 16 3 0) (vector 2 1 4)
      ∷ row_line (marked 16 4 0) (vector 2 1 4)
      ∷ row_line (marked 16 5 0) (refusal 16 5)
      ∷ row_line (marked 16 0 1) (scalar 1 4)
      ∷ row_line (marked 16 0 2) (scalar 1 4)
      ∷ row_line (marked 16 0 3) (scalar 1 4)
      ∷ [];
  after = [];
}

-- items, results and special types
abbrev pub items : RowCase
items = record {
  before =
      -- f32, vec2 of it; a constant, an override, two arguments, a function with a result and one without, ray
      -- intersection and vertex return
      short 1 1 0 0 2 4 0 0 ++ short 1 2 2 0 2 4 0 0 ++ short 3 1 1 0 0 0 0 0 ++ short 3 2 0 0 0 0 0 0
      ++ short 3 4 1 0 0 0 0 0
      ++ short 3 4 0 0 0 0 0 0 ++ short 3 6 1 0 1 0 0 0 ++ short 3 6 0 0 0 0 0 0 ++ short 3 7 0 0 0 0 0 0
      ++ short 3 8 1 0 0 0 0 0;
  lines =
      row_line (plain_row 2 0) (numbered 1)
      ∷ row_line (plain_row 3 0) (numbered 0)
      ∷ row_line (compose 1 2 0) (numbered 1)
      ∷ row_line (indexed 10 0 0) (numbered 1)
      ∷ row_line (indexed 10 0 1) (numbered 0)
      ∷ row_line (indexed 10 0 2) (short 10 19 0 0 2 0 0 0)
      ∷ row_line (plain_row 24 0) (numbered 1)
      ∷ row_line (plain_row 24 1) (refusal 17 0)
      ∷ row_line (plain_row 25 0) (numbered 0)
      ∷ row_line (plain_row 26 1) (numbered 1)
      ∷ row_line (plain_row 27 0) (scalar 1 4)
      ∷ row_line (plain_row 28 0) (numbered 1)
      ∷ row_line (plain_row 29 0) (scalar 3 1)
      ∷ row_line (plain_row 30 0) (numbered 0)
      ∷ row_line (plain_row 31 0) (vector 4 1 4)
      ∷ row_line (plain_row 32 1) (numbered 1)
      ∷ [];
  -- the compose's two components
  after = part 1 ++ part 1;
}

-- no item of kind 7 or 8
abbrev pub specials : RowCase
specials = record {
  before = [];
  lines = row_line (plain_row 28 0) (refusal 20 0) ∷ row_line (plain_row 30 0) (refusal 20 0)
      ∷ row_line (plain_row 17 0)
      (refusal 20 0) ∷ [];
  after = [];
}

-- the twelve literals
abbrev pub literals : RowCase
literals = record {
  before = [];
  lines =
      row_line (marked 1 0 0) (scalar 2 8)
      ∷ row_line (marked 1 0 1) (scalar 2 4)
      ∷ row_line (marked 1 0 2) (scalar 2 2)
      ∷ row_line (marked 1 0 3) (scalar 1 2)
      ∷ row_line (marked 1 0 4) (scalar 0 2)
      ∷ row_line (marked 1 0 5) (scalar 1 4)
      ∷ row_line (marked 1 0 6) (scalar 0 4)
      ∷ row_line (marked 1 0 7) (scalar 1 8)
      ∷ row_line (marked 1 0 8) (scalar 0 8)
      ∷ row_line (marked 1 0 9) (scalar 3 1)
      ∷ row_line (marked 1 0 10) (scalar 4 8)
      ∷ row_line (marked 1 0 11) (scalar 5 8)
      ∷ [];
  after = [];
}

-- CooperativeLoad and CooperativeMultiplyAdd
abbrev pub cooperative_case : RowCase
cooperative_case = record {
  before =
      -- f32, a dynamic array of it, vec2 of u32, a matrix 2 by 2 of f16, a cooperative matrix of i32; locals of these
      short 1 1 0 0 2 4 0 0 ++ short 1 8 0 0 2 0 0 0 ++ short 1 2 2 0 1 4 0 0 ++ short 1 3 2 2 2 2 0 0
      ++ short 1 4 8 8 0 4 0 0
      ++ short 3 5 0 0 0 0 0 0 ++ short 3 5 1 0 0 0 0 0 ++ short 3 5 2 0 0 0 0 0 ++ short 3 5 3 0 0 0 0 0
      ++ short 3 5 4 0 0 0 0 0;
  lines =
      row_line (plain_row 12 0) (short 9 6 0 0 0 0 0 0)
      ∷ row_line (plain_row 12 1) (short 9 6 1 0 0 0 0 0)
      ∷ row_line (plain_row 12 2) (short 9 6 2 0 0 0 0 0)
      ∷ row_line (plain_row 12 3) (short 9 6 3 0 0 0 0 0)
      ∷ row_line (plain_row 12 4) (short 9 6 4 0 0 0 0 0)
      ∷ row_line (indexed 7 3 0) (short 9 7 2 0 2 2 0 0)
      ∷ row_line (indexed 7 2 0) (short 9 7 0 0 1 4 0 0)
      -- 7 to 14: by what is pointed at; an array is refused, and what is no pointer
      ∷ row_line (full 4 33 0 0 0 0 8 16 2 0) (short 9 4 8 16 2 4 2 0)
      ∷ row_line (full 4 33 1 0 0 0 8 16 2 0) (refusal 15 1)
      ∷ row_line (full 4 33 2 0 0 0 16 8 1 0) (short 9 4 16 8 1 4 1 0)
      ∷ row_line (full 4 33 3 0 0 0 16 16 0 0) (short 9 4 16 16 2 2 0 0)
      ∷ row_line (full 4 33 4 0 0 0 8 8 0 0) (short 9 4 8 8 0 4 0 0)
      ∷ row_line (full 4 33 5 0 0 0 8 8 0 0) (short 9 4 8 8 2 2 0 0)
      ∷ row_line (full 4 33 6 0 0 0 8 8 0 0) (short 9 4 8 8 1 4 0 0)
      ∷ row_line (full 4 33 7 0 0 0 8 8 0 0) (refusal 15 7)
      ∷ row_line (plain_row 34 7) (short 9 4 8 16 2 4 2 0)
      ∷ [];
  after = [];
}

abbrev pub row_cases : List RowCase
row_cases = locals ∷ matrix ∷ pointers ∷ newer_things ∷ operators ∷ images ∷ items ∷ specials ∷ literals
    ∷ cooperative_case
    ∷ []
