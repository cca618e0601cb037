-- Worked rows: variables, parts, loads, and what is newer; by hand from document 01 ("A row's type" and "Cases", P).
use Rattle.std.specs.Prelude.{[], ◌∷◌, ◌++◌}
use Rattle.frames.specs.Written.{full, short, plain_row, marked, indexed, binary, numbered, scalar, vector, refusal}
use Rattle.frames.specs.Written.{bound}
use Rattle.case_rows.specs.Lines.{RowCase, row_line}

-- P: a component of a local vector, loaded; a local of unknown kind, loaded; a component past the end
abbrev pub locals : RowCase
locals = record {
  -- f32, vec3 of it, kind 200; locals of types 1 and 2
  before = short 1 1 0 0 2 4 0 0 ++ short 1 2 3 0 2 4 0 0 ++ short 1 200 0 0 0 0 0 0 ++ short 3 5 1 0 0 0 0 0
      ++ short 3 5 2 0 0 0 0 0;
  lines =
      row_line (plain_row 12 0) (short 9 6 1 0 0 0 0 0)
      ∷ row_line (indexed 7 0 2) (short 9 7 0 0 2 4 0 0)
      ∷ row_line (plain_row 13 1) (scalar 2 4)
      ∷ row_line (plain_row 12 1) (short 9 6 2 0 0 0 0 0)
      ∷ row_line (plain_row 13 3) (refusal 22 4)
      ∷ row_line (indexed 7 0 3) (bound 0 3)
      ∷ [];
  after = [];
}

-- P: a matrix 3 by 2 at index 2 and 3; and parts of parts
abbrev pub matrix : RowCase
matrix = record {
  before = short 1 3 3 2 2 4 0 0;
  lines =
      row_line (plain_row 4 0) (numbered 0)
      ∷ row_line (indexed 7 0 2) (vector 2 2 4)
      ∷ row_line (indexed 7 0 3) (bound 0 3)
      ∷ row_line (plain_row 6 0) (vector 2 2 4)
      ∷ row_line (indexed 7 1 1) (scalar 2 4)
      ∷ row_line (indexed 7 1 2) (bound 1 2)
      ∷ row_line (plain_row 6 1) (scalar 2 4)
      -- a scalar has no parts
      ∷ row_line (plain_row 6 4) (refusal 11 4)
      ∷ row_line (indexed 7 4 0) (full 10 11 4 0 0 0 0 0 1 0)
      -- a refusal is passed on
      ∷ row_line (indexed 7 2 0) (bound 0 3)
      ∷ row_line (plain_row 6 2) (bound 0 3)
      ∷ [];
  after = [];
}

-- variables, and parts and loads through pointers
abbrev pub pointers : RowCase
pointers = record {
  before =
      -- f32, vec4 of it, a matrix 2 by 3, atomic u32, an array of 8 vec4, a struct of two members, a binding array of
      -- vec4
      short 1 1 0 0 2 4 0 0 ++ short 1 2 4 0 2 4 0 0 ++ short 1 3 2 3 2 4 0 0 ++ short 1 5 0 0 1 4 0 0
      ++ full 1 8 1 0 0 0 0 0 8 16
      ++ full 1 9 0 0 2 0 0 0 0 144 ++ short 1 14 1 0 2 0 0 0
      -- a pointer to vec4 in Storage with access 3, a value pointer to three f32 in Function; members of types 0 and 4
      ++ short 1 6 1 0 0 0 4 3 ++ short 1 7 3 0 2 4 0 0 ++ short 2 0 0 0 0 0 0 0 ++ full 2 0 4 0 0 0 0 0 0 16
      -- globals: the matrix in Private, the atomic in WorkGroup, the array in Storage, the struct in Uniform, the
      -- binding array in Handle and in Immediate, f32 in Private
      ++ short 3 3 2 0 0 0 1 0 ++ short 3 3 3 0 0 0 2 0 ++ short 3 3 4 0 0 0 4 1 ++ short 3 3 5 0 0 0 3 0
      ++ short 3 3 6 0 0 0 5 0
      ++ short 3 3 6 0 0 0 6 0 ++ short 3 3 0 0 0 0 1 0;
  lines =
      -- 0 to 8: a pointer to a matrix, to its columns and to their components
      row_line (plain_row 11 0) (short 9 6 2 0 0 0 1 0)
      ∷ row_line (plain_row 6 0) (short 9 7 3 0 2 4 1 0)
      ∷ row_line (indexed 7 0 1) (short 9 7 3 0 2 4 1 0)
      ∷ row_line (indexed 7 0 2) (bound 0 2)
      ∷ row_line (plain_row 6 1) (short 9 7 0 0 2 4 1 0)
      ∷ row_line (indexed 7 1 2) (short 9 7 0 0 2 4 1 0)
      ∷ row_line (indexed 7 1 3) (bound 1 3)
      ∷ row_line (plain_row 6 4) (refusal 11 4)
      ∷ row_line (indexed 7 4 0) (full 10 11 4 0 0 0 0 0 1 0)
      -- 9 to 14: loads; what is no pointer
      ∷ row_line (plain_row 13 1) (vector 3 2 4)
      ∷ row_line (plain_row 13 4) (scalar 2 4)
      ∷ row_line (plain_row 11 1) (short 9 6 3 0 0 0 2 0)
      ∷ row_line (plain_row 13 11) (scalar 1 4)
      ∷ row_line (plain_row 13 0) (numbered 2)
      ∷ row_line (plain_row 13 9) (refusal 15 9)
      -- 15 to 17: an array of 8 at 200
      ∷ row_line (plain_row 11 2) (short 9 6 4 0 0 0 4 1)
      ∷ row_line (indexed 7 15 200) (short 9 6 1 0 0 0 4 1)
      ∷ row_line (plain_row 6 15) (short 9 6 1 0 0 0 4 1)
      -- 18 to 25: a struct, behind its pointer and loaded
      ∷ row_line (plain_row 11 3) (short 9 6 5 0 0 0 3 0)
      ∷ row_line (indexed 7 18 1) (short 9 6 4 0 0 0 3 0)
      ∷ row_line (indexed 7 18 2) (bound 18 2)
      ∷ row_line (plain_row 6 18) (refusal 12 5)
      ∷ row_line (plain_row 13 18) (numbered 5)
      ∷ row_line (indexed 7 22 0) (numbered 0)
      ∷ row_line (indexed 7 22 2) (bound 22 2)
      ∷ row_line (plain_row 6 22) (refusal 11 22)
      -- 26 to 31: binding arrays, in Handle with no pointer
      ∷ row_line (plain_row 11 4) (numbered 6)
      ∷ row_line (plain_row 6 26) (numbered 1)
      ∷ row_line (indexed 7 26 99) (numbered 1)
      ∷ row_line (plain_row 11 5) (short 9 6 6 0 0 0 6 0)
      ∷ row_line (plain_row 6 29) (short 9 6 1 0 0 0 6 0)
      ∷ row_line (indexed 7 29 99) (short 9 6 1 0 0 0 6 0)
      -- 32 to 34: a pointer to a scalar type
      ∷ row_line (plain_row 11 6) (short 9 6 0 0 0 0 1 0)
      ∷ row_line (plain_row 6 32) (refusal 12 0)
      ∷ row_line (indexed 7 32 0) (full 10 12 0 0 0 0 0 0 1 0)
      -- 35 to 42: pointers that the file has as types; an array by value
      ∷ row_line (plain_row 4 7) (numbered 7)
      ∷ row_line (plain_row 6 35) (short 9 7 0 0 2 4 4 3)
      ∷ row_line (indexed 7 35 3) (short 9 7 0 0 2 4 4 3)
      ∷ row_line (indexed 7 35 4) (bound 35 4)
      ∷ row_line (plain_row 4 8) (numbered 8)
      ∷ row_line (plain_row 13 39) (vector 3 2 4)
      ∷ row_line (plain_row 13 15) (numbered 4)
      ∷ row_line (indexed 7 41 200) (numbered 1)
      ∷ [];
  after = [];
}

-- what is newer, where it is met, and what is not looked into
abbrev pub newer_things : RowCase
newer_things = record {
  -- f32, kind 200, a dynamic array of it, a pointer to it; a local of type 2
  before = short 1 1 0 0 2 4 0 0 ++ short 1 200 7 7 7 7 7 7 ++ short 1 8 1 0 2 0 0 0 ++ short 1 6 1 0 0 0 0 0
      ++ short 3 5 2 0 0 0 0 0;
  lines =
      -- 0 to 5: an array over an unknown kind is indexed, and its element's kind met behind the pointer to it
      row_line (plain_row 12 0) (short 9 6 2 0 0 0 0 0)
      ∷ row_line (plain_row 6 0) (short 9 6 1 0 0 0 0 0)
      ∷ row_line (plain_row 6 1) (refusal 22 2)
      ∷ row_line (plain_row 13 1) (refusal 22 3)
      ∷ row_line (plain_row 13 0) (numbered 2)
      ∷ row_line (plain_row 6 4) (numbered 1)
      -- 6 to 12: the number of an unknown kind is passed on by what looks into nothing
      ∷ row_line (plain_row 17 5) (numbered 1)
      ∷ row_line (binary 0 6 0) (numbered 1)
      ∷ row_line (binary 16 6 0) (numbered 1)
      ∷ row_line (plain_row 19 6) (numbered 1)
      ∷ row_line (plain_row 20 6) (numbered 1)
      ∷ row_line (plain_row 34 6) (numbered 1)
      ∷ row_line (plain_row 4 1) (numbered 1)
      -- 13 to 17: Math, and kind 99; their place is kept
      ∷ row_line (short 4 22 255 255 255 255 255 255) (refusal 22 13)
      ∷ row_line (short 4 99 255 255 255 255 255 255) (refusal 22 14)
      ∷ row_line (plain_row 17 13) (refusal 22 13)
      ∷ row_line (indexed 7 14 0) (refusal 22 14)
      ∷ row_line (binary 2 16 13) (refusal 22 14)
      -- 18 to 22: Multiply reads both operands before it looks into either; a scalar left looks into the right too
      ∷ row_line (marked 1 0 1) (scalar 2 4)
      ∷ row_line (plain_row 13 18) (refusal 15 18)
      ∷ row_line (binary 2 12 19) (refusal 15 18)
      ∷ row_line (binary 2 18 12) (refusal 22 21)
      ∷ row_line (binary 2 19 12) (refusal 15 18)
      -- 23 to 35: each rule that looks into its operand's type
      ∷ row_line (plain_row 6 12) (refusal 22 23)
      ∷ row_line (indexed 7 12 0) (refusal 22 24)
      ∷ row_line (marked 8 12 2) (refusal 22 25)
      ∷ row_line (marked 9 12 2) (refusal 22 26)
      ∷ row_line (plain_row 13 12) (refusal 22 27)
      ∷ row_line (marked 14 12 0) (refusal 22 28)
      ∷ row_line (marked 14 12 1) (refusal 22 29)
      ∷ row_line (plain_row 15 12) (refusal 22 30)
      ∷ row_line (marked 16 12 0) (refusal 22 31)
      ∷ row_line (binary 5 12 0) (refusal 22 32)
      ∷ row_line (binary 14 12 0) (refusal 22 33)
      ∷ row_line (marked 21 12 2) (refusal 22 34)
      ∷ row_line (marked 23 12 0) (refusal 22 35)
      -- 36 to 38: a pointer's base is looked into by Access, AccessIndex, Load and CooperativeLoad
      ∷ row_line (plain_row 4 3) (numbered 3)
      ∷ row_line (indexed 7 36 0) (refusal 22 37)
      ∷ row_line (full 4 33 36 0 0 0 8 8 0 0) (refusal 22 38)
      -- 39 to 41: and by no other
      ∷ row_line (binary 5 36 0) (refusal 18 0)
      ∷ row_line (marked 8 36 2) (refusal 13 36)
      ∷ row_line (plain_row 15 36) (refusal 16 36)
      ∷ [];
  after = [];
}
