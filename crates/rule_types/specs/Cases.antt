-- Worked comparisons over one small file, written by hand from document 01 ("Same type or not", "Numbers handed back"
-- and "Cases", P).
use Rattle.std.specs.Prelude.{ℕ, List, [], ◌∷◌, ◌++◌}
use Rattle.frames.specs.declared.Frame.{Frame}
use Rattle.frames.specs.Bytes.{frame_at}
use Rattle.frames.specs.Written.{full, short, numbered}
use Rattle.rule.specs.Answers.{Result, told, newer, nowhere, Compared, alike, unlike, field, index}

-- types 0 to 7: f32, vec3 of it, a pointer to type 0 in Function, two alike structs of one member, kind 200, a pointer
-- to it, f32 again; then the member
abbrev pub compared_file : List ℕ
compared_file =
    short 1 1 0 0 2 4 0 0 ++ short 1 2 3 0 2 4 0 0 ++ short 1 6 0 0 0 0 0 0 ++ short 1 9 0 0 1 0 0 0
    ++ short 1 9 0 0 1 0 0 0
    ++ short 1 200 0 0 0 0 0 0 ++ short 1 6 5 0 0 0 0 0 ++ short 1 1 0 0 2 4 0 0 ++ short 2 0 0 0 0 0 0 0

pub record ComparedCase : Type 0 where
  pub left : Frame
  pub right : Frame
  pub outcome : Result Compared

abbrev case : List ℕ → List ℕ → Result Compared → ComparedCase
case l r o = record { left = frame_at l 0; right = frame_at r 0; outcome = o }

-- a dynamic array as a value, by its base and stride
abbrev array : ℕ → ℕ → List ℕ
array b t = full 9 8 b 0 2 0 0 0 0 t

abbrev pub compared_cases : List ComparedCase
compared_cases =
    -- P: a pointer to a scalar type, by its number or as a value, equals the value pointer, in either order
    case (numbered 2) (short 9 7 0 0 2 4 0 0) (told alike) ∷ case (short 9 7 0 0 2 4 0 0) (numbered 2) (told alike)
    ∷ case (short 9 6 0 0 0 0 0 0) (short 9 7 0 0 2 4 0 0) (told alike)
    -- and so to a vector type; another space, size, kind or width is another type
    ∷ case (short 9 6 1 0 0 0 0 0) (short 9 7 3 0 2 4 0 0) (told alike) ∷ case (numbered 2) (short 9 7 0 0 2 4 1 0)
    (told unlike)
    ∷ case (numbered 2) (short 9 7 3 0 2 4 0 0) (told unlike) ∷ case (numbered 2) (short 9 7 0 0 1 4 0 0) (told unlike)
    ∷ case (numbered 2) (short 9 7 0 0 2 8 0 0) (told unlike)
    -- P: two alike structs differ; a struct's number equals itself, and against an unknown kind is no
    ∷ case (numbered 3) (numbered 4) (told unlike) ∷ case (numbered 3) (numbered 3) (told alike) ∷ case (numbered 3)
    (numbered 5) (told unlike)
    -- a number and the value of the same form
    ∷ case (numbered 0) (short 9 1 0 0 2 4 0 0) (told alike) ∷ case (numbered 0) (numbered 1) (told unlike)
    -- two numbers of one type are the same type, and so are pointers to them; arrays over them are not, nor arrays of
    -- other strides
    ∷ case (numbered 0) (numbered 7) (told alike) ∷ case (numbered 2) (short 9 6 7 0 0 0 0 0) (told alike)
    ∷ case (array 0 4) (array 7 4) (told unlike) ∷ case (array 0 4) (array 0 8) (told unlike) ∷ case (array 0 4)
    (array 0 4) (told alike)
    -- unknown kinds: identical is yes; else newer, also as a pointer's base, and where the two can't be equal
    ∷ case (numbered 5) (numbered 5) (told alike) ∷ case (numbered 6) (numbered 6) (told alike) ∷ case (numbered 0)
    (numbered 5) (newer nowhere)
    ∷ case (numbered 0) (numbered 6) (newer nowhere) ∷ case (numbered 6) (numbered 0) (newer nowhere)
    ∷ case (short 9 6 5 0 0 0 0 0) (numbered 6) (newer nowhere)
    -- an array over an unknown kind is not looked into
    ∷ case (short 9 8 5 0 2 0 0 0) (numbered 0) (told unlike)
    -- 5: a byte that must be zero, a kind that is unknown or a struct's, another family, two identical bad frames, a
    -- constant count of 0
    ∷ case (short 8 1 0 0 0 0 0 0) (numbered 0) (told field) ∷ case (numbered 0) (short 8 0 0 0 1 0 0 0) (told field)
    ∷ case (short 9 200 0 0 0 0 0 0) (numbered 0) (told field) ∷ case (short 9 9 0 0 1 0 0 0) (numbered 3) (told field)
    ∷ case (short 1 1 0 0 2 4 0 0) (numbered 0) (told field) ∷ case (short 9 1 0 0 6 4 0 0) (short 9 1 0 0 6 4 0 0)
    (told field)
    ∷ case (short 9 8 0 0 0 0 0 0) (numbered 0) (told field)
    -- 5: a width other than 1, 2, 4 and 8 (document 02, request 2) in each kind that holds a scalar, on either side,
    -- and of two identical frames
    ∷ case (short 9 1 0 0 2 3 0 0) (numbered 0) (told field) ∷ case (numbered 0) (short 9 2 3 0 2 0 0 0) (told field)
    ∷ case (short 9 3 2 2 2 5 0 0) (numbered 0) (told field) ∷ case (numbered 0) (short 9 4 8 8 2 7 0 0) (told field)
    ∷ case (short 9 5 0 0 2 16 0 0) (numbered 0) (told field) ∷ case (numbered 2) (short 9 7 0 0 2 255 0 0) (told field)
    ∷ case (short 9 1 0 0 2 3 0 0) (short 9 1 0 0 2 3 0 0) (told field)
    -- with the other three widths it is another type
    ∷ case (short 9 1 0 0 2 1 0 0) (numbered 0) (told unlike) ∷ case (short 9 1 0 0 2 2 0 0) (numbered 0) (told unlike)
    ∷ case (short 9 1 0 0 2 8 0 0) (numbered 0) (told unlike)
    -- 6: a number, a base or an override out of range; a left 6 comes before a right 5, and in one frame 5 before 6
    ∷ case (numbered 8) (numbered 8) (told index) ∷ case (short 9 6 8 0 0 0 0 0) (numbered 0) (told index)
    ∷ case (short 9 8 0 0 1 0 0 0) (numbered 0) (told index) ∷ case (numbered 8) (short 8 1 0 0 0 0 0 0) (told index)
    ∷ case (short 9 8 8 0 0 0 0 0) (numbered 0) (told field)
    ∷ []
