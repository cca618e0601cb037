-- Worked verdicts over one small file, written by hand from document 01 ("A compose's verdict", "Same type or not",
-- "Cases" P and "Likely errors") and the source's validate_compose. Each composed kind has every number that it can
-- have:
--   Vector, Matrix, Struct and Array of constant size: 0, 22 at a component, 31, 32, 33. They can be composed, so never
-- 30; their kind is
--   known, so never 22 at the composed type.
--   Array of pending or dynamic size, and every other known kind: 30 alone, before any component is come to.
--   an unknown kind: 22 at the composed type alone, before any component is come to.
-- What makes a component 22: in all four its row is newer; in Vector and Matrix its type is of unknown kind. In Array
-- and Struct, whose parts are compared, either side is of unknown kind or a pointer to one: the component's type, the
-- array's base, the member's type. In Vector and Matrix a pointer is 32 whatever its base, which is not looked into.
use Rattle.std.specs.Prelude.{ℕ, suc, ◌+◌, List, [], ◌∷◌, ◌++◌, length, replicate}
use Rattle.std.proofs.Math.Option.{Option, none, some}
use Rattle.frames.specs.Written.{full, short, plain_row, indexed, compose, part}

-- a verdict: number; expected (31) or component (22, 32, 33); given (31); compose row
abbrev judge : ℕ → ℕ → ℕ → ℕ → List ℕ
judge n first given row = full 11 n row 0 first 0 0 0 given 0

abbrev pass : ℕ → List ℕ
pass = judge 0 0 0

-- 22 at the composed type: hex ffffffff in b4-7
abbrev newer_type : ℕ → List ℕ
newer_type row = short 11 22 row 0 255 255 255 255

-- a compose: its type, the rows that are its components, and its verdict
pub record Composed : Type 0 where
  pub type : ℕ
  pub from : List ℕ
  pub verdict : ℕ → List ℕ

abbrev line : ℕ → List ℕ → (ℕ → List ℕ) → Composed
line t rows v = record { type = t; from = rows; verdict = v }

abbrev types : List ℕ
types =
    -- 0 to 5: f32, vec3 and vec4 of it, a matrix of 2 columns of 3 rows, an array of two f32, a struct of f32 and vec3
    short 1 1 0 0 2 4 0 0 ++ short 1 2 3 0 2 4 0 0 ++ short 1 2 4 0 2 4 0 0 ++ short 1 3 2 3 2 4 0 0
    ++ full 1 8 0 0 0 0 0 0 2 4
    ++ full 1 9 0 0 2 0 0 0 0 16
    -- 6 to 9: kind 200, a dynamic array of f32, u32, a pointer to type 6
    ++ short 1 200 0 0 0 0 0 0 ++ full 1 8 0 0 2 0 0 0 0 4 ++ short 1 1 0 0 1 4 0 0 ++ short 1 6 6 0 0 0 0 0
    -- 10 to 12: an array of two of type 6, one of two of type 9, a struct of types 6 and 9
    ++ full 1 8 6 0 0 0 0 0 2 4 ++ full 1 8 9 0 0 0 0 0 2 4 ++ full 1 9 2 0 2 0 0 0 0 8
    -- 13 to 21: a pending array and a binding array of f32, a cooperative matrix, an atomic, a value pointer, an image,
    -- a sampler, an acceleration structure, a ray query
    ++ full 1 8 0 0 1 0 0 0 0 4 ++ full 1 14 0 0 0 0 0 0 2 0 ++ short 1 4 8 16 2 4 2 0 ++ short 1 5 0 0 1 4 0 0
    ++ short 1 7 0 0 2 4 0 0
    ++ short 1 10 2 0 0 2 0 0 ++ short 1 11 0 0 0 0 0 0 ++ short 1 12 0 0 0 0 0 0 ++ short 1 13 0 0 0 0 0 0
    -- the members: types 0 and 1 of type 5, 6 and 9 of type 12; then an override, which type 13 names
    ++ short 2 0 0 0 0 0 0 0 ++ full 2 0 1 0 0 0 0 0 0 4 ++ short 2 0 6 0 0 0 0 0 ++ full 2 0 9 0 0 0 0 0 0 4
    ++ short 3 2 0 0 0 0 0 0

-- rows 0 to 7, from which the others are composed: f32, vec3, u32, type 6, a row of kind 200, a row that is refused
-- (number 10), a pointer to type 6, the struct of type 5
abbrev values : List ℕ
values = plain_row 4 0 ++ plain_row 4 1 ++ plain_row 4 8 ++ plain_row 4 6 ++ plain_row 200 0 ++ indexed 7 1 3
    ++ plain_row 4 9
    ++ plain_row 4 5

abbrev composes : List Composed
composes =
    -- VECTOR, of 4. P: from vec3 and scalar it passes, from two vec3 count 4 given 6
    line 2 (1 ∷ 0 ∷ []) pass
    ∷ line 2 (1 ∷ 1 ∷ []) (judge 31 4 6)
    -- the total is checked last, though it was over before: all are added up, and a wrong part is named
    ∷ line 2 (1 ∷ 0 ∷ 1 ∷ 1 ∷ []) (judge 31 4 10)
    ∷ line 2 (1 ∷ 1 ∷ 2 ∷ []) (judge 32 2 0)
    -- from nothing; from u32; from a pointer to an unknown kind
    ∷ line 2 [] (judge 31 4 0)
    ∷ line 2 (2 ∷ []) (judge 32 0 0)
    ∷ line 2 (6 ∷ []) (judge 32 0 0)
    -- from an unknown kind; from a newer row; from a refused one
    ∷ line 2 (3 ∷ []) (judge 22 0 0)
    ∷ line 2 (0 ∷ 4 ∷ []) (judge 22 1 0)
    ∷ line 2 (0 ∷ 5 ∷ []) (judge 33 1 0)
    -- MATRIX: from its columns; the count is checked first, whatever the components
    ∷ line 3 (1 ∷ 1 ∷ []) pass
    ∷ line 3 (1 ∷ []) (judge 31 2 1)
    ∷ line 3 (5 ∷ 4 ∷ 3 ∷ []) (judge 31 2 3)
    -- no column: f32, a pointer to an unknown kind
    ∷ line 3 (1 ∷ 0 ∷ []) (judge 32 1 0)
    ∷ line 3 (6 ∷ 1 ∷ []) (judge 32 0 0)
    -- an unknown kind; a newer row; a refused one
    ∷ line 3 (3 ∷ 1 ∷ []) (judge 22 0 0)
    ∷ line 3 (1 ∷ 4 ∷ []) (judge 22 1 0)
    ∷ line 3 (1 ∷ 5 ∷ []) (judge 33 1 0)
    -- ARRAY: from two f32; the count is checked first
    ∷ line 4 (0 ∷ 0 ∷ []) pass
    ∷ line 4 (5 ∷ 4 ∷ 3 ∷ []) (judge 31 2 3)
    -- another type; the number of a struct
    ∷ line 4 (0 ∷ 1 ∷ []) (judge 32 1 0)
    ∷ line 4 (7 ∷ 0 ∷ []) (judge 32 0 0)
    -- an unknown kind; a pointer to one; a newer row; a refused one
    ∷ line 4 (0 ∷ 3 ∷ []) (judge 22 1 0)
    ∷ line 4 (6 ∷ 0 ∷ []) (judge 22 0 0)
    ∷ line 4 (0 ∷ 4 ∷ []) (judge 22 1 0)
    ∷ line 4 (0 ∷ 5 ∷ []) (judge 33 1 0)
    -- over an unknown kind: rows of that very number pass without a look; f32 meets it; the number of a struct is
    -- another type without a look
    ∷ line 10 (3 ∷ 3 ∷ []) pass
    ∷ line 10 (3 ∷ 0 ∷ []) (judge 22 1 0)
    ∷ line 10 (7 ∷ 3 ∷ []) (judge 32 0 0)
    -- over pointers to an unknown kind: the same
    ∷ line 11 (6 ∷ 6 ∷ []) pass
    ∷ line 11 (6 ∷ 0 ∷ []) (judge 22 1 0)
    ∷ line 11 (7 ∷ 6 ∷ []) (judge 32 0 0)
    -- STRUCT: from its members; the count is checked first
    ∷ line 5 (0 ∷ 1 ∷ []) pass
    ∷ line 5 (0 ∷ []) (judge 31 2 1)
    ∷ line 5 (5 ∷ 4 ∷ 3 ∷ []) (judge 31 2 3)
    -- another type than the second member's; the number of a struct
    ∷ line 5 (0 ∷ 0 ∷ []) (judge 32 1 0)
    ∷ line 5 (7 ∷ 1 ∷ []) (judge 32 0 0)
    -- an unknown kind; a pointer to one; a newer row; a refused one
    ∷ line 5 (3 ∷ 1 ∷ []) (judge 22 0 0)
    ∷ line 5 (0 ∷ 6 ∷ []) (judge 22 1 0)
    ∷ line 5 (0 ∷ 4 ∷ []) (judge 22 1 0)
    ∷ line 5 (0 ∷ 5 ∷ []) (judge 33 1 0)
    -- members of unknown kind, and a pointer to it: rows of these very numbers pass; f32 meets each; the number of a
    -- struct is another type
    ∷ line 12 (3 ∷ 6 ∷ []) pass
    ∷ line 12 (0 ∷ 6 ∷ []) (judge 22 0 0)
    ∷ line 12 (3 ∷ 0 ∷ []) (judge 22 1 0)
    ∷ line 12 (7 ∷ 6 ∷ []) (judge 32 0 0)
    -- AN UNKNOWN KIND, from nothing and from a refused row
    ∷ line 6 [] newer_type
    ∷ line 6 (5 ∷ []) newer_type
    -- WHAT CAN'T BE COMPOSED, whatever the components: a scalar, arrays not of constant size, a pointer to an unknown
    -- kind
    ∷ line 0 [] (judge 30 0 0)
    ∷ line 0 (0 ∷ []) (judge 30 0 0)
    ∷ line 7 (0 ∷ []) (judge 30 0 0)
    ∷ line 13 (5 ∷ []) (judge 30 0 0)
    ∷ line 9 (4 ∷ []) (judge 30 0 0)
    -- a binding array, a cooperative matrix, an atomic, a value pointer, an image, a sampler, an acceleration
    -- structure, a ray query
    ∷ line 14 (0 ∷ 0 ∷ []) (judge 30 0 0)
    ∷ line 15 [] (judge 30 0 0)
    ∷ line 16 [] (judge 30 0 0)
    ∷ line 17 [] (judge 30 0 0)
    ∷ line 18 [] (judge 30 0 0)
    ∷ line 19 [] (judge 30 0 0)
    ∷ line 20 [] (judge 30 0 0)
    ∷ line 21 [] (judge 30 0 0)
    ∷ []

-- the composes as rows, from component `first` on; and their components
abbrev rows_of : ℕ → List Composed → List ℕ
rows_of first [] = []
rows_of first (c ∷ cs) = compose c.type (length c.from) first ++ rows_of (first + length c.from) cs

abbrev parts : List ℕ → List ℕ
parts [] = []
parts (n ∷ ns) = part n ++ parts ns

abbrev parts_of : List Composed → List ℕ
parts_of [] = []
parts_of (c ∷ cs) = parts c.from ++ parts_of cs

abbrev verdicts_of : ℕ → List Composed → List (Option (List ℕ))
verdicts_of row [] = []
verdicts_of row (c ∷ cs) = some (c.verdict row) ∷ verdicts_of (suc row) cs

abbrev pub compose_file : List ℕ
compose_file = types ++ values ++ rows_of 0 composes ++ parts_of composes

-- the verdict of each row, none where it is no compose
abbrev pub wanted_verdicts : List (Option (List ℕ))
wanted_verdicts = replicate 8 none ++ verdicts_of 8 composes
