-- Worked cases of the law over one small text, written by hand from document 01 ("A row's type", "Same type or not")
-- and document 02, request 13: answers in groups, in two orders; comparisons; parts of a base.
use Rattle.answers.specs.declared.CompareError.TheVariants as Ce
use Rattle.std.specs.Prelude.{ℕ, List, [], ◌∷◌, ◌++◌, Ok, Err, true, false}
use Rattle.std.proofs.Math.Option.{Option, none, some}
use Rattle.answers.specs.Asked.{Sameness}
use Rattle.text.specs.Lines.{text_of}
use Rattle.frames.specs.declared.Frame.{Frame}
use Rattle.frames.specs.Bytes.{frame_at}
use Rattle.frames.specs.Written.{full, short, numbered}

-- THE FILE. Types 0 to 18: f32; f32 again; vec3 of it; pointers in Function to types 0, 1 and 2; a matrix of 3 columns
-- and 2 rows; the same again; pointers to both; dynamic arrays of type 0 with stride 4, of type 0 with stride 8, and of
-- type 1 with stride 4; two alike structs; kind 200; kind 200 again; two alike pointers to type 15. Then the member.
abbrev pub grouped_file : List ℕ
grouped_file =
    short 1 1 0 0 2 4 0 0 ++ short 1 1 0 0 2 4 0 0 ++ short 1 2 3 0 2 4 0 0
    ++ short 1 6 0 0 0 0 0 0 ++ short 1 6 1 0 0 0 0 0 ++ short 1 6 2 0 0 0 0 0
    ++ short 1 3 3 2 2 4 0 0 ++ short 1 3 3 2 2 4 0 0 ++ short 1 6 6 0 0 0 0 0 ++ short 1 6 7 0 0 0 0 0
    ++ full 1 8 0 0 2 0 0 0 0 4 ++ full 1 8 0 0 2 0 0 0 0 8 ++ full 1 8 1 0 2 0 0 0 0 4
    ++ full 1 9 0 0 1 0 0 0 0 4 ++ full 1 9 0 0 1 0 0 0 0 4
    ++ short 1 200 0 0 0 0 0 0 ++ short 1 200 0 0 0 0 0 0 ++ short 1 6 15 0 0 0 0 0 ++ short 1 6 15 0 0 0 0 0
    ++ short 2 0 0 0 0 0 0 0

abbrev pub text : List ℕ
text = text_of grouped_file 20

-- ANSWERS: a type by its number; the values of some; a refusal, which a comparison meets with 5
abbrev frame : List ℕ → Frame
frame l = frame_at l 0

abbrev type : ℕ → Frame
type n = frame (numbered n)

-- a pointer in Function to a type, a value pointer by its size in a space, a dynamic array of a type with a stride
abbrev pointer : ℕ → Frame
pointer b = frame (short 9 6 b 0 0 0 0 0)

abbrev value_pointer : ℕ → ℕ → Frame
value_pointer size space = frame (short 9 7 size 0 2 4 space 0)

abbrev array : ℕ → ℕ → Frame
array b stride = frame (full 9 8 b 0 2 0 0 0 0 stride)

abbrev f32 : Frame
f32 = frame (short 9 1 0 0 2 4 0 0)

abbrev refusal : Frame
refusal = frame (short 10 10 0 0 3 0 0 0)

-- an answer of a list with its group there
pub record Grouped : Type 0 where
  pub answer : Frame
  pub first : Option Frame

abbrev in_group : Frame → Frame → Grouped
in_group a x = record { answer = a; first = some x }

abbrev alone : Frame → Grouped
alone a = in_group a a

abbrev ungrouped : Frame → Grouped
ungrouped a = record { answer = a; first = none }

-- GROUPS, in one order
abbrev pub forward : List Grouped
forward =
    -- a pointer to a scalar type, by its number or as a value, to either of two numbers of one type; the value pointer
    alone (type 3) ∷ in_group (value_pointer 0 0) (type 3) ∷ in_group (type 4) (type 3) ∷ in_group (pointer 1) (type 3)
    -- a type under two numbers and its value
    ∷ alone (type 0) ∷ in_group (type 1) (type 0) ∷ in_group f32 (type 0)
    -- a pointer to a vector; a value pointer in another space
    ∷ alone (value_pointer 3 0) ∷ in_group (type 5) (value_pointer 3 0) ∷ alone (value_pointer 0 1)
    -- a matrix under two numbers; pointers to the one and to the other, which differ
    ∷ alone (type 6) ∷ in_group (type 7) (type 6) ∷ alone (type 8) ∷ alone (type 9) ∷ in_group (pointer 6) (type 8)
    -- arrays of another stride, and over the other number of one type
    ∷ alone (type 10) ∷ alone (type 11) ∷ alone (type 12) ∷ in_group (array 0 4) (type 10)
    -- a refusal; structs that are alike; the first of them again
    ∷ ungrouped refusal ∷ alone (type 13) ∷ alone (type 14) ∷ in_group (type 13) (type 13)
    -- unknown kinds, and pointers to one: each with identical answers alone
    ∷ alone (type 15) ∷ alone (type 16) ∷ in_group (type 15) (type 15) ∷ alone (type 17) ∷ alone (type 18)
    ∷ alone (pointer 15)
    ∷ []

-- the same answers in the reverse order: other firsts, the same groups
abbrev pub backward : List Grouped
backward =
    alone (pointer 15) ∷ alone (type 18) ∷ alone (type 17)
    ∷ alone (type 15) ∷ alone (type 16) ∷ in_group (type 15) (type 15)
    ∷ alone (type 13) ∷ alone (type 14) ∷ in_group (type 13) (type 13) ∷ ungrouped refusal
    ∷ alone (array 0 4) ∷ alone (type 12) ∷ alone (type 11) ∷ in_group (type 10) (array 0 4)
    ∷ alone (pointer 6) ∷ alone (type 9) ∷ in_group (type 8) (pointer 6) ∷ alone (type 7) ∷ in_group (type 6) (type 7)
    ∷ alone (value_pointer 0 1) ∷ alone (type 5) ∷ in_group (value_pointer 3 0) (type 5)
    ∷ alone f32 ∷ in_group (type 1) f32 ∷ in_group (type 0) f32
    ∷ alone (pointer 1) ∷ in_group (type 4) (pointer 1) ∷ in_group (value_pointer 0 0) (pointer 1)
    ∷ in_group (type 3) (pointer 1)
    ∷ []

-- COMPARISONS
pub record Pair : Type 0 where
  pub left : Frame
  pub right : Frame
  pub outcome : Sameness

abbrev pair : Frame → Frame → Sameness → Pair
pair l r o = record { left = l; right = r; outcome = o }

abbrev pub pairs : List Pair
pairs =
    -- types 6 and 7 are the same, pointers to them are not; types 0 and 1 are, arrays over them are not
    pair (type 6) (type 7) (Ok true) ∷ pair (type 8) (type 9) (Ok false)
    ∷ pair (type 0) (type 1) (Ok true) ∷ pair (type 10) (type 12) (Ok false) ∷ pair (type 10) (type 11) (Ok false)
    -- alike structs, and a struct against an unknown kind
    ∷ pair (type 13) (type 14) (Ok false) ∷ pair (type 13) (type 15) (Ok false) ∷ pair (type 15) (type 13) (Ok false)
    -- two that are the same compare alike with a third: no, 22, 5 and 6
    ∷ pair (type 3) (value_pointer 0 0) (Ok true) ∷ pair (type 3) f32 (Ok false) ∷ pair (value_pointer 0 0) f32
    (Ok false)
    ∷ pair (type 3) (type 15) (Err Ce.Newer) ∷ pair (value_pointer 0 0) (type 15) (Err Ce.Newer)
    ∷ pair (type 3) refusal (Err Ce.Field) ∷ pair (value_pointer 0 0) refusal (Err Ce.Field)
    ∷ pair (type 3) (type 19) (Err Ce.Index) ∷ pair (value_pointer 0 0) (type 19) (Err Ce.Index)
    -- where two give 22 they need not: types 15 and 16 against type 15
    ∷ pair (type 15) (type 16) (Err Ce.Newer) ∷ pair (type 15) (type 15) (Ok true) ∷ pair (type 16) (type 15)
    (Err Ce.Newer)
    ∷ pair (type 17) (type 18) (Err Ce.Newer) ∷ pair (type 17) (pointer 15) (Err Ce.Newer)
    -- of two that get 5 and 6 the left one's is given, so there the order does matter
    ∷ pair refusal (type 19) (Err Ce.Field) ∷ pair (type 19) refusal (Err Ce.Index)
    ∷ []

-- PARTS: the base's answer and an index; what Access and AccessIndex give
pub record Part : Type 0 where
  pub base : Frame
  pub index : ℕ
  pub access : Frame
  pub access_index : Frame

-- the same from both; number 10 from the second, with the base's row 0 and the index; two others
abbrev both : Frame → ℕ → Frame → Part
both b i x = record { base = b; index = i; access = x; access_index = x }

abbrev bound : Frame → ℕ → Frame → Part
bound b i x = record { base = b; index = i; access = x; access_index = frame (short 10 10 0 0 i 0 0 0) }

abbrev other : Frame → ℕ → Frame → Frame → Part
other b i x y = record { base = b; index = i; access = x; access_index = y }

-- refusals of a number with b2 and b8; 22 at the row that looks, which is row 1
abbrev refuse : ℕ → ℕ → ℕ → Frame
refuse number b2 b8 = frame (full 10 number b2 0 0 0 0 0 b8 0)

abbrev pub parts : List Part
parts =
    -- a vector and a matrix: a matrix is bounded by its columns, and gives its rows
    both (type 2) 2 f32 ∷ bound (type 2) 3 f32
    ∷ both (type 6) 2 (frame (short 9 2 2 0 2 4 0 0)) ∷ bound (type 6) 3 (frame (short 9 2 2 0 2 4 0 0))
    -- pointers to them, and a value pointer to a vector
    ∷ both (type 5) 2 (value_pointer 0 0) ∷ bound (type 5) 3 (value_pointer 0 0)
    ∷ both (type 8) 2 (value_pointer 2 0) ∷ bound (type 8) 3 (value_pointer 2 0)
    ∷ both (value_pointer 3 1) 2 (value_pointer 0 1) ∷ bound (value_pointer 3 1) 3 (value_pointer 0 1)
    -- arrays and binding arrays, which are not bounded: values that no rule makes, of 2 elements; an array and a
    -- pointer
    ∷ both (frame (full 9 8 1 0 0 0 0 0 2 4)) 9 (type 1) ∷ both (frame (full 9 14 6 0 0 0 0 0 2 0)) 9 (type 6)
    ∷ both (type 12) 9 (type 1) ∷ both (pointer 12) 9 (pointer 1)
    -- a struct and a pointer to one: Access is refused, and AccessIndex gives the member
    ∷ other (type 13) 0 (refuse 11 0 0) (type 0) ∷ other (pointer 13) 0 (refuse 12 13 0) (pointer 0)
    -- no parts, or not known
    ∷ other f32 0 (refuse 11 0 0) (refuse 11 0 1) ∷ other (type 3) 0 (refuse 12 0 0) (refuse 12 0 1)
    ∷ other (type 15) 0 (refuse 22 1 0) (refuse 22 1 0) ∷ other (type 17) 0 (refuse 22 1 0) (refuse 22 1 0)
    ∷ []
