-- Worked ranges: small files by their frames, least and greatest counts, and what is said of each type, worked out by
-- hand from document 02's request 6 and WGSL's memory layout section. A line says alignment, least and greatest size;
-- or a number and its place.
use Rattle.std.specs.Prelude.{ℕ, List, [], ◌∷◌, ◌++◌}
use Rattle.frames.specs.Written.{short}
use Rattle.rule_sizes.specs.Cases.{laid, array_frame, struct, member_frame}

-- FRAMES (document 01, "The file"), beside those of rule_sizes/specs/Cases.antt

abbrev f32 : List ℕ
f32 = short 1 1 0 0 2 4 0 0

abbrev f16 : List ℕ
f16 = short 1 1 0 0 2 2 0 0

abbrev bool : List ℕ
bool = short 1 1 0 0 3 1 0 0

abbrev vector : ℕ → List ℕ
vector size = short 1 2 size 0 2 4 0 0

-- by base, override and stride
abbrev pending : ℕ → ℕ → ℕ → List ℕ
pending base override stride = laid 1 8 base 1 override stride

abbrev dynamic : ℕ → ℕ → List ℕ
dynamic base stride = laid 1 8 base 2 0 stride

-- a BindingArray of pending size
abbrev binding : ℕ → ℕ → List ℕ
binding base override = laid 1 14 base 1 override 0

abbrev override : List ℕ
override = short 3 2 0 0 0 0 0 0

abbrev frames : List (List ℕ) → List ℕ
frames [] = []
frames (f ∷ l) = f ++ frames l

-- A CASE: a file, a table of least and one of greatest counts, and what is said of types 0, 1 and so on
pub record CountCase : Type 0 where
  pub file : List ℕ
  pub least : List ℕ
  pub greatest : List ℕ
  pub said : List (List ℕ)

abbrev case : List (List ℕ) → List ℕ → List ℕ → List (List ℕ) → CountCase
case f y z l = record { file = frames f; least = y; greatest = z; said = l }

-- two arrays over one override move together; offsets and the span of the file are not read; the type after the last
-- is number 6
abbrev together : CountCase
together =
    case (f32 ∷ pending 0 0 4 ∷ struct 0 2 1 ∷ member_frame 1 3 ∷ member_frame 1 2 ∷ override ∷ []) (1 ∷ []) (3 ∷ [])
    ((4 ∷ 4 ∷ 4 ∷ []) ∷ (4 ∷ 4 ∷ 12 ∷ []) ∷ (4 ∷ 8 ∷ 24 ∷ []) ∷ (6 ∷ 0 ∷ []) ∷ [])

-- a pending array between members: three components at 0, the array at 12, four components at the next multiple of 16;
-- the same without a pending array, where the same offsets are 43
abbrev between : CountCase
between =
    case
    (f32 ∷ vector 3 ∷ vector 4 ∷ pending 0 0 4 ∷ struct 0 3 0 ∷ struct 3 2 0 ∷ member_frame 1 0 ∷ member_frame 3 0
    ∷ member_frame 2 0
    ∷ member_frame 1 0 ∷ member_frame 2 0 ∷ override ∷ [])
    (1 ∷ []) (2 ∷ [])
    ((4 ∷ 4 ∷ 4 ∷ []) ∷ (16 ∷ 12 ∷ 12 ∷ []) ∷ (16 ∷ 16 ∷ 16 ∷ []) ∷ (4 ∷ 4 ∷ 8 ∷ []) ∷ (16 ∷ 32 ∷ 48 ∷ [])
    ∷ (43 ∷ 5 ∷ []) ∷ [])

-- a stride is the file's, at every count: of 12 for three components 43; of 6 for f16 good and not rounded up. A
-- struct at any depth is laid afresh
abbrev strides : CountCase
strides =
    case
    (f32 ∷ vector 3 ∷ pending 1 0 12 ∷ struct 0 1 16 ∷ f16 ∷ pending 4 0 6 ∷ struct 1 2 0 ∷ struct 3 2 0
    ∷ member_frame 2
    0
    ∷ member_frame 5 0 ∷ member_frame 0 0 ∷ member_frame 4 0
    ∷ member_frame 6 0 ∷ override ∷ [])
    (1 ∷ []) (3 ∷ [])
    ((4 ∷ 4 ∷ 4 ∷ []) ∷ (16 ∷ 12 ∷ 12 ∷ []) ∷ (43 ∷ 2 ∷ []) ∷ (43 ∷ 2 ∷ []) ∷ (2 ∷ 2 ∷ 2 ∷ []) ∷ (2 ∷ 6 ∷ 18 ∷ [])
    ∷ (4 ∷ 12 ∷ 24 ∷ []) ∷ (4 ∷ 16 ∷ 28 ∷ [])
    ∷ [])

-- the last end is rounded up to the struct's alignment
abbrev rounded : CountCase
rounded =
    case (f32 ∷ f16 ∷ pending 1 0 2 ∷ struct 0 2 0 ∷ member_frame 0 0 ∷ member_frame 2 0 ∷ override ∷ []) (1 ∷ [])
    (3 ∷ [])
    ((4 ∷ 4 ∷ 4 ∷ []) ∷ (2 ∷ 2 ∷ 2 ∷ []) ∷ (2 ∷ 2 ∷ 6 ∷ []) ∷ (4 ∷ 8 ∷ 12 ∷ []) ∷ [])

-- a struct without a pending array, inside one that has it, is measured as before
abbrev inside : CountCase
inside =
    case (f32 ∷ struct 0 1 6 ∷ pending 0 0 4 ∷ struct 1 2 0 ∷ member_frame 0 0 ∷ member_frame 2 0 ∷ member_frame 1 4
    ∷ override ∷ []) (1
    ∷ []) (1 ∷ [])
    ((4 ∷ 4 ∷ 4 ∷ []) ∷ (43 ∷ 1 ∷ []) ∷ (4 ∷ 4 ∷ 4 ∷ []) ∷ (43 ∷ 1 ∷ []) ∷ [])

-- 44 goes by the greatest size: one below 2 to the 30 elements of 4 bytes are just good, and one more member of a
-- struct laid afresh makes it 2 to the 32
abbrev huge : CountCase
huge =
    case (f32 ∷ pending 0 0 4 ∷ pending 0 1 4 ∷ struct 0 2 8 ∷ member_frame 1 0 ∷ member_frame 0 4 ∷ override ∷ override
    ∷ []) (1
    ∷ 1 ∷ []) (1073741823 ∷ 1073741824 ∷ [])
    ((4 ∷ 4 ∷ 4 ∷ []) ∷ (4 ∷ 4 ∷ 4294967292 ∷ []) ∷ (44 ∷ 2 ∷ []) ∷ (44 ∷ 3 ∷ []) ∷ [])

-- an array over a pending array, or over what holds one, is outside the list and is named itself, though the pending
-- one has 43
abbrev over : CountCase
over =
    case
    (f32 ∷ pending 0 0 3 ∷ array_frame 1 2 4 ∷ array_frame 2 2 8 ∷ pending 1 0 4 ∷ dynamic 1 4 ∷ array_frame 5 2 4
    ∷ struct
    0 1 4
    ∷ array_frame 7 2 4 ∷ member_frame 1 0
    ∷ override ∷ [])
    (2 ∷ []) (2 ∷ [])
    ((4 ∷ 4 ∷ 4 ∷ []) ∷ (43 ∷ 1 ∷ []) ∷ (42 ∷ 2 ∷ []) ∷ (42 ∷ 3 ∷ []) ∷ (42 ∷ 4 ∷ []) ∷ (42 ∷ 5 ∷ []) ∷ (42 ∷ 6 ∷ [])
    ∷ (43 ∷ 1 ∷ []) ∷ (42 ∷ 8 ∷ []) ∷ [])

-- outside the list as before: bool, a dynamic array, a BindingArray, of pending size too; what is over them rests on
-- them
abbrev outside : CountCase
outside =
    case
    (bool ∷ pending 0 0 4 ∷ f32 ∷ dynamic 2 4 ∷ pending 2 0 4 ∷ binding 4 0 ∷ array_frame 5 2 4 ∷ pending 5 0 4
    ∷ struct 0 2 4 ∷ member_frame 4 0 ∷ member_frame 3 0
    ∷ override ∷ [])
    (1 ∷ []) (2 ∷ [])
    ((42 ∷ 0 ∷ []) ∷ (42 ∷ 0 ∷ []) ∷ (4 ∷ 4 ∷ 4 ∷ []) ∷ (42 ∷ 3 ∷ []) ∷ (4 ∷ 4 ∷ 8 ∷ []) ∷ (42 ∷ 5 ∷ [])
    ∷ (42 ∷ 5 ∷ []) ∷ (42 ∷ 5 ∷ []) ∷ (42 ∷ 3 ∷ []) ∷ [])

-- 45: the lowest override at fault is named whatever type is asked for, though no array is over it, after number 6; a
-- least count above the greatest
abbrev unused : CountCase
unused =
    case (bool ∷ pending 0 0 4 ∷ override ∷ override ∷ override ∷ []) (1 ∷ 0 ∷ 0 ∷ []) (1 ∷ 5 ∷ 0 ∷ []) ((45 ∷ 1 ∷ [])
    ∷ (45 ∷ 1 ∷ []) ∷ (6 ∷ 0 ∷ []) ∷ [])

abbrev crossed : CountCase
crossed = case (f32 ∷ override ∷ override ∷ []) (3 ∷ 4 ∷ []) (3 ∷ 3 ∷ []) ((45 ∷ 1 ∷ []) ∷ (6 ∷ 0 ∷ []) ∷ [])

-- entries past the file's overrides are free
abbrev past : CountCase
past = case (f32 ∷ pending 0 0 8 ∷ override ∷ []) (2 ∷ 0 ∷ 9 ∷ []) (2 ∷ 0 ∷ 1 ∷ []) ((4 ∷ 4 ∷ 4 ∷ [])
    ∷ (4 ∷ 16 ∷ 16 ∷ []) ∷ [])

abbrev pub count_cases : List CountCase
count_cases = together ∷ between ∷ strides ∷ rounded ∷ inside ∷ huge ∷ over ∷ outside ∷ unused ∷ crossed ∷ past ∷ []
