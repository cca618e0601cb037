-- Frames that are handed back, with their numbers moved (document 02, requests 12 and 14): the type that an answer
-- names or a value rests on, the row or the type that a refusal has as its place, the argument that 19 did not find,
-- the row of a verdict. Nothing else of them is a number that moves.
use Rattle.std.specs.Prelude.{ℕ, cond, List, [], ◌∷◌, eqb, get_or}
use Rattle.ir.specs.Numbers.{type_kind_of}
use Rattle.frames.specs.declared.Frame.{Frame}
use Rattle.frames.specs.Bytes.{byte}
use Rattle.law_moved.specs.Moves.{Moves}
use Rattle.law_moved.specs.Frames.{Spot, two, four, types, arguments, rows, type_numbers, moved_in}

-- a refusal's, by its number: the place of 10, 11, 13 to 16 and 22 is a row, that of 12 a type; 19 has an argument's
-- index
abbrev pub refusal_numbers : ℕ → List Spot
refusal_numbers n =
    get_or
    ([] ∷ [] ∷ [] ∷ [] ∷ [] ∷ [] ∷ [] ∷ [] ∷ [] ∷ [] ∷ (two rows 2 ∷ []) ∷ (two rows 2 ∷ []) ∷ (two types 2 ∷ [])
    ∷ (two rows 2 ∷ []) ∷ (two rows 2 ∷ []) ∷ (two rows 2 ∷ []) ∷ (two rows 2 ∷ []) ∷ [] ∷ []
    ∷ (four arguments 4 ∷ []) ∷ [] ∷ [] ∷ (two rows 2 ∷ []) ∷ [])
    n []

-- by the family: a type's number 8, a value 9, laid as a type, a refusal 10, a verdict 11
abbrev pub out_numbers_by : ℕ → Frame → List Spot
out_numbers_by family f =
    cond (eqb family 8) (two types 2 ∷ []) (cond (eqb family 9) (type_numbers (type_kind_of (byte f 1)) f)
    (cond (eqb family 10) (refusal_numbers (byte f 1)) (cond (eqb family 11) (two rows 2 ∷ []) [])))

-- the frame with its numbers moved
unfoldable pub moved_out : Moves → Frame → Frame
moved_out m f = moved_in m (out_numbers_by (byte f 0) f) f
