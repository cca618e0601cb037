-- Frames and what their lines say, written by hand from docs/EXPLAIN.md: answers and verdicts, faults, sizes.
use Rattle.std.specs.Prelude.{ℕ, List, [], ◌∷◌}
use Prim.Native.String.{String}
use Rattle.frames.specs.Written.{full, short, refusal}

-- what is handed back of row 5, as a frame, and its line
abbrev pub answer_cases : List (List ℕ × String)
answer_cases =
    (short 9 3 3 2 2 4 0 0, "row 5  mat3x2<f32>\n")
    ∷ (short 9 7 2 0 0 4 4 3, "row 5  value_ptr<storage, vec2<i32>, read_write>\n")
    ∷ (short 9 4 8 16 2 4 1 0, "row 5  coop_mat8x16<f32, B>\n")
    ∷ (short 9 10 2 0 0 2 0 0, "row 5  texture_2d<f32>\n")
    ∷ (short 10 10 3 0 7 0 0 0, "row 5  refused 10 bound: operand row 3, index 7\n")
    ∷ (full 11 31 5 0 4 0 0 0 6 0, "row 5  verdict: 31 count: expected 4, given 6\n") ∷ []

-- the fault of a file, by its number and place, and its line
abbrev pub fault_cases : List (List ℕ × String)
fault_cases = (refusal 5 1, "line 2: number 5, field: a byte is outside its values\n") ∷ []

-- what type 0 fills, as a frame, and its line; type 0 is a vector of three floats
abbrev pub size_cases : List (List ℕ × String)
size_cases =
    (full 12 0 0 0 16 0 0 0 12 0, "type 0  vec3<f32>  align 16, size 12\n")
    ∷ (full 13 0 0 0 4 0 0 0 8 20, "type 0  vec3<f32>  align 4, size 8 to 20\n")
    ∷ (refusal 43 8, "type 0  vec3<f32>  refused 43 misplaced: type 8\n") ∷ []

-- the file of that type
abbrev pub vector_file : List ℕ
vector_file = short 1 2 3 0 2 4 0 0
