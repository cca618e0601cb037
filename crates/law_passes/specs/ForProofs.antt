-- Not part of any public statement: for proofs and code only. Files that tell the passes apart.
use Rattle.std.specs.Prelude.{ℕ, List, ◌++◌}
use Rattle.text.specs.Lines.{text_of}
use Rattle.frames.specs.Written.{short, plain_row, indexed, binary}

-- f32, vec2<f32>, a zero value of each, and their sum
abbrev pub scalar_plus_vector : List ℕ
scalar_plus_vector = text_of
    (short 1 1 0 0 2 4 0 0 ++ short 1 2 2 0 2 4 0 0 ++ plain_row 4 0 ++ plain_row 4 1 ++ binary 0 0 1) 5

-- the same frames, and component 1 of the sum
abbrev pub index_of_sum : List ℕ
index_of_sum =
    short 1 1 0 0 2 4 0 0 ++ short 1 2 2 0 2 4 0 0 ++ plain_row 4 0 ++ plain_row 4 1 ++ binary 0 0 1 ++ indexed 7 2 1
