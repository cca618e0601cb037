-- How the frames of worked cases are written, by their bytes (document 01, "The file" and its end, "Out").
use Rattle.std.specs.Prelude.{ℕ, List, [], ◌∷◌}

-- a frame by its first eight bytes, byte 8 and byte 12; the others are zero
abbrev pub full : ℕ → ℕ → ℕ → ℕ → ℕ → ℕ → ℕ → ℕ → ℕ → ℕ → List ℕ
full b0 b1 b2 b3 b4 b5 b6 b7 b8 b12 = b0 ∷ b1 ∷ b2 ∷ b3 ∷ b4 ∷ b5 ∷ b6 ∷ b7 ∷ b8 ∷ 0 ∷ 0 ∷ 0 ∷ b12 ∷ 0 ∷ 0 ∷ 0 ∷ []

-- a frame by its first eight bytes
abbrev pub short : ℕ → ℕ → ℕ → ℕ → ℕ → ℕ → ℕ → ℕ → List ℕ
short b0 b1 b2 b3 b4 b5 b6 b7 = full b0 b1 b2 b3 b4 b5 b6 b7 0 0

-- a row of a kind, by the operand, item or type in b2; by byte 6 too; by the index in b12 too; a Binary row by
-- operator, left and right
abbrev pub plain_row : ℕ → ℕ → List ℕ
plain_row kind n = short 4 kind n 0 0 0 0 0

abbrev pub marked : ℕ → ℕ → ℕ → List ℕ
marked kind n b6 = short 4 kind n 0 0 0 b6 0

abbrev pub indexed : ℕ → ℕ → ℕ → List ℕ
indexed kind n i = full 4 kind n 0 0 0 0 0 0 i

abbrev pub binary : ℕ → ℕ → ℕ → List ℕ
binary op l r = short 4 18 l 0 r 0 op 0

-- a compose of a type from so many components, the first of them given; a component, by its row
abbrev pub compose : ℕ → ℕ → ℕ → List ℕ
compose t n first = full 4 5 t 0 n 0 0 0 0 first

abbrev pub part : ℕ → List ℕ
part n = short 5 0 n 0 0 0 0 0

-- an answer: a type number; a scalar or a vector by value; a refusal with its place; with its index too
abbrev pub numbered : ℕ → List ℕ
numbered n = short 8 0 n 0 0 0 0 0

abbrev pub scalar : ℕ → ℕ → List ℕ
scalar kind width = short 9 1 0 0 kind width 0 0

abbrev pub vector : ℕ → ℕ → ℕ → List ℕ
vector size kind width = short 9 2 size 0 kind width 0 0

abbrev pub refusal : ℕ → ℕ → List ℕ
refusal n place = short 10 n place 0 0 0 0 0

abbrev pub bound : ℕ → ℕ → List ℕ
bound place i = short 10 10 place 0 i 0 0 0
