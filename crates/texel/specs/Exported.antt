-- What the exported function returns of a texel, and what it leaves in its out-slice (document 02, request 1; the bytes
-- are a choice, docs/DECISIONS.md).
use Rattle.std.specs.Prelude.{ℕ, ◌/◌, ◌%◌, cond, List, ◌∷◌, ltb, length, drop}
use Rattle.answers.specs.Numbers.{SaidOne, asked, instead}

-- 0 where a texel is given, else the number
abbrev pub texel_number : SaidOne ℕ → ℕ
texel_number (asked t) = 0
texel_number (instead r) = r.number

-- a texel at the front of a slice, as it stands in memory: two bytes, low byte first. No byte is changed where none is
-- given
abbrev pub texel_put : List ℕ → SaidOne ℕ → List ℕ
texel_put out (asked t) = t % 256 ∷ t / 256 ∷ drop 2 out
texel_put out (instead r) = out

-- what holds of an out-slice of fewer than 2 bytes, a lent buffer too small, else what holds of one that has room
abbrev pub by_texel_room : {A : Type 0} → List ℕ → A → A → A
by_texel_room out short enough = cond (ltb (length out) 2) short enough
