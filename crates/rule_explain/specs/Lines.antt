-- A line for people (docs/EXPLAIN.md) is a list of pieces. A piece is a number: below 4096 it is a word of the table,
-- else it is a number in decimal. Document 01 prints frames and has no such lines.
use Rattle.std.specs.Prelude.{ℕ, zero, suc, ◌+◌, ◌-◌, ◌/◌, ◌%◌, cond, List, [], ◌∷◌, ◌++◌, ltb}
use Rattle.rule_explain.specs.Words.{word_bytes}

-- the piece that is the number n
abbrev pub num : ℕ → ℕ
num n = 4096 + n

-- the last k decimal digits of n, without zeros in front
unfoldable pub digits : ℕ → ℕ → List ℕ
digits zero n = []
digits (suc k) n = cond (ltb n 10) [] (digits k (n / 10)) ++ (48 + n % 10) ∷ []

-- n in decimal: every number of a line is below 2^32, so that ten digits are enough
abbrev pub decimal : ℕ → List ℕ
decimal n = digits 10 n

-- the bytes of a piece
unfoldable pub piece_bytes : ℕ → List ℕ
piece_bytes p = cond (ltb p 4096) (word_bytes p) (decimal (p - 4096))

-- the bytes of pieces, one after the other
unfoldable pub spelled : List ℕ → List ℕ
spelled [] = []
spelled (p ∷ ps) = piece_bytes p ++ spelled ps
