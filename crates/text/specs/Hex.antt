-- Document 01, "The file": a digit is one of 0 to 9 and a to f, lower case.
use Rattle.std.specs.Prelude.{ℕ, ◌+◌, ◌-◌, Bool, cond, ◌&&◌, ◌||◌, leb, ltb}

-- whether c is a digit: 48 to 57 are 0 to 9, and 97 to 102 are a to f
abbrev pub is_digit : ℕ → Bool
is_digit c = (leb 48 c && ltb c 58) || (leb 97 c && ltb c 103)

-- what a digit stands for
unfoldable pub digit_value : ℕ → ℕ
digit_value c = cond (ltb c 58) (c - 48) (c - 87)

-- the digit that stands for v, which is below 16
unfoldable pub digit_of : ℕ → ℕ
digit_of v = cond (ltb v 10) (48 + v) (87 + v)
