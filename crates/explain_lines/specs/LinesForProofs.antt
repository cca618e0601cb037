-- Not part of any public statement: for proofs and code only. A line made in a buffer.
use Rattle.std.specs.Prelude.{ℕ, cond, List, ltb, length}
use Rattle.explain_words.specs.ForProofs.{written}

-- a line made at the front of a buffer of at least 1,296 bytes, which are enough for any: 27 pieces of at most 48
-- bytes. A smaller buffer stays as it was.
unfoldable pub made_in : List ℕ → List ℕ → List ℕ
made_in o l = cond (ltb (length o) 1296) o (written o 0 l)

-- and its length
unfoldable pub made_long : List ℕ → List ℕ → ℕ
made_long o l = cond (ltb (length o) 1296) 0 (length l)
