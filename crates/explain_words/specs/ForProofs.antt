-- Not part of any public statement: for proofs and code only. Bytes and pieces put into a buffer, and the lines of
-- worked cases.
use Rattle.std.specs.Prelude.{ℕ, ◌+◌, ◌*◌, List, [], ◌∷◌, ◌++◌, cond, leb, length, take, drop}
use Prim.Native.String.{String}
use Rattle.rule_explain.specs.Words.{characters}
use Rattle.rule_explain.specs.Lines.{spelled}

-- lines, each with its line feed
abbrev pub lines : List String → List ℕ
lines [] = []
lines (s ∷ ss) = characters s ++ 10 ∷ lines ss

-- a buffer o with bytes b in it from a place on
abbrev pub written : List ℕ → ℕ → List ℕ → List ℕ
written o at b = take at o ++ b ++ drop (at + length b) o

-- the same where there is room, else the buffer as it was
unfoldable pub put_in : List ℕ → ℕ → List ℕ → List ℕ
put_in o at b = cond (leb (at + length b) (length o)) (written o at b) o

-- pieces written where 48 bytes a piece are left, else the buffer as it was
unfoldable pub put_pieces : List ℕ → ℕ → List ℕ → List ℕ
put_pieces o at ps = cond (leb (at + 48 * length ps) (length o)) (written o at (spelled ps)) o

-- and the place after them
unfoldable pub place_after : List ℕ → ℕ → List ℕ → ℕ
place_after o at ps = cond (leb (at + 48 * length ps) (length o)) (at + length (spelled ps)) at
