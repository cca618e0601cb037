-- Not part of any public statement: for proofs and code only. What the code writes of some lines.
use Rattle.std.specs.Prelude.{ℕ, ◌≡◌, List, ◌++◌, length, drop}
use Rattle.rule_explain.specs.Explained.{Lines, all_of}

-- all lines, r bytes, are written at the front of a buffer o, and the other bytes stay
abbrev pub Shown : Lines → List ℕ → ℕ → List ℕ → Type 0
Shown l o r last = (r ≡ length (all_of l)) × (last ≡ all_of l ++ drop r o)
