-- Not part of any public statement: for proofs and code only. Pieces filled up with empty words.
use Rattle.std.specs.Prelude.{ℕ, zero, suc, List, [], ◌∷◌}
use Rattle.rule_explain.specs.Words as W

-- pieces, with empty words after them up to k
unfoldable pub filled : ℕ → List ℕ → List ℕ
filled zero l = l
filled (suc k) [] = W.none ∷ filled k []
filled (suc k) (p ∷ l) = p ∷ filled k l
