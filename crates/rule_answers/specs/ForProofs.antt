-- Not part of any public statement: for proofs and code only. At which frame each answer stands, and the answers that
-- the code can hold.
use Rattle.std.specs.Prelude.{ℕ, ◌<◌, ◌≡◌, List, length}
use Rattle.scan.specs.Lists.{build}
use Rattle.answers.specs.Answer.{Answer}
use Rattle.rule.specs.Answers.{Typed, Result}
use Rattle.rule.specs.Things.{see}
use Rattle.rule_rows.specs.declared.Pass.{Pass}
use Rattle.rule_rows.specs.Answered.{to_result}
use Rattle.rule_answers.specs.Outputs.{row_answer, outputs}

-- at which frame of what is handed back the answer of each of the first n rows stands: after all that is handed back of
-- the rows before it
abbrev pub places_of : Pass → List ℕ → ℕ → List ℕ
places_of pass fr n = build (λ (k : ℕ). length (outputs pass (see fr) k)) n

-- an answer that the code can hold
pub record Held (x : Result Typed) : Type 0 where
  pub answer : Answer
  pub is : x ≡ to_result answer

-- so is that of each of the first n rows
abbrev pub AllHeld : Pass → List ℕ → ℕ → Type 0
AllHeld pass fr n = (k : ℕ) → k < n → Held (row_answer pass (see fr) k)
