-- Not part of any public statement: for proofs and code only. The components of a compose, and the rule of its verdict
-- by its frame.
use Rattle.std.specs.Prelude.{ℕ, List}
use Rattle.ir.specs.declared.RowNumber.{RowNumber}
use Rattle.ir.specs.declared.ComponentNumber.{ComponentNumber}
use Rattle.frames.specs.declared.Frame.{Frame}
use Rattle.frames.specs.Bytes.{half, word}
use Rattle.archive.specs.declared.Starts.{Starts}
use Rattle.archive.specs.ForProofs.{component_in}
use Rattle.rule.specs.Answers.{Judgement}
use Rattle.rule.specs.Things.{listed}
use Rattle.rule.specs.Rule.{Rule}
use Rattle.rule_compose.specs.Verdict.{verdict}

-- the components of a compose
abbrev pub parts_in : List ℕ → Starts → ComponentNumber → ℕ → List RowNumber
parts_in fr s first n = listed (λ (i : ℕ). component_in fr s first i) n

-- the rule of the verdict on the compose row whose frame is f
abbrev pub compose_rule : List ℕ → Starts → Frame → Rule Judgement
compose_rule fr s f = verdict (record { 0 = half f 2 }) (parts_in fr s (record { 0 = word f 12 }) (half f 4))
