-- Not part of any public statement: for proofs and code only. Rules run over the answer buffer: earlier answers as they
-- stand there, by a table of places (document 01, "What must change shape": the `past` closure is a part of the answer
-- buffer).
use Rattle.answers.specs.declared.Unresolved.TheVariants as Un
use Rattle.std.specs.Prelude.{ℕ, cond, List, ltb, length, get_or, Err}
use Rattle.ir.specs.declared.RowNumber.{RowNumber}
use Rattle.answers.specs.Answer.{Answer}
use Rattle.answers.specs.declared.Refusal.TheVariants.{MissingSpecialType}
use Rattle.frames.specs.Bytes.{frame_at}
use Rattle.frames.specs.ForProofs.{answer_of}
use Rattle.archive.specs.declared.Starts.{Starts}
use Rattle.rule.specs.Answers.{Typed, Judgement, Result, newer}
use Rattle.rule.specs.Things.{see_in}
use Rattle.rule.specs.Rule.{Rule, Answers, run}
use Rattle.rule_rows.specs.Answered.{to_result}

-- row n's answer, at the frame that the table of places has for it; a row that is not typed yet is a fixed refusal,
-- `absent` (rule/specs/InOrder.antt)
unfoldable pub answer_in : List ℕ → List ℕ → RowNumber → Answer
answer_in answers places n = cond (ltb n.0 (length places)) (answer_of (frame_at answers (get_or places n.0 0)))
    (Err (Un.Refused MissingSpecialType))

-- the answers that a rule reads there
abbrev pub past_in : List ℕ → List ℕ → Answers
past_in answers places n = to_result (answer_in answers places n)

-- what our reader gives by a rule of a row: over the frames of a file, where its families begin, and the answers so far
-- with their places
unfoldable pub ruled : List ℕ → Starts → List ℕ → List ℕ → Rule Typed → Result Typed
ruled fr s answers places rule = run (see_in fr s) (past_in answers places) newer rule

-- and by a rule of a verdict
unfoldable pub judged_by : List ℕ → Starts → List ℕ → List ℕ → Rule Judgement → Result Judgement
judged_by fr s answers places rule = run (see_in fr s) (past_in answers places) newer rule
