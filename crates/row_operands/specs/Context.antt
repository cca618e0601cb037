-- Not part of any public statement: for proofs and code only. What a rule gives over what it reads, a `ResolveContext`.
use Rattle.std.specs.Prelude.{ℕ, List}
use Rattle.ir.specs.declared.RowNumber.{RowNumber}
use Rattle.answers.specs.Answer.{Answer}
use Rattle.rule.specs.Answers.{Typed, Judgement, Result}
use Rattle.rule.specs.Rule.{Rule}
use Rattle.rule_rows.specs.OverBuffer.{answer_in, ruled, judged_by}
use Rattle.row_operands.specs.Looked.{Looked}
use Rattle.row_operands.specs.Past.{looked_in}
use Rattle.row_operands.specs.declared.ResolveContext.{ResolveContext}

-- the answer of an earlier row
abbrev pub earlier : ResolveContext → RowNumber → Answer
earlier ctx n = answer_in ctx.answers.now ctx.places.now n

-- an operand, read and looked into by row `here`
abbrev pub looks : ResolveContext → RowNumber → RowNumber → Looked
looks ctx here n = looked_in ctx.frames.now ctx.starts ctx.answers.now ctx.places.now here n

-- a row's answer by a rule
abbrev pub rules : ResolveContext → Rule Typed → Result Typed
rules ctx r = ruled ctx.frames.now ctx.starts ctx.answers.now ctx.places.now r

-- a compose's verdict by a rule
abbrev pub judges : ResolveContext → Rule Judgement → Result Judgement
judges ctx r = judged_by ctx.frames.now ctx.starts ctx.answers.now ctx.places.now r
