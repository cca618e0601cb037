-- `resolve`: each arm is what its row's function ensures.
use Prim.Native.Nat.{ℕ}
use mathlib.Core.Path.{◌≡◌, sym, ap, ◌∙◌}
use mathlib.Core.List.{List}
use Rattle.ir.specs.declared.RowNumber.{RowNumber}
use Rattle.ir.specs.declared.Expression.{Expression}
use Rattle.answers.specs.Answer.{Answer}
use Rattle.archive.specs.declared.Starts.{Starts}
use Rattle.rule.specs.Answers.{Typed, Result, told}
use Rattle.rule.specs.Rule.{done}
use Rattle.rule_rows.specs.declared.Pass.{Pass}
use Rattle.rule_rows.specs.Steps.{same_as}
use Rattle.rule.specs.Things.{shown}
use Rattle.rule_rows.specs.Answered.{to_result}
use Rattle.rule_rows.specs.OverBuffer.{answer_in, ruled}
use Rattle.row_operands.specs.Past.{ruled_shown}
use Rattle.row_operands.proofs.Steps.{same-run, done-run}
use Rattle.row_typifier.proofs.resolve.resolve.Goals as goal

-- an arm: the expression is d, and of d the answer is x
arm : (pass : Pass) (fr : List ℕ) (s : Starts) (an pl : List ℕ) (here : RowNumber) {x : Result Typed} {e d : Expression}
    → e ≡ d
    → x ≡ ruled_shown pass fr s an pl here (shown fr s d) → x ≡ ruled_shown pass fr s an pl here (shown fr s e)
arm pass fr s an pl here h q = q ∙ sym (ap (λ (e : Expression). ruled_shown pass fr s an pl here (shown fr s e)) h)

-- a rule that reads nothing
ends : (fr : List ℕ) (s : Starts) (an pl : List ℕ) {x : Result Typed} {t : Typed} → x ≡ told t → x
    ≡ ruled fr s an pl (done t)
ends fr s an pl q = q ∙ sym (done-run fr s an pl _)

-- a rule that gives its operand's answer
read : (fr : List ℕ) (s : Starts) (an pl : List ℕ) (n : RowNumber) {a : Answer} → a ≡ answer_in an pl n
    → to_result a ≡ ruled fr s an pl (same_as n)
read fr s an pl n q = ap to_result q ∙ sym (same-run fr s an pl n)

pub returns-in-Literal : goal.returns-in-Literal
returns-in-Literal c =
    arm _ _ _ _ _ _ c.in-Literal.is (ends _ _ _ _ c.literal.ensures)

pub returns-in-Constant : goal.returns-in-Constant
returns-in-Constant c =
    arm _ _ _ _ _ _ c.in-Constant.is (ends _ _ _ _ c.declared.ensures)

pub returns-in-Override : goal.returns-in-Override
returns-in-Override c =
    arm _ _ _ _ _ _ c.in-Override.is (ends _ _ _ _ c.declared-in-Override.ensures)

pub returns-in-ZeroValue : goal.returns-in-ZeroValue
returns-in-ZeroValue c =
    arm _ _ _ _ _ _ c.in-ZeroValue.is (ends _ _ _ _ c.numbered.ensures)

pub returns-in-Compose : goal.returns-in-Compose
returns-in-Compose c =
    arm _ _ _ _ _ _ c.in-Compose.is (ends _ _ _ _ c.numbered-in-Compose.ensures)

pub returns-in-FunctionArgument : goal.returns-in-FunctionArgument
returns-in-FunctionArgument c =
    arm _ _ _ _ _ _ c.in-FunctionArgument.is (ends _ _ _ _ c.function_argument.ensures)

pub returns-in-GlobalVariable : goal.returns-in-GlobalVariable
returns-in-GlobalVariable c =
    arm _ _ _ _ _ _ c.in-GlobalVariable.is (ends _ _ _ _ c.global_variable.ensures)

pub returns-in-LocalVariable : goal.returns-in-LocalVariable
returns-in-LocalVariable c =
    arm _ _ _ _ _ _ c.in-LocalVariable.is (ends _ _ _ _ c.local_variable.ensures)

pub returns-in-Unary : goal.returns-in-Unary
returns-in-Unary c =
    arm _ _ _ _ _ _ c.in-Unary.is (read _ _ _ _ _ c.past.ensures)

pub returns-in-AtomicResult : goal.returns-in-AtomicResult
returns-in-AtomicResult c =
    arm _ _ _ _ _ _ c.in-AtomicResult.is (ends _ _ _ _ c.numbered-in-AtomicResult.ensures)

pub returns-in-SubgroupOperationResult : goal.returns-in-SubgroupOperationResult
returns-in-SubgroupOperationResult c =
    arm _ _ _ _ _ _ c.in-SubgroupOperationResult.is (ends _ _ _ _ c.numbered-in-SubgroupOperationResult.ensures)

pub returns-in-WorkGroupUniformLoadResult : goal.returns-in-WorkGroupUniformLoadResult
returns-in-WorkGroupUniformLoadResult c =
    arm _ _ _ _ _ _ c.in-WorkGroupUniformLoadResult.is (ends _ _ _ _ c.numbered-in-WorkGroupUniformLoadResult.ensures)

pub returns-in-Select : goal.returns-in-Select
returns-in-Select c =
    arm _ _ _ _ _ _ c.in-Select.is (read _ _ _ _ _ c.past-in-Select.ensures)

pub returns-in-Derivative : goal.returns-in-Derivative
returns-in-Derivative c =
    arm _ _ _ _ _ _ c.in-Derivative.is (read _ _ _ _ _ c.past-in-Derivative.ensures)

pub returns-in-CallResult : goal.returns-in-CallResult
returns-in-CallResult c =
    arm _ _ _ _ _ _ c.in-CallResult.is (ends _ _ _ _ c.call_result.ensures)

pub returns-in-ArrayLength : goal.returns-in-ArrayLength
returns-in-ArrayLength c =
    arm _ _ _ _ _ _ c.in-ArrayLength.is (ends _ _ _ _ c.scalar_type.ensures)

pub returns-in-RayQueryProceedResult : goal.returns-in-RayQueryProceedResult
returns-in-RayQueryProceedResult c =
    arm _ _ _ _ _ _ c.in-RayQueryProceedResult.is (ends _ _ _ _ c.scalar_type-in-RayQueryProceedResult.ensures)

pub returns-in-RayQueryGetIntersection : goal.returns-in-RayQueryGetIntersection
returns-in-RayQueryGetIntersection c =
    arm _ _ _ _ _ _ c.in-RayQueryGetIntersection.is (ends _ _ _ _ c.special.ensures)

pub returns-in-RayQueryVertexPositions : goal.returns-in-RayQueryVertexPositions
returns-in-RayQueryVertexPositions c =
    arm _ _ _ _ _ _ c.in-RayQueryVertexPositions.is (ends _ _ _ _ c.special-in-RayQueryVertexPositions.ensures)

pub returns-in-SubgroupBallotResult : goal.returns-in-SubgroupBallotResult
returns-in-SubgroupBallotResult c =
    arm _ _ _ _ _ _ c.in-SubgroupBallotResult.is (ends _ _ _ _ c.vector_type.ensures)

pub returns-in-CooperativeMultiplyAdd : goal.returns-in-CooperativeMultiplyAdd
returns-in-CooperativeMultiplyAdd c =
    arm _ _ _ _ _ _ c.in-CooperativeMultiplyAdd.is (read _ _ _ _ _ c.past-in-CooperativeMultiplyAdd.ensures)
