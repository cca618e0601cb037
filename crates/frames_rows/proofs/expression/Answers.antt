-- `expression`: each arm knows its kind, and what its calls ensure.
use Rattle.frames_rows.proofs.expression.Goals as goal

pub returns-in-Literal : goal.returns-in-Literal
returns-in-Literal c = rw (c.in-Literal.is, c.from-literal.ensures)

pub returns-in-Constant : goal.returns-in-Constant
returns-in-Constant c = rw (c.in-Constant.is, c.named-n.ensures)

pub returns-in-Override : goal.returns-in-Override
returns-in-Override c = rw (c.in-Override.is, c.named-n.ensures)

pub returns-in-ZeroValue : goal.returns-in-ZeroValue
returns-in-ZeroValue c = rw (c.in-ZeroValue.is, c.named-n.ensures)

pub returns-in-Compose : goal.returns-in-Compose
returns-in-Compose c = rw (c.in-Compose.is, c.first_component-first.ensures, c.count-count.ensures, c.named-n.ensures)

pub returns-in-Access : goal.returns-in-Access
returns-in-Access c = rw (c.in-Access.is, c.named-n.ensures)

pub returns-in-AccessIndex : goal.returns-in-AccessIndex
returns-in-AccessIndex c = rw (c.in-AccessIndex.is, c.last-index.ensures, c.named-n.ensures)

pub returns-in-Splat : goal.returns-in-Splat
returns-in-Splat c = rw (c.in-Splat.is, c.from-size.ensures, c.named-n.ensures)

pub returns-in-Swizzle : goal.returns-in-Swizzle
returns-in-Swizzle c = rw (c.in-Swizzle.is, c.from-size-in-Swizzle.ensures, c.named-n.ensures)

pub returns-in-FunctionArgument : goal.returns-in-FunctionArgument
returns-in-FunctionArgument c = rw (c.in-FunctionArgument.is, c.last-index-in-FunctionArgument.ensures)

pub returns-in-GlobalVariable : goal.returns-in-GlobalVariable
returns-in-GlobalVariable c = rw (c.in-GlobalVariable.is, c.named-n.ensures)

pub returns-in-LocalVariable : goal.returns-in-LocalVariable
returns-in-LocalVariable c = rw (c.in-LocalVariable.is, c.named-n.ensures)

pub returns-in-Load : goal.returns-in-Load
returns-in-Load c = rw (c.in-Load.is, c.named-n.ensures)

pub returns-in-ImageSample : goal.returns-in-ImageSample
returns-in-ImageSample c = rw (c.in-ImageSample.is, c.named-n.ensures)

pub returns-in-ImageLoad : goal.returns-in-ImageLoad
returns-in-ImageLoad c = rw (c.in-ImageLoad.is, c.named-n.ensures)

pub returns-in-ImageQuery : goal.returns-in-ImageQuery
returns-in-ImageQuery c = rw (c.in-ImageQuery.is, c.from-query.ensures, c.named-n.ensures)

pub returns-in-Unary : goal.returns-in-Unary
returns-in-Unary c = rw (c.in-Unary.is, c.named-n.ensures)

pub returns-in-Binary : goal.returns-in-Binary
returns-in-Binary c = rw (c.in-Binary.is, c.right-right.ensures, c.from-op.ensures, c.named-n.ensures)

pub returns-in-Select : goal.returns-in-Select
returns-in-Select c = rw (c.in-Select.is, c.named-n.ensures)

pub returns-in-Derivative : goal.returns-in-Derivative
returns-in-Derivative c = rw (c.in-Derivative.is, c.named-n.ensures)

pub returns-in-Relational : goal.returns-in-Relational
returns-in-Relational c = rw (c.in-Relational.is, c.from-fun.ensures, c.named-n.ensures)

pub returns-in-As : goal.returns-in-As
returns-in-As c = rw (c.in-As.is, c.converted-convert.ensures, c.from-kind.ensures, c.named-n.ensures)

pub returns-in-CallResult : goal.returns-in-CallResult
returns-in-CallResult c = rw (c.in-CallResult.is, c.named-n.ensures)

pub returns-in-AtomicResult : goal.returns-in-AtomicResult
returns-in-AtomicResult c = rw (c.in-AtomicResult.is, c.named-n.ensures)

pub returns-in-WorkGroupUniformLoadResult : goal.returns-in-WorkGroupUniformLoadResult
returns-in-WorkGroupUniformLoadResult c = rw (c.in-WorkGroupUniformLoadResult.is, c.named-n.ensures)

pub returns-in-SubgroupOperationResult : goal.returns-in-SubgroupOperationResult
returns-in-SubgroupOperationResult c = rw (c.in-SubgroupOperationResult.is, c.named-n.ensures)

pub returns-in-CooperativeLoad : goal.returns-in-CooperativeLoad
returns-in-CooperativeLoad c =
    rw (
      c.in-CooperativeLoad.is,
      c.from-role.ensures,
      c.from-rows.ensures,
      c.from-columns.ensures,
      c.named-n.ensures,
    )

pub returns-in-CooperativeMultiplyAdd : goal.returns-in-CooperativeMultiplyAdd
returns-in-CooperativeMultiplyAdd c = rw (c.in-CooperativeMultiplyAdd.is, c.named-n.ensures)
