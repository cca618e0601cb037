-- `kind_names`: each arm knows its kind, and what its calls ensure; an arm of several kinds kind by kind.
use Rattle.std.proofs.Common.{◌≡◌, refl, ◌∙◌}
use mathlib.Core.Logic.{⊎_elim}
use Rattle.ir.specs.declared.RowNumber.{RowNumber}
use Rattle.ir.specs.declared.RowKind.{RowKind}
use Rattle.ir.specs.declared.RowKind.TheVariants as Rk
use Rattle.frames.specs.declared.Frame.{Frame}
use Rattle.frames.specs.Bytes.{half}
use Rattle.frames.specs.Forms.{row_as}
use Rattle.archive.specs.declared.Starts.{Starts}
use Rattle.archive.specs.Names.{is_earlier, row_form_names}
use Rattle.check_names.proofs.kind_names.Goals as goal

-- a kind that no other arm takes
record Other (k : RowKind) : Type 0 where
  not_Unknown : k ≡ Rk.Unknown → ⊥
  not_Literal : k ≡ Rk.Literal → ⊥
  not_Constant : k ≡ Rk.Constant → ⊥
  not_Override : k ≡ Rk.Override → ⊥
  not_ZeroValue : k ≡ Rk.ZeroValue → ⊥
  not_Compose : k ≡ Rk.Compose → ⊥
  not_FunctionArgument : k ≡ Rk.FunctionArgument → ⊥
  not_GlobalVariable : k ≡ Rk.GlobalVariable → ⊥
  not_LocalVariable : k ≡ Rk.LocalVariable → ⊥
  not_ImageQuery : k ≡ Rk.ImageQuery → ⊥
  not_Binary : k ≡ Rk.Binary → ⊥
  not_Relational : k ≡ Rk.Relational → ⊥
  not_Math : k ≡ Rk.Math → ⊥
  not_CallResult : k ≡ Rk.CallResult → ⊥
  not_AtomicResult : k ≡ Rk.AtomicResult → ⊥
  not_WorkGroupUniformLoadResult : k ≡ Rk.WorkGroupUniformLoadResult → ⊥
  not_ArrayLength : k ≡ Rk.ArrayLength → ⊥
  not_RayQueryVertexPositions : k ≡ Rk.RayQueryVertexPositions → ⊥
  not_RayQueryProceedResult : k ≡ Rk.RayQueryProceedResult → ⊥
  not_RayQueryGetIntersection : k ≡ Rk.RayQueryGetIntersection → ⊥
  not_SubgroupBallotResult : k ≡ Rk.SubgroupBallotResult → ⊥
  not_SubgroupOperationResult : k ≡ Rk.SubgroupOperationResult → ⊥

-- a row of such a kind names one earlier row
others : (s : Starts) (n : RowNumber) (f : Frame) (k : RowKind) → Other k
    → is_earlier n (record { 0 = half f 2 }) ≡ row_form_names s n (row_as k f)
others s n f Rk.Unknown o = absurd (o.not_Unknown refl)
others s n f Rk.Literal o = absurd (o.not_Literal refl)
others s n f Rk.Constant o = absurd (o.not_Constant refl)
others s n f Rk.Override o = absurd (o.not_Override refl)
others s n f Rk.ZeroValue o = absurd (o.not_ZeroValue refl)
others s n f Rk.Compose o = absurd (o.not_Compose refl)
others s n f Rk.FunctionArgument o = absurd (o.not_FunctionArgument refl)
others s n f Rk.GlobalVariable o = absurd (o.not_GlobalVariable refl)
others s n f Rk.LocalVariable o = absurd (o.not_LocalVariable refl)
others s n f Rk.ImageQuery o = absurd (o.not_ImageQuery refl)
others s n f Rk.Binary o = absurd (o.not_Binary refl)
others s n f Rk.Relational o = absurd (o.not_Relational refl)
others s n f Rk.Math o = absurd (o.not_Math refl)
others s n f Rk.CallResult o = absurd (o.not_CallResult refl)
others s n f Rk.AtomicResult o = absurd (o.not_AtomicResult refl)
others s n f Rk.WorkGroupUniformLoadResult o = absurd (o.not_WorkGroupUniformLoadResult refl)
others s n f Rk.ArrayLength o = absurd (o.not_ArrayLength refl)
others s n f Rk.RayQueryVertexPositions o = absurd (o.not_RayQueryVertexPositions refl)
others s n f Rk.RayQueryProceedResult o = absurd (o.not_RayQueryProceedResult refl)
others s n f Rk.RayQueryGetIntersection o = absurd (o.not_RayQueryGetIntersection refl)
others s n f Rk.SubgroupBallotResult o = absurd (o.not_SubgroupBallotResult refl)
others s n f Rk.SubgroupOperationResult o = absurd (o.not_SubgroupOperationResult refl)
others s n f Rk.Access o = refl
others s n f Rk.AccessIndex o = refl
others s n f Rk.Splat o = refl
others s n f Rk.Swizzle o = refl
others s n f Rk.Load o = refl
others s n f Rk.ImageSample o = refl
others s n f Rk.ImageLoad o = refl
others s n f Rk.Unary o = refl
others s n f Rk.Select o = refl
others s n f Rk.Derivative o = refl
others s n f Rk.As o = refl
others s n f Rk.CooperativeLoad o = refl
others s n f Rk.CooperativeMultiplyAdd o = refl

pub returns-in-Constant : goal.returns-in-Constant
returns-in-Constant c = rw (c.in-Constant.is, c.names_item.ensures)

pub returns-in-Override : goal.returns-in-Override
returns-in-Override c = rw (c.in-Override.is, c.names_item-in-Override.ensures)

pub returns-in-GlobalVariable : goal.returns-in-GlobalVariable
returns-in-GlobalVariable c = rw (c.in-GlobalVariable.is, c.names_item-in-GlobalVariable.ensures)

pub returns-in-LocalVariable : goal.returns-in-LocalVariable
returns-in-LocalVariable c = rw (c.in-LocalVariable.is, c.names_item-in-LocalVariable.ensures)

pub returns-in-CallResult : goal.returns-in-CallResult
returns-in-CallResult c = rw (c.in-CallResult.is, c.names_item-in-CallResult.ensures)

pub returns-in-Compose : goal.returns-in-Compose
returns-in-Compose c =
    rw (
      c.in-Compose.is,
      c.compose_names.ensures,
      c.first_component.ensures,
      c.count.ensures,
      c.ty.ensures,
    )

pub returns-in-ImageQuery : goal.returns-in-ImageQuery
returns-in-ImageQuery c = rw (c.in-ImageQuery.is, c.query_names.ensures, c.from.ensures, c.operand.ensures)

pub returns-in-Relational : goal.returns-in-Relational
returns-in-Relational c =
    rw (
      c.in-Relational.is,
      c.relational_names.ensures,
      c.operand-in-Relational.ensures,
      c.from-in-Relational.ensures,
    )

pub returns-in-Binary : goal.returns-in-Binary
returns-in-Binary c = rw (c.in-Binary.is, c.is_earlier.ensures, c.right.ensures, c.names_earlier.ensures)

pub returns-in-ZeroValue : goal.returns-in-ZeroValue
returns-in-ZeroValue c =
    rw c.names_type.ensures
    (⊎_elim (λ e. rw e) (⊎_elim (λ e. rw e) (⊎_elim (λ e. rw e) (λ e. rw e))) c.in-ZeroValue.is)

pub returns-in_default : goal.returns-in_default
returns-in_default c =
    c.names_earlier-in_default.ensures ∙ others c.args.s c.args.n c.args.f c.args.kind (record {
      not_Unknown = c.in_default.not-Unknown;
      not_Literal = c.in_default.not-Literal;
      not_Constant = c.in_default.not-Constant;
      not_Override = c.in_default.not-Override;
      not_ZeroValue = c.in_default.not-ZeroValue;
      not_Compose = c.in_default.not-Compose;
      not_FunctionArgument = c.in_default.not-FunctionArgument;
      not_GlobalVariable = c.in_default.not-GlobalVariable;
      not_LocalVariable = c.in_default.not-LocalVariable;
      not_ImageQuery = c.in_default.not-ImageQuery;
      not_Binary = c.in_default.not-Binary;
      not_Relational = c.in_default.not-Relational;
      not_Math = c.in_default.not-Math;
      not_CallResult = c.in_default.not-CallResult;
      not_AtomicResult = c.in_default.not-AtomicResult;
      not_WorkGroupUniformLoadResult = c.in_default.not-WorkGroupUniformLoadResult;
      not_ArrayLength = c.in_default.not-ArrayLength;
      not_RayQueryVertexPositions = c.in_default.not-RayQueryVertexPositions;
      not_RayQueryProceedResult = c.in_default.not-RayQueryProceedResult;
      not_RayQueryGetIntersection = c.in_default.not-RayQueryGetIntersection;
      not_SubgroupBallotResult = c.in_default.not-SubgroupBallotResult;
      not_SubgroupOperationResult = c.in_default.not-SubgroupOperationResult;
    })
