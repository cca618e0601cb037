-- Unary, Binary, Select, Derivative, Relational and As, in the source's order (document 01, "A row's type"). Refusal:
-- 18; in the second pass 41.
use Rattle.std.specs.Prelude.{ℕ, cond, Option as CodeOption, Some, None}
use Rattle.std.proofs.Math.Option.{Option, none, some}
use Rattle.ir.specs.declared.RowNumber.{RowNumber}
use Rattle.ir.specs.declared.VectorSize.{VectorSize}
use Rattle.ir.specs.declared.CooperativeSize.{CooperativeSize}
use Rattle.ir.specs.declared.CooperativeRole.{CooperativeRole}
use Rattle.ir.specs.declared.ScalarKind.{ScalarKind}
use Rattle.ir.specs.declared.Scalar.{Scalar}
use Rattle.ir.specs.declared.Width.{Width}
use Rattle.ir.specs.declared.BinaryOperator.{BinaryOperator}
use Rattle.ir.specs.declared.BinaryOperator.TheVariants as Bo
use Rattle.ir.specs.declared.RelationalFunction.{RelationalFunction}
use Rattle.ir.specs.declared.RelationalFunction.TheVariants as Rf
use Rattle.ir.specs.declared.TypeInner.{TypeInner}
use Rattle.ir.specs.declared.TypeInner.TheVariants as Ti
use Rattle.ir.specs.Scalars.{BOOL, equal_scalars}
use Rattle.answers.specs.declared.Refusal.TheVariants.{IncompatibleOperands, Mismatch}
use Rattle.rule.specs.Answers.{TypeAnswer, value, Typed, given, refused}
use Rattle.rule.specs.Rule.{Rule, done}
use Rattle.rule_rows.specs.declared.Pass.{Pass}
use Rattle.rule_rows.specs.declared.Pass.TheVariants as Pa
use Rattle.rule_rows.specs.Selectors.{if_scalar, if_vector, if_matrix, if_cooperative_matrix}
use Rattle.rule_rows.specs.Steps.{same_as, by_type, by_both}
use Rattle.rule_rows.specs.Wgsl.{wgsl_result}

-- UNARY: the operand's type. WGSL: "Arithmetic Expressions", "Logical Expressions", "Bit Expressions".
abbrev pub unary : RowNumber → Rule Typed
unary n = same_as n

-- BINARY

-- Add, Subtract, Divide and Modulo: the left operand's type; the right is not read. WGSL: "Arithmetic Expressions".
abbrev pub arithmetic : RowNumber → Rule Typed
arithmetic left = same_as left

-- Multiply. WGSL: "Arithmetic Expressions"; of cooperative matrices the source decides. By the left operand's form x
-- and the right's y; where the type of one operand is the answer, it is given as the operand has it, a or b.

-- times a scalar: the left operand's type, whatever it is; what no product allows is number 18
abbrev pub times_scalar : TypeAnswer → TypeInner → Typed
times_scalar a y = if_scalar y (λ j. given a) (refused IncompatibleOperands)

-- a matrix of r rows of k: times a matrix that one's columns, times a vector a vector of r
abbrev pub matrix_times : TypeAnswer → VectorSize → Scalar → TypeInner → Typed
matrix_times a r k y =
    if_matrix y (λ d q j. given (value (Ti.Matrix d r k)))
    (if_vector y (λ z j. given (value (Ti.Vector r k)))
    (times_scalar a y))

-- a vector: times a matrix it has the matrix's columns and scalar
abbrev pub vector_times : TypeAnswer → TypeInner → Typed
vector_times a y =
    if_matrix y (λ d q j. given (value (Ti.Vector d j)))
    (if_vector y (λ z j. given a)
    (times_scalar a y))

-- a cooperative matrix of r rows of k in the role o: times a cooperative matrix that one's columns
abbrev pub cooperative_times : TypeAnswer → CooperativeSize → Scalar → CooperativeRole → TypeInner → Typed
cooperative_times a r k o y = if_cooperative_matrix y (λ d q j w. given (value (Ti.CooperativeMatrix d r k o)))
    (times_scalar a y)

-- by the left operand; a scalar times anything is the right operand's type
abbrev pub product : TypeAnswer → TypeAnswer → TypeInner → TypeInner → Typed
product a b x y =
    if_matrix x (λ c r k. matrix_times a r k y)
    (if_vector x (λ z k. vector_times a y)
    (if_scalar x (λ k. given b)
    (if_cooperative_matrix x (λ c r k o. cooperative_times a r k o y)
    (times_scalar a y))))

-- reads left, then right, then looks into left, then right, a scalar left included
abbrev pub multiply : RowNumber → RowNumber → RowNumber → Rule Typed
multiply here left right = by_both here left right product

-- a bool for each component of a scalar or a vector; every other type is number 18
abbrev pub bools_of : TypeInner → Typed
bools_of t =
    if_scalar t (λ k. given (value (Ti.Scalar BOOL)))
    (if_vector t (λ z k. given (value (Ti.Vector z BOOL)))
    (refused IncompatibleOperands))

-- Equal, NotEqual, Less, LessEqual, Greater, GreaterEqual: a bool for each component of the left operand. WGSL:
-- "Comparison Expressions".
abbrev pub comparison : RowNumber → RowNumber → Rule Typed
comparison here left = by_type here left bools_of

-- exactly the scalar type BOOL; every other type is number 18
abbrev pub logical_of : TypeInner → Typed
logical_of t = if_scalar t
    (λ k. cond (equal_scalars k BOOL) (given (value (Ti.Scalar BOOL))) (refused IncompatibleOperands))
    (refused IncompatibleOperands)

-- LogicalAnd and LogicalOr. WGSL: "Logical Expressions".
abbrev pub logical : RowNumber → RowNumber → Rule Typed
logical here left = by_type here left logical_of

-- And, ExclusiveOr, InclusiveOr, ShiftLeft and ShiftRight: the left operand's type. WGSL: "Bit Expressions", "Logical
-- Expressions".
abbrev pub bits : RowNumber → Rule Typed
bits left = same_as left

-- by the operator
abbrev pub binary : RowNumber → BinaryOperator → RowNumber → RowNumber → Rule Typed
binary here Bo.Add left right = arithmetic left
binary here Bo.Subtract left right = arithmetic left
binary here Bo.Divide left right = arithmetic left
binary here Bo.Modulo left right = arithmetic left
binary here Bo.Multiply left right = multiply here left right
binary here Bo.Equal left right = comparison here left
binary here Bo.NotEqual left right = comparison here left
binary here Bo.Less left right = comparison here left
binary here Bo.LessEqual left right = comparison here left
binary here Bo.Greater left right = comparison here left
binary here Bo.GreaterEqual left right = comparison here left
binary here Bo.LogicalAnd left right = logical here left
binary here Bo.LogicalOr left right = logical here left
binary here Bo.And left right = bits left
binary here Bo.ExclusiveOr left right = bits left
binary here Bo.InclusiveOr left right = bits left
binary here Bo.ShiftLeft left right = bits left
binary here Bo.ShiftRight left right = bits left

-- BINARY IN THE SECOND PASS (document 02, request 3)

-- WGSL's result, as a value; where its tables have none, number 41
abbrev pub or_mismatch : Option TypeInner → Typed
or_mismatch (some t) = given (value t)
or_mismatch none = refused Mismatch

-- by WGSL's tables
abbrev pub wgsl_of : BinaryOperator → TypeAnswer → TypeAnswer → TypeInner → TypeInner → Typed
wgsl_of op a b x y = or_mismatch (wgsl_result op x y)

-- every operator reads left, then right, then looks into left, then right; a pointer's base is not looked into
abbrev pub wgsl_binary : RowNumber → BinaryOperator → RowNumber → RowNumber → Rule Typed
wgsl_binary here op left right = by_both here left right (wgsl_of op)

-- by the pass
abbrev pub binary_by : Pass → RowNumber → BinaryOperator → RowNumber → RowNumber → Rule Typed
binary_by Pa.First here op left right = binary here op left right
binary_by Pa.Second here op left right = wgsl_binary here op left right

-- SELECT: the type of what is accepted. WGSL: "Logical Built-in Functions", select.
abbrev pub select : RowNumber → Rule Typed
select accept = same_as accept

-- DERIVATIVE: the operand's type. WGSL: "Derivative Built-in Functions".
abbrev pub derivative : RowNumber → Rule Typed
derivative n = same_as n

-- RELATIONAL. All and Any read nothing; WGSL: "Logical Built-in Functions". IsNan and IsInf give a bool for each
-- component; the source decides.
abbrev pub relational : RowNumber → RelationalFunction → RowNumber → Rule Typed
relational here Rf.All argument = done (given (value (Ti.Scalar BOOL)))
relational here Rf.Any argument = done (given (value (Ti.Scalar BOOL)))
relational here Rf.IsNan argument = by_type here argument bools_of
relational here Rf.IsInf argument = by_type here argument bools_of

-- AS, a conversion, or without a width a new reading of the same bits. WGSL: "Value Constructor Built-in Functions",
-- "Bit Reinterpretation Built-in Functions".

-- the width converted to; without one the width that was there
abbrev pub width_or : CodeOption Width → Width → Width
width_or (Some w) own = w
width_or None own = own

-- a scalar or a vector takes the kind, a matrix keeps its own; every other type is number 18
abbrev pub cast_of : ScalarKind → CodeOption Width → TypeInner → Typed
cast_of kind convert t =
    if_scalar t (λ k. given (value (Ti.Scalar (record { kind = kind; width = width_or convert k.width }))))
    (if_vector t (λ z k. given (value (Ti.Vector z (record { kind = kind; width = width_or convert k.width }))))
    (if_matrix t (λ c r k. given (value (Ti.Matrix c r (record { kind = k.kind; width = width_or convert k.width }))))
    (refused IncompatibleOperands)))

-- reads its operand and looks into its type
abbrev pub cast : RowNumber → RowNumber → ScalarKind → CodeOption Width → Rule Typed
cast here n kind convert = by_type here n (cast_of kind convert)
