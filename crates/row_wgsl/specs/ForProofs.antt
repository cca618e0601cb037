-- Not part of any public statement: for proofs and code only. What the second pass gives of two scalars or vectors
-- (`plain_result`, rule_rows/specs/Wgsl.antt), in three parts: whether an operator takes them, and the components and
-- the scalar of the result.
use Rattle.ir.specs.declared.VectorSize.{VectorSize}
use Rattle.std.specs.Prelude.{◌≡◌, Bool, List, ℕ, Option, None, Ok}
use Rattle.std.proofs.Math.Option.{none}
use Rattle.ir.specs.declared.RowNumber.{RowNumber}
use Rattle.ir.specs.declared.Scalar.{Scalar}
use Rattle.ir.specs.declared.BinaryOperator.{BinaryOperator}
use Rattle.ir.specs.declared.BinaryOperator.TheVariants as Bo
use Rattle.ir.specs.declared.TypeInner.{TypeInner}
use Rattle.ir.specs.Scalars.{BOOL}
use Rattle.archive.specs.declared.Starts.{Starts}
use Rattle.rule_rows.specs.Wgsl.{shape_of, mixed, arithmetic_test, equality_test, ordering_test, and_or_test, xor_test}
use Rattle.rule_rows.specs.Wgsl.{shift_test, logicals_test, shapes_result}
use Rattle.row_operands.specs.Past.{looked_in}

-- whether an operator takes two scalars or vectors
abbrev pub test_of : BinaryOperator → Option VectorSize → Scalar → Option VectorSize → Scalar → Bool
test_of Bo.Add = arithmetic_test
test_of Bo.Subtract = arithmetic_test
test_of Bo.Multiply = arithmetic_test
test_of Bo.Divide = arithmetic_test
test_of Bo.Modulo = arithmetic_test
test_of Bo.Equal = equality_test
test_of Bo.NotEqual = equality_test
test_of Bo.Less = ordering_test
test_of Bo.LessEqual = ordering_test
test_of Bo.Greater = ordering_test
test_of Bo.GreaterEqual = ordering_test
test_of Bo.And = and_or_test
test_of Bo.ExclusiveOr = xor_test
test_of Bo.InclusiveOr = and_or_test
test_of Bo.LogicalAnd = logicals_test
test_of Bo.LogicalOr = logicals_test
test_of Bo.ShiftLeft = shift_test
test_of Bo.ShiftRight = shift_test

-- the components of the result: arithmetic takes a scalar and a vector too, logical operators take no vectors
abbrev pub size_of : BinaryOperator → Option VectorSize → Option VectorSize → Option VectorSize
size_of Bo.Add n m = mixed n m
size_of Bo.Subtract n m = mixed n m
size_of Bo.Multiply n m = mixed n m
size_of Bo.Divide n m = mixed n m
size_of Bo.Modulo n m = mixed n m
size_of Bo.Equal n m = n
size_of Bo.NotEqual n m = n
size_of Bo.Less n m = n
size_of Bo.LessEqual n m = n
size_of Bo.Greater n m = n
size_of Bo.GreaterEqual n m = n
size_of Bo.And n m = n
size_of Bo.ExclusiveOr n m = n
size_of Bo.InclusiveOr n m = n
size_of Bo.LogicalAnd n m = None
size_of Bo.LogicalOr n m = None
size_of Bo.ShiftLeft n m = n
size_of Bo.ShiftRight n m = n

-- the scalar of the result: comparisons and logical operators give bools
abbrev pub scalar_of : BinaryOperator → Scalar → Scalar
scalar_of Bo.Add s = s
scalar_of Bo.Subtract s = s
scalar_of Bo.Multiply s = s
scalar_of Bo.Divide s = s
scalar_of Bo.Modulo s = s
scalar_of Bo.Equal s = BOOL
scalar_of Bo.NotEqual s = BOOL
scalar_of Bo.Less s = BOOL
scalar_of Bo.LessEqual s = BOOL
scalar_of Bo.Greater s = BOOL
scalar_of Bo.GreaterEqual s = BOOL
scalar_of Bo.And s = s
scalar_of Bo.ExclusiveOr s = s
scalar_of Bo.InclusiveOr s = s
scalar_of Bo.LogicalAnd s = BOOL
scalar_of Bo.LogicalOr s = BOOL
scalar_of Bo.ShiftLeft s = s
scalar_of Bo.ShiftRight s = s

-- where a look sees both operands, no line of the tables has their types
abbrev pub NoLine : List ℕ → Starts → List ℕ → List ℕ → RowNumber → BinaryOperator → RowNumber → RowNumber → Type 0
NoLine fr s an pl here op left right =
    (x y : TypeInner) → looked_in fr s an pl here left ≡ Ok x → looked_in fr s an pl here right ≡ Ok y
    → shapes_result op (shape_of x) (shape_of y) ≡ none
