-- What the second pass goes by: of an operator and two types the result that WGSL's tables give, or none (document
-- 02, request 3). `wgsl-is` (proofs/Wgsl.antt): it is this type exactly where a line of the tables (WgslTables.antt)
-- gives this type.
use Rattle.std.specs.Prelude.{Bool, true, false, ◌&&◌, ◌||◌, eqb, Option as CodeOption, Some, None}
use Rattle.std.proofs.Math.Option.{Option, none, some}
use Rattle.ir.specs.declared.VectorSize.{VectorSize}
use Rattle.ir.specs.declared.ScalarKind.{ScalarKind}
use Rattle.ir.specs.declared.ScalarKind.TheVariants as Sk
use Rattle.ir.specs.declared.Scalar.{Scalar}
use Rattle.ir.specs.declared.BinaryOperator.{BinaryOperator}
use Rattle.ir.specs.declared.BinaryOperator.TheVariants as Bo
use Rattle.ir.specs.declared.TypeInner.{TypeInner}
use Rattle.ir.specs.declared.TypeInner.TheVariants as Ti
use Rattle.ir.specs.Numbers.{vector_size_number}
use Rattle.ir.specs.Scalars.{U32, BOOL, equal_scalars}
use Rattle.rule_rows.specs.declared.Shape.{Shape}
use Rattle.rule_rows.specs.declared.Shape.TheVariants as Sh
use Rattle.rule_rows.specs.Selectors.{if_scalar, if_vector, if_matrix}
use Rattle.rule_rows.specs.WgslTables.{plain}

-- WHAT THE TABLES ASK OF TYPES

-- a type's shape: S or vecN<S>, matCxR<S>, or a type that is in no line
abbrev pub shape_of : TypeInner → Shape
shape_of t =
    if_scalar t (λ s. Sh.Plain None s)
    (if_vector t (λ n s. Sh.Plain (Some n) s)
    (if_matrix t (λ c r s. Sh.Matrix c r s)
    Sh.Other))

abbrev pub is_integer : ScalarKind → Bool
is_integer Sk.Sint = true
is_integer Sk.Uint = true
is_integer Sk.Float = false
is_integer Sk.Bool = false
is_integer Sk.AbstractInt = false
is_integer Sk.AbstractFloat = false

abbrev pub is_float : ScalarKind → Bool
is_float Sk.Sint = false
is_float Sk.Uint = false
is_float Sk.Float = true
is_float Sk.Bool = false
is_float Sk.AbstractInt = false
is_float Sk.AbstractFloat = false

abbrev pub is_numeric : ScalarKind → Bool
is_numeric k = is_integer k || is_float k

abbrev pub equal_sizes : VectorSize → VectorSize → Bool
equal_sizes a b = eqb (vector_size_number a) (vector_size_number b)

-- two scalars, or two vectors of as many components
abbrev pub equal_counts : CodeOption VectorSize → CodeOption VectorSize → Bool
equal_counts None None = true
equal_counts None (Some b) = false
equal_counts (Some a) None = false
equal_counts (Some a) (Some b) = equal_sizes a b

-- the same, or a scalar and a vector in either order
abbrev pub like_or_mixed : CodeOption VectorSize → CodeOption VectorSize → Bool
like_or_mixed None m = true
like_or_mixed (Some a) None = true
like_or_mixed (Some a) (Some b) = equal_sizes a b

-- the components of such a result: those of the vector, if one is
abbrev pub mixed : CodeOption VectorSize → CodeOption VectorSize → CodeOption VectorSize
mixed None m = m
mixed (Some a) m = Some a

-- a type where a test holds, else none
abbrev pub when : Bool → TypeInner → Option TypeInner
when true t = some t
when false t = none

-- BY THE SIZES AND SCALARS of two scalars or vectors, n and s of the left, m and r of the right: whether they are
-- taken, and what is given then

-- Add, Subtract, Multiply, Divide, Modulo
abbrev pub arithmetic_test : CodeOption VectorSize → Scalar → CodeOption VectorSize → Scalar → Bool
arithmetic_test n s m r = is_numeric s.kind && (equal_scalars s r && like_or_mixed n m)

abbrev pub arithmetic_of : CodeOption VectorSize → Scalar → CodeOption VectorSize → Scalar → Option TypeInner
arithmetic_of n s m r = when (arithmetic_test n s m r) (plain (mixed n m) s)

-- Equal, NotEqual
abbrev pub equality_test : CodeOption VectorSize → Scalar → CodeOption VectorSize → Scalar → Bool
equality_test n s m r = (is_numeric s.kind || equal_scalars s BOOL) && (equal_scalars s r && equal_counts n m)

abbrev pub equality_of : CodeOption VectorSize → Scalar → CodeOption VectorSize → Scalar → Option TypeInner
equality_of n s m r = when (equality_test n s m r) (plain n BOOL)

-- Less, LessEqual, Greater, GreaterEqual
abbrev pub ordering_test : CodeOption VectorSize → Scalar → CodeOption VectorSize → Scalar → Bool
ordering_test n s m r = is_numeric s.kind && (equal_scalars s r && equal_counts n m)

abbrev pub ordering_of : CodeOption VectorSize → Scalar → CodeOption VectorSize → Scalar → Option TypeInner
ordering_of n s m r = when (ordering_test n s m r) (plain n BOOL)

-- And, InclusiveOr: of bits, and of bools
abbrev pub and_or_test : CodeOption VectorSize → Scalar → CodeOption VectorSize → Scalar → Bool
and_or_test n s m r = (is_integer s.kind || equal_scalars s BOOL) && (equal_scalars s r && equal_counts n m)

abbrev pub and_or_of : CodeOption VectorSize → Scalar → CodeOption VectorSize → Scalar → Option TypeInner
and_or_of n s m r = when (and_or_test n s m r) (plain n s)

-- ExclusiveOr: of bits alone
abbrev pub xor_test : CodeOption VectorSize → Scalar → CodeOption VectorSize → Scalar → Bool
xor_test n s m r = is_integer s.kind && (equal_scalars s r && equal_counts n m)

abbrev pub xor_of : CodeOption VectorSize → Scalar → CodeOption VectorSize → Scalar → Option TypeInner
xor_of n s m r = when (xor_test n s m r) (plain n s)

-- ShiftLeft, ShiftRight: the right is u32, whatever integer the left is
abbrev pub shift_test : CodeOption VectorSize → Scalar → CodeOption VectorSize → Scalar → Bool
shift_test n s m r = is_integer s.kind && (equal_scalars r U32 && equal_counts n m)

abbrev pub shift_of : CodeOption VectorSize → Scalar → CodeOption VectorSize → Scalar → Option TypeInner
shift_of n s m r = when (shift_test n s m r) (plain n s)

-- LogicalAnd, LogicalOr: of two bools, no vectors
abbrev pub logicals_test : CodeOption VectorSize → Scalar → CodeOption VectorSize → Scalar → Bool
logicals_test n s m r =
    (equal_scalars s BOOL && equal_scalars r BOOL) && (equal_counts n None && equal_counts m None)

abbrev pub logicals_of : CodeOption VectorSize → Scalar → CodeOption VectorSize → Scalar → Option TypeInner
logicals_of n s m r = when (logicals_test n s m r) (plain None BOOL)

-- MATRICES: Float alone, of one kind and width on both sides

-- a matrix times a scalar, or a vector of as many components as it has columns
abbrev pub matrix_times_of : VectorSize → VectorSize → Scalar → CodeOption VectorSize → Scalar → Option TypeInner
matrix_times_of c r s None t = when (is_float s.kind && equal_scalars s t) (Ti.Matrix c r s)
matrix_times_of c r s (Some n) t = when (is_float s.kind && (equal_scalars s t && equal_sizes n c)) (Ti.Vector r s)

-- a scalar, or a vector of as many components as the matrix has rows, times a matrix
abbrev pub times_matrix_of : CodeOption VectorSize → Scalar → VectorSize → VectorSize → Scalar → Option TypeInner
times_matrix_of None s c r t = when (is_float s.kind && equal_scalars s t) (Ti.Matrix c r s)
times_matrix_of (Some n) s c r t = when (is_float s.kind && (equal_scalars s t && equal_sizes n r)) (Ti.Vector c s)

-- a matrix of c columns and r rows times one of d columns and q rows: c and q agree
abbrev pub matrices_times_of : VectorSize → VectorSize → Scalar → VectorSize → VectorSize → Scalar → Option TypeInner
matrices_times_of c r s d q t = when (is_float s.kind && (equal_scalars s t && equal_sizes c q)) (Ti.Matrix d r s)

-- the sum or the difference of two matrices of one shape
abbrev pub matrices_sum_of : VectorSize → VectorSize → Scalar → VectorSize → VectorSize → Scalar → Option TypeInner
matrices_sum_of c r s d q t =
    when (is_float s.kind && (equal_scalars s t && (equal_sizes c d && equal_sizes r q))) (Ti.Matrix c r s)

-- BY THE OPERATOR

-- of two scalars or vectors
abbrev pub plain_result : BinaryOperator → CodeOption VectorSize → Scalar → CodeOption VectorSize → Scalar
    → Option TypeInner
plain_result Bo.Add = arithmetic_of
plain_result Bo.Subtract = arithmetic_of
plain_result Bo.Multiply = arithmetic_of
plain_result Bo.Divide = arithmetic_of
plain_result Bo.Modulo = arithmetic_of
plain_result Bo.Equal = equality_of
plain_result Bo.NotEqual = equality_of
plain_result Bo.Less = ordering_of
plain_result Bo.LessEqual = ordering_of
plain_result Bo.Greater = ordering_of
plain_result Bo.GreaterEqual = ordering_of
plain_result Bo.And = and_or_of
plain_result Bo.ExclusiveOr = xor_of
plain_result Bo.InclusiveOr = and_or_of
plain_result Bo.LogicalAnd = logicals_of
plain_result Bo.LogicalOr = logicals_of
plain_result Bo.ShiftLeft = shift_of
plain_result Bo.ShiftRight = shift_of

-- of two matrices: Add and Subtract, and Multiply
abbrev pub matrices_result : BinaryOperator → VectorSize → VectorSize → Scalar → VectorSize
    → VectorSize → Scalar → Option TypeInner
matrices_result Bo.Add c r s d q t = matrices_sum_of c r s d q t
matrices_result Bo.Subtract c r s d q t = matrices_sum_of c r s d q t
matrices_result Bo.Multiply c r s d q t = matrices_times_of c r s d q t
matrices_result Bo.Divide c r s d q t = none
matrices_result Bo.Modulo c r s d q t = none
matrices_result Bo.Equal c r s d q t = none
matrices_result Bo.NotEqual c r s d q t = none
matrices_result Bo.Less c r s d q t = none
matrices_result Bo.LessEqual c r s d q t = none
matrices_result Bo.Greater c r s d q t = none
matrices_result Bo.GreaterEqual c r s d q t = none
matrices_result Bo.And c r s d q t = none
matrices_result Bo.ExclusiveOr c r s d q t = none
matrices_result Bo.InclusiveOr c r s d q t = none
matrices_result Bo.LogicalAnd c r s d q t = none
matrices_result Bo.LogicalOr c r s d q t = none
matrices_result Bo.ShiftLeft c r s d q t = none
matrices_result Bo.ShiftRight c r s d q t = none

-- of a matrix and a scalar or vector, in either order: Multiply alone
abbrev pub if_multiply : BinaryOperator → Option TypeInner → Option TypeInner
if_multiply Bo.Add t = none
if_multiply Bo.Subtract t = none
if_multiply Bo.Multiply t = t
if_multiply Bo.Divide t = none
if_multiply Bo.Modulo t = none
if_multiply Bo.Equal t = none
if_multiply Bo.NotEqual t = none
if_multiply Bo.Less t = none
if_multiply Bo.LessEqual t = none
if_multiply Bo.Greater t = none
if_multiply Bo.GreaterEqual t = none
if_multiply Bo.And t = none
if_multiply Bo.ExclusiveOr t = none
if_multiply Bo.InclusiveOr t = none
if_multiply Bo.LogicalAnd t = none
if_multiply Bo.LogicalOr t = none
if_multiply Bo.ShiftLeft t = none
if_multiply Bo.ShiftRight t = none

-- by the shapes of left and right
abbrev pub shapes_result : BinaryOperator → Shape → Shape → Option TypeInner
shapes_result op (Sh.Plain n s) (Sh.Plain m r) = plain_result op n s m r
shapes_result op (Sh.Plain n s) (Sh.Matrix c r t) = if_multiply op (times_matrix_of n s c r t)
shapes_result op (Sh.Plain n s) Sh.Other = none
shapes_result op (Sh.Matrix c r s) (Sh.Plain n t) = if_multiply op (matrix_times_of c r s n t)
shapes_result op (Sh.Matrix c r s) (Sh.Matrix d q t) = matrices_result op c r s d q t
shapes_result op (Sh.Matrix c r s) Sh.Other = none
shapes_result op Sh.Other y = none

-- WGSL's result of an operator and two types
abbrev pub wgsl_result : BinaryOperator → TypeInner → TypeInner → Option TypeInner
wgsl_result op x y = shapes_result op (shape_of x) (shape_of y)
