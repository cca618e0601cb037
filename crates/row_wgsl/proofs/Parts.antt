-- The three parts of what the second pass gives of two scalars or vectors make the whole. Operator by operator. Assumes
-- nothing.
use Rattle.std.specs.Prelude.{Option}
use Rattle.ir.specs.declared.VectorSize.{VectorSize}
use mathlib.Core.Path.{◌≡◌, refl}
use Rattle.ir.specs.declared.Scalar.{Scalar}
use Rattle.ir.specs.declared.BinaryOperator.{BinaryOperator}
use Rattle.ir.specs.declared.BinaryOperator.TheVariants as Bo
use Rattle.rule_rows.specs.WgslTables.{plain}
use Rattle.rule_rows.specs.Wgsl.{when, plain_result}
use Rattle.row_wgsl.specs.ForProofs.{test_of, size_of, scalar_of}

pub in_parts : (op : BinaryOperator) (n : Option VectorSize) (s : Scalar) (m : Option VectorSize) (r : Scalar)
    → when (test_of op n s m r) (plain (size_of op n m) (scalar_of op s)) ≡ plain_result op n s m r
in_parts Bo.Add n s m r = refl
in_parts Bo.Subtract n s m r = refl
in_parts Bo.Multiply n s m r = refl
in_parts Bo.Divide n s m r = refl
in_parts Bo.Modulo n s m r = refl
in_parts Bo.Equal n s m r = refl
in_parts Bo.NotEqual n s m r = refl
in_parts Bo.Less n s m r = refl
in_parts Bo.LessEqual n s m r = refl
in_parts Bo.Greater n s m r = refl
in_parts Bo.GreaterEqual n s m r = refl
in_parts Bo.And n s m r = refl
in_parts Bo.ExclusiveOr n s m r = refl
in_parts Bo.InclusiveOr n s m r = refl
in_parts Bo.LogicalAnd n s m r = refl
in_parts Bo.LogicalOr n s m r = refl
in_parts Bo.ShiftLeft n s m r = refl
in_parts Bo.ShiftRight n s m r = refl
