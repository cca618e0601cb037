-- `==`, which a derive writes field by field, is the equality of numbers that the definitions have: of two vectors'
-- sizes, and of two scalars' kinds and widths.
use mathlib.Core.Path.{◌≡◌}
use Rattle.std.proofs.Common.{rules, eqb}
use Rattle.ir.specs.declared.Scalar.{Scalar}
use Rattle.ir.specs.declared.VectorSize.{VectorSize}
use Rattle.ir.specs.Numbers.{vector_size_number}
use Rattle.ir.specs.Scalars.{equal_scalars}
use Rattle.ir.specs.contracts.ScalarPartialEq.TheImpl as scalar
use Rattle.ir.specs.contracts.VectorSizePartialEq.TheImpl as size

pub sizes_equal : (a b : VectorSize) → size.ghosts.eq a b ≡ eqb (vector_size_number a) (vector_size_number b)
sizes_equal a b = search rules

pub scalars_equal : (k j : Scalar) → scalar.ghosts.eq k j ≡ equal_scalars k j
scalars_equal k j = search rules
