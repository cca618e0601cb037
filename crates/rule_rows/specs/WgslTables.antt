-- WGSL's tables of Binary expressions as a relation, a constructor for each line, in WGSL's order: the operator, the
-- left type, the right type, the type of the result (document 02, request 3). The lines are read at every accepted
-- width: where WGSL's lines name i32, u32, f32 and f16, a numeric scalar here is Sint, Uint or Float of any width;
-- bool is Bool of width 1; abstract kinds are in no line. What the rule goes by stands in Wgsl.antt.
use Rattle.std.specs.Prelude.{◌≡◌, Option}
use Rattle.ir.specs.declared.VectorSize.{VectorSize}
use Rattle.ir.specs.declared.ScalarKind.{ScalarKind}
use Rattle.ir.specs.declared.ScalarKind.TheVariants as Sk
use Rattle.ir.specs.declared.Scalar.{Scalar}
use Rattle.ir.specs.declared.BinaryOperator.{BinaryOperator}
use Rattle.ir.specs.declared.BinaryOperator.TheVariants as Bo
use Rattle.ir.specs.declared.TypeInner.{TypeInner}
use Rattle.ir.specs.declared.TypeInner.TheVariants as Ti
use Rattle.ir.specs.Scalars.{U32, BOOL}
use Rattle.ir.specs.TypeMethods.{value_base}

-- WHAT THE LINES SPEAK OF

-- S, or vecN<S>: a scalar type, or a vector of that scalar
abbrev pub plain : Option VectorSize → Scalar → TypeInner
plain n s = value_base n s

-- an integer scalar type
pub data Integer : ScalarKind → Type 0 where
  sint : Integer Sk.Sint
  uint : Integer Sk.Uint

-- a numeric scalar type
pub data Numeric : ScalarKind → Type 0 where
  sint : Numeric Sk.Sint
  uint : Numeric Sk.Uint
  float : Numeric Sk.Float

-- a scalar type whose values are equal or not: numeric, or bool
pub data Equatable : Scalar → Type 0 where
  numeric : (s : Scalar) → Numeric s.kind → Equatable s
  bool : Equatable BOOL

pub data Wgsl : BinaryOperator → TypeInner → TypeInner → TypeInner → Type 0 where
  -- "LOGICAL EXPRESSIONS"

  -- e1 || e2 : bool, short-circuiting
  logical-or : Wgsl Bo.LogicalOr (Ti.Scalar BOOL) (Ti.Scalar BOOL) (Ti.Scalar BOOL)
  -- e1 && e2 : bool, short-circuiting
  logical-and : Wgsl Bo.LogicalAnd (Ti.Scalar BOOL) (Ti.Scalar BOOL) (Ti.Scalar BOOL)
  -- e1 | e2 : T, of T is bool or vecN<bool>
  or-bools : (n : Option VectorSize) → Wgsl Bo.InclusiveOr (plain n BOOL) (plain n BOOL) (plain n BOOL)
  -- e1 & e2 : T
  and-bools : (n : Option VectorSize) → Wgsl Bo.And (plain n BOOL) (plain n BOOL) (plain n BOOL)
  -- "ARITHMETIC EXPRESSIONS"

  -- binary arithmetic expressions: T is S or vecN<S>, S is numeric; componentwise of vectors
  -- e1 + e2 : T, addition
  add : (n : Option VectorSize) (s : Scalar) → Numeric s.kind → Wgsl Bo.Add (plain n s) (plain n s) (plain n s)
  -- e1 - e2 : T, subtraction
  subtract : (n : Option VectorSize) (s : Scalar) → Numeric s.kind
      → Wgsl Bo.Subtract (plain n s) (plain n s) (plain n s)
  -- e1 * e2 : T, multiplication
  multiply : (n : Option VectorSize) (s : Scalar) → Numeric s.kind
      → Wgsl Bo.Multiply (plain n s) (plain n s) (plain n s)
  -- e1 / e2 : T, division
  divide : (n : Option VectorSize) (s : Scalar) → Numeric s.kind
      → Wgsl Bo.Divide (plain n s) (plain n s) (plain n s)
  -- e1 % e2 : T, remainder
  modulo : (n : Option VectorSize) (s : Scalar) → Numeric s.kind
      → Wgsl Bo.Modulo (plain n s) (plain n s) (plain n s)
  -- binary arithmetic expressions with mixed scalar and vector operands: es : S, ev : vecN<S>, S is numeric
  -- ev + es : vecN<S>
  add-vector-scalar : (n : VectorSize) (s : Scalar) → Numeric s.kind
      → Wgsl Bo.Add (Ti.Vector n s) (Ti.Scalar s) (Ti.Vector n s)
  -- es + ev : vecN<S>
  add-scalar-vector : (n : VectorSize) (s : Scalar) → Numeric s.kind
      → Wgsl Bo.Add (Ti.Scalar s) (Ti.Vector n s) (Ti.Vector n s)
  -- ev - es : vecN<S>
  subtract-vector-scalar : (n : VectorSize) (s : Scalar) → Numeric s.kind
      → Wgsl Bo.Subtract (Ti.Vector n s) (Ti.Scalar s) (Ti.Vector n s)
  -- es - ev : vecN<S>
  subtract-scalar-vector : (n : VectorSize) (s : Scalar) → Numeric s.kind
      → Wgsl Bo.Subtract (Ti.Scalar s) (Ti.Vector n s) (Ti.Vector n s)
  -- ev * es : vecN<S>
  multiply-vector-scalar : (n : VectorSize) (s : Scalar) → Numeric s.kind
      → Wgsl Bo.Multiply (Ti.Vector n s) (Ti.Scalar s) (Ti.Vector n s)
  -- es * ev : vecN<S>
  multiply-scalar-vector : (n : VectorSize) (s : Scalar) → Numeric s.kind
      → Wgsl Bo.Multiply (Ti.Scalar s) (Ti.Vector n s) (Ti.Vector n s)
  -- ev / es : vecN<S>
  divide-vector-scalar : (n : VectorSize) (s : Scalar) → Numeric s.kind
      → Wgsl Bo.Divide (Ti.Vector n s) (Ti.Scalar s) (Ti.Vector n s)
  -- es / ev : vecN<S>
  divide-scalar-vector : (n : VectorSize) (s : Scalar) → Numeric s.kind
      → Wgsl Bo.Divide (Ti.Scalar s) (Ti.Vector n s) (Ti.Vector n s)
  -- ev % es : vecN<S>
  modulo-vector-scalar : (n : VectorSize) (s : Scalar) → Numeric s.kind
      → Wgsl Bo.Modulo (Ti.Vector n s) (Ti.Scalar s) (Ti.Vector n s)
  -- es % ev : vecN<S>
  modulo-scalar-vector : (n : VectorSize) (s : Scalar) → Numeric s.kind
      → Wgsl Bo.Modulo (Ti.Scalar s) (Ti.Vector n s) (Ti.Vector n s)
  -- matrix arithmetic: T is a floating point type
  -- e1 + e2 : matCxR<T>, of two matCxR<T>
  add-matrices : (c r : VectorSize) (t : Scalar) → t.kind ≡ Sk.Float
      → Wgsl Bo.Add (Ti.Matrix c r t) (Ti.Matrix c r t) (Ti.Matrix c r t)
  -- e1 - e2 : matCxR<T>, of two matCxR<T>
  subtract-matrices : (c r : VectorSize) (t : Scalar) → t.kind ≡ Sk.Float
      → Wgsl Bo.Subtract (Ti.Matrix c r t) (Ti.Matrix c r t) (Ti.Matrix c r t)
  -- m * s : matCxR<T>, of m : matCxR<T> and s : T
  matrix-scalar : (c r : VectorSize) (t : Scalar) → t.kind ≡ Sk.Float
      → Wgsl Bo.Multiply (Ti.Matrix c r t) (Ti.Scalar t) (Ti.Matrix c r t)
  -- s * m : matCxR<T>
  scalar-matrix : (c r : VectorSize) (t : Scalar) → t.kind ≡ Sk.Float
      → Wgsl Bo.Multiply (Ti.Scalar t) (Ti.Matrix c r t) (Ti.Matrix c r t)
  -- m * v : vecR<T>, of m : matCxR<T> and v : vecC<T>
  matrix-vector : (c r : VectorSize) (t : Scalar) → t.kind ≡ Sk.Float
      → Wgsl Bo.Multiply (Ti.Matrix c r t) (Ti.Vector c t) (Ti.Vector r t)
  -- v * m : vecC<T>, of v : vecR<T> and m : matCxR<T>
  vector-matrix : (c r : VectorSize) (t : Scalar) → t.kind ≡ Sk.Float
      → Wgsl Bo.Multiply (Ti.Vector r t) (Ti.Matrix c r t) (Ti.Vector c t)
  -- e1 * e2 : matCxR<T>, of e1 : matKxR<T> and e2 : matCxK<T>
  matrix-matrix : (c k r : VectorSize) (t : Scalar) → t.kind ≡ Sk.Float
      → Wgsl Bo.Multiply (Ti.Matrix k r t) (Ti.Matrix c k t) (Ti.Matrix c r t)
  -- "COMPARISON EXPRESSIONS": T is S or vecN<S>, the result bool or vecN<bool>

  -- e1 == e2, of S is numeric or bool
  equal : (n : Option VectorSize) (s : Scalar) → Equatable s → Wgsl Bo.Equal (plain n s) (plain n s) (plain n BOOL)
  -- e1 != e2
  not_equal : (n : Option VectorSize) (s : Scalar) → Equatable s
      → Wgsl Bo.NotEqual (plain n s) (plain n s) (plain n BOOL)
  -- e1 < e2, of S is numeric
  less : (n : Option VectorSize) (s : Scalar) → Numeric s.kind → Wgsl Bo.Less (plain n s) (plain n s) (plain n BOOL)
  -- e1 <= e2
  less_equal : (n : Option VectorSize) (s : Scalar) → Numeric s.kind
      → Wgsl Bo.LessEqual (plain n s) (plain n s) (plain n BOOL)
  -- e1 > e2
  greater : (n : Option VectorSize) (s : Scalar) → Numeric s.kind
      → Wgsl Bo.Greater (plain n s) (plain n s) (plain n BOOL)
  -- e1 >= e2
  greater-equal : (n : Option VectorSize) (s : Scalar) → Numeric s.kind
      → Wgsl Bo.GreaterEqual (plain n s) (plain n s) (plain n BOOL)
  -- "BIT EXPRESSIONS"

  -- binary bitwise operations: T is S or vecN<S>, S is an integer type
  -- e1 | e2 : T
  or-bits : (n : Option VectorSize) (s : Scalar) → Integer s.kind
      → Wgsl Bo.InclusiveOr (plain n s) (plain n s) (plain n s)
  -- e1 & e2 : T
  and-bits : (n : Option VectorSize) (s : Scalar) → Integer s.kind → Wgsl Bo.And (plain n s) (plain n s) (plain n s)
  -- e1 ^ e2 : T
  xor-bits : (n : Option VectorSize) (s : Scalar) → Integer s.kind
      → Wgsl Bo.ExclusiveOr (plain n s) (plain n s) (plain n s)
  -- bit shift expressions: e1 : T is S or vecN<S>, S is an integer type; e2 is u32 or vecN<u32>, of as many
  -- components e1 << e2 : T
  shift-left : (n : Option VectorSize) (s : Scalar) → Integer s.kind
      → Wgsl Bo.ShiftLeft (plain n s) (plain n U32) (plain n s)
  -- e1 >> e2 : T
  shift-right : (n : Option VectorSize) (s : Scalar) → Integer s.kind
      → Wgsl Bo.ShiftRight (plain n s) (plain n U32) (plain n s)
