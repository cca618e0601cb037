-- `wgsl-is`: the result that the second pass goes by is this type exactly where a line of WGSL's tables gives this
-- type. One way line by line; the other by the shapes of the two types, and what each test says.
use Rattle.std.specs.Prelude.{Option as CodeOption, Some, None}
use Prim.Native.Nat.{ℕ}
use native.Mathlib.Omega.{arith}
use mathlib.Core.Path.{◌≡◌, refl, sym, ap, ◌∙◌}
use mathlib.Core.Bool.{Bool, true, false, ◌&&◌, ◌||◌}
use mathlib.Core.List.{List, [], ◌∷◌}
use mathlib.Core.Option.{Option, none, some}
use mathlib.Core.Logic.{◌↔◌}
use lib.Dec.{eqb}
use borrow.Author.Tests.{eqb-true, eq-eqb}
use Rattle.ir.specs.declared.VectorSize.{VectorSize}
use Rattle.ir.specs.declared.VectorSize.TheVariants as Vs
use Rattle.ir.specs.declared.ScalarKind.{ScalarKind}
use Rattle.ir.specs.declared.ScalarKind.TheVariants as Sk
use Rattle.ir.specs.declared.Scalar.{Scalar}
use Rattle.ir.specs.declared.Width.TheVariants as Wd
use Rattle.ir.specs.declared.Width.{Width}
use Rattle.ir.specs.declared.BinaryOperator.{BinaryOperator}
use Rattle.ir.specs.declared.BinaryOperator.TheVariants as Bo
use Rattle.ir.specs.declared.TypeInner.{TypeInner}
use Rattle.ir.specs.declared.TypeInner.TheVariants as Ti
use Rattle.ir.specs.Numbers.{vector_size_number, vector_size_of, scalar_kind_number, scalar_kind_of, width_number}
use Rattle.ir.specs.Numbers.{width_of}
use Rattle.ir.specs.Scalars.{I32, U32, F16, F32, BOOL, equal_scalars, ABSTRACT-FLOAT}
use Rattle.ir.proofs.Numbered.{vector_size-back, scalar_kind-back, width_back}
use Rattle.rule_rows.specs.declared.Shape.{Shape}
use Rattle.rule_rows.specs.declared.Shape.TheVariants as Sh
use Rattle.rule_rows.specs.WgslTables.{plain, Integer, Numeric, Equatable, Wgsl}
use Rattle.rule_rows.specs.Wgsl.{shape_of, is_integer, is_float, is_numeric, equal_sizes, equal_counts, like_or_mixed}
use Rattle.rule_rows.specs.Wgsl.{mixed, when}
use Rattle.rule_rows.specs.Wgsl.{arithmetic_of, equality_of, ordering_of, and_or_of, xor_of, shift_of, logicals_of}
use Rattle.rule_rows.specs.Wgsl.{matrix_times_of, times_matrix_of, matrices_times_of, matrices_sum_of, plain_result}
use Rattle.rule_rows.specs.Wgsl.{matrices_result, if_multiply, shapes_result, wgsl_result}

-- IN NO LINE, by hand from the tables: both sides compute to the same
abbrev f32 : TypeInner
f32 = Ti.Scalar F32

abbrev vec2 : Scalar → TypeInner
vec2 s = Ti.Vector Vs.Bi s

abbrev mat3x2 : TypeInner
mat3x2 = Ti.Matrix Vs.Tri Vs.Bi F32

abbrev wide_bool : Scalar
wide_bool = record { kind = Sk.Bool; width = Wd.Four }

in-no-line :
    -- bools with ^; matrices divided; a sum of two sizes, of two kinds and of two widths
    wgsl_result Bo.ExclusiveOr (Ti.Scalar BOOL) (Ti.Scalar BOOL) ∷ wgsl_result Bo.Divide mat3x2 mat3x2
    ∷ wgsl_result Bo.Add
    (vec2 F32) (Ti.Vector Vs.Tri F32)
    ∷ wgsl_result Bo.Add f32 (Ti.Scalar I32) ∷ wgsl_result Bo.Add f32 (Ti.Scalar F16)
    -- products of matrices and vectors whose inner sizes do not agree
    ∷ wgsl_result Bo.Multiply mat3x2 mat3x2 ∷ wgsl_result Bo.Multiply mat3x2 (vec2 F32) ∷ wgsl_result Bo.Multiply
    (Ti.Vector Vs.Tri F32) mat3x2
    -- a shift by i32; a vector shifted by a scalar; bools in an order; a vector of bools with &&
    ∷ wgsl_result Bo.ShiftLeft (Ti.Scalar I32) (Ti.Scalar I32) ∷ wgsl_result Bo.ShiftLeft (vec2 I32) (Ti.Scalar U32)
    ∷ wgsl_result Bo.Less (Ti.Scalar BOOL) (Ti.Scalar BOOL) ∷ wgsl_result Bo.LogicalAnd (vec2 BOOL) (vec2 BOOL)
    -- Bool of width 4, which is no bool, with ==; a sum of abstract floats
    ∷ wgsl_result Bo.Equal (Ti.Scalar wide_bool) (Ti.Scalar wide_bool)
    ∷ wgsl_result Bo.Add (Ti.Scalar ABSTRACT-FLOAT) (Ti.Scalar ABSTRACT-FLOAT) ∷ []
    ≡ none ∷ none ∷ none ∷ none ∷ none ∷ none ∷ none ∷ none ∷ none ∷ none ∷ none ∷ none ∷ none ∷ none ∷ []
in-no-line = refl

-- A LINE IS WHAT THE TESTS GIVE: each test holds of what a line says

same-scalar : (s : Scalar) → equal_scalars s s ≡ true
same-scalar s = rw (
  eq-eqb (scalar_kind_number s.kind) (scalar_kind_number s.kind) refl,
  eq-eqb (width_number s.width) (width_number s.width) refl,
)

same_size : (n : VectorSize) → equal_sizes n n ≡ true
same_size n = eq-eqb (vector_size_number n) (vector_size_number n) refl

same_count : (n : CodeOption VectorSize) → equal_counts n n ≡ true
same_count None = refl
same_count (Some n) = same_size n

like : (n : CodeOption VectorSize) → like_or_mixed n n ≡ true
like None = refl
like (Some n) = same_size n

like-size : (n : CodeOption VectorSize) → mixed n n ≡ n
like-size None = refl
like-size (Some n) = refl

is-integer : (k : ScalarKind) → Integer k → is_integer k ≡ true
is-integer k Integer.sint = refl
is-integer k Integer.uint = refl

is-numeric : (k : ScalarKind) → Numeric k → is_numeric k ≡ true
is-numeric k Numeric.sint = refl
is-numeric k Numeric.uint = refl
is-numeric k Numeric.float = refl

is-float : (k : ScalarKind) → k ≡ Sk.Float → is_float k ≡ true
is-float k e = ap is_float e

or_right : (a b : Bool) → b ≡ true → (a || b) ≡ true
or_right true b e = refl
or_right false b e = e

or_left : (a b : Bool) → a ≡ true → (a || b) ≡ true
or_left true b e = refl
or_left false b e = absurd (let z : ◌≡◌ {A = ℕ} 0 1 = cc in omega arith)

is-equatable : (s : Scalar) → Equatable s → (is_numeric s.kind || equal_scalars s BOOL) ≡ true
is-equatable s (Equatable.numeric r n) = or_left (is_numeric s.kind) (equal_scalars s BOOL) (is-numeric s.kind n)
is-equatable s Equatable.bool = refl

shape-plain : (n : CodeOption VectorSize) (s : Scalar) → shape_of (plain n s) ≡ Sh.Plain n s
shape-plain None s = refl
shape-plain (Some n) s = refl

complete : (op : BinaryOperator) (x y t : TypeInner) → Wgsl op x y t → wgsl_result op x y ≡ some t
complete op x y t Wgsl.logical-or = refl
complete op x y t Wgsl.logical-and = refl
complete op x y t (Wgsl.or-bools n) = rw (shape-plain n BOOL, same_count n)
complete op x y t (Wgsl.and-bools n) = rw (shape-plain n BOOL, same_count n)
complete op x y t (Wgsl.add n s h) = rw (shape-plain n s, is-numeric s.kind h, same-scalar s, like n, like-size n)
complete op x y t (Wgsl.subtract n s h)
    = rw (shape-plain n s, is-numeric s.kind h, same-scalar s, like n, like-size n)
complete op x y t (Wgsl.multiply n s h)
    = rw (shape-plain n s, is-numeric s.kind h, same-scalar s, like n, like-size n)
complete op x y t (Wgsl.divide n s h) = rw (shape-plain n s, is-numeric s.kind h, same-scalar s, like n, like-size n)
complete op x y t (Wgsl.modulo n s h) = rw (shape-plain n s, is-numeric s.kind h, same-scalar s, like n, like-size n)
complete op x y t (Wgsl.add-vector-scalar n s h) = rw (is-numeric s.kind h, same-scalar s)
complete op x y t (Wgsl.add-scalar-vector n s h) = rw (is-numeric s.kind h, same-scalar s)
complete op x y t (Wgsl.subtract-vector-scalar n s h) = rw (is-numeric s.kind h, same-scalar s)
complete op x y t (Wgsl.subtract-scalar-vector n s h) = rw (is-numeric s.kind h, same-scalar s)
complete op x y t (Wgsl.multiply-vector-scalar n s h) = rw (is-numeric s.kind h, same-scalar s)
complete op x y t (Wgsl.multiply-scalar-vector n s h) = rw (is-numeric s.kind h, same-scalar s)
complete op x y t (Wgsl.divide-vector-scalar n s h) = rw (is-numeric s.kind h, same-scalar s)
complete op x y t (Wgsl.divide-scalar-vector n s h) = rw (is-numeric s.kind h, same-scalar s)
complete op x y t (Wgsl.modulo-vector-scalar n s h) = rw (is-numeric s.kind h, same-scalar s)
complete op x y t (Wgsl.modulo-scalar-vector n s h) = rw (is-numeric s.kind h, same-scalar s)
complete op x y t (Wgsl.add-matrices c r s h) = rw (is-float s.kind h, same-scalar s, same_size c, same_size r)
complete op x y t (Wgsl.subtract-matrices c r s h) = rw (is-float s.kind h, same-scalar s, same_size c, same_size r)
complete op x y t (Wgsl.matrix-scalar c r s h) = rw (is-float s.kind h, same-scalar s)
complete op x y t (Wgsl.scalar-matrix c r s h) = rw (is-float s.kind h, same-scalar s)
complete op x y t (Wgsl.matrix-vector c r s h) = rw (is-float s.kind h, same-scalar s, same_size c)
complete op x y t (Wgsl.vector-matrix c r s h) = rw (is-float s.kind h, same-scalar s, same_size r)
complete op x y t (Wgsl.matrix-matrix c k r s h) = rw (is-float s.kind h, same-scalar s, same_size k)
complete op x y t (Wgsl.equal n s h) = rw (shape-plain n s, is-equatable s h, same-scalar s, same_count n)
complete op x y t (Wgsl.not_equal n s h) = rw (shape-plain n s, is-equatable s h, same-scalar s, same_count n)
complete op x y t (Wgsl.less n s h) = rw (shape-plain n s, is-numeric s.kind h, same-scalar s, same_count n)
complete op x y t (Wgsl.less_equal n s h) = rw (shape-plain n s, is-numeric s.kind h, same-scalar s, same_count n)
complete op x y t (Wgsl.greater n s h) = rw (shape-plain n s, is-numeric s.kind h, same-scalar s, same_count n)
complete op x y t (Wgsl.greater-equal n s h) = rw (shape-plain n s, is-numeric s.kind h, same-scalar s, same_count n)
complete op x y t (Wgsl.or-bits n s h)
    = rw (
      shape-plain n s,
      or_left (is_integer s.kind) (equal_scalars s BOOL) (is-integer s.kind h),
      same-scalar s,
      same_count n,
    )
complete op x y t (Wgsl.and-bits n s h)
    = rw (
      shape-plain n s,
      or_left (is_integer s.kind) (equal_scalars s BOOL) (is-integer s.kind h),
      same-scalar s,
      same_count n,
    )
complete op x y t (Wgsl.xor-bits n s h) = rw (shape-plain n s, is-integer s.kind h, same-scalar s, same_count n)
complete op x y t (Wgsl.shift-left n s h)
    = rw (shape-plain n s, shape-plain n U32, is-integer s.kind h, same_count n)
complete op x y t (Wgsl.shift-right n s h)
    = rw (shape-plain n s, shape-plain n U32, is-integer s.kind h, same_count n)

-- WHAT THE TESTS GIVE IS A LINE: what each test says

-- a test that fails
never : {X : Type 0} → false ≡ true → X
never e = absurd (let z : ◌≡◌ {A = ℕ} 0 1 = cc in omega arith)

both : (a b : Bool) → (a && b) ≡ true → (a ≡ true) × (b ≡ true)
both true b e = (refl, e)
both false b e = never e

either : {X : Type 0} (a b : Bool) → (a || b) ≡ true → (a ≡ true → X) → (b ≡ true → X) → X
either true b e f g = f refl
either false b e f g = g e

-- none is no type
none-some : {X : Type 0} {t : TypeInner} → none ≡ some t → X
none-some e = absurd (let z : ◌≡◌ {A = ℕ} 0 1 = cc in omega arith)

when-is : (b : Bool) (u : TypeInner) {t : TypeInner} → when b u ≡ some t → (b ≡ true) × (u ≡ t)
when-is true u e = (refl, cc)
when-is false u e = none-some e

size_is : (a b : VectorSize) → equal_sizes a b ≡ true → a ≡ b
size_is a b e = sym (vector_size-back a) ∙ ap vector_size_of (eqb-true (vector_size_number a) (vector_size_number b) e)
    ∙ vector_size-back b

scalar_is : (s r : Scalar) → equal_scalars s r ≡ true → s ≡ r
scalar_is s r e =
    let a = scalar_kind_number s.kind in
    let b = scalar_kind_number r.kind in
    let v = width_number s.width in
    let w = width_number r.width in
    let h = both (eqb a b) (eqb v w) e in
    let k : s.kind ≡ r.kind = sym (scalar_kind-back s.kind) ∙ ap scalar_kind_of (eqb-true a b h.0)
    ∙ scalar_kind-back r.kind in
    let l : s.width ≡ r.width = sym (width_back s.width) ∙ ap width_of (eqb-true v w h.1)
    ∙ width_back r.width in
    ap (λ (x : ScalarKind). record { kind = x; width = s.width }) k
    ∙ ap (λ (x : Width). record { kind = r.kind; width = x }) l

count-is : (n m : CodeOption VectorSize) → equal_counts n m ≡ true → n ≡ m
count-is None None e = refl
count-is None (Some b) e = never e
count-is (Some a) None e = never e
count-is (Some a) (Some b) e = ap Some (size_is a b e)

integer-is : (k : ScalarKind) → is_integer k ≡ true → Integer k
integer-is Sk.Sint e = Integer.sint
integer-is Sk.Uint e = Integer.uint
integer-is Sk.Float e = never e
integer-is Sk.Bool e = never e
integer-is Sk.AbstractInt e = never e
integer-is Sk.AbstractFloat e = never e

numeric-is : (k : ScalarKind) → is_numeric k ≡ true → Numeric k
numeric-is Sk.Sint e = Numeric.sint
numeric-is Sk.Uint e = Numeric.uint
numeric-is Sk.Float e = Numeric.float
numeric-is Sk.Bool e = never e
numeric-is Sk.AbstractInt e = never e
numeric-is Sk.AbstractFloat e = never e

float_is : (k : ScalarKind) → is_float k ≡ true → k ≡ Sk.Float
float_is Sk.Sint e = never e
float_is Sk.Uint e = never e
float_is Sk.Float e = refl
float_is Sk.Bool e = never e
float_is Sk.AbstractInt e = never e
float_is Sk.AbstractFloat e = never e

equatable-is : (s : Scalar) → (is_numeric s.kind || equal_scalars s BOOL) ≡ true → Equatable s
equatable-is s e =
    either (is_numeric s.kind) (equal_scalars s BOOL) e (λ h. Equatable.numeric s (numeric-is s.kind h))
    (λ h. rw (scalar_is s BOOL h) Equatable.bool)

-- TWO SCALARS OR VECTORS. A relation L of left, right and result has what a test gives, if it has the lines.

module _ (L : TypeInner → TypeInner → TypeInner → Type 0) (n : CodeOption VectorSize) (s : Scalar)
    (m : CodeOption VectorSize)
    (r : Scalar) {t : TypeInner} where
  -- both alike, and b holds of the left's scalar
  alike : (b : Bool) (u : TypeInner) → (b ≡ true → L (plain n s) (plain n s) u)
      → when (b && (equal_scalars s r && equal_counts n m)) u ≡ some t
      → L (plain n s) (plain m r) t
  alike b u line e =
      let h = when-is (b && (equal_scalars s r && equal_counts n m)) u e in
      let p = both b (equal_scalars s r && equal_counts n m) h.0 in
      let q = both (equal_scalars s r) (equal_counts n m) p.1 in
      rw (sym (scalar_is s r q.0), sym (count-is n m q.1), sym h.1) (line p.0)

  -- arithmetic: alike, or a scalar and a vector
  arithmetic-is : ((k : CodeOption VectorSize) → Numeric s.kind → L (plain k s) (plain k s) (plain k s))
      → ((k : VectorSize) → Numeric s.kind → L (Ti.Vector k s) (Ti.Scalar s) (Ti.Vector k s))
      → ((k : VectorSize) → Numeric s.kind → L (Ti.Scalar s) (Ti.Vector k s) (Ti.Vector k s))
      → arithmetic_of n s m r ≡ some t → L (plain n s) (plain m r) t
  arithmetic-is line vector-scalar scalar-vector e =
      let h = when-is (is_numeric s.kind && (equal_scalars s r && like_or_mixed n m)) (plain (mixed n m) s) e in
      let p = both (is_numeric s.kind) (equal_scalars s r && like_or_mixed n m) h.0 in
      let q = both (equal_scalars s r) (like_or_mixed n m) p.1 in
      rw (sym (scalar_is s r q.0), sym h.1) (go n m q.1 (numeric-is s.kind p.0))
    where
      go : (n m : CodeOption VectorSize) → like_or_mixed n m ≡ true → Numeric s.kind
          → L (plain n s) (plain m s) (plain (mixed n m) s)
      go None None e k = line None k
      go None (Some b) e k = scalar-vector b k
      go (Some a) None e k = vector-scalar a k
      go (Some a) (Some b) e k = rw (sym (size_is a b e)) (line (Some a) k)

  shift_is : (Integer s.kind → L (plain n s) (plain n U32) (plain n s)) → shift_of n s m r ≡ some t
      → L (plain n s) (plain m r) t
  shift_is line e =
      let h = when-is (is_integer s.kind && (equal_scalars r U32 && equal_counts n m)) (plain n s) e in
      let p = both (is_integer s.kind) (equal_scalars r U32 && equal_counts n m) h.0 in
      let q = both (equal_scalars r U32) (equal_counts n m) p.1 in
      rw (scalar_is r U32 q.0, sym (count-is n m q.1), sym h.1) (line (integer-is s.kind p.0))

  logicals-is : L (Ti.Scalar BOOL) (Ti.Scalar BOOL) (Ti.Scalar BOOL) → logicals_of n s m r ≡ some t
      → L (plain n s) (plain m r) t
  logicals-is line e =
      let a = equal_scalars s BOOL in
      let b = equal_scalars r BOOL in
      let c = equal_counts n None in
      let d = equal_counts m None in
      let h = when-is ((a && b) && (c && d)) (plain None BOOL) e in
      let p = both (a && b) (c && d) h.0 in
      let q = both a b p.0 in
      let v = both c d p.1 in
      rw (
        scalar_is s BOOL q.0,
        scalar_is r BOOL q.1,
        count-is n None v.0,
        count-is m None v.1,
        sym h.1,
      ) line

-- MATRICES. T is a floating point type, the same on both sides.

module _ (L : TypeInner → TypeInner → TypeInner → Type 0) (c r : VectorSize) (s : Scalar) {u : TypeInner} where
  sum_is : (s.kind ≡ Sk.Float → L (Ti.Matrix c r s) (Ti.Matrix c r s) (Ti.Matrix c r s))
      → (d q : VectorSize) (t : Scalar)
      → matrices_sum_of c r s d q t ≡ some u → L (Ti.Matrix c r s) (Ti.Matrix d q t) u
  sum_is line d q t e =
      let h = when-is (is_float s.kind && (equal_scalars s t && (equal_sizes c d && equal_sizes r q)))
      (Ti.Matrix c r s) e in
      let p = both (is_float s.kind) (equal_scalars s t && (equal_sizes c d && equal_sizes r q)) h.0 in
      let v = both (equal_scalars s t) (equal_sizes c d && equal_sizes r q) p.1 in
      let w = both (equal_sizes c d) (equal_sizes r q) v.1 in
      rw (sym (scalar_is s t v.0), sym (size_is c d w.0), sym (size_is r q w.1), sym h.1)
      (line (float_is s.kind p.0))

  times-matrix-is : ((d : VectorSize) → s.kind ≡ Sk.Float → L (Ti.Matrix c r s) (Ti.Matrix d c s) (Ti.Matrix d r s))
      → (d q : VectorSize) (t : Scalar)
      → matrices_times_of c r s d q t ≡ some u → L (Ti.Matrix c r s) (Ti.Matrix d q t) u
  times-matrix-is line d q t e =
      let h = when-is (is_float s.kind && (equal_scalars s t && equal_sizes c q)) (Ti.Matrix d r s) e in
      let p = both (is_float s.kind) (equal_scalars s t && equal_sizes c q) h.0 in
      let v = both (equal_scalars s t) (equal_sizes c q) p.1 in
      rw (sym (scalar_is s t v.0), sym (size_is c q v.1), sym h.1) (line d (float_is s.kind p.0))

  -- a matrix times a scalar or a vector
  times-plain-is : (s.kind ≡ Sk.Float → L (Ti.Matrix c r s) (Ti.Scalar s) (Ti.Matrix c r s))
      → (s.kind ≡ Sk.Float → L (Ti.Matrix c r s) (Ti.Vector c s) (Ti.Vector r s))
      → (n : CodeOption VectorSize) (t : Scalar)
      → matrix_times_of c r s n t ≡ some u → L (Ti.Matrix c r s) (plain n t) u
  times-plain-is scalar vector None t e =
      let h = when-is (is_float s.kind && equal_scalars s t) (Ti.Matrix c r s) e in
      let p = both (is_float s.kind) (equal_scalars s t) h.0 in
      rw (sym (scalar_is s t p.1), sym h.1) (scalar (float_is s.kind p.0))
  times-plain-is scalar vector (Some n) t e =
      let h = when-is (is_float s.kind && (equal_scalars s t && equal_sizes n c)) (Ti.Vector r s) e in
      let p = both (is_float s.kind) (equal_scalars s t && equal_sizes n c) h.0 in
      let v = both (equal_scalars s t) (equal_sizes n c) p.1 in
      rw (sym (scalar_is s t v.0), size_is n c v.1, sym h.1) (vector (float_is s.kind p.0))

  -- a scalar or a vector times a matrix; s is the scalar's or vector's
  plain-times-is : (s.kind ≡ Sk.Float → L (Ti.Scalar s) (Ti.Matrix c r s) (Ti.Matrix c r s))
      → (s.kind ≡ Sk.Float → L (Ti.Vector r s) (Ti.Matrix c r s) (Ti.Vector c s))
      → (n : CodeOption VectorSize) (t : Scalar)
      → times_matrix_of n s c r t ≡ some u → L (plain n s) (Ti.Matrix c r t) u
  plain-times-is scalar vector None t e =
      let h = when-is (is_float s.kind && equal_scalars s t) (Ti.Matrix c r s) e in
      let p = both (is_float s.kind) (equal_scalars s t) h.0 in
      rw (sym (scalar_is s t p.1), sym h.1) (scalar (float_is s.kind p.0))
  plain-times-is scalar vector (Some n) t e =
      let h = when-is (is_float s.kind && (equal_scalars s t && equal_sizes n r)) (Ti.Vector c s) e in
      let p = both (is_float s.kind) (equal_scalars s t && equal_sizes n r) h.0 in
      let v = both (equal_scalars s t) (equal_sizes n r) p.1 in
      rw (sym (scalar_is s t v.0), size_is n r v.1, sym h.1) (vector (float_is s.kind p.0))

-- BY THE SHAPES of the two types

data Shaped : TypeInner → Shape → Type 0 where
  plain' : (n : CodeOption VectorSize) (s : Scalar) → Shaped (plain n s) (Sh.Plain n s)
  matrix' : (c r : VectorSize) (s : Scalar) → Shaped (Ti.Matrix c r s) (Sh.Matrix c r s)
  other' : (x : TypeInner) → Shaped x Sh.Other

shaped : (x : TypeInner) → Shaped x (shape_of x)
shaped (Ti.Scalar s) = plain' None s
shaped (Ti.Vector n s) = plain' (Some n) s
shaped (Ti.Matrix c r s) = matrix' c r s
shaped (Ti.CooperativeMatrix c r k o) = other' _
shaped (Ti.Atomic k) = other' _
shaped (Ti.Pointer b p) = other' _
shaped (Ti.ValuePointer z k p) = other' _
shaped (Ti.Array b z t) = other' _
shaped (Ti.Struct m n t) = other' _
shaped (Ti.Image d a c) = other' _
shaped (Ti.Sampler q) = other' _
shaped (Ti.AccelerationStructure q) = other' _
shaped (Ti.RayQuery q) = other' _
shaped (Ti.BindingArray b z) = other' _

-- a relation L has what an operator gives, if it has what it gives of each two shapes
module _ (op : BinaryOperator) {t : TypeInner}
    (two-plain : (n : CodeOption VectorSize) (s : Scalar) (m : CodeOption VectorSize) (r : Scalar)
    → plain_result op n s m r
    ≡ some t → Wgsl op (plain n s) (plain m r) t)
    (plain-matrix : (n : CodeOption VectorSize) (s : Scalar) (c r : VectorSize) (k : Scalar)
    → if_multiply op (times_matrix_of n s c r k) ≡ some t
    → Wgsl op (plain n s) (Ti.Matrix c r k) t)
    (matrix-plain : (c r : VectorSize) (k : Scalar) (n : CodeOption VectorSize) (s : Scalar)
    → if_multiply op (matrix_times_of c r k n s) ≡ some t
    → Wgsl op (Ti.Matrix c r k) (plain n s) t)
    (two-matrices : (c r : VectorSize) (k : Scalar) (d q : VectorSize) (j : Scalar) → matrices_result op c r k d q j
    ≡ some t
    → Wgsl op (Ti.Matrix c r k) (Ti.Matrix d q j) t) where
  of-shapes : {x y : TypeInner} {a b : Shape} → Shaped x a → Shaped y b → shapes_result op a b ≡ some t → Wgsl op x y t
  of-shapes (plain' n s) (plain' m r) e = two-plain n s m r e
  of-shapes (plain' n s) (matrix' c r k) e = plain-matrix n s c r k e
  of-shapes (plain' n s) (other' y) e = none-some e
  of-shapes (matrix' c r k) (plain' n s) e = matrix-plain c r k n s e
  of-shapes (matrix' c r k) (matrix' d q j) e = two-matrices c r k d q j e
  of-shapes (matrix' c r k) (other' y) e = none-some e
  of-shapes (other' x) q e = none-some e

  by-shapes : (x y : TypeInner) → wgsl_result op x y ≡ some t → Wgsl op x y t
  by-shapes x y = of-shapes (shaped x) (shaped y)

-- the lines of the groups of operators, of two scalars or vectors
module _ (op : BinaryOperator) {t : TypeInner} where
  arithmetics : ((n : CodeOption VectorSize) (s : Scalar) → Numeric s.kind
      → Wgsl op (plain n s) (plain n s) (plain n s))
      → ((n : VectorSize) (s : Scalar) → Numeric s.kind → Wgsl op (Ti.Vector n s) (Ti.Scalar s) (Ti.Vector n s))
      → ((n : VectorSize) (s : Scalar) → Numeric s.kind → Wgsl op (Ti.Scalar s) (Ti.Vector n s) (Ti.Vector n s))
      → (n : CodeOption VectorSize) (s : Scalar) (m : CodeOption VectorSize) (r : Scalar)
      → arithmetic_of n s m r ≡ some t
      → Wgsl op (plain n s) (plain m r) t
  arithmetics line vector-scalar scalar-vector n s m r =
      arithmetic-is (Wgsl op) n s m r (λ k. line k s) (λ k. vector-scalar k s) (λ k. scalar-vector k s)

  equalities : ((n : CodeOption VectorSize) (s : Scalar) → Equatable s → Wgsl op (plain n s) (plain n s) (plain n BOOL))
      → (n : CodeOption VectorSize) (s : Scalar) (m : CodeOption VectorSize) (r : Scalar) → equality_of n s m r ≡ some t
      → Wgsl op (plain n s) (plain m r) t
  equalities line n s m r =
      alike (Wgsl op) n s m r (is_numeric s.kind || equal_scalars s BOOL) (plain n BOOL)
      (λ h. line n s (equatable-is s h))

  orderings : ((n : CodeOption VectorSize) (s : Scalar) → Numeric s.kind
      → Wgsl op (plain n s) (plain n s) (plain n BOOL))
      → (n : CodeOption VectorSize) (s : Scalar) (m : CodeOption VectorSize) (r : Scalar) → ordering_of n s m r ≡ some t
      → Wgsl op (plain n s) (plain m r) t
  orderings line n s m r = alike (Wgsl op) n s m r (is_numeric s.kind) (plain n BOOL)
      (λ h. line n s (numeric-is s.kind h))

  and-ors : ((n : CodeOption VectorSize) (s : Scalar) → Integer s.kind → Wgsl op (plain n s) (plain n s) (plain n s))
      → ((n : CodeOption VectorSize) → Wgsl op (plain n BOOL) (plain n BOOL) (plain n BOOL))
      → (n : CodeOption VectorSize) (s : Scalar) (m : CodeOption VectorSize) (r : Scalar) → and_or_of n s m r ≡ some t
      → Wgsl op (plain n s) (plain m r) t
  and-ors bits bools n s m r =
      alike (Wgsl op) n s m r (is_integer s.kind || equal_scalars s BOOL) (plain n s)
      (λ h. either (is_integer s.kind) (equal_scalars s BOOL) h (λ i. bits n s (integer-is s.kind i))
      (λ b. rw (scalar_is s BOOL b) (bools n)))

sound : (op : BinaryOperator) (x y t : TypeInner) → wgsl_result op x y ≡ some t → Wgsl op x y t
sound Bo.Add x y t =
    by-shapes Bo.Add (arithmetics Bo.Add Wgsl.add Wgsl.add-vector-scalar Wgsl.add-scalar-vector)
    (λ n s c r k. none-some) (λ c r k n s. none-some)
    (λ c r k. sum_is (Wgsl Bo.Add) c r k (Wgsl.add-matrices c r k)) x y
sound Bo.Subtract x y t =
    by-shapes Bo.Subtract
    (arithmetics Bo.Subtract Wgsl.subtract Wgsl.subtract-vector-scalar Wgsl.subtract-scalar-vector)
    (λ n s c r k. none-some) (λ c r k n s. none-some)
    (λ c r k. sum_is (Wgsl Bo.Subtract) c r k (Wgsl.subtract-matrices c r k)) x y
sound Bo.Multiply x y t =
    by-shapes Bo.Multiply
    (arithmetics Bo.Multiply Wgsl.multiply Wgsl.multiply-vector-scalar Wgsl.multiply-scalar-vector)
    (λ n s c r k. plain-times-is (Wgsl Bo.Multiply) c r s (Wgsl.scalar-matrix c r s) (Wgsl.vector-matrix c r s) n k)
    (λ c r k n s. times-plain-is (Wgsl Bo.Multiply) c r k (Wgsl.matrix-scalar c r k) (Wgsl.matrix-vector c r k) n s)
    (λ c r k d q j. times-matrix-is (Wgsl Bo.Multiply) c r k (λ d. Wgsl.matrix-matrix d c r k) d q j) x y
sound Bo.Divide x y t =
    by-shapes Bo.Divide (arithmetics Bo.Divide Wgsl.divide Wgsl.divide-vector-scalar Wgsl.divide-scalar-vector)
    (λ n s c r k. none-some) (λ c r k n s. none-some) (λ c r k d q j. none-some) x y
sound Bo.Modulo x y t =
    by-shapes Bo.Modulo (arithmetics Bo.Modulo Wgsl.modulo Wgsl.modulo-vector-scalar Wgsl.modulo-scalar-vector)
    (λ n s c r k. none-some) (λ c r k n s. none-some) (λ c r k d q j. none-some) x y
sound Bo.Equal x y t =
    by-shapes Bo.Equal (equalities Bo.Equal Wgsl.equal)
    (λ n s c r k. none-some) (λ c r k n s. none-some) (λ c r k d q j. none-some) x y
sound Bo.NotEqual x y t =
    by-shapes Bo.NotEqual (equalities Bo.NotEqual Wgsl.not_equal)
    (λ n s c r k. none-some) (λ c r k n s. none-some) (λ c r k d q j. none-some) x y
sound Bo.Less x y t =
    by-shapes Bo.Less (orderings Bo.Less Wgsl.less)
    (λ n s c r k. none-some) (λ c r k n s. none-some) (λ c r k d q j. none-some) x y
sound Bo.LessEqual x y t =
    by-shapes Bo.LessEqual (orderings Bo.LessEqual Wgsl.less_equal)
    (λ n s c r k. none-some) (λ c r k n s. none-some) (λ c r k d q j. none-some) x y
sound Bo.Greater x y t =
    by-shapes Bo.Greater (orderings Bo.Greater Wgsl.greater)
    (λ n s c r k. none-some) (λ c r k n s. none-some) (λ c r k d q j. none-some) x y
sound Bo.GreaterEqual x y t =
    by-shapes Bo.GreaterEqual (orderings Bo.GreaterEqual Wgsl.greater-equal)
    (λ n s c r k. none-some) (λ c r k n s. none-some) (λ c r k d q j. none-some) x y
sound Bo.And x y t =
    by-shapes Bo.And (and-ors Bo.And Wgsl.and-bits Wgsl.and-bools)
    (λ n s c r k. none-some) (λ c r k n s. none-some) (λ c r k d q j. none-some) x y
sound Bo.ExclusiveOr x y t =
    by-shapes Bo.ExclusiveOr
    (λ n s m r. alike (Wgsl Bo.ExclusiveOr) n s m r (is_integer s.kind) (plain n s)
    (λ h. Wgsl.xor-bits n s (integer-is s.kind h)))
    (λ n s c r k. none-some) (λ c r k n s. none-some) (λ c r k d q j. none-some) x y
sound Bo.InclusiveOr x y t =
    by-shapes Bo.InclusiveOr (and-ors Bo.InclusiveOr Wgsl.or-bits Wgsl.or-bools)
    (λ n s c r k. none-some) (λ c r k n s. none-some) (λ c r k d q j. none-some) x y
sound Bo.LogicalAnd x y t =
    by-shapes Bo.LogicalAnd (λ n s m r. logicals-is (Wgsl Bo.LogicalAnd) n s m r Wgsl.logical-and)
    (λ n s c r k. none-some) (λ c r k n s. none-some) (λ c r k d q j. none-some) x y
sound Bo.LogicalOr x y t =
    by-shapes Bo.LogicalOr (λ n s m r. logicals-is (Wgsl Bo.LogicalOr) n s m r Wgsl.logical-or)
    (λ n s c r k. none-some) (λ c r k n s. none-some) (λ c r k d q j. none-some) x y
sound Bo.ShiftLeft x y t =
    by-shapes Bo.ShiftLeft (λ n s m r. shift_is (Wgsl Bo.ShiftLeft) n s m r (Wgsl.shift-left n s))
    (λ n s c r k. none-some) (λ c r k n s. none-some) (λ c r k d q j. none-some) x y
sound Bo.ShiftRight x y t =
    by-shapes Bo.ShiftRight (λ n s m r. shift_is (Wgsl Bo.ShiftRight) n s m r (Wgsl.shift-right n s))
    (λ n s c r k. none-some) (λ c r k n s. none-some) (λ c r k d q j. none-some) x y

pub wgsl-is : (op : BinaryOperator) (x y t : TypeInner) → (wgsl_result op x y ≡ some t) ↔ Wgsl op x y t
wgsl-is op x y t = (sound op x y t, complete op x y t)
