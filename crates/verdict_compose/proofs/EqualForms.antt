-- What the frame of a scalar or a vector shows, and a scalar whose two bytes a frame has is the one that it reads as;
-- and equal types are equal field by field. By computing both sides.
use Rattle.std.specs.Prelude.{Some, None}
use Prim.Native.Nat.{ℕ}
use mathlib.Core.Path.{◌≡◌, refl, sym, ap, ◌∙◌}
use mathlib.Core.Bool.{Bool, true, false, cond, ◌&&◌, ◌||◌}
use mathlib.Core.List.{[], ◌∷◌}
use lib.Dec.{eqb}
use borrow.Author.Rules.{rules}
use borrow.Author.Tests.{eqb-true, eq-eqb}
use Rattle.scan.proofs.Laws.{and_first, and_second}
use Rattle.ir.specs.declared.ScalarKind.{ScalarKind}
use Rattle.ir.specs.declared.Scalar.{Scalar}
use Rattle.ir.specs.declared.Width.{Width}
use Rattle.ir.specs.declared.TypeInner.TheVariants as Ti
use Rattle.ir.specs.declared.VectorSize.{VectorSize}
use Rattle.ir.specs.Numbers.{scalar_kind_of, scalar_kind_number, width_of, width_number, vector_size_of}
use Rattle.ir.specs.Numbers.{vector_size_number}
use Rattle.ir.specs.Scalars.{equal_scalars}
use Rattle.ir.proofs.Numbered.{scalar_kind-back, width_back}
use Rattle.ir.proofs.Others.{Others, kinds_but, of-each}
use Rattle.frames.specs.declared.Frame.{Frame}
use Rattle.frames.specs.Bytes.{byte}
use Rattle.frames.specs.Fields.{read, scalar}
use Rattle.frames.specs.Forms.{type_of}
use Rattle.rule_types.specs.Canonical.{equal_types}
use Rattle.row_operands.specs.Plain.{plain_of}
use Rattle.row_operands.proofs.ByFrame.{scalar-form, vector-form}

-- A COMPONENT OF A VECTOR

abbrev shows : ℕ → Bool
shows k = eqb k 1 || (eqb k 2 || (eqb k 3 || eqb k 4))

pub plain-scalar : (f : Frame) → byte f 1 ≡ 1 → plain_of f ≡ Some (Ti.Scalar (read scalar f))
unfolding plain_of
plain-scalar f e = ap (λ (k : ℕ). cond (shows k) (type_of f) None) e ∙ scalar-form f e

pub plain-vector : (f : Frame) → byte f 1 ≡ 2 → plain_of f
    ≡ Some (Ti.Vector (vector_size_of (byte f 2)) (read scalar f))
unfolding plain_of
plain-vector f e = ap (λ (k : ℕ). cond (shows k) (type_of f) None) e ∙ vector-form f e

-- a scalar whose bytes a frame has is the one that it reads as
pub bytes_same : (f : Frame) (k : Scalar)
    → (eqb (byte f 4) (scalar_kind_number k.kind) && eqb (byte f 5) (width_number k.width)) ≡ true
    → true ≡ equal_scalars (read scalar f) k
bytes_same f k h =
    let p : byte f 4 ≡ scalar_kind_number k.kind = eqb-true _ _ (and_first _ _ h) in
    let q : byte f 5 ≡ width_number k.width = eqb-true _ _
    (and_second (eqb (byte f 4) (scalar_kind_number k.kind)) _ h) in
    let kinds : scalar_kind_of (byte f 4) ≡ k.kind = ap scalar_kind_of p ∙ scalar_kind-back k.kind in
    let widths : width_of (byte f 5) ≡ k.width = ap width_of q ∙ width_back k.width in
    sym
    (ap (λ (x : ScalarKind). eqb (scalar_kind_number x) (scalar_kind_number k.kind)
    && eqb (width_number (width_of (byte f 5))) (width_number k.width)) kinds
    ∙ ap (λ (x : Width). eqb (scalar_kind_number k.kind) (scalar_kind_number k.kind)
    && eqb (width_number x) (width_number k.width)) widths
    ∙ rw (
      eq-eqb (scalar_kind_number k.kind) (scalar_kind_number k.kind) refl,
      eq-eqb (width_number k.width) (width_number k.width) refl,
    ))

-- EQUAL TYPES, field by field

-- the last of the tests in a row may be followed by one that always passes: of two, of three and of four
same-two : (x y : Bool) → (x && y) ≡ (x && (y && true))
same-two true true = refl
same-two true false = refl
same-two false y = refl

same-three : (z x y : Bool) → (z && (x && y)) ≡ (z && (x && (y && true)))
same-three true x y = same-two x y
same-three false x y = refl

same-four : (w z x y : Bool) → (w && (z && (x && y))) ≡ (w && (z && (x && (y && true))))
same-four true z x y = same-three z x y
same-four false z x y = refl

-- scalars, by kind and width
pub scalars-same : (j k : Scalar) → equal_scalars j k ≡ equal_types (Ti.Scalar j) (Ti.Scalar k)
unfolding equal_types
scalars-same j k = same-two (eqb (scalar_kind_number j.kind) (scalar_kind_number k.kind))
    (eqb (width_number j.width) (width_number k.width))

-- vectors, by size and scalar
pub vectors-same : (y z : VectorSize) (j k : Scalar)
    → (eqb (vector_size_number y) (vector_size_number z) && equal_scalars j k)
    ≡ equal_types (Ti.Vector y j) (Ti.Vector z k)
unfolding equal_types
vectors-same y z j k =
    same-three (eqb (vector_size_number y) (vector_size_number z))
    (eqb (scalar_kind_number j.kind) (scalar_kind_number k.kind))
    (eqb (width_number j.width) (width_number k.width))

-- matrices, by columns, rows and scalar
pub matrices-same : (x y c r : VectorSize) (j k : Scalar)
    → (eqb (vector_size_number x) (vector_size_number c)
    && (eqb (vector_size_number y) (vector_size_number r) && equal_scalars j k))
    ≡ equal_types (Ti.Matrix x y j) (Ti.Matrix c r k)
unfolding equal_types
matrices-same x y c r j k =
    same-four (eqb (vector_size_number x) (vector_size_number c)) (eqb (vector_size_number y) (vector_size_number r))
    (eqb (scalar_kind_number j.kind) (scalar_kind_number k.kind))
    (eqb (width_number j.width) (width_number k.width))

-- TYPES OF ANOTHER KIND

-- such a type equals no scalar
pub no-scalar : (k : Scalar) → Others (kinds_but (0 ∷ [])) (λ t. false ≡ equal_types t (Ti.Scalar k))
unfolding equal_types
no-scalar k = of-each (search rules)

-- such a type equals no vector
pub no-vector : (z : VectorSize) (k : Scalar) → Others (kinds_but (1 ∷ [])) (λ t. false ≡ equal_types t (Ti.Vector z k))
unfolding equal_types
no-vector z k = of-each (search rules)

-- such a type equals no matrix
pub no-matrix : (c r : VectorSize) (k : Scalar)
    → Others (kinds_but (2 ∷ [])) (λ t. false ≡ equal_types t (Ti.Matrix c r k))
unfolding equal_types
no-matrix c r k = of-each (search rules)
