-- A size is the source's own (`TypeInner::try_size`, proc/type_methods.rs, lines 230 to 284) wherever a type has one,
-- but for the source's upper limit. By the forms of the list.
use Rattle.std.specs.Prelude.{Option as CodeOption, Some, None}
use Rattle.ir.specs.declared.TypeInner.{TypeInner}
use Prim.Native.Nat.{ℕ, ◌*◌}
use mathlib.Core.Path.{◌≡◌, refl, ap, ◌∙◌}
use mathlib.Core.List.{List}
use mathlib.Core.Option.{Option, none, some}
use Rattle.ir.specs.declared.TypeNumber.{TypeNumber}
use Rattle.ir.specs.declared.VectorSize.{VectorSize}
use Rattle.ir.specs.declared.VectorSize.TheVariants.{Bi, Tri, Quad}
use Rattle.ir.specs.declared.Scalar.{Scalar}
use Rattle.ir.specs.declared.ArraySize.{ArraySize}
use Rattle.ir.specs.declared.ArraySize.TheVariants as As
use Rattle.ir.specs.declared.TypeInner.TheVariants as Ti
use Rattle.ir.specs.Numbers.{width_number, vector_size_number}
use Rattle.archive.specs.Access.{type_at}
use Rattle.rule_sizes.specs.declared.Alignment.{Alignment}
use Rattle.rule_sizes.specs.Wgsl.{bytes, align_count, matrix_bytes}
use Rattle.rule_sizes.specs.Meaning.{Integer, Float, Number, Has}

-- the source's size of an array by its form
abbrev array_size : ArraySize → ℕ → Option ℕ
array_size (As.Constant count) stride = some (count * stride)
array_size (As.Pending o) stride = some 0
array_size As.Dynamic stride = some stride

-- the source's size of the forms that the list has; matrices are treated as arrays of aligned columns
abbrev pub source_size : CodeOption TypeInner → Option ℕ
source_size (Some (Ti.Scalar k)) = some (width_number k.width)
source_size (Some (Ti.Vector z k)) = some (vector_size_number z * width_number k.width)
source_size (Some (Ti.Matrix c r k)) = some (align_count r * width_number k.width * vector_size_number c)
source_size (Some (Ti.CooperativeMatrix c r k o)) = none
source_size (Some (Ti.Atomic k)) = some (width_number k.width)
source_size (Some (Ti.Pointer b p)) = none
source_size (Some (Ti.ValuePointer z k p)) = none
source_size (Some (Ti.Array b z t)) = array_size z t
source_size (Some (Ti.Struct m j t)) = some t
source_size (Some (Ti.Image d a c)) = none
source_size (Some (Ti.Sampler q)) = none
source_size (Some (Ti.AccelerationStructure q)) = none
source_size (Some (Ti.RayQuery q)) = none
source_size (Some (Ti.BindingArray b z)) = none
source_size None = none

integer-width : (k : Scalar) (a : Alignment) → Integer k a → width_number k.width ≡ bytes a
integer-width k a Integer.i32 = refl
integer-width k a Integer.u32 = refl

number-width : (k : Scalar) (a : Alignment) → Number k a → width_number k.width ≡ bytes a
number-width k a (Number.integer j b h) = integer-width k a h
number-width k a (Number.float j b Float.f32) = refl
number-width k a (Number.float j b Float.f16) = refl

matrix-width : (c r : VectorSize) (k : Scalar) (a : Alignment) → Float k a
    → align_count r * width_number k.width * vector_size_number c ≡ matrix_bytes c r a
matrix-width Bi Bi k a Float.f32 = refl
matrix-width Bi Bi k a Float.f16 = refl
matrix-width Bi Tri k a Float.f32 = refl
matrix-width Bi Tri k a Float.f16 = refl
matrix-width Bi Quad k a Float.f32 = refl
matrix-width Bi Quad k a Float.f16 = refl
matrix-width Tri Bi k a Float.f32 = refl
matrix-width Tri Bi k a Float.f16 = refl
matrix-width Tri Tri k a Float.f32 = refl
matrix-width Tri Tri k a Float.f16 = refl
matrix-width Tri Quad k a Float.f32 = refl
matrix-width Tri Quad k a Float.f16 = refl
matrix-width Quad Bi k a Float.f32 = refl
matrix-width Quad Bi k a Float.f16 = refl
matrix-width Quad Tri k a Float.f32 = refl
matrix-width Quad Tri k a Float.f16 = refl
matrix-width Quad Quad k a Float.f32 = refl
matrix-width Quad Quad k a Float.f16 = refl

pub source-size : (fr : List ℕ) (n : TypeNumber) (a : Alignment) (z : ℕ) → Has fr n a z
    → source_size (type_at fr n) ≡ some z
source-size fr n a z (Has.scalar m k b e h) = ap source_size e ∙ ap some (number-width k b h)
source-size fr n a z (Has.vector m s k b e h) = ap source_size e
    ∙ ap (λ (w : ℕ). some (vector_size_number s * w)) (number-width k b h)
source-size fr n a z (Has.matrix m c r k b e h) = ap source_size e ∙ ap some (matrix-width c r k b h)
source-size fr n a z (Has.atomic m k b e h) = ap source_size e ∙ ap some (integer-width k b h)
source-size fr n a z (Has.array m b count stride c y e h s l) = ap source_size e
source-size fr n a z (Has.struct m first count span aligns sizes c e h g p) = ap source_size e
